-- What the count of idle seats and the verdict are, and the rule by which seats step on the count.
pub mod Idled
pub mod IdleValue
pub mod VerdictValue

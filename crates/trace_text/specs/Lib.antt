-- The form of a line of a trace, and of one of a schedule.
pub mod Words
pub mod Grammar
pub mod Answer
pub mod ScheduleGrammar

-- Lemmas on the plain program.

-- Lemmas on names in order.
pub mod NameLemmas
-- Lemmas on what the commands and a collection compute.
pub mod PlainLemmas
pub mod CollectLemmas

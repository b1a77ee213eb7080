-- The first word of a collection's line.
use Rattle.std.specs.Prelude.{ℕ, List, codes}
use Rattle.heap_text.specs.declared.cause.Cause.{Cause}
use Rattle.heap_text.specs.declared.cause.Cause.TheVariants as causes

abbrev pub cause_word : Cause → List ℕ
cause_word causes.Command = codes "collected"
cause_word causes.FullNursery = codes "auto"

-- What a worker won, as numbers and words.
use Rattle.std.specs.Prelude.{ℕ}
use Rattle.steps.specs.Packed.{packed_word}
use Rattle.steps.specs.declared.heap_values.report.Won.{Won}

abbrev pub won_value : Won → ℕ × ℕ
won_value won = (won.number, packed_word won.place)

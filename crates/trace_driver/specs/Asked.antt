-- The options that the words of a command line ask for.
use Rattle.std.specs.Prelude.{◌≡◌, ◌<◌, ◌^◌, ℕ, List, [], Option, Some, None, codes}
use Rattle.std.specs.Str.Parse.{IsNumeral, without_leading_plus, digits_value}
use Rattle.clap.specs.Walk.{Row, Text, first_of, one_of}
use Rattle.clap.specs.Simple.{App, subcommand_of}
use Rattle.collector.specs.declared.apart.CellKind.{CellKind}
use Rattle.collector.specs.declared.apart.CellKind.TheVariants.{Box, Word}
use Rattle.steps.specs.declared.config.Sizes.{Sizes}
use Rattle.trace_driver.specs.declared.command_line.words.Task.{Task}
use Rattle.trace_driver.specs.declared.command_line.words.Task.TheVariants.{Run, Replay}
use Rattle.trace_driver.specs.declared.command_line.words.Options.{Options}
use Rattle.clap.specs.Faults.{fault_of}
use Rattle.clap.specs.Kinds.{IsAmong}
use Rattle.clap.specs.declared.error.ErrorKind.{ErrorKind}
use Rattle.clap.specs.declared.error.ErrorKind.TheVariants.{MissingSubcommand, OutOfMemory}
use Rattle.trace_driver.specs.declared.command_line.words.Refused.{Refused}
use Rattle.trace_driver.specs.Refusals.{IsToldOf}
use Rattle.trace_driver.specs.Gctrace.{IsGctrace}

-- the subcommand of this name is this task
abbrev pub IsTaskOf : Text → Task → Type 0
IsTaskOf name Run = name ≡ codes "run"
IsTaskOf name Replay = name ≡ codes "replay"

-- there is a value, whose digits, behind a plus or not, are this number of 64 bits
abbrev pub IsNumberOf : Option Text → ℕ → Type 0
IsNumberOf None n = ⊥
IsNumberOf (Some text) n = IsNumeral 10 (without_leading_plus text) × (n ≡ digits_value 10 (without_leading_plus text)) × (n < 2 ^ 64)

-- the cells are those that the value names, and words where there is none, as in a replay
abbrev pub AreCellsOf : Option Text → CellKind → Type 0
AreCellsOf None cells = cells ≡ Word
AreCellsOf (Some text) Box = text ≡ codes "box"
AreCellsOf (Some text) Word = text ≡ codes "word"

-- each size is the number of the option of its name
pub record AreSizesIn (rows : List Row) (sizes : Sizes) : Type 0 where
  pub block_words : IsNumberOf (one_of (codes "block-words") rows) sizes.block_words
  pub blocks : IsNumberOf (one_of (codes "blocks") rows) sizes.blocks
  pub mutators : IsNumberOf (one_of (codes "mutators") rows) sizes.mutators
  pub nursery : IsNumberOf (one_of (codes "nursery") rows) sizes.nursery_blocks
  pub generations : IsNumberOf (one_of (codes "generations") rows) sizes.generations
  pub steps : IsNumberOf (one_of (codes "steps") rows) sizes.steps

-- the options are those of the subcommand of this name, of which these are the values
pub record AreOptionsOf (name : Text) (rows : List Row) (options : Options) : Type 0 where
  pub task : IsTaskOf name options.task
  pub cells : AreCellsOf (first_of (codes "cells") rows) options.cells
  pub threads : IsNumberOf (one_of (codes "threads") rows) options.threads
  pub sizes : AreSizesIn rows options.sizes

-- there is a subcommand, and the options are its
abbrev pub AreOptionsIn : Option (Text × List Row) → Options → Type 0
AreOptionsIn None options = ⊥
AreOptionsIn (Some met) options = AreOptionsOf met.0 met.1 options

-- the command finds no fault in the words, and the options are those of the subcommand and the values that it finds
abbrev pub AreAskedBy : List Text → Options → Type 0
AreAskedBy words options = (app : App) × IsGctrace app × (fault_of app words ≡ []) × AreOptionsIn (subcommand_of app words) options

-- words are refused for want of memory; or for want of a task, where the command finds neither a fault in them nor options; or by a kind of fault
-- that it may find in them
pub data AreRefusedFor (words : List Text) (kind : ErrorKind) : Type 0 where
  no_memory : kind ≡ OutOfMemory → AreRefusedFor words kind
  no_task : (app : App) → IsGctrace app → fault_of app words ≡ [] → kind ≡ MissingSubcommand → ((options : Options) → AreOptionsIn (subcommand_of app words) options → ⊥) → AreRefusedFor words kind
  faulty : (app : App) → IsGctrace app → IsAmong kind (fault_of app words) → AreRefusedFor words kind

-- what is told is told of an error by which the words are refused
pub record AreToldOf (words : List Text) (refused : Refused) : Type 0 where
  pub kind : ErrorKind
  pub why : AreRefusedFor words kind
  pub told : IsToldOf kind refused

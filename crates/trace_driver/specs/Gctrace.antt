-- The command, in the words of `clap`: two subcommands, and the options of each.
use Rattle.std.specs.Prelude.{List, [], ◌∷◌, Some, true, codes, ◌≡◌}
use Rattle.std.specs.Borrow.{Bor}
use Rattle.std.specs.Fmt.{decimal}
use Rattle.clap.specs.Walk.{Rule, Text, texts}
use Rattle.clap.specs.Simple.{App, new_app, new_rule, new_shape, with_rule, with_subcommand}
use Rattle.clap.specs.declared.builder.value_parser.ValueParser.TheVariants as parser
use Rattle.steps.specs.declared.config.Sizes.{Sizes}
use Rattle.steps.specs.ConfigRange.{default_sizes}

-- an option with one value, and a default
abbrev pub option_rule : Text → Text → Rule
option_rule name default = record (new_rule name) { long = Some name; value_names = 1; defaults = default ∷ [] }

-- the value is a number of 64 bits
abbrev pub number_rule : Text → Text → Rule
number_rule name default = record (option_rule name default) { parser = Some (parser.Unsigned 0 18446744073709551615) }

-- the value is one of the kinds
abbrev pub cells_rule : Bor (List (Bor Text)) → Rule
cells_rule kinds = record (option_rule (codes "cells") (codes "word")) { parser = Some (parser.Names kinds) }

-- a task with the options that each of them takes
abbrev pub task_app : Text → Sizes → App
task_app name sizes =
    with_rule (with_rule (with_rule (with_rule (with_rule (with_rule (with_rule (new_app name)
    (number_rule (codes "threads") (codes "1")))
    (number_rule (codes "mutators") (decimal sizes.mutators)))
    (number_rule (codes "generations") (decimal sizes.generations)))
    (number_rule (codes "steps") (decimal sizes.steps)))
    (number_rule (codes "block-words") (decimal sizes.block_words)))
    (number_rule (codes "nursery") (decimal sizes.nursery_blocks)))
    (number_rule (codes "blocks") (decimal sizes.blocks))

-- the command before its subcommands are added: it has a version, and wants a subcommand
abbrev pub bare_app : App
bare_app = record { top = record (new_shape (codes "gctrace")) { has_version = true; subcommand_required = true }; subs = [] }

-- the whole command, whose `run` alone has cells
abbrev pub gctrace : Bor (List (Bor Text)) → App
gctrace kinds =
    with_subcommand
    (with_subcommand bare_app (with_rule (task_app (codes "run") default_sizes) (cells_rule kinds)).top)
    (task_app (codes "replay") default_sizes).top

-- the kinds of cells that there are
abbrev pub AreKinds : Bor (List (Bor Text)) → Type 0
AreKinds kinds = texts kinds.now ≡ codes "box" ∷ codes "word" ∷ []

-- the rule is that of the cells
abbrev pub IsCellsRule : Rule → Type 0
IsCellsRule rule = (kinds : Bor (List (Bor Text))) × AreKinds kinds × (rule ≡ cells_rule kinds)

-- the command is this one
abbrev pub IsGctrace : App → Type 0
IsGctrace app = (kinds : Bor (List (Bor Text))) × AreKinds kinds × (app ≡ gctrace kinds)

-- A command that is built step by step is the one that its value says.
use Rattle.std.proofs.Common.{◌≡◌, ◌∙◌, ap, ap₂, refl, false, true, List, Bor}
use Rattle.clap.specs.Walk.{Rule, Text, rule_of}
use Rattle.clap.specs.Simple.{is_simple}
use Rattle.clap.proofs.OnLiterals.{clap_on_literals}
use Rattle.trace_driver.specs.Gctrace.{gctrace}
use Rattle.clap.specs.Simple.{App, app_of, with_rule, with_subcommand}
use Rattle.clap.specs.Built.{AddsArg, AddsSubcommand}
use Rattle.clap.specs.declared.builder.arg.Arg.{Arg}
use Rattle.clap.specs.declared.builder.command.Command.{Command}
use Rattle.clap.specs.declared.builder.command.Command.TheViews.{out-Command as fields_of}

-- the command is this one, and has no global argument
abbrev pub Is : Command → App → Type 0
Is c app = (app_of c ≡ app) × ((fields_of c).has_globals ≡ false)

pub with_arg : (old new : Command) (a : Arg) (app : App) (rule : Rule) → Is old app → rule_of a ≡ rule → a.global ≡ false → AddsArg old a new → Is new (with_rule app rule)
with_arg old new a app rule was is local adds =
    let before = was.1 in
    (adds.shape local ∙ ap₂ with_rule was.0 is, adds.globals ∙ rw (before, local) refl)

pub with_command : (old sub new : Command) (app inner : App) → Is old app → Is sub inner → AddsSubcommand old sub new → Is new (with_subcommand app inner.top)
with_command old sub new app inner was is adds =
    let before = was.1 in
    let local = is.1 in
    (adds.shape local ∙ ap₂ with_subcommand was.0 (ap (λ (a : App). a.top) is.0), adds.globals ∙ rw (before, local) refl)

-- `clap` says what this command makes of any words
pub gctrace_is_simple : (kinds : Bor (List (Bor Text))) → is_simple (gctrace kinds) ≡ true
unfolding clap_on_literals
gctrace_is_simple kinds = refl

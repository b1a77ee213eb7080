use Rattle.std.proofs.Common.{◌∙◌, ap, true}
use Rattle.std.proofs.lemmas.Result.{IfOk-weaker}
use Rattle.clap.specs.Simple.{App, app_of_fields}
use Rattle.clap.specs.declared.builder.command.Command.{Command}
use Rattle.clap.specs.declared.builder.command.Command.TheOpen.{Command-F}
use Rattle.trace_driver.specs.Gctrace.{bare_app}
use Rattle.trace_driver.proofs.Building.{Is, with_arg, with_command}
use Rattle.trace_driver.proofs.command_line.words.gctrace_command.Goals as goal

abbrev wanting : Command-F Command → App
wanting f = app_of_fields (record f { subcommand_required = true })

pub returns : goal.returns
returns c =
    let bare : Is c.subcommand_required.result bare_app = (
      ap app_of_fields c.subcommand_required.ensures ∙ (ap wanting c.after_help.ensures ∙ (ap wanting c.about.ensures ∙ (ap wanting c.version.ensures
          ∙ ap (λ (a : App). record a { top = record a.top { has_version = true; subcommand_required = true } }) c.new.ensures.app))),
      ap (λ f. f.has_globals) c.subcommand_required.ensures ∙ (ap (λ f. f.has_globals) c.after_help.ensures ∙ (ap (λ f. f.has_globals) c.about.ensures
          ∙ (ap (λ f. f.has_globals) c.version.ensures ∙ c.new.ensures.local))),
    ) in
    let kinds = c.cells_option.ensures.rule in
    let run_is = with_arg _ _ _ _ _ c.in_ok-run.ensures kinds.2 c.cells_option.ensures.local c.in_ok-arg.ensures in
    let one = with_command _ _ _ _ _ bare run_is c.in_ok-subcommand.ensures in
    IfOk-weaker c.subcommand-2.result _ _ (λ r adds. let two = with_command _ _ r _ _ one c.in_ok-replay.ensures adds in ((kinds.0, kinds.1, two.0), two.1)) c.subcommand-2.ensures

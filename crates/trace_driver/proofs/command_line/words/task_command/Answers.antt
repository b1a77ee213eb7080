use Rattle.std.proofs.Common.{◌∙◌, ap, codes}
use Rattle.std.proofs.lemmas.Result.{IfOk-weaker}
use Rattle.clap.specs.Simple.{app_of_fields, new_app}
use Rattle.trace_driver.specs.Gctrace.{number_rule}
use Rattle.trace_driver.proofs.Building.{Is, with_arg}
use Rattle.trace_driver.proofs.command_line.words.task_command.Goals as goal

pub returns : goal.returns
returns c =
    let bare : Is c.after_help.result (new_app c.args.name.now) = (
      ap app_of_fields c.after_help.ensures ∙ (ap app_of_fields c.about.ensures ∙ c.new.ensures.app),
      ap (λ f. f.has_globals) c.after_help.ensures ∙ (ap (λ f. f.has_globals) c.about.ensures ∙ c.new.ensures.local),
    ) in
    let rule2 = c.number_option-2.ensures.rule ∙ ap (number_rule (codes "mutators")) (c.deref.ensures ∙ c.requires.mutators) in
    let rule3 = c.number_option-3.ensures.rule ∙ ap (number_rule (codes "generations")) (c.deref-2.ensures ∙ c.requires.generations) in
    let rule4 = c.number_option-4.ensures.rule ∙ ap (number_rule (codes "steps")) (c.deref-3.ensures ∙ c.requires.steps) in
    let rule5 = c.number_option-5.ensures.rule ∙ ap (number_rule (codes "block-words")) (c.deref-4.ensures ∙ c.requires.block_words) in
    let rule6 = c.number_option-6.ensures.rule ∙ ap (number_rule (codes "nursery")) (c.deref-5.ensures ∙ c.requires.nursery_blocks) in
    let rule7 = c.number_option-7.ensures.rule ∙ ap (number_rule (codes "blocks")) (c.deref-6.ensures ∙ c.requires.blocks) in
    let one = with_arg _ _ _ _ _ bare c.number_option.ensures.rule c.number_option.ensures.local c.in_ok-arg.ensures in
    let two = with_arg _ _ _ _ _ one rule2 c.number_option-2.ensures.local c.in_ok-arg-2.ensures in
    let three = with_arg _ _ _ _ _ two rule3 c.number_option-3.ensures.local c.in_ok-arg-3.ensures in
    let four = with_arg _ _ _ _ _ three rule4 c.number_option-4.ensures.local c.in_ok-arg-4.ensures in
    let five = with_arg _ _ _ _ _ four rule5 c.number_option-5.ensures.local c.in_ok-arg-5.ensures in
    let six = with_arg _ _ _ _ _ five rule6 c.number_option-6.ensures.local c.in_ok-arg-6.ensures in
    IfOk-weaker c.arg-7.result _ _ (λ r adds. with_arg _ r _ _ _ six rule7 c.number_option-7.ensures.local adds) c.arg-7.ensures

use Rattle.std.proofs.Common.{true, false, sym, ◌∙◌, ap}
use Rattle.std.proofs.lemmas.List.{append-nil}
use Rattle.model.proofs.SpreadLemmas.{fresh_more}
use Rattle.reference.proofs.reference_data.spread.fresh_of.Goals as goal
use Rattle.reference.proofs.reference_data.spread.fresh_of.Goals.{then-not-has_either+in_ok-push, else-not-has_either}

pub loop-i-preserved : goal.loop-i-preserved
loop-i-preserved g c =
    elim c.if-not-has_either.branch [
      | then-not-has_either+in_ok-push w ↦
          fresh_more c.args.seen.now c.args.names.now c.loop-i.fresh.items c.if-not-has_either.fresh.items c.loop-i.i 0 false c.loop-i-test.true (sym c.has_either.ensures ∙ w.if-not-has_either.true) (ap (λ v. v.items) w.fresh-is ∙ w.in_ok-push.ensures.items) c.loop-i.invariant
      | else-not-has_either w ↦
          fresh_more c.args.seen.now c.args.names.now c.loop-i.fresh.items c.if-not-has_either.fresh.items c.loop-i.i 0 true c.loop-i-test.true (sym c.has_either.ensures ∙ w.if-not-has_either.false) (ap (λ v. v.items) w.fresh-is ∙ sym (append-nil c.loop-i.fresh.items)) c.loop-i.invariant
    ]

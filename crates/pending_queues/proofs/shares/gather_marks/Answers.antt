use Rattle.std.proofs.Common.{◌∙◌, refl, ap, sym, get_or}
use Rattle.std.proofs.Math.ListN.{get_or-map}
use Rattle.pending_queues.specs.TallyValue.{both_seats}
use Rattle.pending_queues.proofs.Joining.{stands, next, name_there}
use Rattle.pending_queues.proofs.shares.gather_marks.Goals as goal

pub gather-requires : goal.gather-requires
gather-requires g c =
    let number = c.len-number.ensures ∙ c.pop.new.self.ok.0 in
    let at = stands (λ m. m.name) both_seats (λ p q. refl) _ c.args.marks.now.items c.args.others.items c.loop-other.marks.items _ c.pop.new.self.items _ c.in-Some.other c.requires.marks c.requires.others c.loop-other.invariant c.in-Some.ensures.items
    (c.index_mut.ensures.value ∙ ap (λ k. get_or c.loop-other.marks.items k c.index_mut.result.now) number) in
    let there = ap (λ t. t.name) (c.index.ensures ∙ ap (λ k. get_or c.args.tallies.now.items k c.index.result.now) number) ∙ sym (get_or-map (λ t. t.name) c.args.tallies.now.items _ c.index.result.now) in
    record {
      seats = (name_there (λ m. m.name) c.args.marks.now.items _ _ _ _ c.requires.marks at.old_there there, name_there (λ m. m.name) c.args.others.items _ _ _ _ c.requires.others at.other_there there);
    }

pub loop-other-preserved : goal.loop-other-preserved
loop-other-preserved g c =
    let number = c.len-number.ensures ∙ c.pop.new.self.ok.0 in
    let at = stands (λ m. m.name) both_seats (λ p q. refl) _ c.args.marks.now.items c.args.others.items c.loop-other.marks.items _ c.pop.new.self.items _ c.in-Some.other c.requires.marks c.requires.others c.loop-other.invariant c.in-Some.ensures.items
    (c.index_mut.ensures.value ∙ ap (λ k. get_or c.loop-other.marks.items k c.index_mut.result.now) number) in
    rw (number, c.gather.ensures) (next (λ m. m.name) both_seats (λ p q. refl) _ c.args.marks.now.items c.args.others.items c.loop-other.marks.items _ c.pop.new.self.items _ c.in-Some.other c.loop-other.invariant c.in-Some.ensures.items at)

use Rattle.std.proofs.Common.{◌<◌, ◌∙◌, refl, ap, get_or}
use Rattle.pending_queues.specs.PassValue.{both}
use Rattle.pending_queues.proofs.Joining.{stands, next, name_there, all_there}
use Rattle.pending_queues.proofs.shares.gather_passes.Goals as goal

pub gather-requires : goal.gather-requires
gather-requires g c =
    let number = c.len-number.ensures ∙ c.pop.new.self.ok.0 in
    let at = stands (λ p. p.lane) both (λ p q. refl) _ c.args.passes.now.items c.args.others.items c.loop-other.passes.items _ c.pop.new.self.items _ c.in-Some.other c.requires.passes c.requires.others c.loop-other.invariant c.in-Some.ensures.items
    (c.index_mut.ensures.value ∙ ap (λ k. get_or c.loop-other.passes.items k c.index_mut.result.now) number) in
    let there = c.index.ensures ∙ ap (λ k. get_or c.args.lanes.now.items k c.index.result.now) number in
    record {
      lane = (name_there (λ p. p.lane) c.args.passes.now.items _ _ _ _ c.requires.passes at.old_there there, name_there (λ p. p.lane) c.args.others.items _ _ _ _ c.requires.others at.other_there there);
      parts = (all_there (λ p. 0 < p.parts) _ _ _ c.requires.parts at.old_there, all_there (λ p. 0 < p.parts) _ _ _ c.requires.other_parts at.other_there);
    }

pub loop-other-preserved : goal.loop-other-preserved
loop-other-preserved g c =
    let number = c.len-number.ensures ∙ c.pop.new.self.ok.0 in
    let at = stands (λ p. p.lane) both (λ p q. refl) _ c.args.passes.now.items c.args.others.items c.loop-other.passes.items _ c.pop.new.self.items _ c.in-Some.other c.requires.passes c.requires.others c.loop-other.invariant c.in-Some.ensures.items
    (c.index_mut.ensures.value ∙ ap (λ k. get_or c.loop-other.passes.items k c.index_mut.result.now) number) in
    rw (number, c.gather.ensures) (next (λ p. p.lane) both (λ p q. refl) _ c.args.passes.now.items c.args.others.items c.loop-other.passes.items _ c.pop.new.self.items _ c.in-Some.other c.loop-other.invariant c.in-Some.ensures.items at)

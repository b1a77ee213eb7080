use Rattle.std.proofs.Common.{◌∙◌, List, ◌++◌, ◌∷◌, [], length, map, ap, sym, subst}
use Rattle.std.proofs.lemmas.List.{length-map, map-append}
use Rattle.block_pool.specs.BlockValue.{BlockValue}
use Rattle.pending_queues.specs.Labelled.{labelled}
use Rattle.pending_queues.specs.PlainKept.{KeyedLane}
use Rattle.pending_queues.specs.PlainValue.{with_export}
use Rattle.pending_queues.proofs.PlainSteps.{keeps_sent}
use Rattle.pending_queues.proofs.plain_queues.plain_queue.PlainQueue.push.Goals as goal

pub invariant_of-self-2 : goal.invariant_of-self-2
invariant_of-self-2 g c =
    let place = c.len.ensures ∙ c.reserve.new.self.ok.0 ∙ ap length (c.reserve.ensures.items ∙ c.self.invariant.sizes_sent) ∙ length-map (map (λ s. s.value) c.self.inside.sent.items) (λ (b : BlockValue). length b.objects) in
    let label = c.mark_exported.ensures ∙ ap (λ n. labelled c.args.exporter n c.args.block) place in
    let sent = ap (map (λ s. s.value)) (c.push_reserved-2.ensures.items ∙ ap (λ l. l ++ c.of.result ∷ []) c.reserve-else-is_err.ensures.items) ∙ map-append (λ s. s.value) c.self.inside.sent.items (c.of.result ∷ [])
    ∙ ap (λ (b : BlockValue). map (λ s. s.value) c.self.inside.sent.items ++ b ∷ []) c.of.ensures in
    let fact = subst (λ (b : BlockValue). g.C.Cargo.fits c.self.inside.key.value b) (sym label)
    (subst (λ (v : KeyedLane g.row.C-Key.Denot). g.C.Cargo.fits v.key (labelled c.args.exporter (length v.lane.sent) c.args.block)) (sym c.self.view_is) c.requires) in
    keeps_sent _ _ _ _ _ _ _ _ c.mark_exported.new.self c.self.invariant fact sent
    (c.push_back_reserved.ensures.items ∙ ap (λ l. l ++ c.mark_exported.new.self ∷ []) c.reserve-else-is_err-2.ensures.items)
    (c.push_reserved.ensures.items ∙ ap (λ l. l ++ c.len-2.result ∷ []) c.reserve.ensures.items ∙ ap (λ n. c.self.inside.sizes.items ++ n ∷ []) c.len-2.ensures.value)

pub returns : goal.returns
returns g c =
    let place = c.len.ensures ∙ c.reserve.new.self.ok.0 ∙ ap length (c.reserve.ensures.items ∙ c.self.invariant.sizes_sent) ∙ length-map (map (λ s. s.value) c.self.inside.sent.items) (λ (b : BlockValue). length b.objects) in
    let label = c.mark_exported.ensures ∙ ap (λ n. labelled c.args.exporter n c.args.block) place in
    let sent = ap (map (λ s. s.value)) (c.push_reserved-2.ensures.items ∙ ap (λ l. l ++ c.of.result ∷ []) c.reserve-else-is_err.ensures.items) ∙ map-append (λ s. s.value) c.self.inside.sent.items (c.of.result ∷ [])
    ∙ ap (λ (b : BlockValue). map (λ s. s.value) c.self.inside.sent.items ++ b ∷ []) c.of.ensures in
    ap (λ (l : List BlockValue). record { key = c.self.inside.key.value; lane = record { sent = l; takers = c.self.inside.takers.items } }) (sent ∙ ap (λ b. map (λ s. s.value) c.self.inside.sent.items ++ b ∷ []) label)
    ∙ ap (λ (v : KeyedLane g.row.C-Key.Denot). record v { lane = with_export v.lane c.args.exporter c.args.block }) c.self.view_is

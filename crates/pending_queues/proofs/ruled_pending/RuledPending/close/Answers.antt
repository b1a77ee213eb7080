use Rattle.std.proofs.Common.{arith, get_or, ◌≡◌, ◌<◌, ◌∙◌, [], All, List, length, replicate, ap, sym, subst}
use Rattle.std.proofs.lemmas.List.{length-replicate}
use Rattle.pending_queues.specs.declared.exports.deliveries.Delivery.{Delivery}
use Rattle.pending_queues.specs.Delivered.{IsLabelledBelow}
use Rattle.pending_queues.specs.Telling.{placed, named}
use Rattle.pending_queues.proofs.Told.{all_delivered}
use Rattle.pending_queues.proofs.ruled_pending.RuledPending.close.Goals as goal

pub tell_all-requires : goal.tell_all-requires
tell_all-requires g c =
    subst (λ l. All (λ s. s.index < length c.in_ok-deliveries.deliveries) l) (sym c.deref.ensures.value)
    (λ k d lt.
    let own = (c.requires.seats k d lt).own in
    let made = ap length c.in_ok-deliveries.ensures in
    let r = length-replicate {A = List Delivery} c.len.result [] in
    let n = c.len.ensures in
    let o = c.args.seats.ok.0 in
    let all = c.requires.all in
    omega arith)

pub returns : goal.returns
returns g c =
    let count : c.len.result ≡ length c.args.seats.items = c.len.ensures ∙ c.args.seats.ok.0 in
    let empty = c.in_ok-deliveries.ensures ∙ ap (λ n. replicate {A = List Delivery} n []) count in
    let first = c.in_ok-tell_all.ensures ∙ ap (placed c.in_ok-deliveries.deliveries) c.deref.ensures.value ∙ ap (λ l. placed l c.args.seats.items) empty in
    let last = c.name_all.ensures.told ∙ ap (named c.tell_all.new.deliveries) c.deref-2.ensures.value ∙ ap (λ l. named l c.args.seats.items) first in
    all_delivered c.args.seats.items c.name_all.new.deliveries last c.settle.ensures
    (λ k d lt. let own = (c.requires.seats k d lt).own in let all = c.requires.all in omega arith)
    (λ k d lt.
    subst (λ n. All (IsLabelledBelow n) (get_or c.args.seats.items k d).taken) (ap (λ s. length s.lanes) (c.requires.seats k d lt).of ∙ sym c.requires.all)
    (subst (λ l. All (λ s. All (IsLabelledBelow (length s.source.lanes)) s.taken) l) c.deref-2.ensures.value c.name_all.ensures.labels k d lt))

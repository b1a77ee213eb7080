use Rattle.std.proofs.Common.{arith, ◌≡◌, ◌+◌, ◌∷◌, [], ap, ◌∙◌, length, length-append}
use Rattle.std.proofs.lemmas.List.{map-append}
use Rattle.pending_queues.proofs.Dealing.{heaps-push, all-push}
use Rattle.pending_queues.proofs.opening.open_tallies.Goals as goal

pub loop-preserved : goal.loop-preserved
loop-preserved g c =
    let i = c.loop.invariant in
    let p = c.push_reserved.ensures in
    let q = c.push_reserved-in-loop.ensures in
    let made = c.in_ok-tally.ensures in
    record {
      many = ap length p.items ∙ (length-append c.loop.tallies.items _ ∙ ap (λ n. n + 1) i.many);
      tallies_room = (let k = p.capacity in let l = i.tallies_room in omega arith);
      heaps_room = (let k = q.capacity in let l = i.heaps_room in omega arith);
      seats = rw p.items (all-push (λ t. t.seats ≡ c.args.count) c.loop.tallies.items c.in_ok-tally.tally i.seats made.count.0);
      heaps = rw (p.items, q.items) (rw (map-append (λ t. t.name) c.loop.tallies.items (c.in_ok-tally.tally ∷ [])) (heaps-push _ _ _ _ _ _ i.heaps made.count.1 made.seats));
    }

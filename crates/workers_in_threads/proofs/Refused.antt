-- Where a worker on a thread of its own is refused a block, fewer were free than the space bound.
use Rattle.std.proofs.Common.{◌≡◌, ℕ, ◌+◌, ◌<◌, List, [], ◌∷◌, ◌++◌, length, Option, None, refl, sym, ap, subst, ◌∙◌, arith, nat_eq, length-append, map}
use Rattle.std.proofs.lemmas.List.{map-append}
use Rattle.model.specs.LiveCount.{LiveWords}
use Rattle.model.specs.SpaceBound.{space_bound}
use Rattle.model.specs.Destination.{dest_count}
use Rattle.layout.specs.declared.place.Place.{Place}
use Rattle.block_pool.specs.ClaimsValue.{all_drawn}
use Rattle.forwarding.specs.Settled.{all_pairs}
use Rattle.steps.specs.CollectionValue.{target_of_slot}
use Rattle.workers.specs.System.{opening_worker}
use Rattle.workers.specs.Total.{total, one_if, wins_of}
use Rattle.workers.specs.Joined.{Each, Part}
use Rattle.model.specs.Collected.{IsLiveOrOlder}
use Rattle.workers.specs.Kept.{CopiesLive}
use Rattle.workers.specs.Refused.{Refused, HasBegun}
use Rattle.workers.proofs.Starts.{opens, length-replicate-none}
use Rattle.workers.proofs.SpaceBound.{refused-below}
use Rattle.workers_in_threads.specs.SharingValue.{setting_for, forwarded_in, forwarded_at}
use Rattle.workers_in_threads.proofs.Readiness.{start_roomy, start_live}
use Rattle.workers_in_threads.specs.Threads.{ThreadValue, passes_of, draws_of}
use Rattle.workers_in_threads.specs.Refusing.{Refusing}
use Rattle.workers_in_threads.specs.Reports.{IsStuckApart}
use Rattle.workers_in_threads.proofs.Lists.{all_each, total-append}
use Rattle.workers_in_threads.proofs.Named.{InRange, won_once}
use Rattle.workers_in_threads.proofs.Parts.{Are, part_of, parts_of, parts_length, each_thread, total_parts, part_first, starts_at}
use Rattle.workers_in_threads.proofs.Joined.{handed_live}

module _ {P A : Type 0} {known : P → ℕ → Option Place} {won : P → List (ℕ × Place)} (all : Refusing P A known won) where
  abbrev parts : List Part
  parts = parts_of known won all.heap all.collection all.workers 0 all.threads all.each

  abbrev pairs : List (ℕ × Place)
  pairs = all_pairs won (passes_of all.threads)

  in_range : Each (InRange all.heap all.collection all.ready.opened.cells) pairs
  in_range = by 0 all.threads all.each
    where
      more : (xs ys : List (ℕ × Place)) → Each (InRange all.heap all.collection all.ready.opened.cells) xs → Each (InRange all.heap all.collection all.ready.opened.cells) ys → Each (InRange all.heap all.collection all.ready.opened.cells) (xs ++ ys)
      more [] ys h k = k
      more (x ∷ xs) ys h k = (h.0, more xs ys h.1 k)

      by : (t : ℕ) (rs : List (ThreadValue P A)) → Are known won all.heap all.collection all.workers t rs → Each (InRange all.heap all.collection all.ready.opened.cells) (all_pairs won (passes_of rs))
      by t [] h = tt
      by t (r ∷ rs) h = more (won r.pass) (all_pairs won (passes_of rs)) (all_each (InRange all.heap all.collection all.ready.opened.cells) (won r.pass) h.0.worked.numbers) (by (t + 1) rs h.1)

  won_total : (name : ℕ) → total (λ (p : Part). wins_of name p.final.won) parts ≡ wins_of name (forwarded_in all.heap all.collection pairs)
  won_total name =
      total_parts known won all.heap all.collection all.workers (λ (p : Part). wins_of name p.final.won) (λ (r : ThreadValue P A). wins_of name (forwarded_in all.heap all.collection (won r.pass))) (λ t r k. ap (wins_of name) (sym k.worked.won_are)) 0 all.threads all.each
      ∙ by all.threads
    where
      by : (rs : List (ThreadValue P A)) → total (λ (r : ThreadValue P A). wins_of name (forwarded_in all.heap all.collection (won r.pass))) rs ≡ wins_of name (forwarded_in all.heap all.collection (all_pairs won (passes_of rs)))
      by [] = refl
      by (r ∷ rs) =
          ap (λ k. wins_of name (forwarded_in all.heap all.collection (won r.pass)) + k) (by rs)
          ∙ sym (ap (wins_of name) (map-append (forwarded_at all.heap all.collection) (won r.pass) (all_pairs won (passes_of rs)))
          ∙ total-append (λ (p : ℕ × ℕ). one_if (nat_eq p.0 name)) (forwarded_in all.heap all.collection (won r.pass)) (forwarded_in all.heap all.collection (all_pairs won (passes_of rs))))

  drawn_total : total (λ (p : Part). length p.history.drawn) parts ≡ length all.heap.free
  drawn_total =
      total_parts known won all.heap all.collection all.workers (λ (p : Part). length p.history.drawn) (λ (r : ThreadValue P A). length r.draws.drawn) (λ t r k. ap length (sym k.worked.drawn)) 0 all.threads all.each
      ∙ by all.threads ∙ all.drawn
    where
      by : (rs : List (ThreadValue P A)) → total (λ (r : ThreadValue P A). length r.draws.drawn) rs ≡ length (all_drawn (draws_of rs))
      by [] = refl
      by (r ∷ rs) = ap (λ k. length r.draws.drawn + k) (by rs) ∙ sym (length-append r.draws.drawn (all_drawn (draws_of rs)))

  abbrev refused : Refused all.heap.graph all.collection.generation all.heap.config.shape all.heap.config.block_words all.workers (dest_count all.heap.config.shape all.collection.generation) (length all.heap.free) parts
  refused =
      let p = part_first known won all.heap all.collection all.workers all.threads all.each all.t all.thread all.there in
      record {
        runs = each_thread known won all.heap all.collection all.workers (HasBegun (setting_for all.heap all.collection all.workers))
            (λ t r k. record { opening = opens (dest_count all.heap.config.shape all.collection.generation) all.workers (map target_of_slot all.collection.slots) t; room = start_roomy all.heap all.collection all.ready all.workers t; run = k.worked.run }) 0 all.threads all.each;
        destinations_are = each_thread known won all.heap all.collection all.workers (λ (q : Part). length q.start.allocation ≡ dest_count all.heap.config.shape all.collection.generation) (λ t r k. length-replicate-none (dest_count all.heap.config.shape all.collection.generation)) 0 all.threads all.each;
        won_once = λ name. (let e = won_total name in let l = won_once all.heap all.collection all.ready.opened.cells name pairs in_range all.won_least in omega (arith, e, l));
        only_starts = each_thread known won all.heap all.collection all.workers (λ (q : Part). Each (IsLiveOrOlder all.heap.graph all.collection.generation) q.start.starts) (λ t r k. start_live all.heap all.collection all.ready all.workers t) 0 all.threads all.each;
        taken_live = each_thread known won all.heap all.collection all.workers (λ (q : Part). Each (CopiesLive all.heap.graph all.collection.generation) q.history.taken) (λ t r k. handed_live all.heap all.collection all.workers k.worked.history.taken k.worked.handed) 0 all.threads all.each;
        all_drawn = drawn_total;
        t = all.t;
        part = part_of known won all.heap all.collection all.workers all.t all.thread p.is;
        there = p.there;
        cell = None;
        wanted = all.wanted;
      }

  pub below_bound : (words : ℕ) → LiveWords all.heap.graph all.collection.generation all.heap.config.block_words words → length all.heap.free < space_bound words all.heap.config.block_words all.workers (dest_count all.heap.config.shape all.collection.generation)
  below_bound words l =
      subst (λ n. length all.heap.free < space_bound words all.heap.config.block_words n (dest_count all.heap.config.shape all.collection.generation)) (parts_length known won all.heap all.collection all.workers 0 all.threads all.each ∙ all.count)
      (refused-below all.heap.graph all.collection.generation all.heap.config.shape all.heap.config.block_words all.workers (dest_count all.heap.config.shape all.collection.generation) (length all.heap.free) parts refused words l)

  pub stuck_apart : IsStuckApart all.heap all.collection.generation all.workers
  stuck_apart =
      record {
        parts = parts;
        many = parts_length known won all.heap all.collection all.workers 0 all.threads all.each ∙ all.count;
        starts = λ t part there.
            starts_at known won all.heap all.collection all.workers all.threads all.each t part there
            ∙ ap (λ ss. opening_worker (dest_count all.heap.config.shape all.collection.generation) all.workers (map target_of_slot ss) t) all.ready.opened.slots;
        refused = refused;
        can = all.can;
      }

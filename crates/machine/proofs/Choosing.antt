-- Which event comes next by itself, as the readers tell.
use Rattle.std.proofs.Common.{◌≡◌, ◌≢◌, ℕ, zero, suc, ◌+◌, ◌<◌, Bool, true, false, not, true≢false, is_some, List, [], ◌∷◌, length, map, Option, Some, None, refl, sym, ap, subst, ◌∙◌, arith, ⊎_elim}
use Rattle.std.specs.Prelude.{IsTrue, slice_get, slice_index_or}
use Rattle.std.proofs.lemmas.Bool.{cases_eq}
use Rattle.std.proofs.lemmas.Option.{slice_get-get_or}
use Rattle.workers.specs.Block.{Block}
use Rattle.workers.specs.System.{System, Event}
use Rattle.workers.specs.Lawful.{AllEnded, HasQueued, lowest_unset, next_of_worker, queue_at}
use Rattle.steps.specs.HeapValue.{HeapValue}
use Rattle.scavenge.specs.Slots.{objects_of}
use Rattle.std.specs.Option.{option_map, option_map_or}
use Rattle.machine.specs.InterleavedValue.{InterleavedValue, MemberValue, worker_of, system_of, setting_in}
use Rattle.machine.specs.IsInterleaved.{IsInterleaved}
use Rattle.machine.proofs.Places.{get-map, length-map}
use Rattle.machine.proofs.Laws.{Says}

-- the first flag that isn't set
pub unset_first : (n : ℕ) (bs : List Bool) (d : ℕ) → ((e : ℕ) → e < d → slice_get bs e ≡ Some true) → slice_get bs d ≡ Some false → lowest_unset n bs ≡ Some (n + d)
unset_first n [] d below is = absurd (cc)
unset_first n (false ∷ bs) zero below is = let z : n ≡ n + 0 = omega arith in ap (λ k. Some k) z
unset_first n (true ∷ bs) zero below is = absurd (cc)
unset_first n (false ∷ bs) (suc d) below is = let x : Some false ≡ Some true = below 0 (omega arith) in absurd (cc)
unset_first n (true ∷ bs) (suc d) below is =
    let m : n + 1 + d ≡ n + suc d = omega arith in
    unset_first (n + 1) bs d (λ e l. below (suc e) (omega (arith, l))) is ∙ ap (λ k. Some k) m

pub unset_none : (n : ℕ) (bs : List Bool) → ((e : ℕ) → e < length bs → slice_get bs e ≡ Some true) → lowest_unset n bs ≡ None
unset_none n [] below = refl
unset_none n (false ∷ bs) below = let x : Some false ≡ Some true = below 0 (omega arith) in absurd (cc)
unset_none n (true ∷ bs) below = unset_none (n + 1) bs (λ e l. below (suc e) (omega (arith, l)))

pub none_unset : (n : ℕ) (bs : List Bool) → lowest_unset n bs ≡ None → (t : ℕ) → t < length bs → slice_get bs t ≡ Some true
none_unset n [] e t l = absurd (omega (arith, l))
none_unset n (false ∷ bs) e t l = absurd (cc)
none_unset n (true ∷ bs) e zero l = refl
none_unset n (true ∷ bs) e (suc t) l = none_unset (n + 1) bs e t (omega (arith, l))

-- one flag more is set
pub set_next : (bs : List Bool) (t : ℕ) → ((e : ℕ) → e < t → slice_get bs e ≡ Some true) → slice_get bs t ≡ Some true → (e : ℕ) → e < t + 1 → slice_get bs e ≡ Some true
set_next bs t below is e l =
    ⊎_elim (λ (same : e ≡ t). subst (λ i. slice_get bs i ≡ Some true) (sym same) is) (λ (other : e ≢ t). below e (omega (arith, l, other))) (cases_eq e t)

module _ (f : MemberValue → Bool) (v : InterleavedValue) (k : IsInterleaved v) where
  pub flag_at : (t : ℕ) (m : MemberValue) → t < v.workers → m ≡ slice_index_or v.members t m → slice_get (map f v.members) t ≡ Some (f m)
  flag_at t m l is = get-map f v.members t m (slice_get-get_or v.members t m (omega (arith, l, k.count)) ∙ ap (λ x. Some x) (sym is))

  pub all_flags : ((e : ℕ) → e < v.workers → slice_get (map f v.members) e ≡ Some true) → lowest_unset 0 (map f v.members) ≡ None
  all_flags each = unset_none 0 (map f v.members) (λ e l. each e (let n = length-map f v.members in omega (arith, l, n, k.count)))

pub at_first : (bs : List Bool) (t : ℕ) → ((e : ℕ) → e < t → slice_get bs e ≡ Some true) → slice_get bs t ≡ Some false → Some t ≡ lowest_unset 0 bs
at_first bs t below is = let z : 0 + t ≡ t = omega arith in sym (unset_first 0 bs t below is ∙ ap (λ i. Some i) z)

-- whether every worker ended, as the lowest that hasn't tells
pub ended_says : (v : InterleavedValue) (lowest : Option ℕ) (none : Bool) → lowest ≡ lowest_unset 0 (system_of v).ended → is_some lowest ≡ not none → Says none (AllEnded (system_of v))
ended_says v lowest none low is = (there none is, back none is)
  where
    many : length (system_of v).ended ≡ length (system_of v).workers
    many = length-map (λ (m : MemberValue). m.ended) v.members ∙ sym (length-map worker_of v.members)

    ended : lowest ≡ None → AllEnded (system_of v)
    ended e t l = none_unset 0 (system_of v).ended (sym low ∙ e) t (omega (arith, l, many))

    there : (b : Bool) → is_some lowest ≡ not b → IsTrue b → AllEnded (system_of v)
    there false i e = absurd (true≢false (sym e))
    there true i e = go lowest refl i
      where
        go : (o : Option ℕ) → lowest ≡ o → is_some o ≡ false → AllEnded (system_of v)
        go None at s = ended at
        go (Some d) at s = absurd (true≢false s)

    back : (b : Bool) → is_some lowest ≡ not b → AllEnded (system_of v) → IsTrue b
    back true i k = refl
    back false i k = absurd (true≢false (sym i ∙ ap is_some (low ∙ unset_none 0 (system_of v).ended (λ e l. k e (omega (arith, l, many))))))

-- whether something waits in a queue, and what it is
pub queue_some : (s : System) (u : ℕ) → HasQueued s u → queue_at s u ≢ []
queue_some s u q e = let x = sym (ap (λ o. option_map_or (λ y. y) o []) q.front) ∙ e in cc

pub queue_has : (s : System) (u : ℕ) → queue_at s u ≢ [] → HasQueued s u
queue_has s u ne = go (slice_get s.queues u) refl
  where
    go : (o : Option (List Block)) → slice_get s.queues u ≡ o → HasQueued s u
    go None e = absurd (ne (ap (λ o. option_map_or (λ y. y) o []) e))
    go (Some []) e = absurd (ne (ap (λ o. option_map_or (λ y. y) o []) e))
    go (Some (b ∷ bs)) e = record { block = b; rest = bs; front = e }

module _ (v : InterleavedValue) (k : IsInterleaved v) (t : ℕ) (m : MemberValue) (l : t < v.workers) (is : m ≡ slice_index_or v.members t m) where
  pub member_at : slice_get v.members t ≡ Some m
  member_at = slice_get-get_or v.members t m (omega (arith, l, k.count)) ∙ ap (λ x. Some x) (sym is)

  -- what comes next of the member comes next of the system's worker
  pub next_is : (heap : HeapValue) → heap ≡ v.heap → (e : Event) → e ≡ next_of_worker (objects_of heap) t m.workspace.worker (queue_at (system_of v) t)
      → Some e ≡ option_map (λ w. next_of_worker (setting_in v) t w (queue_at (system_of v) t)) (slice_get (system_of v).workers t)
  next_is heap same e next =
      ap (λ x. Some x) (subst (λ (h : HeapValue). e ≡ next_of_worker (objects_of h) t m.workspace.worker (queue_at (system_of v) t)) same next)
      ∙ sym (ap (option_map (λ w. next_of_worker (setting_in v) t w (queue_at (system_of v) t))) (get-map worker_of v.members t m member_at))

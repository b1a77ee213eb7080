-- What holds in each state of a run, for all that is stated of it.
use Rattle.std.proofs.Common.{length, ◌≡◌, ◌≢◌, ℕ, ◌+◌, ◌*◌, ◌<◌, ◌≤◌, Bool, true, false, List, [], ◌∷◌, Option, Some, None, refl, sym, ap, subst, ◌∙◌, ◌⊎◌, ⊎_elim, arith, cond, map, filter, nat_eq, nat_le, eq-eqb, ne_eqb, true≢false}
use Rattle.std.proofs.lemmas.Bool.{cases_eq, cond-true, cond-false}
use Rattle.std.specs.Prelude.{slice_get}
use Rattle.std.specs.Option.{option_map_or}
use Rattle.std.specs.Ordering.{nat_cmp}
use Rattle.std.specs.Cmp.{unsigned_tied}
use Rattle.std.specs.FinMap.{find, entries, get-entries}
use Rattle.model.specs.Graph.{Graph, Object, object_at}
use Rattle.model.specs.Destination.{Shape}
use Rattle.workers.specs.Setting.{Setting, setting_of}
use Rattle.workers.specs.System.{System, Event}
use Rattle.workers.specs.Steps.{Step}
use Rattle.workers.specs.Total.{one_if, times}
use Rattle.workers.specs.Joined.{Part}
use Rattle.workers.specs.Lawful.{IsChosen, order_of_worker, order_of_one, IsLawful, IsRefused, IsNext, AllEnded, IsEnd, next_lawful, next_alone}
use Rattle.workers.specs.Measure.{measure, measure_bound, Covers, IsWake, wakes, young_names_of}
use Rattle.workers.specs.Finish.{Stepped, Finishes, IsReached, NothingLeft}
use Rattle.workers.proofs.Lists.{none-some}
use Rattle.workers.proofs.SystemRun.{Held, run_held}
use Rattle.workers.proofs.SystemOpening.{open_parts, opening_held}
use Rattle.workers.proofs.Progress.{Shaped, ended_none, next_is_lawful, next_alone_is_lawful}
use Rattle.workers.proofs.First.{next_is_chosen, alone_is_chosen}
use Rattle.workers.proofs.Ended.{run_shaped, opening_shaped, lawful_comes, only_ends, nothing_left}
use Rattle.workers.proofs.SystemFalls.{step_less}
use Rattle.workers.proofs.Finish.{lawful_choice, alone_choice, run_bounded, run_short, run_finishes, stepped_few}

-- a heap's collected objects are among their names
pub young_covers : (graph : Graph) (g : ℕ) (shape : Shape) (block_words workers : ℕ) → Covers (setting_of graph g shape block_words workers) (young_names_of graph g)
young_covers graph g shape block_words workers name y = on (object_at graph name) refl y
  where
    among : (es : List (ℕ × Object)) (o : Object) → find nat_cmp name es ≡ Some o → nat_le o.generation g ≡ true → 0 < times name (map (λ (e : ℕ × Object). e.0) (filter (λ (e : ℕ × Object). nat_le e.1.generation g) es))
    among [] o f l = absurd (none-some f)
    among (x ∷ es) o f l =
        ⊎_elim
        (λ (s : name ≡ x.0).
        let t = unsigned_tied name x.0 ∙ eq-eqb name x.0 s in
        let q : Some x.1 ≡ Some o = sym (cond-true _ _ _ t) ∙ f in
        let r : x.1 ≡ o = cc in
        kept (nat_le x.1.generation g) (ap (λ (v : Object). nat_le v.generation g) r ∙ l) s)
        (λ (n : name ≢ x.0).
        let t = unsigned_tied name x.0 ∙ ne_eqb name x.0 n in
        later (nat_le x.1.generation g) (among es o (sym (cond-false _ _ _ t) ∙ f) l))
        (cases_eq name x.0)
      where
        tail : List ℕ
        tail = map (λ (e : ℕ × Object). e.0) (filter (λ (e : ℕ × Object). nat_le e.1.generation g) es)

        kept : (b : Bool) → b ≡ true → name ≡ x.0 → 0 < times name (map (λ (e : ℕ × Object). e.0) (cond b (x ∷ filter (λ (e : ℕ × Object). nat_le e.1.generation g) es) (filter (λ (e : ℕ × Object). nat_le e.1.generation g) es)))
        kept false p s = absurd (true≢false (sym p))
        kept true p s = let o : one_if (nat_eq x.0 name) ≡ 1 = ap one_if (eq-eqb x.0 name (sym s)) in omega arith

        later : (b : Bool) → 0 < times name (map (λ (e : ℕ × Object). e.0) (filter (λ (e : ℕ × Object). nat_le e.1.generation g) es)) → 0 < times name (map (λ (e : ℕ × Object). e.0) (cond b (x ∷ filter (λ (e : ℕ × Object). nat_le e.1.generation g) es) (filter (λ (e : ℕ × Object). nat_le e.1.generation g) es)))
        later true h = omega arith
        later false h = h

    on : (o : Option Object) → object_at graph name ≡ o → option_map_or (λ (x : Object). nat_le x.generation g) o false ≡ true → 0 < times name (young_names_of graph g)
    on None e l = absurd (true≢false (sym l))
    on (Some o) e l = among (entries graph.objects) o (sym (get-entries graph.objects name) ∙ e) l

module _ (setting : Setting) (d n : ℕ) (slots free : List ℕ) (s : System) (r : IsReached setting d n slots free s) where
  shaped : Shaped s
  shaped = run_shaped setting r.run (opening_shaped d n slots free)

  held : (parts : List Part) × Held setting s parts
  held = let h = run_held setting r.run (open_parts d n slots 0 n) (opening_held setting d n slots free r.room r.distinct) in (h.0, h.1.0)

  pub reached_next : IsNext setting s (next_lawful setting s) × IsNext setting s (next_alone setting s)
  reached_next = (next_is_lawful setting s shaped, next_alone_is_lawful setting s shaped)

  pub reached_first : IsChosen setting order_of_worker s (next_lawful setting s) × IsChosen setting order_of_one s (next_alone setting s)
  reached_first = (next_is_chosen setting s shaped, alone_is_chosen setting s shaped)

  pub reached_comes : (event : Event) → IsLawful setting s event → ((s' : System) × Step setting s event s') ⊎ IsRefused setting s event
  reached_comes event l = lawful_comes setting s held.0 shaped held.1 event l

  pub reached_left : (t : ℕ) → slice_get s.ended t ≡ Some true → NothingLeft s × ((event : Event) → IsLawful setting s event → IsEnd event)
  reached_left t e = (nothing_left setting s shaped held.0 held.1 t e, only_ends setting s shaped t e)

  pub reached_none : AllEnded s → (next_lawful setting s ≡ None) × (next_alone setting s ≡ None)
  reached_none = ended_none setting s shaped

  module _ (names : List ℕ) (cover : Covers setting names) where
    pub reached_falls : (s' : System) (event : Event) → Step setting s event s' → (IsWake event → ⊥) → measure setting names s' < measure setting names s
    reached_falls s' event step n = (step_less setting names cover s s' held.0 held.1 event step n).all

    pub reached_bounded : measure setting names s ≤ measure_bound setting n slots names
    reached_bounded = run_bounded setting d n slots free names r.some cover r.room r.distinct s r.events r.run

    pub reached_short : length r.events + measure setting names s ≤ measure_bound setting n slots names + 2 * wakes r.events
    reached_short = run_short setting d n slots free names r.some cover r.room r.distinct s r.events r.run

    pub reached_finishes : Finishes setting (next_lawful setting) names s × Finishes setting (next_alone setting) names s
    reached_finishes = (
      run_finishes setting d n slots free names r.some cover r.room r.distinct (next_lawful setting) (lawful_choice setting) s r.events r.run,
      run_finishes setting d n slots free names r.some cover r.room r.distinct (next_alone setting) (alone_choice setting) s r.events r.run,
    )

    pub reached_few : (next : System → Option Event) → (next ≡ next_lawful setting) ⊎ (next ≡ next_alone setting) → (last : System) (count : ℕ) → Stepped setting next s count last → count + measure setting names last ≤ measure setting names s
    reached_few next which last count steps =
        ⊎_elim
        (λ (e : next ≡ next_lawful setting). stepped_few setting names cover (next_lawful setting) (lawful_choice setting) (subst (λ x. Stepped setting x s count last) e steps) held.0 held.1)
        (λ (e : next ≡ next_alone setting). stepped_few setting names cover (next_alone setting) (alone_choice setting) (subst (λ x. Stepped setting x s count last) e steps) held.0 held.1)
        which

-- A race of a worker, as the cells end it, is a race of the system.
use Rattle.std.proofs.Common.{◌≡◌, ◌≢◌, ℕ, ◌<◌, cond, List, [], ◌∷◌, ◌++◌, map, Option, Some, None, Result, Ok, Err, refl, sym, ap, subst, ◌∙◌, ⊎_elim, length, arith, is_some, eq-eqb, ne_eqb}
use Rattle.std.proofs.lemmas.Bool.{cases_eq, cond-true, cond-false}
use Rattle.std.proofs.lemmas.List.{map-append}
use Rattle.std.specs.Prelude.{OnOk, OnErr, slice_get, slice_set, slice_index, slice_index_or, if◌then◌else◌}
use Rattle.std.specs.Ordering.{nat_cmp}
use Rattle.std.specs.Cmp.{unsigned_tied}
use Rattle.std.specs.FinMap.{find}
use Rattle.model.specs.OldSlots.{is_young_name}
use Rattle.model.proofs.RisingKeys.{same_index, keys-filter_rise}
use Rattle.layout.specs.declared.place.Place.{Place}
use Rattle.layout.specs.Place.{place_word}
use Rattle.forwarding.specs.declared.cells.outcome.Outcome.{Outcome}
use Rattle.forwarding.specs.declared.cells.outcome.Outcome.TheVariants.{Won, Lost}
use Rattle.forwarding.specs.Learned.{RaceEnds}
use Rattle.forwarding.specs.Plain.{PlainPassValue, IsFit, RacesTo, place_held, known_by}
use Rattle.forwarding.specs.Plain.{PlainValue as PlainCellsValue}
use Rattle.steps.specs.HeapValue.{HeapValue}
use Rattle.steps.specs.CollectionValue.{CollectionValue, young_names}
use Rattle.workers.specs.Setting.{is_large_name}
use Rattle.workers.specs.Worker.{Worker, Proposal, Copied, Claimed}
use Rattle.workers.specs.WorkerSteps.{after_race}
use Rattle.workers.specs.WorkerRun.{Raced, proposed_name, proposed_place}
use Rattle.workers.specs.System.{System, Race}
use Rattle.workers.specs.Steps.{IsAwake}
use Rattle.workers.specs.Lawful.{IsLawful}
use Rattle.workers.proofs.Acts.{ProposalFit}
use Rattle.workers.proofs.SystemParts.{find-new}
use Rattle.scavenge.specs.Shown.{WorkspaceValue, lost_to, IsBid, name_of}
use Rattle.scavenge.specs.Slots.{cell_of}
use Rattle.heap.specs.Found.{HasNumber}
use Rattle.scavenge.specs.Told.{Races, lost_of}
use Rattle.scavenge.proofs.Unchanged.{some_there}
use Rattle.machine.specs.InterleavedValue.{InterleavedValue, MemberValue, Goes, system_of, setting_in, forwarded_at, forwarded_in}
use Rattle.machine.specs.IsInterleaved.{IsInterleaved}
use Rattle.machine.proofs.Takers.{takers_same}
use Rattle.machine.proofs.Reaching.{reached_by}
use Rattle.machine.proofs.Places.{set-again}
use Rattle.machine.proofs.Members.{Does, renewed, renews, system-renewed, taken-same, member_on, is_in}
use Rattle.machine.proofs.Readiness.{sound_of}

-- only what a name is won at changes by a win of it
find_other : (es : List (ℕ × ℕ)) (n place q : ℕ) → q ≢ n → find nat_cmp q (es ++ (n, place) ∷ []) ≡ find nat_cmp q es
find_other [] n place q ne = cond-false _ _ _ (unsigned_tied q n ∙ ne_eqb q n ne)
find_other (x ∷ es) n place q ne =
    ⊎_elim
    (λ (e : q ≡ x.0). (let t = unsigned_tied q x.0 ∙ eq-eqb q x.0 e in cond-true _ _ _ t ∙ sym (cond-true _ _ _ t)))
    (λ (m : q ≢ x.0). (let t = unsigned_tied q x.0 ∙ ne_eqb q x.0 m in cond-false _ _ _ t ∙ find_other es n place q ne ∙ sym (cond-false _ _ _ t)))
    (cases_eq q x.0)

-- what is won after a race
abbrev won_by : List (ℕ × ℕ) → Proposal → Option ℕ → List (ℕ × ℕ)
won_by won p lost = if is_some lost then won else won ++ (proposed_name p, proposed_place p) ∷ []

module _ (v : InterleavedValue) (k : IsInterleaved v) (t : ℕ) (m : MemberValue) (at : slice_get v.members t ≡ Some m) (p : Proposal) (proposed : m.workspace.worker.proposal ≡ Some p) where
  abbrev worker : Worker
  worker = m.workspace.worker

  abbrev forwarded : List (ℕ × ℕ)
  forwarded = forwarded_in v.heap v.collection v.pass

  -- where the proposed name stands whose cell shows this
  abbrev stands : Place → ℕ
  stands place = if is_large_name (setting_in v) (proposed_name p) then proposed_name p else place_word place

  fit : ProposalFit (setting_in v) worker (Some p)
  fit = subst (ProposalFit (setting_in v) worker) proposed (sound_of v.heap v.collection k.ready v.workers t m (k.each t m at)).proposal

  stands_first : (first : Place) → stands first ≡ lost_to (place_word first) (Some p)
  stands_first first = go p fit
    where
      go : (q : Proposal) → ProposalFit (setting_in v) worker (Some q) → cond (is_large_name (setting_in v) (proposed_name q)) (proposed_name q) (place_word first) ≡ lost_to (place_word first) (Some q)
      go (Copied copy d) f = cond-false _ _ _ f.small
      go (Claimed name) f = cond-true _ _ _ f.1

  stands_bid : (bid : Place) → IsBid m.workspace.claim worker.proposal bid → stands bid ≡ proposed_place p
  stands_bid bid b = go p fit (subst (λ o. IsBid m.workspace.claim o bid) proposed b)
    where
      go : (q : Proposal) → ProposalFit (setting_in v) worker (Some q) → IsBid m.workspace.claim (Some q) bid → cond (is_large_name (setting_in v) (proposed_name q)) (proposed_name q) (place_word bid) ≡ proposed_place q
      go (Copied copy d) f b = cond-false _ _ _ f.small ∙ b
      go (Claimed name) f b = cond-true _ _ _ f.1

  -- a name has one number
  one_number : (a b : ℕ) → HasNumber v.heap v.collection (proposed_name p) a → HasNumber v.heap v.collection (proposed_name p) b → a ≡ b
  one_number a b x y =
      let n : v.collection.cells ≡ length (young_names v.heap.graph v.collection.generation) = k.ready.opened.cells in
      let la : a < v.collection.cells = x.in_range in
      let lb : b < v.collection.cells = y.in_range in
      same_index (young_names v.heap.graph v.collection.generation) a b (keys-filter_rise v.heap.graph.objects (is_young_name v.heap.graph v.collection.generation)) (omega arith) (omega arith) (x.is ∙ sym y.is)

  module _ (number : ℕ) (of : HasNumber v.heap v.collection (proposed_name p) number) (bid : Place) (is_bid : IsBid m.workspace.claim worker.proposal bid) (cells : PlainCellsValue) where
    -- the race is lost to what was won
    lost_is : (o : Outcome) → RacesTo v.cells number bid o cells → lost_of worker.proposal o ≡ find nat_cmp (proposed_name p) forwarded
    lost_is Won r = sym (ap (cell_of (setting_in v) (Some (proposed_name p))) r.0) ∙ k.cells.shown (proposed_name p) number of
    lost_is (Lost first) r =
        ap (λ q. Some (lost_to (place_word first) q)) proposed ∙ ap Some (sym (stands_first first)) ∙ sym (ap (cell_of (setting_in v) (Some (proposed_name p))) r.0)
        ∙ k.cells.shown (proposed_name p) number of

    -- what the cell holds is forwarded as the worker proposed it
    forwards : forwarded_at v.heap v.collection number bid ≡ (proposed_name p, proposed_place p)
    forwards =
        ap (λ name. (name, (if is_large_name (setting_in v) name then name else place_word bid))) of.is
        ∙ ap (λ place. (proposed_name p, place)) (stands_bid bid is_bid)

    forwarded_after : (o : Outcome) (before : Option Place) (pass : PlainPassValue) → RaceEnds before v.pass.won pass.won number bid o → forwarded_in v.heap v.collection pass ≡ won_by forwarded p (lost_of worker.proposal o)
    forwarded_after Won before pass r =
        ap (map (λ (e : ℕ × Place). forwarded_at v.heap v.collection e.0 e.1)) r.1
        ∙ map-append (λ (e : ℕ × Place). forwarded_at v.heap v.collection e.0 e.1) v.pass.won ((number, bid) ∷ [])
        ∙ ap (λ e. forwarded ++ e ∷ []) forwards
    forwarded_after (Lost first) before pass r = ap (map (λ (e : ℕ × Place). forwarded_at v.heap v.collection e.0 e.1)) r

    abbrev Shows : List (ℕ × ℕ) → Type 0
    Shows won = (name other : ℕ) → HasNumber v.heap v.collection name other → cell_of (setting_in v) (Some name) (place_held cells.held other) ≡ find nat_cmp name won

    shown_after : (o : Outcome) → RacesTo v.cells number bid o cells → Shows (won_by forwarded p (lost_of worker.proposal o))
    shown_after (Lost first) r = subst Old (sym r.1) (λ name other x. k.cells.shown name other x)
      where
        Old : PlainCellsValue → Type 0
        Old c = (name other : ℕ) → HasNumber v.heap v.collection name other → cell_of (setting_in v) (Some name) (place_held c.held other) ≡ find nat_cmp name forwarded
    shown_after Won r = λ name other x. ⊎_elim (same name other x) (others name other x) (cases_eq name (proposed_name p))
      where
        none : find nat_cmp (proposed_name p) forwarded ≡ None
        none = sym (lost_is Won r)

        same : (name other : ℕ) → HasNumber v.heap v.collection name other → name ≡ proposed_name p → cell_of (setting_in v) (Some name) (place_held cells.held other) ≡ find nat_cmp name (forwarded ++ (proposed_name p, proposed_place p) ∷ [])
        same name other x e =
            let y : HasNumber v.heap v.collection (proposed_name p) other = subst (λ n. HasNumber v.heap v.collection n other) e x in
            ap (λ n. cell_of (setting_in v) (Some n) (place_held cells.held other)) e
            ∙ ap (λ i. cell_of (setting_in v) (Some (proposed_name p)) (place_held cells.held i)) (one_number other number y of)
            ∙ ap (cell_of (setting_in v) (Some (proposed_name p))) r.1
            ∙ ap Some (stands_bid bid is_bid)
            ∙ sym (find-new forwarded (proposed_name p) (proposed_place p) none)
            ∙ ap (λ n. find nat_cmp n (forwarded ++ (proposed_name p, proposed_place p) ∷ [])) (sym e)

        others : (name other : ℕ) → HasNumber v.heap v.collection name other → name ≢ proposed_name p → cell_of (setting_in v) (Some name) (place_held cells.held other) ≡ find nat_cmp name (forwarded ++ (proposed_name p, proposed_place p) ∷ [])
        others name other x ne =
            ap (cell_of (setting_in v) (Some name)) (r.2 other (λ e. ne (sym x.is ∙ ap (slice_index (young_names v.heap.graph v.collection.generation)) e ∙ of.is)))
            ∙ k.cells.shown name other x
            ∙ sym (find_other forwarded (proposed_name p) (proposed_place p) name ne)

  module _ (awake : IsAwake (system_of v) t m.workspace.worker) (cells : PlainCellsValue) (pass : PlainPassValue) (fits : IsFit cells pass) (count : length cells.held ≡ length v.cells.held) where
    -- what the cell of the proposed name shows
    abbrev shown : Option ℕ
    shown = find nat_cmp (proposed_name p) forwarded

    abbrev raced_to : WorkspaceValue → InterleavedValue
    raced_to new = renewed v cells pass v.draws v.queues t (record m { workspace = new })

    abbrev workspace : WorkspaceValue
    workspace = record m.workspace { worker = after_race worker shown }

    went : forwarded_in v.heap v.collection pass ≡ won_by forwarded p shown → Goes (Race t) v (raced_to workspace)
    went is =
        record {
          heap = refl;
          collection = refl;
          workers = refl;
          step = record {
            worker = worker;
            at = awake;
            proposal = p;
            proposed = proposed;
            change = system-renewed v cells pass v.draws v.queues t m (record m { workspace = workspace }) at refl refl
                ∙ ap (λ ts. (let s : System = record (system_of v) { workers = slice_set (system_of v).workers t (after_race worker shown); forwarded = forwarded_in v.heap v.collection pass; taken = ts } in s)) (taken-same v t m at)
                ∙ ap (λ fs. (let s : System = record (system_of v) { workers = slice_set (system_of v).workers t (after_race worker shown); forwarded = fs } in s)) is;
          };
        }

    pub raced : (new : WorkspaceValue) → Races v.heap v.collection (λ number bid o. RacesTo v.cells number bid o cells) (known_by v.pass) (known_by pass) v.pass.won pass.won m.workspace new → Does (Race t) v (raced_to new)
    raced new r = subst (λ (w : WorkspaceValue). Does (Race t) v (raced_to w)) (sym new_is) (kept, went won_is)
      where
        of : HasNumber v.heap v.collection (proposed_name p) r.ends.number
        of = subst (λ n. HasNumber v.heap v.collection n r.ends.number) (ap name_of proposed) r.ends.of

        lost : lost_of worker.proposal r.outcome ≡ shown
        lost = lost_is r.ends.number of r.bid r.fits cells r.outcome r.ends.given

        new_is : new ≡ workspace
        new_is = r.worker ∙ ap (λ o. (let n : WorkspaceValue = record m.workspace { worker = after_race worker o } in n)) lost

        as_many : (number : ℕ) (place : Place) (o : Outcome) → RacesTo v.cells number place o cells → cells.passes ≡ v.cells.passes
        as_many number place Won given = given.3
        as_many number place (Lost first) given = ap (λ (x : PlainCellsValue). x.passes) given.1

        won_after : forwarded_in v.heap v.collection pass ≡ won_by forwarded p (lost_of worker.proposal r.outcome)
        won_after = forwarded_after r.ends.number of r.bid r.fits cells r.outcome (known_by v.pass r.ends.number) pass r.ends.won

        won_is : forwarded_in v.heap v.collection pass ≡ won_by forwarded p shown
        won_is = won_after ∙ ap (won_by forwarded p) lost

        kept : IsInterleaved (raced_to workspace)
        kept =
            renews v k t m (record m { workspace = workspace }) at cells pass v.draws v.queues
            (record {
              fits = fits;
              passes = as_many r.ends.number r.bid r.outcome r.ends.given ∙ k.cells.passes;
              count = count ∙ k.cells.count;
              shown = subst (Shows r.ends.number of r.bid r.fits cells) (sym won_after) (shown_after r.ends.number of r.bid r.fits cells r.outcome r.ends.given);
            })
            k.draws k.queue refl
            (member_on v.heap v.collection v.workers t m (Raced shown) (k.each t m at) (ap is_some proposed) (λ h l. l))
            (takers_same v.members t m (record m { workspace = workspace }) at v.queues.lanes refl k.takers) (reached_by (Race t) v (raced_to workspace) k.reached (went won_is))

-- the call's answer: a race, or nothing
module _ (v : InterleavedValue) (k : IsInterleaved v) (t : ℕ) (m : MemberValue) (is : m ≡ slice_index_or v.members t m) (lawful : IsLawful (setting_in v) (system_of v) (Race t)) (heap : HeapValue) (c : CollectionValue) (same_heap : heap ≡ v.heap) (same_collection : c ≡ v.collection)
    (cells : PlainCellsValue) (pass : PlainPassValue) (new : WorkspaceValue) (fits : IsFit cells pass) (count : length cells.held ≡ length v.cells.held) where
  abbrev RacesOn : HeapValue → CollectionValue → Type 0
  RacesOn h d = Races h d (λ number bid o. RacesTo v.cells number bid o cells) (known_by v.pass) (known_by pass) v.pass.won pass.won m.workspace new

  abbrev next : InterleavedValue
  next = renewed v cells pass v.draws v.queues t (record m { workspace = new })

  pub race_does : RacesOn heap c → Does (Race t) v next
  race_does r =
      let i = is_in _ v t m is lawful in
      let p = some_there m.workspace.worker.proposal i.can in
      raced v k t m i.there p.0 p.1 i.awake cells pass fits count new (subst (RacesOn v.heap) same_collection (subst (λ h. RacesOn h c) same_heap r))

  pub race_keeps : {X E : Type 0} (r : Result X E) → OnOk r (RacesOn heap c) → OnErr r ((new ≡ m.workspace) × (cells ≡ v.cells) × (pass ≡ v.pass)) → IsInterleaved next
  race_keeps (Ok x) ok err = (race_does ok).0
  race_keeps (Err x) ok err =
      let i = is_in _ v t m is lawful in
      subst (λ (w : WorkspaceValue). IsInterleaved (renewed v cells pass v.draws v.queues t (record m { workspace = w }))) (sym err.0)
      (subst (λ (cs : PlainCellsValue). IsInterleaved (renewed v cs pass v.draws v.queues t m)) (sym err.1)
      (subst (λ (q : PlainPassValue). IsInterleaved (renewed v v.cells q v.draws v.queues t m)) (sym err.2)
      (subst (λ ms. IsInterleaved (record v { members = ms })) (sym (set-again v.members t m i.there)) k)))

-- A race of the worker, as its cells end it, is a race of the system.
use Rattle.std.proofs.Common.{◌≡◌, ◌≢◌, ℕ, ◌<◌, ◌≤◌, cond, List, [], ◌∷◌, ◌++◌, Option, Some, None, Result, Ok, Err, refl, sym, ap, subst, ◌∙◌, ⊎_elim, length, arith, is_some, eq-eqb, ne_eqb}
use Rattle.std.proofs.lemmas.Bool.{cases_eq, cond-true, cond-false}
use Rattle.std.specs.Prelude.{IsSome, OnOk, OnErr, slice_index, if◌then◌else◌}
use Rattle.std.specs.Option.{option_map_or}
use Rattle.std.specs.Ordering.{nat_cmp}
use Rattle.std.specs.Cmp.{unsigned_tied}
use Rattle.std.specs.FinMap.{find}
use Rattle.model.specs.Graph.{Object, object_at}
use Rattle.model.specs.Live.{IsYoung}
use Rattle.model.specs.OldSlots.{is_young_name}
use Rattle.model.proofs.RisingKeys.{same_index, keys-filter_rise}
use Rattle.layout.specs.declared.place.Place.{Place}
use Rattle.layout.specs.Place.{place_word}
use Rattle.block_pool.specs.ClaimsValue.{SeatValue, IsSeatOf}
use Rattle.forwarding.specs.declared.cells.outcome.Outcome.{Outcome}
use Rattle.forwarding.specs.declared.cells.outcome.Outcome.TheVariants.{Won, Lost}
use Rattle.forwarding.specs.Plain.{PlainPassValue, IsFit, RacesTo, place_held, known_by}
use Rattle.forwarding.specs.Plain.{PlainValue as PlainCellsValue}
use Rattle.steps.specs.HeapValue.{HeapValue}
use Rattle.steps.specs.CollectionValue.{CollectionValue, young_names}
use Rattle.workers.specs.Setting.{is_large_name, old_pointers}
use Rattle.workers.specs.Worker.{Worker, Proposal, Copied, Claimed}
use Rattle.workers.specs.WorkerSteps.{race_of, after_race}
use Rattle.workers.specs.WorkerRun.{Act, Raced, after, CanAct, History, noted, proposed_name, proposed_place}
use Rattle.workers.specs.System.{System, Race, opening_worker}
use Rattle.workers.proofs.Acts.{ProposalFit}
use Rattle.workers.proofs.Kept.{collected-young}
use Rattle.workers.proofs.ReadyLemmas.{few_fields}
use Rattle.heap.proofs.SoundHeap.{heap_fields}
use Rattle.workers.proofs.Starts.{opens}
use Rattle.workers.proofs.SystemFalls.{Sound, run_sound}
use Rattle.workers.proofs.SystemParts.{find-new}
use Rattle.scavenge.specs.Shown.{WorkspaceValue, lost_to, IsBid, name_of}
use Rattle.scavenge.specs.Slots.{cell_of}
use Rattle.heap.specs.Found.{HasNumber}
use Rattle.scavenge.specs.Told.{Races, lost_of}
use Rattle.one_worker.specs.SerialValue.{SerialValue, Goes, system_of, setting_in, targets_in, destinations_in}
use Rattle.one_worker.specs.IsSerial.{IsSerial, AreForwarded}
use Rattle.one_worker.proofs.Keeping.{AreTaken, worked_on}
use Rattle.one_worker.proofs.Readiness.{start_roomy, ready_of}
use Rattle.scavenge.proofs.Unchanged.{some_there, finish_won}

-- what every worker of a run has
pub sound_of : (v : SerialValue) → IsSerial v → Sound (setting_in v) v.workspace.worker
sound_of v k = run_sound (setting_in v) (opening_worker (destinations_in v) 1 (targets_in v) 0) v.workspace.worker k.worked.history (opens (destinations_in v) 1 (targets_in v) 0) (start_roomy v k.ready) k.worked.run

pub few_of : (v : SerialValue) → IsSerial v → v.workspace.worker.fields < 4294967296
few_of v k =
    let l : v.workspace.worker.fields ≤ 100000 = few_fields (setting_in v) v.workspace.worker (ready_of v k) 100000 few in
    omega arith
  where
    few : (name : ℕ) → length (old_pointers (setting_in v) name) ≤ 100000
    few name = go (object_at v.heap.graph name) refl
      where
        go : (o : Option Object) → object_at v.heap.graph name ≡ o → length (option_map_or (λ (x : Object). x.pointers) o []) ≤ 100000
        go None e = omega arith
        go (Some o) e = heap_fields v.heap k.ready.sound name o e

-- what is proposed is young
pub young_of : (v : SerialValue) → IsSerial v → IsSome v.workspace.worker.proposal → IsYoung v.heap.graph v.collection.generation (name_of v.workspace.worker.proposal)
young_of v k some =
    let p = some_there v.workspace.worker.proposal some in
    subst (λ o. IsYoung v.heap.graph v.collection.generation (name_of o)) (sym p.1)
    (collected-young v.heap.graph v.collection.generation v.heap.config.shape v.heap.config.block_words 1 (proposed_name p.0) ((ready_of v k).young p.0 p.1))

-- the collection after an act of the worker, in which neither the heap nor the queue had a part
abbrev pub turned : SerialValue → PlainCellsValue → PlainPassValue → SeatValue → WorkspaceValue → SerialValue
turned v cells pass draws new = record v { cells = cells; pass = pass; draws = draws; workspace = new }

pub acted : (v : SerialValue) (act : Act) (cells : PlainCellsValue) (pass : PlainPassValue) (draws : SeatValue) → IsSerial v → CanAct (setting_in v) v.workspace.worker act
    → AreForwarded (turned v cells pass draws (record v.workspace { worker = after (setting_in v) v.workspace.worker act })) → IsSeatOf v.claims.source draws
    → ((h : History) → AreTaken v h → AreTaken v (noted (setting_in v) v.workspace.worker act h))
    → IsSerial (turned v cells pass draws (record v.workspace { worker = after (setting_in v) v.workspace.worker act }))
acted v act cells pass draws k can forwarded seat handed =
    let worked = worked_on v act (after (setting_in v) v.workspace.worker act) k.worked can refl handed in
    record {
      ready = k.ready;
      config = k.config;
      names = k.names;
      claim = k.claim;
      cells = forwarded;
      draws = record { free = k.draws.free; seats = k.draws.seats; seat = seat };
      queue = record { key = k.queue.key; lanes = k.queue.lanes; seat = k.queue.seat; taken = k.queue.taken; labels = k.queue.labels; noted = k.queue.noted };
      worked = record { history = worked.history; run = worked.run; taken = worked.taken };
    }

-- only what a name is won at changes by a win of it
find_other : (es : List (ℕ × ℕ)) (n place q : ℕ) → q ≢ n → find nat_cmp q (es ++ (n, place) ∷ []) ≡ find nat_cmp q es
find_other [] n place q ne = cond-false _ _ _ (unsigned_tied q n ∙ ne_eqb q n ne)
find_other (x ∷ es) n place q ne =
    ⊎_elim
    (λ (e : q ≡ x.0). (let t = unsigned_tied q x.0 ∙ eq-eqb q x.0 e in cond-true _ _ _ t ∙ sym (cond-true _ _ _ t)))
    (λ (m : q ≢ x.0). (let t = unsigned_tied q x.0 ∙ ne_eqb q x.0 m in cond-false _ _ _ t ∙ find_other es n place q ne ∙ sym (cond-false _ _ _ t)))
    (cases_eq q x.0)

-- what is won after a race
abbrev won_by : List (ℕ × ℕ) → Proposal → Option ℕ → List (ℕ × ℕ)
won_by won p lost = if is_some lost then won else won ++ (proposed_name p, proposed_place p) ∷ []

won_after : (w : Worker) (p : Proposal) (lost : Option ℕ) → w.proposal ≡ Some p → (after_race w lost).won ≡ won_by w.won p lost
won_after w p lost e = ap (λ o. (race_of w o lost).won) e ∙ go p lost
  where
    go : (p : Proposal) (lost : Option ℕ) → (race_of w (Some p) lost).won ≡ won_by w.won p lost
    go (Copied copy d) (Some place) = finish_won (Some place) _
    go (Claimed name) (Some place) = finish_won (Some place) _
    go (Copied copy d) None = finish_won (Some copy.place) _
    go (Claimed name) None = finish_won (Some name) _

module _ (v : SerialValue) (k : IsSerial v) (p : Proposal) (proposed : v.workspace.worker.proposal ≡ Some p) where
  abbrev worker : Worker
  worker = v.workspace.worker

  -- where the proposed name stands whose cell shows this
  abbrev stands : Place → ℕ
  stands place = if is_large_name (setting_in v) (proposed_name p) then proposed_name p else place_word place

  fit : ProposalFit (setting_in v) worker (Some p)
  fit = subst (ProposalFit (setting_in v) worker) proposed (sound_of v k).proposal

  stands_first : (first : Place) → stands first ≡ lost_to (place_word first) (Some p)
  stands_first first = go p fit
    where
      go : (q : Proposal) → ProposalFit (setting_in v) worker (Some q) → cond (is_large_name (setting_in v) (proposed_name q)) (proposed_name q) (place_word first) ≡ lost_to (place_word first) (Some q)
      go (Copied copy d) f = cond-false _ _ _ f.small
      go (Claimed name) f = cond-true _ _ _ f.1

  stands_bid : (bid : Place) → IsBid v.workspace.claim worker.proposal bid → stands bid ≡ proposed_place p
  stands_bid bid b = go p fit (subst (λ o. IsBid v.workspace.claim o bid) proposed b)
    where
      go : (q : Proposal) → ProposalFit (setting_in v) worker (Some q) → IsBid v.workspace.claim (Some q) bid → cond (is_large_name (setting_in v) (proposed_name q)) (proposed_name q) (place_word bid) ≡ proposed_place q
      go (Copied copy d) f b = cond-false _ _ _ f.small ∙ b
      go (Claimed name) f b = cond-true _ _ _ f.1

  -- a name has one number
  one_number : (a b : ℕ) → HasNumber v.heap v.collection (proposed_name p) a → HasNumber v.heap v.collection (proposed_name p) b → a ≡ b
  one_number a b x y =
      let n : v.collection.cells ≡ length (young_names v.heap.graph v.collection.generation) = k.ready.opened.cells in
      let la : a < v.collection.cells = x.in_range in
      let lb : b < v.collection.cells = y.in_range in
      same_index (young_names v.heap.graph v.collection.generation) a b (keys-filter_rise v.heap.graph.objects (is_young_name v.heap.graph v.collection.generation)) (omega arith) (omega arith) (x.is ∙ sym y.is)

  module _ (number : ℕ) (of : HasNumber v.heap v.collection (proposed_name p) number) (bid : Place) (is_bid : IsBid v.workspace.claim worker.proposal bid) (cells : PlainCellsValue) where
    -- the race is lost to what was won
    lost_is : (o : Outcome) → RacesTo v.cells number bid o cells → lost_of worker.proposal o ≡ find nat_cmp (proposed_name p) worker.won
    lost_is Won r = sym (ap (cell_of (setting_in v) (Some (proposed_name p))) r.0) ∙ k.cells.shown (proposed_name p) number of
    lost_is (Lost first) r =
        ap (λ q. Some (lost_to (place_word first) q)) proposed ∙ ap Some (sym (stands_first first)) ∙ sym (ap (cell_of (setting_in v) (Some (proposed_name p))) r.0)
        ∙ k.cells.shown (proposed_name p) number of

    abbrev Shows : List (ℕ × ℕ) → Type 0
    Shows won = (name other : ℕ) → HasNumber v.heap v.collection name other → cell_of (setting_in v) (Some name) (place_held cells.held other) ≡ find nat_cmp name won

    shown_after : (o : Outcome) → RacesTo v.cells number bid o cells → Shows (won_by worker.won p (lost_of worker.proposal o))
    shown_after (Lost first) r = subst Old (sym r.1) (λ name other x. k.cells.shown name other x)
      where
        Old : PlainCellsValue → Type 0
        Old c = (name other : ℕ) → HasNumber v.heap v.collection name other → cell_of (setting_in v) (Some name) (place_held c.held other) ≡ find nat_cmp name worker.won
    shown_after Won r = λ name other x. ⊎_elim (same name other x) (others name other x) (cases_eq name (proposed_name p))
      where
        none : find nat_cmp (proposed_name p) worker.won ≡ None
        none = sym (lost_is Won r)

        same : (name other : ℕ) → HasNumber v.heap v.collection name other → name ≡ proposed_name p → cell_of (setting_in v) (Some name) (place_held cells.held other) ≡ find nat_cmp name (worker.won ++ (proposed_name p, proposed_place p) ∷ [])
        same name other x e =
            let y : HasNumber v.heap v.collection (proposed_name p) other = subst (λ n. HasNumber v.heap v.collection n other) e x in
            ap (λ n. cell_of (setting_in v) (Some n) (place_held cells.held other)) e
            ∙ ap (λ i. cell_of (setting_in v) (Some (proposed_name p)) (place_held cells.held i)) (one_number other number y of)
            ∙ ap (cell_of (setting_in v) (Some (proposed_name p))) r.1
            ∙ ap Some (stands_bid bid is_bid)
            ∙ sym (find-new worker.won (proposed_name p) (proposed_place p) none)
            ∙ ap (λ n. find nat_cmp n (worker.won ++ (proposed_name p, proposed_place p) ∷ [])) (sym e)

        others : (name other : ℕ) → HasNumber v.heap v.collection name other → name ≢ proposed_name p → cell_of (setting_in v) (Some name) (place_held cells.held other) ≡ find nat_cmp name (worker.won ++ (proposed_name p, proposed_place p) ∷ [])
        others name other x ne =
            ap (cell_of (setting_in v) (Some name)) (r.2 other (λ e. ne (sym x.is ∙ ap (slice_index (young_names v.heap.graph v.collection.generation)) e ∙ of.is)))
            ∙ k.cells.shown name other x
            ∙ sym (find_other worker.won (proposed_name p) (proposed_place p) name ne)

  module _ (cells : PlainCellsValue) (pass : PlainPassValue) (fits : IsFit cells pass) (count : length cells.held ≡ length v.cells.held) where
    -- what the cell of the proposed name shows
    abbrev shown : Option ℕ
    shown = find nat_cmp (proposed_name p) worker.won

    abbrev raced_to : SerialValue
    raced_to = turned v cells pass v.draws (record v.workspace { worker = after_race worker shown })

    went : Goes (Race 0) v raced_to
    went =
        record {
          heap = refl;
          collection = refl;
          step = record {
            worker = worker;
            at = record { is = refl; awake = refl };
            proposal = p;
            proposed = proposed;
            change = ap (λ won. (let s : System = record (system_of v) { workers = after_race worker shown ∷ []; forwarded = won } in s)) (won_after worker p shown proposed);
          };
        }

    pub raced : (new : WorkspaceValue) → Races v.heap v.collection (λ number at o. RacesTo v.cells number at o cells) (known_by v.pass) (known_by pass) v.pass.won pass.won v.workspace new
        → IsSerial (turned v cells pass v.draws new) × Goes (Race 0) v (turned v cells pass v.draws new)
    raced new r = subst (λ (w : WorkspaceValue). IsSerial (turned v cells pass v.draws w) × Goes (Race 0) v (turned v cells pass v.draws w)) (sym new_is) (kept, went)
      where
        of : HasNumber v.heap v.collection (proposed_name p) r.ends.number
        of = subst (λ n. HasNumber v.heap v.collection n r.ends.number) (ap name_of proposed) r.ends.of

        lost : lost_of worker.proposal r.outcome ≡ shown
        lost = lost_is r.ends.number of r.bid r.fits cells r.outcome r.ends.given

        new_is : new ≡ record v.workspace { worker = after_race worker shown }
        new_is = r.worker ∙ ap (λ o. (let n : WorkspaceValue = record v.workspace { worker = after_race worker o } in n)) lost

        as_many : (number : ℕ) (place : Place) (o : Outcome) → RacesTo v.cells number place o cells → cells.passes ≡ v.cells.passes
        as_many number place Won given = given.3
        as_many number place (Lost first) given = ap (λ (x : PlainCellsValue). x.passes) given.1

        won_is : won_by worker.won p (lost_of worker.proposal r.outcome) ≡ (after_race worker shown).won
        won_is = ap (won_by worker.won p) lost ∙ sym (won_after worker p shown proposed)

        kept : IsSerial raced_to
        kept =
            acted v (Raced shown) cells pass v.draws k (ap is_some proposed)
            (record {
              fits = fits;
              passes = as_many r.ends.number r.bid r.outcome r.ends.given ∙ k.cells.passes;
              count = count ∙ k.cells.count;
              shown = subst (Shows r.ends.number of r.bid r.fits cells) won_is (shown_after r.ends.number of r.bid r.fits cells r.outcome r.ends.given);
            })
            k.draws.seat (λ h t. t)

-- the call's answer: a race, or nothing
module _ (v : SerialValue) (k : IsSerial v) (some : IsSome v.workspace.worker.proposal) (heap : HeapValue) (c : CollectionValue) (same_heap : heap ≡ v.heap) (same_collection : c ≡ v.collection)
    (cells : PlainCellsValue) (pass : PlainPassValue) (new : WorkspaceValue) (fits : IsFit cells pass) (count : length cells.held ≡ length v.cells.held) where
  abbrev RacesOn : HeapValue → CollectionValue → Type 0
  RacesOn h d = Races h d (λ number at o. RacesTo v.cells number at o cells) (known_by v.pass) (known_by pass) v.pass.won pass.won v.workspace new

  pub race_goes : RacesOn heap c → IsSerial (turned v cells pass v.draws new) × Goes (Race 0) v (turned v cells pass v.draws new)
  race_goes r =
      let p = some_there v.workspace.worker.proposal some in
      raced v k p.0 p.1 cells pass fits count new (subst (RacesOn v.heap) same_collection (subst (λ h. RacesOn h c) same_heap r))

  pub race_keeps : {X E : Type 0} (r : Result X E) → OnOk r (RacesOn heap c) → OnErr r ((new ≡ v.workspace) × (cells ≡ v.cells) × (pass ≡ v.pass)) → IsSerial (turned v cells pass v.draws new)
  race_keeps (Ok x) ok err = (race_goes ok).0
  race_keeps (Err x) ok err =
      subst (λ (w : WorkspaceValue). IsSerial (turned v cells pass v.draws w)) (sym err.0)
      (subst (λ (cs : PlainCellsValue). IsSerial (turned v cs pass v.draws v.workspace)) (sym err.1)
      (subst (λ (q : PlainPassValue). IsSerial (turned v v.cells q v.draws v.workspace)) (sym err.2) k))

pub on_ok : {X E P Q : Type 0} (r : Result X E) → (P → Q) → OnOk r P → OnOk r Q
on_ok (Ok x) f p = f p
on_ok (Err x) f p = p

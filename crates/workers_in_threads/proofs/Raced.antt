-- What a worker knows and won after a race, as the cells ended it.
use Rattle.std.proofs.Common.{◌≡◌, ℕ, ◌<◌, ◌≤◌, List, [], ◌∷◌, ◌++◌, All, Option, Some, None, Result, Ok, Err, sym, ap, subst, ◌∙◌, is_some}
use Rattle.std.proofs.lemmas.Bool.{cond-true, cond-false}
use Rattle.std.proofs.lemmas.List.{map-append}
use Rattle.std.proofs.lemmas.List.Elements.{All-push}
use Rattle.std.specs.Prelude.{IsSome, OnOk, OnErr, if◌then◌else◌}
use Rattle.layout.specs.declared.place.Place.{Place}
use Rattle.layout.specs.Place.{place_word}
use Rattle.forwarding.specs.declared.cells.outcome.Outcome.{Outcome}
use Rattle.forwarding.specs.declared.cells.outcome.Outcome.TheVariants.{Won, Lost}
use Rattle.forwarding.specs.Learned.{RaceEnds, Learns, place_after}
use Rattle.workers.specs.Worker.{Worker, Proposal, Copied, Claimed}
use Rattle.workers.specs.WorkerSteps.{race_of, after_race}
use Rattle.workers.specs.WorkerRun.{Raced, proposed_name, proposed_place, known_by_race, noted, go}
use Rattle.workers.specs.Joined.{Each}
use Rattle.workers.proofs.Acts.{ProposalFit}
use Rattle.scavenge.specs.Shown.{WorkspaceValue, lost_to, IsBid, name_of}
use Rattle.heap.specs.Found.{HasNumber}
use Rattle.scavenge.specs.Told.{lost_of}
use Rattle.scavenge.specs.Told as told
use Rattle.scavenge.proofs.Unchanged.{some_there, finish_won}
use Rattle.workers_in_threads.specs.SharingValue.{SharingValue, setting_in, forwarded_at, forwarded_in, stands_at}
use Rattle.workers_in_threads.specs.IsSharing.{IsSharing, HasWorked, KnowsPair}
use Rattle.workers_in_threads.specs.Sharing as sharing
use Rattle.workers_in_threads.proofs.Knowing.{pair_still, each_on}
use Rattle.workers_in_threads.proofs.Readiness.{sound_of}
use Rattle.workers_in_threads.proofs.Looked.{turned, turned_is}

-- what is won after a race
abbrev won_by : List (ℕ × ℕ) → Proposal → Option ℕ → List (ℕ × ℕ)
won_by won p lost = if is_some lost then won else won ++ (proposed_name p, proposed_place p) ∷ []

won_after : (w : Worker) (p : Proposal) (lost : Option ℕ) → w.proposal ≡ Some p → (after_race w lost).won ≡ won_by w.won p lost
won_after w p lost e = ap (λ o. (race_of w o lost).won) e ∙ go_on p lost
  where
    go_on : (p : Proposal) (lost : Option ℕ) → (race_of w (Some p) lost).won ≡ won_by w.won p lost
    go_on (Copied copy d) (Some place) = finish_won (Some place) _
    go_on (Claimed name) (Some place) = finish_won (Some place) _
    go_on (Copied copy d) None = finish_won (Some copy.place) _
    go_on (Claimed name) None = finish_won (Some name) _

module _ {C P A : Type 0} (fits : C → P → Type 0) (limit : C → ℕ) (known : P → ℕ → Option Place) (won : P → List (ℕ × Place)) (v : SharingValue C P A) (k : IsSharing fits limit known won v) (p : Proposal) (proposed : v.workspace.worker.proposal ≡ Some p) where
  abbrev worker : Worker
  worker = v.workspace.worker

  fit : ProposalFit (setting_in v) worker (Some p)
  fit = subst (ProposalFit (setting_in v) worker) proposed (sound_of v.heap v.collection k.ready v.workers v.seat.index (known v.pass) (won v.pass) v.draws v.seat worker k.worked).proposal

  stands_first : (first : Place) → lost_to (place_word first) (Some p) ≡ stands_at v.heap v.collection (proposed_name p) first
  stands_first first = by p fit
    where
      by : (q : Proposal) → ProposalFit (setting_in v) worker (Some q) → lost_to (place_word first) (Some q) ≡ stands_at v.heap v.collection (proposed_name q) first
      by (Copied copy d) f = sym (cond-false _ _ _ f.small)
      by (Claimed name) f = sym (cond-true _ _ _ f.1)

  stands_bid : (bid : Place) → IsBid v.workspace.claim worker.proposal bid → proposed_place p ≡ stands_at v.heap v.collection (proposed_name p) bid
  stands_bid bid b = by p fit (subst (λ o. IsBid v.workspace.claim o bid) proposed b)
    where
      by : (q : Proposal) → ProposalFit (setting_in v) worker (Some q) → IsBid v.workspace.claim (Some q) bid → proposed_place q ≡ stands_at v.heap v.collection (proposed_name q) bid
      by (Copied copy d) f b = sym (cond-false _ _ _ f.small ∙ b)
      by (Claimed name) f b = sym (cond-true _ _ _ f.1)

  module _ (old new : ℕ → Option Place) (old_won new_won : List (ℕ × Place)) (number : ℕ) (of : HasNumber v.heap v.collection (proposed_name p) number) (bid : Place) (is_bid : IsBid v.workspace.claim worker.proposal bid) where
    forwards : forwarded_at v.heap v.collection (number, bid) ≡ (proposed_name p, proposed_place p)
    forwards =
        ap (λ name. (name, stands_at v.heap v.collection name bid)) of.is
        ∙ ap (λ place. (proposed_name p, place)) (sym (stands_bid bid is_bid))

    won_forwarded : (o : Outcome) → RaceEnds (old number) old_won new_won number bid o → forwarded_in v.heap v.collection old_won ≡ worker.won → forwarded_in v.heap v.collection new_won ≡ (after_race worker (lost_of worker.proposal o)).won
    won_forwarded Won r same =
        ap (forwarded_in v.heap v.collection) r.1
        ∙ map-append (forwarded_at v.heap v.collection) old_won ((number, bid) ∷ [])
        ∙ ap (λ e. forwarded_in v.heap v.collection old_won ++ e ∷ []) forwards
        ∙ ap (λ es. es ++ (proposed_name p, proposed_place p) ∷ []) same
        ∙ sym (won_after worker p None proposed)
    won_forwarded (Lost first) r same = ap (forwarded_in v.heap v.collection) r ∙ same ∙ sym (ap (λ o. (after_race worker (Some (lost_to (place_word first) o))).won) proposed ∙ won_after worker p (Some (lost_to (place_word first) (Some p))) proposed)

    numbers_after : (o : Outcome) → RaceEnds (old number) old_won new_won number bid o → All (λ e. e.0 < v.collection.cells) old_won → All (λ e. e.0 < v.collection.cells) new_won
    numbers_after Won r each = subst (All (λ e. e.0 < v.collection.cells)) (sym r.1) (All-push (λ (e : ℕ × Place). e.0 < v.collection.cells) old_won (number, bid) each of.in_range)
    numbers_after (Lost first) r each = subst (All (λ e. e.0 < v.collection.cells)) (sym r) each

    knows_after : (o : Outcome) (ps : List (ℕ × ℕ)) → Learns old new number (Some (place_after o bid)) → Each (KnowsPair v.heap v.collection old) ps → Each (KnowsPair v.heap v.collection new) (known_by_race worker.proposal (lost_of worker.proposal o) ps)
    knows_after o ps l each = subst (λ q. Each (KnowsPair v.heap v.collection new) (known_by_race q (lost_of q o) ps)) (sym proposed) (by o l)
      where
        rest : (o : Outcome) → Learns old new number (Some (place_after o bid)) → Each (KnowsPair v.heap v.collection new) ps
        rest o l = each_on (KnowsPair v.heap v.collection old) (KnowsPair v.heap v.collection new) (pair_still v.heap v.collection old new number (Some (place_after o bid)) l) ps each

        by : (o : Outcome) → Learns old new number (Some (place_after o bid)) → Each (KnowsPair v.heap v.collection new) (known_by_race (Some p) (lost_of (Some p) o) ps)
        by Won l = (record { number = number; of = of; place = bid; shown = l.told; stands = stands_bid bid is_bid }, rest Won l)
        by (Lost first) l = (record { number = number; of = of; place = first; shown = l.told; stands = stands_first first }, rest (Lost first) l)

  module _ (gives : ℕ → Place → Outcome → Type 0) (cells : C) (pass : P) (is_fit : fits cells pass) (few : v.collection.cells ≤ limit cells) (new : WorkspaceValue)
      (r : told.Races v.heap v.collection gives (known v.pass) (known pass) (won v.pass) (won pass) v.workspace new) where
    of : HasNumber v.heap v.collection (proposed_name p) r.ends.number
    of = subst (λ n. HasNumber v.heap v.collection n r.ends.number) (ap name_of proposed) r.ends.of

    abbrev lost : Option ℕ
    lost = lost_of worker.proposal r.outcome

    raced_worked : HasWorked v.heap v.collection v.workers v.seat.index (known pass) (won pass) v.draws v.seat (after_race worker lost)
    raced_worked =
        record {
          history = noted (setting_in v) worker (Raced lost) k.worked.history;
          run = go (Raced lost) k.worked.run (ap is_some proposed);
          turns = (tt, k.worked.turns);
          handed = k.worked.handed;
          knows = knows_after (known v.pass) (known pass) (won v.pass) (won pass) r.ends.number of r.bid r.fits r.outcome k.worked.history.known r.ends.learns k.worked.knows;
          won_are = won_forwarded (known v.pass) (known pass) (won v.pass) (won pass) r.ends.number of r.bid r.fits r.outcome r.ends.won k.worked.won_are;
          numbers = numbers_after (known v.pass) (known pass) (won v.pass) (won pass) r.ends.number of r.bid r.fits r.outcome r.ends.won k.worked.numbers;
          drawn = k.worked.drawn;
          exported = k.worked.exported;
          taken = k.worked.taken;
        }

    pub raced : IsSharing fits limit known won (turned fits limit known won (λ _ _. Unit {0}) v cells pass v.draws new) × sharing.Races v (turned fits limit known won (λ _ _. Unit {0}) v cells pass v.draws new)
    raced = (
      turned_is fits limit known won (λ _ _. Unit {0}) v k cells pass v.draws is_fit few k.draws new (ap (λ (w : WorkspaceValue). w.config) r.worker) (ap (λ (w : WorkspaceValue). w.names) r.worker)
          (subst (HasWorked v.heap v.collection v.workers v.seat.index (known pass) (won pass) v.draws v.seat) (sym (ap (λ (w : WorkspaceValue). w.worker) r.worker)) raced_worked),
      record { lost = lost; acts = ap (λ (w : WorkspaceValue). w.worker) r.worker },
    )

-- the call's answer: a race, or nothing
module _ {C P A : Type 0} (fits : C → P → Type 0) (limit : C → ℕ) (known : P → ℕ → Option Place) (won : P → List (ℕ × Place)) (v : SharingValue C P A) (k : IsSharing fits limit known won v) (some : IsSome v.workspace.worker.proposal) (gives : ℕ → Place → Outcome → Type 0)
    (cells : C) (pass : P) (is_fit : fits cells pass) (new : WorkspaceValue) where
  pub race_keeps : {X E : Type 0} (r : Result X E) → v.collection.cells ≤ limit cells → OnOk r (told.Races v.heap v.collection gives (known v.pass) (known pass) (won v.pass) (won pass) v.workspace new)
      → OnErr r ((new ≡ v.workspace) × (cells ≡ v.cells) × (pass ≡ v.pass)) → IsSharing fits limit known won (turned fits limit known won (λ _ _. Unit {0}) v cells pass v.draws new)
  race_keeps (Ok x) few ok err = let p = some_there v.workspace.worker.proposal some in (raced fits limit known won v k p.0 p.1 gives cells pass is_fit few new ok).0
  race_keeps (Err x) few ok err =
      subst (λ w. IsSharing fits limit known won (turned fits limit known won (λ _ _. Unit {0}) v cells pass v.draws w)) (sym err.0)
      (subst (λ cs. IsSharing fits limit known won (turned fits limit known won (λ _ _. Unit {0}) v cs pass v.draws v.workspace)) (sym err.1)
      (subst (λ q. IsSharing fits limit known won (turned fits limit known won (λ _ _. Unit {0}) v v.cells q v.draws v.workspace)) (sym err.2) k))

  pub race_does : v.collection.cells ≤ limit cells → told.Races v.heap v.collection gives (known v.pass) (known pass) (won v.pass) (won pass) v.workspace new → sharing.Races v (turned fits limit known won (λ _ _. Unit {0}) v cells pass v.draws new)
  race_does few r = let p = some_there v.workspace.worker.proposal some in (raced fits limit known won v k p.0 p.1 gives cells pass is_fit few new r).1

-- What a worker does, act by act, as moves.
use Rattle.std.proofs.Common.{◌≡◌, ◌≢◌, ℕ, ◌+◌, ◌/◌, ◌<◌, ◌≤◌, Bool, true, false, List, [], ◌∷◌, ◌++◌, Option, Some, None, refl, sym, ap, subst, ◌∙◌, ⊎_elim, set, cond, length, arith, true≢false, not, ◌&&◌, ltb-false, leb-false, eqb-true, eq-eqb, le-leb, is_some}
use Rattle.std.proofs.lemmas.Bool.{cases_eq}
use Rattle.std.specs.Prelude.{if◌then◌else◌, IsSome}
use Rattle.std.specs.Option.{option_and_then, option_map, option_map_or}
use Rattle.model.specs.Graph.{Object, size_of, is_large}
use Rattle.workers.specs.Block.{Block, Copy, used_words, empty_block, has_unscanned, front_copy, updated, with_copy, with_front_moved}
use Rattle.workers.specs.Setting.{Setting, old_field, is_collected, is_large_name, destination_of, copy_into, fits_in}
use Rattle.workers.specs.Worker.{Worker, Proposal, Copied, Claimed, Hand, Nothing, Open, Holding, HoldingLarge, allocation_at, current_in, current_object}
use Rattle.workers.specs.WorkerSteps.{slot_of_starts, current_slot, collected_target, cell_wanted, write_hand, finish_first, finish_slot, is_open_at, retired, with_new_block, propose_into, propose_copy, look_at, look_slot, after_look, race_of, after_race, scan_open, scan_hand, log_scan, after_scan, without_oldest, after_take, after_own, claim_first, CanScan, IsFree, has_open_work}
use Rattle.workers.specs.WorkerRun.{WorkerRun, stay, go, Act, Looked, Raced, Scanned, Exported, Took, Owned, OwnedLarge, after, CanAct, History, no_history, noted, noted_look, known_by_race, first_alone}
use Rattle.workers.specs.Joined.{Roomy}
use Rattle.workers.proofs.Lists.{OnSome, at, mapped, at-updated_same, at-updated_other, at-set_either, at-set_other, none-some}
use Rattle.workers.proofs.Moves.{Move, Moves, none, more, learns, proposes, finishes, writes_open, writes_held, writes_large, draws, retires_open, retires_aside, retires_done, copies, claims, scans_open_more, scans_open_last, scans_held_more, scans_held_last, scans_large, exports, takes, owns, owns_large, moves-append, HandFit, Fit, name_place, front_of, front_there, front-copy, Wrote, WroteTo, move_fit, moves_fit, destinations, IsFullBlock}

pub record CopyFit (setting : Setting) (w : Worker) (copy : Copy) (d : ℕ) : Type 0 where
  pub wanted : cell_wanted setting w ≡ Some copy.name
  pub block : Block
  pub there : allocation_at w d ≡ Some block
  pub made : copy ≡ copy_into setting block copy.name
  pub goes : d ≡ destination_of setting copy.name
  pub small : is_large_name setting copy.name ≡ false
  pub fits : fits_in setting copy.name (Some block) ≡ true

abbrev pub ProposalFit : Setting → Worker → Option Proposal → Type 0
ProposalFit setting w None = Unit {0}
ProposalFit setting w (Some (Copied copy d)) = CopyFit setting w copy d
ProposalFit setting w (Some (Claimed n)) = (cell_wanted setting w ≡ Some n) × (is_large_name setting n ≡ true)

-- a move or more, and what is proposed then
pub record Stepped (setting : Setting) (w : Worker) (h : History) (w' : Worker) (h' : History) : Type 0 where
  pub moves : Moves setting w h w' h'
  pub proposal : ProposalFit setting w' w'.proposal

some_same : {A : Type 0} {x y : A} → Some x ≡ Some y → x ≡ y
some_same e = cc

pub is_open-true : (d : ℕ) (hand : Hand) → is_open_at d hand ≡ true → hand ≡ Open d
is_open-true d Nothing e = absurd (true≢false (sym e))
is_open-true d (Open x) e = ap Open (sym (eqb-true d x e))
is_open-true d (Holding b) e = absurd (true≢false (sym e))
is_open-true d (HoldingLarge n) e = absurd (true≢false (sym e))

pub is_open-false : (d : ℕ) (hand : Hand) → is_open_at d hand ≡ false → hand ≢ Open d
is_open-false d hand e p = true≢false (sym (eq-eqb d d refl) ∙ ap (is_open_at d) (sym p) ∙ e)

is_some-there : {A : Type 0} (o : Option A) → is_some o ≡ true → (x : A) × (o ≡ Some x)
is_some-there None e = absurd (true≢false (sym e))
is_some-there (Some x) e = (x, refl)

module _ (setting : Setting) where
  -- the current slot is finished
  finish_moves : (w : Worker) (h : History) (o v : Option ℕ) → Fit w → current_slot setting w ≡ Some o → Wrote setting h.known o v → Moves setting w h (finish_slot v w) h
  finish_moves w h o v f e q = on_starts w.starts refl e
    where
      on_hand : (hand : Hand) → w.hand ≡ hand → option_and_then (λ c. old_field setting c.0 w.fields) (current_in w hand) ≡ Some o → Moves setting w h (write_hand v w hand) h
      on_hand Nothing p s = absurd (none-some s)
      on_hand (Open d) p s =
          let x : HandFit w (Open d) = subst (HandFit w) p f in
          let c = front_there x.0 x.1.1 in
          let r : option_and_then (λ y. old_field setting y.0 w.fields) (front_of (allocation_at w d)) ≡ old_field setting c.0.name w.fields = ap (λ y. option_and_then (λ z. old_field setting z.0 w.fields) (front_of y)) x.1.0 ∙ ap (λ y. option_and_then (λ z. old_field setting z.0 w.fields) (option_map name_place y)) c.1 in
          more none (writes_open d x.0 c.0 o v p x.1.0 c.1 (sym r ∙ s) q)
      on_hand (Holding b) p s =
          let u : HandFit w (Holding b) = subst (HandFit w) p f in
          let c = front_there b u in
          let r : option_and_then (λ y. old_field setting y.0 w.fields) (option_map name_place (front_copy b)) ≡ old_field setting c.0.name w.fields = ap (λ y. option_and_then (λ z. old_field setting z.0 w.fields) (option_map name_place y)) c.1 in
          more none (writes_held b c.0 o v p c.1 (sym r ∙ s) q)
      on_hand (HoldingLarge n) p s = more none (writes_large n o v p s q)

      on_starts : (xs : List ℕ) → w.starts ≡ xs → slot_of_starts setting (current_object w) w.fields xs ≡ Some o → Moves setting w h (finish_first v w xs) h
      on_starts [] p s = on_hand w.hand refl s
      on_starts (t ∷ ts) p s = more none (finishes t ts v p (subst (λ x. Wrote setting h.known x v) (sym (some_same s)) q))

  finish-proposal : (v : Option ℕ) (w : Worker) → (finish_slot v w).proposal ≡ w.proposal
  finish-proposal v w = on_starts w.starts
    where
      on_hand : (hand : Hand) → (write_hand v w hand).proposal ≡ w.proposal
      on_hand Nothing = refl
      on_hand (Open d) = refl
      on_hand (Holding b) = refl
      on_hand (HoldingLarge n) = refl

      on_starts : (xs : List ℕ) → (finish_first v w xs).proposal ≡ w.proposal
      on_starts [] = on_hand w.hand
      on_starts (t ∷ ts) = refl

  finished : (w : Worker) (h : History) (o v : Option ℕ) → Fit w → w.proposal ≡ None → current_slot setting w ≡ Some o → Wrote setting h.known o v → Stepped setting w h (finish_slot v w) h
  finished w h o v f n e q = record { moves = finish_moves w h o v f e q; proposal = subst (ProposalFit setting (finish_slot v w)) (sym (finish-proposal v w ∙ n)) tt }

  pub record NewBlock (w : Worker) (h : History) (d number : ℕ) (w' : Worker) : Type 0 where
    pub move : Move setting w h w' (record h { drawn = h.drawn ++ number ∷ [] })
    pub current : current_object w' ≡ current_object w
    pub starts : w'.starts ≡ w.starts
    pub fields : w'.fields ≡ w.fields
    pub proposal : w'.proposal ≡ w.proposal
    pub empty : OnSome (λ b. b ≡ empty_block number d) (allocation_at w' d)

  current-set : (w : Worker) (d : ℕ) (v : Option Block) (hand : Hand) → hand ≢ Open d → current_in (record w { allocation = set w.allocation d v }) hand ≡ current_in w hand
  current-set w d v Nothing ne = refl
  current-set w d v (Open e) ne = ap front_of (at-set_other w.allocation d e v (λ p. ne (ap Open p)))
  current-set w d v (Holding b) ne = refl
  current-set w d v (HoldingLarge n) ne = refl

  new_block : (w : Worker) (h : History) (d number : ℕ) → Fit w → OnSome (IsFullBlock setting) (allocation_at w d) → d < length w.allocation → NewBlock w h d number (with_new_block w d number)
  new_block w h d number f full rg = go (allocation_at w d) refl
    where
      fresh : OnSome (λ b. b ≡ empty_block number d) (at (set w.allocation d (Some (empty_block number d))) d)
      fresh = at-set_either (OnSome (λ b. b ≡ empty_block number d)) w.allocation d (Some (empty_block number d)) refl tt

      go : (o : Option Block) → allocation_at w d ≡ o → NewBlock w h d number (record (retired w d o) { allocation = set w.allocation d (Some (empty_block number d)) })
      go None a =
          let ne : w.hand ≢ Open d = λ p. (let x : HandFit w (Open d) = subst (HandFit w) p f in none-some (sym a ∙ x.1.0)) in
          record { move = draws d number a rg; current = current-set w d _ w.hand ne; starts = refl; fields = refl; proposal = refl; empty = fresh }
      go (Some b) a = on (is_open_at d w.hand) refl
        where
          fu : IsFullBlock setting b
          fu = subst (OnSome (IsFullBlock setting)) a full

          on2 : w.hand ≢ Open d → (x : Bool) → has_unscanned b ≡ x → NewBlock w h d number (record (cond x (record w { aside = w.aside ++ b ∷ [] }) (record w { done = w.done ++ b ∷ [] })) { allocation = set w.allocation d (Some (empty_block number d)) })
          on2 ne true u = record { move = retires_aside d number b a ne u fu; current = current-set w d _ w.hand ne; starts = refl; fields = refl; proposal = refl; empty = fresh }
          on2 ne false u = record { move = retires_done d number b a ne u fu; current = current-set w d _ w.hand ne; starts = refl; fields = refl; proposal = refl; empty = fresh }

          on : (x : Bool) → is_open_at d w.hand ≡ x → NewBlock w h d number (record (cond x (record w { hand = Holding b }) (cond (has_unscanned b) (record w { aside = w.aside ++ b ∷ [] }) (record w { done = w.done ++ b ∷ [] }))) { allocation = set w.allocation d (Some (empty_block number d)) })
          on true e =
              let p = is_open-true d w.hand e in
              record { move = retires_open d number b a p fu; current = sym (ap (current_in w) p ∙ ap front_of a); starts = refl; fields = refl; proposal = refl; empty = fresh }
          on false e = on2 (is_open-false d w.hand e) (has_unscanned b) refl

  slot-same : (w w' : Worker) → current_object w' ≡ current_object w → w'.starts ≡ w.starts → w'.fields ≡ w.fields → current_slot setting w' ≡ current_slot setting w
  slot-same w w' c s k = ap (λ x. slot_of_starts setting x w'.fields w'.starts) c ∙ ap (λ x. slot_of_starts setting (current_object w) x w'.starts) k ∙ ap (slot_of_starts setting (current_object w) w.fields) s

  -- a small object fits in an empty block
  small-fits : (name number d : ℕ) → is_large_name setting name ≡ false → fits_in setting name (Some (empty_block number d)) ≡ true
  small-fits name number d l = le-leb _ _ (on (setting.object name) l)
    where
      on : (o : Option Object) → option_map_or (is_large setting.block_words) o false ≡ false → 0 + option_map_or size_of o 0 ≤ setting.block_words
      on None e = omega arith
      on (Some o) e = let k : size_of o ≤ setting.block_words / 4 = ltb-false _ _ e in omega arith

  -- where a small object doesn't fit, the block is full
  pub not-fits-full : (name : ℕ) (o : Option Block) → is_large_name setting name ≡ false → fits_in setting name o ≡ false → OnSome (IsFullBlock setting) o
  not-fits-full name None l z = tt
  not-fits-full name (Some b) l z = on (setting.object name) l (leb-false _ _ z)
    where
      on : (o : Option Object) → option_map_or (is_large setting.block_words) o false ≡ false → setting.block_words < used_words b + option_map_or size_of o 0 → IsFullBlock setting b
      on None e f = omega arith
      on (Some o) e f = let k : size_of o ≤ setting.block_words / 4 = ltb-false _ _ e in omega arith

  look_moves : (w : Worker) (cell : Option ℕ) (number : ℕ) (h : History) → Fit w → Roomy setting w → w.proposal ≡ None → IsSome (current_slot setting w) → Stepped setting w h (after_look setting w cell number) (noted setting w (Looked cell number) h)
  look_moves w cell number h f room n i = go (current_slot setting w) refl i
    where
      go : (o : Option (Option ℕ)) → current_slot setting w ≡ o → IsSome o → Stepped setting w h (look_slot setting w cell number o) (noted_look setting w cell number (collected_target setting o) h)
      go None e i = absurd (true≢false (sym i))
      go (Some None) e i = finished w h None None f n e refl
      go (Some (Some name)) e i = on (is_collected setting name) refl
        where
          d : ℕ
          d = destination_of setting name

          on_cell : is_collected setting name ≡ true → (cell' : Option ℕ) → Stepped setting w h (look_at setting w cell' number name) (noted_look setting w cell' number (Some name) h)
          on_cell y (Some place) =
              let k : History = record h { known = (name, place) ∷ h.known } in
              let s = finished w k (Some name) (Some place) f n e (subst (λ z. WroteTo z k.known name (Some place)) (sym y) (place, (h.known, (refl, refl)))) in
              record { moves = moves-append (more none (learns name place y)) s.moves; proposal = s.proposal }
          on_cell y None = on_large (is_large_name setting name) refl
            where
              wanted : cell_wanted setting w ≡ Some name
              wanted = ap (collected_target setting) e ∙ ap (λ z. cond z (Some name) None) y

              on_block : (o : Option Block) → allocation_at w (destination_of setting name) ≡ o → is_large_name setting name ≡ false → fits_in setting name o ≡ true → Stepped setting w h (propose_into setting w name (destination_of setting name) o) h
              on_block None a l z = absurd (true≢false (sym z))
              on_block (Some b) a l z = record { moves = more none (proposes _); proposal = record { wanted = wanted; block = b; there = a; made = refl; goes = refl; small = l; fits = z } }

              on_new : (w' : Worker) (new : NewBlock w h (destination_of setting name) number w') → is_large_name setting name ≡ false → (o : Option Block) → allocation_at w' (destination_of setting name) ≡ o → OnSome (λ b. b ≡ empty_block number (destination_of setting name)) o → Stepped setting w h (propose_into setting w' name (destination_of setting name) o) (record h { drawn = h.drawn ++ number ∷ [] })
              on_new w' new l None a z = record { moves = more none new.move; proposal = subst (ProposalFit setting w') (sym (new.proposal ∙ n)) tt }
              on_new w' new l (Some b) a z =
                  record {
                    moves = more (more none new.move) (proposes _);
                    proposal = record { wanted = ap (collected_target setting) (slot-same w w' new.current new.starts new.fields) ∙ wanted; block = b; there = a; made = refl; goes = refl; small = l; fits = subst (λ x. fits_in setting name (Some x) ≡ true) (sym z) (small-fits name number (destination_of setting name) l) };
                  }

              on_fits : is_large_name setting name ≡ false → (z : Bool) → fits_in setting name (allocation_at w (destination_of setting name)) ≡ z → Stepped setting w h (propose_copy setting (cond (not z) (with_new_block w (destination_of setting name) number) w) name (destination_of setting name)) (record h { drawn = cond (not z) (h.drawn ++ number ∷ []) h.drawn })
              on_fits l true e = on_block (allocation_at w (destination_of setting name)) refl l e
              on_fits l false e = let new = new_block w h (destination_of setting name) number f (not-fits-full name (allocation_at w (destination_of setting name)) l e) (room name y) in on_new (with_new_block w (destination_of setting name) number) new l (allocation_at (with_new_block w (destination_of setting name) number) (destination_of setting name)) refl new.empty

              on_large : (l : Bool) → is_large_name setting name ≡ l → Stepped setting w h (cond l (record w { proposal = Some (Claimed name) }) (propose_copy setting (cond (not l && not (fits_in setting name (allocation_at w (destination_of setting name)))) (with_new_block w (destination_of setting name) number) w) name (destination_of setting name))) (record h { drawn = cond (not l && not (fits_in setting name (allocation_at w (destination_of setting name)))) (h.drawn ++ number ∷ []) h.drawn })
              on_large true l = record { moves = more none (proposes _); proposal = (wanted, l) }
              on_large false l = on_fits l (fits_in setting name (allocation_at w (destination_of setting name))) refl

          on : (y : Bool) → is_collected setting name ≡ y → Stepped setting w h (cond y (look_at setting w cell number name) (finish_slot (Some name) w)) (noted_look setting w cell number (cond y (Some name) None) h)
          on true y = on_cell y cell
          on false y = finished w h (Some name) (Some name) f n e (subst (λ z. WroteTo z h.known name (Some name)) (sym y) refl)

  -- the slot of a wanted cell
  pub wanted-slot : (o : Option (Option ℕ)) (n : ℕ) → collected_target setting o ≡ Some n → (o ≡ Some (Some n)) × (is_collected setting n ≡ true)
  wanted-slot None n e = absurd (none-some e)
  wanted-slot (Some None) n e = absurd (none-some e)
  wanted-slot (Some (Some t)) n e = on (is_collected setting t) refl e
    where
      on : (y : Bool) → is_collected setting t ≡ y → cond y (Some t) None ≡ Some n → (Some (Some t) ≡ Some (Some n)) × (is_collected setting n ≡ true)
      on true y s = (ap Some s, subst (λ z. is_collected setting z ≡ true) (some_same s) y)
      on false y s = absurd (none-some s)

  current-joins : (w : Worker) (d : ℕ) (copy : Copy) (hand : Hand) → HandFit w hand → current_in (record w { allocation = updated (mapped (with_copy copy)) w.allocation d }) hand ≡ current_in w hand
  current-joins w d copy Nothing f = refl
  current-joins w d copy (Open e) f =
      ⊎_elim
      (λ (p : e ≡ d).
      let s : at w.allocation d ≡ Some f.0 = ap (at w.allocation) (sym p) ∙ f.1.0 in
      ap (λ x. front_of (at (updated (mapped (with_copy copy)) w.allocation d) x)) p
      ∙ ap front_of (at-updated_same (with_copy copy) w.allocation d ∙ ap (mapped (with_copy copy)) s)
      ∙ ap (option_map name_place) (front-copy copy f.0 f.1.1)
      ∙ sym (ap front_of f.1.0))
      (λ (n : e ≢ d). ap front_of (at-updated_other (with_copy copy) w.allocation d e n))
      (cases_eq e d)
  current-joins w d copy (Holding b) f = refl
  current-joins w d copy (HoldingLarge n) f = refl

  race_moves : (w : Worker) (lost : Option ℕ) (h : History) → Fit w → ProposalFit setting w w.proposal → IsSome w.proposal → Stepped setting w h (after_race w lost) (noted setting w (Raced lost) h)
  race_moves w lost h f q i = go w.proposal lost q i
    where
      free : Worker
      free = record w { proposal = None }

      wrote : (known : List (ℕ × ℕ)) (n place : ℕ) → is_collected setting n ≡ true → Wrote setting ((n, place) ∷ known) (Some n) (Some place)
      wrote known n place y = subst (λ z. WroteTo z ((n, place) ∷ known) n (Some place)) (sym y) (place, (known, (refl, refl)))

      loses : (n place : ℕ) → cell_wanted setting w ≡ Some n → Stepped setting w h (finish_slot (Some place) (record w { proposal = None })) (record h { known = (n, place) ∷ h.known })
      loses n place c =
          let s = wanted-slot (current_slot setting w) n c in
          let k : History = record h { known = (n, place) ∷ h.known } in
          let r = finished (record w { proposal = None }) k (Some n) (Some place) f refl s.0 (wrote h.known n place s.1) in
          record { moves = moves-append (more (more none (learns n place s.1)) (proposes None)) r.moves; proposal = r.proposal }

      go : (o : Option Proposal) (lost : Option ℕ) → ProposalFit setting w o → IsSome o → Stepped setting w h (race_of w o lost) (record h { known = known_by_race o lost h.known })
      go None lost q i = absurd (true≢false (sym i))
      go (Some (Copied copy d)) (Some place) q i = loses copy.name place q.wanted
      go (Some (Claimed n)) (Some place) q i = loses n place q.0
      go (Some (Copied copy d)) None q i =
          let s = wanted-slot (current_slot setting w) copy.name q.wanted in
          let k : History = record h { known = (copy.name, copy.place) ∷ h.known } in
          let w1 : Worker = record w { proposal = None } in
          let w2 : Worker = record w1 { allocation = updated (mapped (with_copy copy)) w.allocation d; won = w.won ++ (copy.name, copy.place) ∷ [] } in
          let m : Move setting w1 k w2 k = copies d q.block copy h.known q.there q.made refl q.small q.fits s.1 q.goes in
          let c : current_object w2 ≡ current_object w = current-joins w d copy w.hand f in
          let r = finished w2 k (Some copy.name) (Some copy.place) (move_fit setting m f) refl (slot-same w w2 c refl refl ∙ s.0) (wrote h.known copy.name copy.place s.1) in
          record { moves = moves-append (more (more (more none (learns copy.name copy.place s.1)) (proposes None)) m) r.moves; proposal = r.proposal }
      go (Some (Claimed n)) None q i =
          let s = wanted-slot (current_slot setting w) n q.0 in
          let k : History = record h { known = (n, n) ∷ h.known } in
          let w1 : Worker = record w { proposal = None } in
          let w2 : Worker = record w1 { large = w.large ++ n ∷ []; won = w.won ++ (n, n) ∷ [] } in
          let m : Move setting w1 k w2 k = claims n h.known refl q.1 in
          let r = finished w2 k (Some n) (Some n) f refl s.0 (wrote h.known n n s.1) in
          record { moves = moves-append (more (more (more none (learns n n s.1)) (proposes None)) m) r.moves; proposal = r.proposal }

  no_slot-current : (xs : List ℕ) (current : Option (ℕ × ℕ)) (fields : ℕ) → slot_of_starts setting current fields xs ≡ None → option_and_then (λ c. old_field setting c.0 fields) current ≡ None
  no_slot-current [] current fields e = e
  no_slot-current (t ∷ ts) current fields e = absurd (none-some (sym e))

  scan_moves : (w : Worker) (h : History) → Fit w → CanScan setting w → Stepped setting w h (after_scan w) h
  scan_moves w h f can = go w.hand refl (no_slot-current w.starts (current_object w) w.fields can.no_slot)
    where
      n : w.proposal ≡ None
      n = can.no_proposal

      go : (hand : Hand) → w.hand ≡ hand → option_and_then (λ c. old_field setting c.0 w.fields) (current_in w hand) ≡ None → Stepped setting w h (scan_hand (log_scan w (current_in w hand)) hand) h
      go Nothing p s = absurd (can.hand p)
      go (Open d) p s =
          let x : HandFit w (Open d) = subst (HandFit w) p f in
          let c = front_there x.0 x.1.1 in
          let a : current_in w (Open d) ≡ Some (name_place c.0) = ap front_of x.1.0 ∙ ap (option_map name_place) c.1 in
          let r : old_field setting c.0.name w.fields ≡ None = sym (ap (option_and_then (λ y. old_field setting y.0 w.fields)) a) ∙ s in
          let path : scan_hand (log_scan w (current_in w (Open d))) (Open d) ≡ scan_open (record w { fields = 0; scanned = w.scanned ++ c.0.place ∷ [] }) d (Some (with_front_moved x.0)) =
          ap (λ y. scan_hand (log_scan w y) (Open d)) a ∙ ap (λ y. scan_open (record w { fields = 0; scanned = w.scanned ++ c.0.place ∷ [] }) d (mapped with_front_moved y)) x.1.0 in
          subst (λ y. Stepped setting w h y h) (sym path) (last x.0 c.0 x.1.0 c.1 r (has_unscanned (with_front_moved x.0)) refl)
        where
          last : (b : Block) (c : Copy) → allocation_at w d ≡ Some b → front_copy b ≡ Some c → old_field setting c.name w.fields ≡ None → (u : Bool) → has_unscanned (with_front_moved b) ≡ u → Stepped setting w h (record w { fields = 0; scanned = w.scanned ++ c.place ∷ []; allocation = set w.allocation d (Some (with_front_moved b)); hand = cond u (Open d) Nothing }) h
          last b c a e r true u = record { moves = more none (scans_open_more d b c p a e r u); proposal = subst (ProposalFit setting _) (sym n) tt }
          last b c a e r false u = record { moves = more none (scans_open_last d b c p a e r u); proposal = subst (ProposalFit setting _) (sym n) tt }
      go (Holding b) p s =
          let u : HandFit w (Holding b) = subst (HandFit w) p f in
          let c = front_there b u in
          let a : current_in w (Holding b) ≡ Some (name_place c.0) = ap (option_map name_place) c.1 in
          let r : old_field setting c.0.name w.fields ≡ None = sym (ap (option_and_then (λ y. old_field setting y.0 w.fields)) a) ∙ s in
          subst (λ y. Stepped setting w h y h) (sym (ap (λ y. scan_hand (log_scan w y) (Holding b)) a)) (last c.0 c.1 r (has_unscanned (with_front_moved b)) refl)
        where
          last : (c : Copy) → front_copy b ≡ Some c → old_field setting c.name w.fields ≡ None → (u : Bool) → has_unscanned (with_front_moved b) ≡ u → Stepped setting w h (cond u (record w { fields = 0; scanned = w.scanned ++ c.place ∷ []; hand = Holding (with_front_moved b) }) (record w { fields = 0; scanned = w.scanned ++ c.place ∷ []; hand = Nothing; done = w.done ++ with_front_moved b ∷ [] })) h
          last c e r true u = record { moves = more none (scans_held_more b c p e r u); proposal = subst (ProposalFit setting _) (sym n) tt }
          last c e r false u = record { moves = more none (scans_held_last b c p e r u); proposal = subst (ProposalFit setting _) (sym n) tt }
      go (HoldingLarge x) p s = record { moves = more none (scans_large x p s); proposal = subst (ProposalFit setting _) (sym n) tt }

  own_moves : (w : Worker) (h : History) (d : ℕ) → IsFree w → has_open_work w d ≡ true → Stepped setting w h (after_own w d) h
  own_moves w h d free e = go (allocation_at w d) refl e
    where
      none_true : (b : Block) (u : Bool) → has_unscanned b ≡ u → is_some (cond u (Some b) None) ≡ true → has_unscanned b ≡ true
      none_true b true u e = u
      none_true b false u e = absurd (true≢false (sym e))

      go : (o : Option Block) → allocation_at w d ≡ o → is_some (option_and_then (λ b. if has_unscanned b then Some b else None) o) ≡ true → Stepped setting w h (after_own w d) h
      go None a e = absurd (true≢false (sym e))
      go (Some b) a e = record { moves = more none (owns d b free.no_hand a (none_true b (has_unscanned b) refl e)); proposal = subst (ProposalFit setting (after_own w d)) (sym free.no_proposal) tt }

  act_moves : (w : Worker) (act : Act) (h : History) → Fit w → Roomy setting w → ProposalFit setting w w.proposal → CanAct setting w act → Stepped setting w h (after setting w act) (noted setting w act h)
  act_moves w (Looked cell number) h f room q can = look_moves w cell number h f room can.no_proposal can.slot
  act_moves w (Raced lost) h f room q can = race_moves w lost h f q can
  act_moves w Scanned h f room q can = scan_moves w h f can
  act_moves w Exported h f room q can = go w.aside refl
    where
      go : (bs : List Block) → w.aside ≡ bs → Stepped setting w h (without_oldest w bs) (record h { exported = h.exported ++ first_alone bs })
      go [] e = absurd (can e)
      go (b ∷ bs) e = record { moves = more none (exports b bs e); proposal = same w.proposal q }
        where
          same : (o : Option Proposal) → ProposalFit setting w o → ProposalFit setting (record w { aside = bs }) o
          same None q = tt
          same (Some (Copied copy d)) q = record { wanted = q.wanted; block = q.block; there = q.there; made = q.made; goes = q.goes; small = q.small; fits = q.fits }
          same (Some (Claimed n)) q = q
  act_moves w (Took b) h f room q can = record { moves = more none (takes b can.0.no_hand can.1); proposal = subst (ProposalFit setting (after_take w b)) (sym can.0.no_proposal) tt }
  act_moves w (Owned d) h f room q can = own_moves w h d can.0 can.1
  act_moves w OwnedLarge h f room q can = go w.large refl
    where
      go : (ns : List ℕ) → w.large ≡ ns → Stepped setting w h (claim_first w ns) h
      go [] e = absurd (can.1 e)
      go (n ∷ ns) e = record { moves = more none (owns_large n ns can.0.no_hand e); proposal = subst (ProposalFit setting _) (sym can.0.no_proposal) tt }

  -- a run is a list of moves
  pub run_moves : {start w : Worker} {h : History} → WorkerRun setting start w h → Fit start → Roomy setting start → start.proposal ≡ None → Stepped setting start no_history w h
  run_moves {start = s} stay f room n = record { moves = none; proposal = subst (ProposalFit setting s) (sym n) tt }
  run_moves (go {w = w} {h = h} act run can) f room n =
      let r = run_moves run f room n in
      let a = act_moves w act h (moves_fit setting r.moves f) (λ name y. subst (λ n. destination_of setting name < n) (sym (destinations setting r.moves)) (room name y)) r.proposal can in
      record { moves = moves-append r.moves a.moves; proposal = a.proposal }

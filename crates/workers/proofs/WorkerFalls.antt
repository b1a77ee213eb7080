-- What each act of a worker takes off its weight.
use Rattle.std.proofs.Common.{◌≡◌, ◌≢◌, ℕ, zero, suc, ◌+◌, ◌*◌, ◌<◌, ◌≤◌, ◌&&◌, Bool, true, false, not, List, [], ◌∷◌, ◌++◌, Option, Some, None, refl, sym, ap, subst, ◌∙◌, set, length, arith, true≢false, cond}
use Rattle.std.specs.Prelude.{slice_get, IsSome}
use Rattle.std.specs.Option.{option_map, option_and_then}
use Rattle.workers.specs.Block.{Block, Copy, empty_block, front_copy, has_unscanned, updated, with_field, with_copy, with_front_moved}
use Rattle.workers.specs.Setting.{Setting, is_collected, is_large_name, destination_of, old_pointers, fits_in}
use Rattle.workers.specs.Worker.{Worker, Proposal, Copied, Claimed, Hand, Nothing, Open, Holding, HoldingLarge, allocation_at, current_in, current_object}
use Rattle.workers.specs.WorkerSteps.{slot_of_starts, current_slot, write_hand, finish_first, finish_slot, is_open_at, retired, with_new_block, propose_into, propose_copy, look_at, look_slot, after_look, race_of, after_race, scan_open, scan_hand, log_scan, after_scan, without_oldest, after_aside, after_take, after_own, claim_first, after_own_large}
use Rattle.workers.specs.WorkerRun.{proposed_name}
use Rattle.workers.specs.Total.{total}
use Rattle.workers.specs.Joined.{OnSome, Roomy}
use Rattle.workers.specs.Measure.{weight, rest_total, unscanned_weight, hand_weight, proposal_weight, open_weight, worker_weight}
use Rattle.workers.proofs.Lists.{at, mapped, none-some}
use Rattle.workers.proofs.Totals.{total-push}
use Rattle.workers.proofs.Moves.{HandFit, Fit, front_there, name_place}

pub total-updated_le : {A : Type 0} (f : A → ℕ) (g : A → A) (k : ℕ) → ((x : A) → f (g x) ≤ f x + k) → (xs : List A) (i : ℕ) → total f (updated g xs i) ≤ total f xs + k
total-updated_le f g k h [] i = omega arith
total-updated_le f g k h (x ∷ xs) zero = let a : f (g x) ≤ f x + k = h x in omega arith
total-updated_le f g k h (x ∷ xs) (suc i) = let a : total f (updated g xs i) ≤ total f xs + k = total-updated_le f g k h xs i in omega arith

module _ {A : Type 0} (f : A → ℕ) where
  rest-push : (n : ℕ) (xs : List A) (y : A) → rest_total f n (xs ++ y ∷ []) ≤ rest_total f n xs + f y
  rest-push zero [] y = omega arith
  rest-push (suc n) [] y = omega arith
  rest-push zero (x ∷ xs) y = let a : rest_total f zero (xs ++ y ∷ []) ≤ rest_total f zero xs + f y = rest-push zero xs y in omega arith
  rest-push (suc n) (x ∷ xs) y = rest-push n xs y

  rest-updated : (g : A → A) → ((x : A) → f (g x) ≡ f x) → (n : ℕ) (xs : List A) (i : ℕ) → rest_total f n (updated g xs i) ≡ rest_total f n xs
  rest-updated g k n [] i = refl
  rest-updated g k zero (x ∷ xs) zero = ap (λ m. m + rest_total f zero xs) (k x)
  rest-updated g k zero (x ∷ xs) (suc i) = ap (λ m. f x + m) (rest-updated g k zero xs i)
  rest-updated g k (suc n) (x ∷ xs) zero = refl
  rest-updated g k (suc n) (x ∷ xs) (suc i) = rest-updated g k n xs i

  rest-suc : (n : ℕ) (xs : List A) (y : A) → slice_get xs n ≡ Some y → rest_total f (suc n) xs + f y ≡ rest_total f n xs
  rest-suc n [] y e = absurd (none-some e)
  rest-suc zero (x ∷ xs) y e = let q : x ≡ y = cc in let s : f x ≡ f y = ap f q in from_zero xs s
    where
      zero_rest : (zs : List A) → rest_total f 0 zs ≡ total f zs
      zero_rest [] = refl
      zero_rest (z ∷ zs) = ap (λ m. f z + m) (zero_rest zs)

      from_zero : (zs : List A) → f x ≡ f y → rest_total f 0 zs + f y ≡ f x + rest_total f 0 zs
      from_zero zs s = omega arith
  rest-suc (suc n) (x ∷ xs) y e = rest-suc n xs y e

  rest-more : (n : ℕ) (xs : List A) (y : A) → slice_get xs n ≡ Some y → rest_total f (n + 1) xs + f y ≡ rest_total f n xs
  rest-more n xs y e = (let q : n + 1 ≡ suc n = omega arith in ap (λ m. rest_total f m xs + f y) q) ∙ rest-suc n xs y e

module _ (setting : Setting) where
  abbrev φ : Block → ℕ
  φ = unscanned_weight setting

  φ-field : (i : ℕ) (v : Option ℕ) (b : Block) → φ (with_field i v b) ≡ φ b
  φ-field i v b = rest-updated (λ (c : Copy). weight setting c.name) _ (λ c. refl) b.front b.copies b.front

  φ-copy : (c : Copy) (b : Block) → φ (with_copy c b) ≤ φ b + weight setting c.name
  φ-copy c b = rest-push (λ (x : Copy). weight setting x.name) b.front b.copies c

  φ-moved : (b : Block) (c : Copy) → front_copy b ≡ Some c → φ (with_front_moved b) + weight setting c.name ≡ φ b
  φ-moved b c e = rest-more (λ (x : Copy). weight setting x.name) b.front b.copies c e

  open-mapped : (g : Block → Block) (k : ℕ) → ((b : Block) → φ (g b) ≤ φ b + k) → (o : Option Block) → open_weight setting (mapped g o) ≤ open_weight setting o + k
  open-mapped g k h None = omega arith
  open-mapped g k h (Some b) = h b

  open-set : (xs : List (Option Block)) (d : ℕ) (b : Block) → total (open_weight setting) (set xs d (Some b)) + open_weight setting (at xs d) ≤ total (open_weight setting) xs + φ b
  open-set [] d b = omega arith
  open-set (x ∷ xs) zero b = omega arith
  open-set (x ∷ xs) (suc d) b = let h : total (open_weight setting) (set xs d (Some b)) + open_weight setting (at xs d) ≤ total (open_weight setting) xs + φ b = open-set xs d b in omega arith

  open-le : (xs : List (Option Block)) (d : ℕ) → open_weight setting (at xs d) ≤ total (open_weight setting) xs
  open-le [] d = omega arith
  open-le (x ∷ xs) zero = omega arith
  open-le (x ∷ xs) (suc d) = let h = open-le xs d in omega arith

  -- a slot is there
  abbrev pub HasSlot : Worker → Type 0
  HasSlot w = w.starts ≡ [] → w.hand ≢ Nothing

  pub slot_there : (w : Worker) (o : Option ℕ) → current_slot setting w ≡ Some o → HasSlot w
  slot_there w o e n h = go (ap (slot_of_starts setting (current_object w) w.fields) (sym n)) (ap (current_in w) h)
    where
      go : slot_of_starts setting (current_object w) w.fields [] ≡ current_slot setting w → current_object w ≡ None → ⊥
      go p q = none-some (sym (p' q) ∙ p ∙ e)
        where
          p' : current_object w ≡ None → slot_of_starts setting (current_object w) w.fields [] ≡ None
          p' q = ap (λ x. slot_of_starts setting x w.fields []) q

  abbrev W : Worker → ℕ
  W = worker_weight setting

  -- a slot is finished: 4 less
  pub finish_falls : (v : Option ℕ) (w : Worker) → HasSlot w → W (finish_slot v w) + 4 * w.fields + 4 ≤ W w + 4 * (finish_slot v w).fields
  finish_falls v w h = on_starts w.starts refl
    where
      on_hand : (hand : Hand) → w.hand ≡ hand → hand ≢ Nothing → W (write_hand v w hand) + 4 * w.fields + 4 ≤ W w + 4 * (write_hand v w hand).fields
      on_hand Nothing e n = absurd (n refl)
      on_hand (Open d) e n =
          let a : total (open_weight setting) (updated (mapped (with_field w.fields v)) w.allocation d) ≤ total (open_weight setting) w.allocation + 0 =
          total-updated_le (open_weight setting) (mapped (with_field w.fields v)) 0 (open-mapped (with_field w.fields v) 0 (λ b. (let q = φ-field w.fields v b in omega arith))) w.allocation d in
          omega arith
      on_hand (Holding b) e n =
          let q : φ (with_field w.fields v b) ≡ φ b = φ-field w.fields v b in
          let r : hand_weight setting w.hand ≡ φ b = ap (hand_weight setting) e in
          omega arith
      on_hand (HoldingLarge m) e n = omega arith

      on_starts : (xs : List ℕ) → w.starts ≡ xs → W (finish_first v w xs) + 4 * w.fields + 4 ≤ W w + 4 * (finish_first v w xs).fields
      on_starts [] e = on_hand w.hand refl (h e)
      on_starts (t ∷ ts) e = let l : length w.starts ≡ length ts + 1 = ap length e ∙ omega arith in omega arith

  open-at-true : (d : ℕ) (hand : Hand) → is_open_at d hand ≡ true → hand_weight setting hand ≡ 0
  open-at-true d Nothing e = absurd (true≢false (sym e))
  open-at-true d (Open x) e = refl
  open-at-true d (Holding b) e = absurd (true≢false (sym e))
  open-at-true d (HoldingLarge n) e = absurd (true≢false (sym e))

  -- a block drawn may send one aside
  record Drawn (w w' : Worker) : Type 0 where
    weight_is : W w' ≤ W w + 2
    fields : w'.fields ≡ w.fields
    proposal : w'.proposal ≡ w.proposal

  new_block_falls : (w : Worker) (d number : ℕ) → Drawn w (with_new_block w d number)
  new_block_falls w d number = go (allocation_at w d) refl
    where
      e : Block
      e = empty_block number d

      shrunk : total (open_weight setting) (set w.allocation d (Some e)) + open_weight setting (at w.allocation d) ≤ total (open_weight setting) w.allocation + 0
      shrunk = open-set w.allocation d e

      on2 : (b : Block) → allocation_at w d ≡ Some b → (u : Bool) → Drawn w (record (cond u (record w { aside = w.aside ++ b ∷ [] }) (record w { done = w.done ++ b ∷ [] })) { allocation = set w.allocation d (Some e) })
      on2 b a true =
          let s = shrunk in
          let q : open_weight setting (at w.allocation d) ≡ φ b = ap (open_weight setting) a in
          let p : total (λ x. φ x + 2) (w.aside ++ b ∷ []) ≡ total (λ x. φ x + 2) w.aside + (φ b + 2) = total-push (λ x. φ x + 2) w.aside b in
          record { weight_is = omega arith; fields = refl; proposal = refl }
      on2 b a false = let s = shrunk in record { weight_is = omega arith; fields = refl; proposal = refl }

      on : (b : Block) → allocation_at w d ≡ Some b → (x : Bool) → is_open_at d w.hand ≡ x → Drawn w (record (cond x (record w { hand = Holding b }) (cond (has_unscanned b) (record w { aside = w.aside ++ b ∷ [] }) (record w { done = w.done ++ b ∷ [] }))) { allocation = set w.allocation d (Some e) })
      on b a true o =
          let s = shrunk in
          let q : open_weight setting (at w.allocation d) ≡ φ b = ap (open_weight setting) a in
          let p : hand_weight setting w.hand ≡ 0 = open-at-true d w.hand o in
          record { weight_is = omega arith; fields = refl; proposal = refl }
      on b a false o = on2 b a (has_unscanned b)

      go : (o : Option Block) → allocation_at w d ≡ o → Drawn w (record (retired w d o) { allocation = set w.allocation d (Some e) })
      go None a = let s = shrunk in record { weight_is = omega arith; fields = refl; proposal = refl }
      go (Some b) a = on b a (is_open_at d w.hand) refl

  new_block_there : (w : Worker) (d number : ℕ) → d < length w.allocation → (b : Block) × (allocation_at (with_new_block w d number) d ≡ Some b)
  new_block_there w d number l = (empty_block number d, there w.allocation d l)
    where
      there : (xs : List (Option Block)) (i : ℕ) → i < length xs → at (set xs i (Some (empty_block number d))) i ≡ Some (empty_block number d)
      there [] i h = absurd (omega arith)
      there (x ∷ xs) zero h = refl
      there (x ∷ xs) (suc i) h = there xs i (omega arith)

  abbrev pub Falls : Worker → Worker → Type 0
  Falls w w' = W w' + 4 * w.fields + 1 ≤ W w + 4 * w'.fields

  proposed_falls : (w w' : Worker) (name d : ℕ) → W w' ≤ W w + 2 → w'.fields ≡ w.fields → w'.proposal ≡ None → (b : Block) → allocation_at w' d ≡ Some b → Falls w (propose_copy setting w' name d)
  proposed_falls w w' name d a f n b e = subst (λ o. Falls w (propose_into setting w' name d o)) (sym e) (let p : proposal_weight w'.proposal ≡ 3 = ap proposal_weight n in omega arith)

  pub look_falls : (w : Worker) (cell : Option ℕ) (number : ℕ) → Roomy setting w → w.proposal ≡ None → IsSome (current_slot setting w) → Falls w (after_look setting w cell number)
  look_falls w cell number room n i = go (current_slot setting w) refl i
    where
      ends : (v o : Option ℕ) → current_slot setting w ≡ Some o → Falls w (finish_slot v w)
      ends v o e = let h = finish_falls v w (slot_there w o e) in omega arith

      copies : (name : ℕ) → is_collected setting name ≡ true → (x : Bool) → not (fits_in setting name (allocation_at w (destination_of setting name))) ≡ x
          → Falls w (propose_copy setting (cond x (with_new_block w (destination_of setting name) number) w) name (destination_of setting name))
      copies name y true e =
          let d = new_block_falls w (destination_of setting name) number in
          let b = new_block_there w (destination_of setting name) number (room name y) in
          proposed_falls w (with_new_block w (destination_of setting name) number) name (destination_of setting name) d.weight_is d.fields (d.proposal ∙ n) b.0 b.1
      copies name y false e = some (allocation_at w (destination_of setting name)) refl e
        where
          some : (o : Option Block) → allocation_at w (destination_of setting name) ≡ o → not (fits_in setting name o) ≡ false → Falls w (propose_copy setting w name (destination_of setting name))
          some None p q = absurd (true≢false q)
          some (Some b) p q = proposed_falls w w name (destination_of setting name) (omega arith) refl n b p

      fresh : (name : ℕ) → is_collected setting name ≡ true → (l : Bool) → is_large_name setting name ≡ l
          → Falls w (cond l (record w { proposal = Some (Claimed name) }) (propose_copy setting (cond (not l && not (fits_in setting name (allocation_at w (destination_of setting name)))) (with_new_block w (destination_of setting name) number) w) name (destination_of setting name)))
      fresh name y true e = let p : proposal_weight w.proposal ≡ 3 = ap proposal_weight n in omega arith
      fresh name y false e = copies name y (not (fits_in setting name (allocation_at w (destination_of setting name)))) refl

      at_cell : (c : Option ℕ) (name : ℕ) → is_collected setting name ≡ true → current_slot setting w ≡ Some (Some name) → Falls w (look_at setting w c number name)
      at_cell (Some place) name y e = ends (Some place) (Some name) e
      at_cell None name y e = fresh name y (is_large_name setting name) refl

      on : (name : ℕ) → current_slot setting w ≡ Some (Some name) → (x : Bool) → is_collected setting name ≡ x → Falls w (cond x (look_at setting w cell number name) (finish_slot (Some name) w))
      on name e true y = at_cell cell name y e
      on name e false y = ends (Some name) (Some name) e

      go : (o : Option (Option ℕ)) → current_slot setting w ≡ o → IsSome o → Falls w (look_slot setting w cell number o)
      go None e i = absurd (true≢false (sym i))
      go (Some None) e i = ends None None e
      go (Some (Some name)) e i = on name e (is_collected setting name) refl

  -- a race that is won brings the object's weight
  abbrev pub brings : Setting → Proposal → Option ℕ → ℕ
  brings s p (Some place) = 0
  brings s p None = weight s (proposed_name p)

  pub race_falls : (w : Worker) (p : Proposal) (lost : Option ℕ) → w.proposal ≡ Some p → HasSlot w → W (after_race w lost) + 4 * w.fields + 1 ≤ W w + 4 * (after_race w lost).fields + brings setting p lost
  race_falls w p lost e h = subst (λ o. W (race_of w o lost) + 4 * w.fields + 1 ≤ W w + 4 * (race_of w o lost).fields + brings setting p lost) (sym e) (go p lost (ap proposal_weight e))
    where
      go : (p : Proposal) (lost : Option ℕ) → proposal_weight w.proposal ≡ 0 → W (race_of w (Some p) lost) + 4 * w.fields + 1 ≤ W w + 4 * (race_of w (Some p) lost).fields + brings setting p lost
      go (Copied c d) (Some place) z = let f = finish_falls (Some place) (record w { proposal = None }) h in omega arith
      go (Claimed n) (Some place) z = let f = finish_falls (Some place) (record w { proposal = None }) h in omega arith
      go (Copied c d) None z =
          let a : total (open_weight setting) (updated (mapped (with_copy c)) w.allocation d) ≤ total (open_weight setting) w.allocation + weight setting c.name =
          total-updated_le (open_weight setting) (mapped (with_copy c)) (weight setting c.name) (open-mapped (with_copy c) (weight setting c.name) (φ-copy c)) w.allocation d in
          let f = finish_falls (Some c.place) (record w { proposal = None; allocation = updated (mapped (with_copy c)) w.allocation d; won = w.won ++ (c.name, c.place) ∷ [] }) h in
          omega arith
      go (Claimed n) None z =
          let a : total (weight setting) (w.large ++ n ∷ []) ≡ total (weight setting) w.large + weight setting n = total-push (weight setting) w.large n in
          let f = finish_falls (Some n) (record w { proposal = None; large = w.large ++ n ∷ []; won = w.won ++ (n, n) ∷ [] }) h in
          omega arith

  -- no more pointers are finished than there are
  abbrev pub FieldsIn : Worker → Type 0
  FieldsIn w = OnSome (λ c. w.fields ≤ length (old_pointers setting c.0)) (current_object w)

  pub scan_falls : (w : Worker) → Fit w → FieldsIn w → w.hand ≢ Nothing → Falls w (after_scan w)
  scan_falls w f l n = go w.hand refl f l n
    where
      go : (hand : Hand) → w.hand ≡ hand → HandFit w hand → OnSome (λ c. w.fields ≤ length (old_pointers setting c.0)) (current_in w hand) → hand ≢ Nothing → Falls w (scan_hand (log_scan w (current_in w hand)) hand)
      go Nothing e f l n = absurd (n refl)
      go (Open d) e f l n = at_front (option_and_then front_copy (allocation_at w d)) (ap (option_and_then front_copy) f.1.0 ∙ c.1) l
        where
          z : hand_weight setting w.hand ≡ 0
          z = ap (hand_weight setting) e

          b : Block
          b = f.0

          c : (x : Copy) × (front_copy b ≡ Some x)
          c = front_there b f.1.1

          last : (u : Bool) → hand_weight setting (cond u (Open d) Nothing) ≤ 1
          last true = omega arith
          last false = omega arith

          at_front : (x : Option Copy) → x ≡ Some c.0 → OnSome (λ c. w.fields ≤ length (old_pointers setting c.0)) (option_map name_place x) → Falls w (scan_hand (log_scan w (option_map name_place x)) (Open d))
          at_front None p k = absurd (none-some p)
          at_front (Some y) p k =
              subst (λ o. Falls w (scan_open (record w { fields = 0; scanned = w.scanned ++ y.place ∷ [] }) d (option_and_then (λ v. Some (with_front_moved v)) o))) (sym f.1.0)
              (let q : y ≡ c.0 = cc in
              let m : φ (with_front_moved b) + weight setting y.name ≡ φ b = φ-moved b y (c.1 ∙ sym p) in
              let s : total (open_weight setting) (set w.allocation d (Some (with_front_moved b))) + open_weight setting (at w.allocation d) ≤ total (open_weight setting) w.allocation + φ (with_front_moved b) = open-set w.allocation d (with_front_moved b) in
              let t : open_weight setting (at w.allocation d) ≡ φ b = ap (open_weight setting) f.1.0 in
              let h = last (has_unscanned (with_front_moved b)) in
              let y2 = z in
              omega arith)
      go (Holding b) e f l n = at_front (front_copy b) (front_there b f).1 l
        where
          c : (x : Copy) × (front_copy b ≡ Some x)
          c = front_there b f

          z : hand_weight setting w.hand ≡ φ b
          z = ap (hand_weight setting) e

          on : (x : Copy) → (u : Bool) → φ (with_front_moved b) + weight setting x.name ≡ φ b → w.fields ≤ length (old_pointers setting x.name)
              → Falls w (cond u (record (log_scan w (Some (name_place x))) { hand = Holding (with_front_moved b) }) (record (log_scan w (Some (name_place x))) { hand = Nothing; done = w.done ++ with_front_moved b ∷ [] }))
          on x true m k = let y = z in omega arith
          on x false m k = let y = z in omega arith

          at_front : (x : Option Copy) → x ≡ Some c.0 → OnSome (λ c. w.fields ≤ length (old_pointers setting c.0)) (option_map name_place x) → Falls w (scan_hand (log_scan w (option_map name_place x)) (Holding b))
          at_front None p k = absurd (none-some p)
          at_front (Some y) p k =
              let q : y ≡ c.0 = cc in
              on y (has_unscanned (with_front_moved b)) (φ-moved b y (c.1 ∙ sym p)) k
      go (HoldingLarge m) e f l n = let z : hand_weight setting w.hand ≡ weight setting m = ap (hand_weight setting) e in omega arith

  -- the bound: the current object's pointers are in the weight
  pub fields_bound : (w : Worker) → Fit w → FieldsIn w → 4 * w.fields ≤ W w
  fields_bound w f l = go w.hand refl f l
    where
      front_in : (b : Block) → has_unscanned b ≡ true → OnSome (λ c. w.fields ≤ length (old_pointers setting c.0)) (option_map name_place (front_copy b)) → 4 * w.fields ≤ φ b
      front_in b u k =
          let c = front_there b u in
          let m = φ-moved b c.0 c.1 in
          let k2 : w.fields ≤ length (old_pointers setting c.0.name) = subst (λ o. OnSome (λ c. w.fields ≤ length (old_pointers setting c.0)) (option_map name_place o)) c.1 k in
          omega arith

      go : (hand : Hand) → w.hand ≡ hand → HandFit w hand → OnSome (λ c. w.fields ≤ length (old_pointers setting c.0)) (current_in w hand) → 4 * w.fields ≤ W w
      go Nothing e f l = let z : w.fields ≡ 0 = f in omega arith
      go (Open d) e f l =
          let a = open-le w.allocation d in
          let q : open_weight setting (at w.allocation d) ≡ φ f.0 = ap (open_weight setting) f.1.0 in
          let h = front_in f.0 f.1.1 (subst (λ o. OnSome (λ c. w.fields ≤ length (old_pointers setting c.0)) (option_map name_place (option_and_then front_copy o))) f.1.0 l) in
          omega arith
      go (Holding b) e f l =
          let h = front_in b f l in
          let z : hand_weight setting w.hand ≡ φ b = ap (hand_weight setting) e in
          omega arith
      go (HoldingLarge n) e f l =
          let k : w.fields ≤ length (old_pointers setting n) = l in
          let z : hand_weight setting w.hand ≡ weight setting n = ap (hand_weight setting) e in
          omega arith

  pub own_falls : (w : Worker) (d : ℕ) → w.hand ≡ Nothing → Falls w (after_own w d)
  own_falls w d e = let z : hand_weight setting w.hand ≡ 1 = ap (hand_weight setting) e in omega arith

  pub own_large_falls : (w : Worker) → w.hand ≡ Nothing → w.large ≢ [] → Falls w (after_own_large w)
  own_large_falls w e n = go w.large refl n
    where
      z : hand_weight setting w.hand ≡ 1
      z = ap (hand_weight setting) e

      go : (xs : List ℕ) → w.large ≡ xs → xs ≢ [] → Falls w (claim_first w xs)
      go [] p n = absurd (n refl)
      go (x ∷ xs) p n = let q : total (weight setting) w.large ≡ weight setting x + total (weight setting) xs = ap (total (weight setting)) p in let y = z in omega arith

  -- a block taken comes with its weight, and one exported leaves with its own
  pub take_falls : (w : Worker) (b : Block) → w.hand ≡ Nothing → W (after_take w b) + 4 * w.fields + 1 ≤ W w + 4 * (after_take w b).fields + φ b
  take_falls w b e = let z : hand_weight setting w.hand ≡ 1 = ap (hand_weight setting) e in omega arith

  pub aside_falls : (w : Worker) (b : Block) (bs : List Block) → w.aside ≡ b ∷ bs → W (after_aside w) + 4 * w.fields + (φ b + 2) ≤ W w + 4 * (after_aside w).fields
  aside_falls w b bs e = subst (λ xs. W (without_oldest w xs) + 4 * w.fields + (φ b + 2) ≤ W w + 4 * (without_oldest w xs).fields) (sym e)
      (let q : total (λ x. φ x + 2) w.aside ≡ (φ b + 2) + total (λ x. φ x + 2) bs = ap (total (λ x. φ x + 2)) e in omega arith)

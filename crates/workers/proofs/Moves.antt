-- A worker's acts as moves, each of which changes little.
use Rattle.std.proofs.Common.{◌≡◌, ◌≢◌, ℕ, ◌+◌, ◌<◌, Bool, true, false, List, [], ◌∷◌, ◌++◌, Option, Some, None, refl, sym, ap, subst, ◌∙◌, ⊎_elim, set, length, arith, nat_lt, ltb-true, lt-ltb, length-append, ◌/◌}
use Rattle.std.proofs.lemmas.Bool.{cases_eq}
use Rattle.std.specs.Option.{option_and_then, option_map}
use Rattle.workers.specs.Block.{Block, Copy, empty_block, has_unscanned, front_copy, updated, with_field, with_copy, with_front_moved, used_words}
use Rattle.workers.specs.Setting.{Setting, old_field, is_collected, is_large_name, destination_of, copy_into, fits_in}
use Rattle.workers.specs.Worker.{Worker, Proposal, Hand, Nothing, Open, Holding, HoldingLarge, allocation_at}
use Rattle.workers.specs.WorkerRun.{History}
use Rattle.workers.proofs.Lists.{length-set_any, at, mapped, at-updated_same, at-updated_other, at-set_same, at-set_other, length-updated, get-append, get-some, none-some}

-- no small object is sure to fit any more
abbrev pub IsFullBlock : Setting → Block → Type 0
IsFullBlock setting block = setting.block_words < used_words block + setting.block_words / 4

-- what a finished slot got, where it held o
abbrev pub WroteTo : Bool → List (ℕ × ℕ) → ℕ → Option ℕ → Type 0
WroteTo true known t v = (place : ℕ) × ((rest : List (ℕ × ℕ)) × ((v ≡ Some place) × (known ≡ (t, place) ∷ rest)))
WroteTo false known t v = v ≡ Some t

abbrev pub Wrote : Setting → List (ℕ × ℕ) → Option ℕ → Option ℕ → Type 0
Wrote setting known None v = v ≡ None
Wrote setting known (Some t) v = WroteTo (is_collected setting t) known t v

pub data Move (setting : Setting) (w : Worker) (h : History) : Worker → History → Type 0 where
  learns : (name place : ℕ) → is_collected setting name ≡ true → Move setting w h w (record h { known = (name, place) ∷ h.known })
  proposes : (p : Option Proposal) → Move setting w h (record w { proposal = p }) h
  finishes : (t : ℕ) (ts : List ℕ) (v : Option ℕ) → w.starts ≡ t ∷ ts → Wrote setting h.known (Some t) v → Move setting w h (record w { starts = ts }) h
  writes_open : (d : ℕ) (b : Block) (c : Copy) (o v : Option ℕ) → w.hand ≡ Open d → allocation_at w d ≡ Some b → front_copy b ≡ Some c → old_field setting c.name w.fields ≡ Some o → Wrote setting h.known o v → Move setting w h (record w { fields = w.fields + 1; allocation = updated (mapped (with_field w.fields v)) w.allocation d }) h
  writes_held : (b : Block) (c : Copy) (o v : Option ℕ) → w.hand ≡ Holding b → front_copy b ≡ Some c → old_field setting c.name w.fields ≡ Some o → Wrote setting h.known o v → Move setting w h (record w { fields = w.fields + 1; hand = Holding (with_field w.fields v b) }) h
  writes_large : (n : ℕ) (o v : Option ℕ) → w.hand ≡ HoldingLarge n → old_field setting n w.fields ≡ Some o → Wrote setting h.known o v → Move setting w h (record w { fields = w.fields + 1 }) h
  draws : (d number : ℕ) → allocation_at w d ≡ None → d < length w.allocation → Move setting w h (record w { allocation = set w.allocation d (Some (empty_block number d)) }) (record h { drawn = h.drawn ++ number ∷ [] })
  retires_open : (d number : ℕ) (b : Block) → allocation_at w d ≡ Some b → w.hand ≡ Open d → IsFullBlock setting b → Move setting w h (record w { hand = Holding b; allocation = set w.allocation d (Some (empty_block number d)) }) (record h { drawn = h.drawn ++ number ∷ [] })
  retires_aside : (d number : ℕ) (b : Block) → allocation_at w d ≡ Some b → w.hand ≢ Open d → has_unscanned b ≡ true → IsFullBlock setting b → Move setting w h (record w { aside = w.aside ++ b ∷ []; allocation = set w.allocation d (Some (empty_block number d)) }) (record h { drawn = h.drawn ++ number ∷ [] })
  retires_done : (d number : ℕ) (b : Block) → allocation_at w d ≡ Some b → w.hand ≢ Open d → has_unscanned b ≡ false → IsFullBlock setting b → Move setting w h (record w { done = w.done ++ b ∷ []; allocation = set w.allocation d (Some (empty_block number d)) }) (record h { drawn = h.drawn ++ number ∷ [] })
  copies : (d : ℕ) (b : Block) (copy : Copy) (rest : List (ℕ × ℕ)) → allocation_at w d ≡ Some b → copy ≡ copy_into setting b copy.name → h.known ≡ (copy.name, copy.place) ∷ rest → is_large_name setting copy.name ≡ false → fits_in setting copy.name (Some b) ≡ true → is_collected setting copy.name ≡ true → d ≡ destination_of setting copy.name → Move setting w h (record w { allocation = updated (mapped (with_copy copy)) w.allocation d; won = w.won ++ (copy.name, copy.place) ∷ [] }) h
  claims : (n : ℕ) (rest : List (ℕ × ℕ)) → h.known ≡ (n, n) ∷ rest → is_large_name setting n ≡ true → Move setting w h (record w { large = w.large ++ n ∷ []; won = w.won ++ (n, n) ∷ [] }) h
  scans_open_more : (d : ℕ) (b : Block) (c : Copy) → w.hand ≡ Open d → allocation_at w d ≡ Some b → front_copy b ≡ Some c → old_field setting c.name w.fields ≡ None → has_unscanned (with_front_moved b) ≡ true → Move setting w h (record w { fields = 0; scanned = w.scanned ++ c.place ∷ []; allocation = set w.allocation d (Some (with_front_moved b)); hand = Open d }) h
  scans_open_last : (d : ℕ) (b : Block) (c : Copy) → w.hand ≡ Open d → allocation_at w d ≡ Some b → front_copy b ≡ Some c → old_field setting c.name w.fields ≡ None → has_unscanned (with_front_moved b) ≡ false → Move setting w h (record w { fields = 0; scanned = w.scanned ++ c.place ∷ []; allocation = set w.allocation d (Some (with_front_moved b)); hand = Nothing }) h
  scans_held_more : (b : Block) (c : Copy) → w.hand ≡ Holding b → front_copy b ≡ Some c → old_field setting c.name w.fields ≡ None → has_unscanned (with_front_moved b) ≡ true → Move setting w h (record w { fields = 0; scanned = w.scanned ++ c.place ∷ []; hand = Holding (with_front_moved b) }) h
  scans_held_last : (b : Block) (c : Copy) → w.hand ≡ Holding b → front_copy b ≡ Some c → old_field setting c.name w.fields ≡ None → has_unscanned (with_front_moved b) ≡ false → Move setting w h (record w { fields = 0; scanned = w.scanned ++ c.place ∷ []; hand = Nothing; done = w.done ++ with_front_moved b ∷ [] }) h
  scans_large : (n : ℕ) → w.hand ≡ HoldingLarge n → old_field setting n w.fields ≡ None → Move setting w h (record w { fields = 0; scanned = w.scanned ++ n ∷ []; hand = Nothing; large_done = w.large_done ++ n ∷ [] }) h
  exports : (b : Block) (bs : List Block) → w.aside ≡ b ∷ bs → Move setting w h (record w { aside = bs }) (record h { exported = h.exported ++ b ∷ [] })
  takes : (b : Block) → w.hand ≡ Nothing → has_unscanned b ≡ true → Move setting w h (record w { hand = Holding b }) (record h { taken = h.taken ++ b ∷ [] })
  owns : (d : ℕ) (b : Block) → w.hand ≡ Nothing → allocation_at w d ≡ Some b → has_unscanned b ≡ true → Move setting w h (record w { hand = Open d }) h
  owns_large : (n : ℕ) (ns : List ℕ) → w.hand ≡ Nothing → w.large ≡ n ∷ ns → Move setting w h (record w { hand = HoldingLarge n; large = ns }) h

-- these moves, one after another
pub data Moves (setting : Setting) (s : Worker) (k : History) : Worker → History → Type 0 where
  none : Moves setting s k s k
  more : {w w' : Worker} {h h' : History} → Moves setting s k w h → Move setting w h w' h' → Moves setting s k w' h'

pub moves-append : {setting : Setting} {s w : Worker} {k h : History} {w' : Worker} {h' : History} → Moves setting s k w h → Moves setting w h w' h' → Moves setting s k w' h'
moves-append a none = a
moves-append a (more b m) = more (moves-append a b) m

-- a hand has something to scan
abbrev pub HandFit : Worker → Hand → Type 0
HandFit w Nothing = w.fields ≡ 0
HandFit w (Open d) = (b : Block) × ((allocation_at w d ≡ Some b) × (has_unscanned b ≡ true))
HandFit w (Holding b) = has_unscanned b ≡ true
HandFit w (HoldingLarge n) = Unit {0}

abbrev pub Fit : Worker → Type 0
Fit w = HandFit w w.hand

abbrev pub name_place : Copy → ℕ × ℕ
name_place c = (c.name, c.place)

abbrev pub front_of : Option Block → Option (ℕ × ℕ)
front_of o = option_map name_place (option_and_then front_copy o)

unscanned-lt : (b : Block) → has_unscanned b ≡ true → b.front < length b.copies
unscanned-lt b e = ltb-true _ _ e

pub front_there : (b : Block) → has_unscanned b ≡ true → (c : Copy) × (front_copy b ≡ Some c)
front_there b e = get-some b.copies b.front (unscanned-lt b e)

field-unscanned : (i : ℕ) (v : Option ℕ) (b : Block) → has_unscanned b ≡ true → has_unscanned (with_field i v b) ≡ true
field-unscanned i v b e = ap (λ n. nat_lt b.front n) (length-updated _ b.copies b.front) ∙ e

copy-unscanned : (c : Copy) (b : Block) → has_unscanned b ≡ true → has_unscanned (with_copy c b) ≡ true
copy-unscanned c b e =
    let l : b.front < length b.copies = unscanned-lt b e in
    let m : length (b.copies ++ c ∷ []) ≡ length b.copies + 1 = length-append b.copies (c ∷ []) in
    lt-ltb _ _ (omega arith)

pub front-copy : (c : Copy) (b : Block) → has_unscanned b ≡ true → front_copy (with_copy c b) ≡ front_copy b
front-copy c b e = get-append b.copies (c ∷ []) b.front (unscanned-lt b e)

-- the hand stays fit
module _ (setting : Setting) where
  set-fit : (w : Worker) (d : ℕ) (v : Option Block) (hand : Hand) → hand ≢ Open d → HandFit w hand → HandFit (record w { allocation = set w.allocation d v }) hand
  set-fit w d v Nothing ne f = f
  set-fit w d v (Open e) ne f = (f.0, (at-set_other w.allocation d e v (λ p. ne (ap Open p)) ∙ f.1.0, f.1.1))
  set-fit w d v (Holding b) ne f = f
  set-fit w d v (HoldingLarge n) ne f = tt

  joins-fit : (w : Worker) (d : ℕ) (g : Block → Block) → ((b : Block) → has_unscanned b ≡ true → has_unscanned (g b) ≡ true) → (hand : Hand) → HandFit w hand → HandFit (record w { allocation = updated (mapped g) w.allocation d }) hand
  joins-fit w d g k Nothing f = f
  joins-fit w d g k (Open e) f =
      ⊎_elim
      (λ (p : e ≡ d). (g f.0, (subst (λ x. at (updated (mapped g) w.allocation d) x ≡ Some (g f.0)) (sym p) (at-updated_same g w.allocation d ∙ ap (mapped g) (ap (at w.allocation) (sym p) ∙ f.1.0)), k f.0 f.1.1)))
      (λ (n : e ≢ d). (f.0, (at-updated_other g w.allocation d e n ∙ f.1.0, f.1.1)))
      (cases_eq e d)
  joins-fit w d g k (Holding b) f = f
  joins-fit w d g k (HoldingLarge n) f = tt

  fields-fit : (w : Worker) (i : ℕ) (hand : Hand) → hand ≢ Nothing → HandFit w hand → HandFit (record w { fields = i }) hand
  fields-fit w i Nothing ne f = absurd (ne refl)
  fields-fit w i (Open e) ne f = f
  fields-fit w i (Holding b) ne f = f
  fields-fit w i (HoldingLarge n) ne f = tt

  open-nothing : {d : ℕ} → Open d ≡ Nothing → ⊥
  open-nothing e = cc

  held-open : {d : ℕ} {b : Block} → Holding b ≡ Open d → ⊥
  held-open e = cc

  pub move_fit : {w w' : Worker} {h h' : History} → Move setting w h w' h' → Fit w → Fit w'
  move_fit (learns name place y) f = f
  move_fit {w = w} (proposes p) f = f
  move_fit {w = w} (finishes t ts v e q) f = f
  move_fit {w = w} (writes_open d b c o v e a r s q) f =
      let x : HandFit w (Open d) = subst (HandFit w) e f in
      subst (HandFit (record w { fields = w.fields + 1; allocation = updated (mapped (with_field w.fields v)) w.allocation d })) (sym e) (joins-fit w d (with_field w.fields v) (field-unscanned w.fields v) (Open d) x)
  move_fit {w = w} (writes_held b c o v e r s q) f = field-unscanned w.fields v b (subst (HandFit w) e f)
  move_fit {w = w} (writes_large n o v e s q) f = subst (HandFit (record w { fields = w.fields + 1 })) (sym e) tt
  move_fit {w = w} (draws d number e r) f =
      set-fit w d (Some (empty_block number d)) w.hand (λ p. let x : HandFit w (Open d) = subst (HandFit w) p f in none-some (sym e ∙ x.1.0)) f
  move_fit {w = w} (retires_open d number b a e fu) f =
      let x : HandFit w (Open d) = subst (HandFit w) e f in
      let s : Some b ≡ Some x.0 = sym a ∙ x.1.0 in
      let q : x.0 ≡ b = cc in
      subst (λ y. has_unscanned y ≡ true) q x.1.1
  move_fit {w = w} (retires_aside d number b a ne u fu) f = set-fit w d (Some (empty_block number d)) w.hand ne f
  move_fit {w = w} (retires_done d number b a ne u fu) f = set-fit w d (Some (empty_block number d)) w.hand ne f
  move_fit {w = w} (copies d b copy rest a i q l z y to) f = joins-fit w d (with_copy copy) (copy-unscanned copy) w.hand f
  move_fit {w = w} (claims n rest q l) f = f
  move_fit {w = w} (scans_open_more d b c e a r s u) f = (with_front_moved b, (at-set_same w.allocation d (Some (with_front_moved b)) b a, u))
  move_fit {w = w} (scans_open_last d b c e a r s u) f = refl
  move_fit {w = w} (scans_held_more b c e r s u) f = u
  move_fit {w = w} (scans_held_last b c e r s u) f = refl
  move_fit {w = w} (scans_large n e s) f = refl
  move_fit {w = w} (exports b bs e) f = f
  move_fit {w = w} (takes b e u) f = u
  move_fit {w = w} (owns d b e a u) f = (b, (a, u))
  move_fit {w = w} (owns_large n ns e a) f = tt

  pub moves_fit : {s : Worker} {k : History} {w : Worker} {h : History} → Moves setting s k w h → Fit s → Fit w
  moves_fit none f = f
  moves_fit (more ms m) f = move_fit m (moves_fit ms f)

  -- there are as many destinations as before
  move_destinations : {w w' : Worker} {h h' : History} → Move setting w h w' h' → length w'.allocation ≡ length w.allocation
  move_destinations {w = w} (writes_open d b c o v e a r s q) = length-updated _ w.allocation d
  move_destinations {w = w} (draws d number e r) = length-set_any w.allocation d _
  move_destinations {w = w} (retires_open d number b a e fu) = length-set_any w.allocation d _
  move_destinations {w = w} (retires_aside d number b a ne u fu) = length-set_any w.allocation d _
  move_destinations {w = w} (retires_done d number b a ne u fu) = length-set_any w.allocation d _
  move_destinations {w = w} (copies d b copy rest a i q l z y to) = length-updated _ w.allocation d
  move_destinations {w = w} (scans_open_more d b c e a r s u) = length-set_any w.allocation d _
  move_destinations {w = w} (scans_open_last d b c e a r s u) = length-set_any w.allocation d _
  move_destinations _ = refl

  pub destinations : {s : Worker} {k : History} {w : Worker} {h : History} → Moves setting s k w h → length w.allocation ≡ length s.allocation
  destinations none = refl
  destinations (more ms m) = move_destinations m ∙ destinations ms

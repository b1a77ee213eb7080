-- The last places of the blocks that a worker took stand in its scanned list, in the order in which it took them.
use Rattle.std.proofs.Common.{◌≡◌, ℕ, zero, suc, ◌+◌, ◌≤◌, true, false, List, [], ◌∷◌, ◌++◌, map, Option, Some, None, refl, sym, ap, subst, ◌∙◌, length, arith, ltb-false}
use Rattle.std.specs.Prelude.{slice_get, slice_set, unwrap_or}
use Rattle.std.specs.Option.{option_map}
use Rattle.workers.specs.Block.{Block, Copy, has_unscanned, front_copy, updated, with_field, with_front_moved}
use Rattle.workers.specs.Setting.{Setting}
use Rattle.workers.specs.Worker.{Worker, Hand, Nothing, Open, Holding, HoldingLarge}
use Rattle.workers.specs.WorkerRun.{History}
use Rattle.workers.specs.Joined.{Each, Part, HasRun}
use Rattle.workers.proofs.Lists.{Each-append, none-some}
use Rattle.workers.proofs.Moves.{Move, Moves, none, more, learns, proposes, finishes, writes_open, writes_held, writes_large, draws, retires_open, retires_aside, retires_done, copies, claims, scans_open_more, scans_open_last, scans_held_more, scans_held_last, scans_large, exports, takes, owns, owns_large}
use Rattle.workers.proofs.OnePart.{moves}
use Rattle.workers_in_threads.specs.LastPlaces.{last_of, last_place, place_first, last_places, StandInOrder, at_end, passes, meets}

-- one place more was scanned
stand_push : {places scanned : List ℕ} (p : ℕ) → StandInOrder places scanned → StandInOrder places (scanned ++ p ∷ [])
stand_push p at_end = passes p at_end
stand_push p (passes q s) = passes q (stand_push p s)
stand_push p (meets q s) = meets q (stand_push p s)

-- and it is the next of them
stand_meet : {places scanned : List ℕ} (p : ℕ) → StandInOrder places scanned → StandInOrder (places ++ p ∷ []) (scanned ++ p ∷ [])
stand_meet p at_end = meets p at_end
stand_meet p (passes q s) = passes q (stand_meet p s)
stand_meet p (meets q s) = meets q (stand_meet p s)

last_places_push : (bs : List Block) (b : Block) → last_places (bs ++ b ∷ []) ≡ last_places bs ++ place_first (last_place b) []
last_places_push [] b = refl
last_places_push (x ∷ bs) b = by (last_place x) (last_places_push bs b)
  where
    by : (o : Option ℕ) → last_places (bs ++ b ∷ []) ≡ last_places bs ++ place_first (last_place b) [] → place_first o (last_places (bs ++ b ∷ [])) ≡ place_first o (last_places bs) ++ place_first (last_place b) []
    by None e = e
    by (Some p) e = ap (λ ps. p ∷ ps) e

-- a field written in a copy leaves the places as they are
places_kept : (f : Copy → Copy) → ((c : Copy) → (f c).place ≡ c.place) → (cs : List Copy) (i : ℕ) → map (λ (c : Copy). c.place) (updated f cs i) ≡ map (λ (c : Copy). c.place) cs
places_kept f k [] i = refl
places_kept f k (c ∷ cs) zero = ap (λ p. p ∷ map (λ (x : Copy). x.place) cs) (k c)
places_kept f k (c ∷ cs) (suc i) = ap (λ ps. c.place ∷ ps) (places_kept f k cs i)

last_kept : (i : ℕ) (v : Option ℕ) (b : Block) → last_place (with_field i v b) ≡ last_place b
last_kept i v b = ap last_of (places_kept (λ (c : Copy). record c { pointers = slice_set c.pointers i v }) (λ c. refl) b.copies b.front)

-- the copy behind which there is none has the last place
last_there : (cs : List Copy) (i : ℕ) (c : Copy) → slice_get cs i ≡ Some c → length cs ≤ i + 1 → last_of (map (λ (x : Copy). x.place) cs) ≡ Some c.place
last_there [] i c e l = absurd (none-some e)
last_there (x ∷ []) zero c e l = ap (option_map (λ (y : Copy). y.place)) e
last_there (x ∷ y ∷ cs) zero c e l = absurd (omega (arith, l))
last_there (x ∷ cs) (suc i) c e l = ap (λ o. Some (unwrap_or o x.place)) (last_there cs i c e (omega (arith, l)))

last_front : (b : Block) (c : Copy) → front_copy b ≡ Some c → has_unscanned (with_front_moved b) ≡ false → last_place b ≡ Some c.place
last_front b c e u = last_there b.copies b.front c e (ltb-false _ _ u)

-- the last places of all that was taken stand in the scanned list; or those of all but the latest block, which is in hand, with its last copy still to come
data Stage (hand : Hand) (scanned : List ℕ) (taken : List Block) : Type 0 where
  all_stand : StandInOrder (last_places taken) scanned → Stage hand scanned taken
  one_comes : (before : List Block) (latest held : Block) → taken ≡ before ++ latest ∷ [] → hand ≡ Holding held → last_place latest ≡ last_place held → StandInOrder (last_places before) scanned → Stage hand scanned taken

-- no block is in hand
abbrev HoldsNone : Hand → Type 0
HoldsNone hand = (b : Block) → hand ≡ Holding b → ⊥

none_held : {hand : Hand} → hand ≡ Nothing → HoldsNone hand
none_held e b q = absurd (cc)

open_held : {hand : Hand} {d : ℕ} → hand ≡ Open d → HoldsNone hand
open_held e b q = absurd (cc)

large_held : {hand : Hand} {n : ℕ} → hand ≡ HoldingLarge n → HoldsNone hand
large_held e b q = absurd (cc)

stood : {hand : Hand} {scanned : List ℕ} {taken : List Block} → HoldsNone hand → Stage hand scanned taken → StandInOrder (last_places taken) scanned
stood n (all_stand s) = s
stood n (one_comes before latest held t e q s) = absurd (n held e)

held_same : {a b : Block} {hand : Hand} → hand ≡ Holding a → hand ≡ Holding b → a ≡ b
held_same e q = cc

module _ (setting : Setting) where
  move_stage : {w w' : Worker} {h h' : History} → Move setting w h w' h' → Stage w.hand w.scanned h.taken → Stage w'.hand w'.scanned h'.taken
  move_stage (learns name place y) k = k
  move_stage (proposes p) k = k
  move_stage (finishes t ts v e q) k = k
  move_stage (writes_open d b c o v e a r s q) k = k
  move_stage (writes_held b c o v e r s q) (all_stand x) = all_stand x
  move_stage {w = w} (writes_held b c o v e r s q) (one_comes before latest held t p l x) =
      one_comes before latest (with_field w.fields v b) t refl (l ∙ ap last_place (held_same p e) ∙ sym (last_kept w.fields v b)) x
  move_stage (writes_large n o v e s q) k = k
  move_stage (draws d number e r) k = k
  move_stage (retires_open d number b a e fu) k = all_stand (stood (open_held e) k)
  move_stage (retires_aside d number b a ne u fu) k = k
  move_stage (retires_done d number b a ne u fu) k = k
  move_stage (copies d b copy rest a i q l z y to) k = k
  move_stage (claims n rest q l) k = k
  move_stage (scans_open_more d b c e a r s u) k = all_stand (stand_push c.place (stood (open_held e) k))
  move_stage (scans_open_last d b c e a r s u) k = all_stand (stand_push c.place (stood (open_held e) k))
  move_stage (scans_held_more b c e r s u) (all_stand x) = all_stand (stand_push c.place x)
  move_stage (scans_held_more b c e r s u) (one_comes before latest held t p l x) =
      one_comes before latest (with_front_moved b) t refl (l ∙ ap last_place (held_same p e)) (stand_push c.place x)
  move_stage (scans_held_last b c e r s u) (all_stand x) = all_stand (stand_push c.place x)
  move_stage {w = w} (scans_held_last b c e r s u) (one_comes before latest held t p l x) =
      let last : last_place latest ≡ Some c.place = l ∙ ap last_place (held_same p e) ∙ last_front b c r u in
      all_stand (subst (λ ps. StandInOrder ps (w.scanned ++ c.place ∷ [])) (sym (ap last_places t ∙ last_places_push before latest ∙ ap (λ o. last_places before ++ place_first o []) last)) (stand_meet c.place x))
  move_stage (scans_large n e s) k = all_stand (stand_push n (stood (large_held e) k))
  move_stage (exports b bs e) k = k
  move_stage {h = h} (takes b e u) k = one_comes h.taken b b refl refl refl (stood (none_held e) k)
  move_stage (owns d b e a u) k = all_stand (stood (none_held e) k)
  move_stage (owns_large n ns e a) k = all_stand (stood (none_held e) k)

  moves_stage : {s : Worker} {k : History} {w : Worker} {h : History} → Moves setting s k w h → Stage s.hand s.scanned k.taken → Stage w.hand w.scanned h.taken
  moves_stage none x = x
  moves_stage (more ms m) x = move_stage m (moves_stage ms x)

  -- it took no block that was scanned
  move_unscanned : {w w' : Worker} {h h' : History} → Move setting w h w' h' → Each (λ (b : Block). has_unscanned b ≡ true) h.taken → Each (λ (b : Block). has_unscanned b ≡ true) h'.taken
  move_unscanned {h = h} (takes b e u) k = Each-append (λ (x : Block). has_unscanned x ≡ true) h.taken (b ∷ []) k (u, tt)
  move_unscanned _ k = k

  moves_unscanned : {s : Worker} {k : History} {w : Worker} {h : History} → Moves setting s k w h → Each (λ (b : Block). has_unscanned b ≡ true) k.taken → Each (λ (b : Block). has_unscanned b ≡ true) h.taken
  moves_unscanned none x = x
  moves_unscanned (more ms m) x = move_unscanned m (moves_unscanned ms x)

  module _ (part : Part) (r : HasRun setting part) where
    pub stand_in_order : StandInOrder (last_places part.history.taken) part.final.scanned
    stand_in_order = stood (none_held r.out.free.no_hand) (moves_stage (moves setting part r) (all_stand (subst (StandInOrder []) (sym r.opening.no_scanned) at_end)))

    pub each_unscanned : Each (λ (b : Block). has_unscanned b ≡ true) part.history.taken
    each_unscanned = moves_unscanned (moves setting part r) tt

-- No more pointers of the current object are finished than it has.
use Rattle.std.proofs.Common.{◌≡◌, ◌≢◌, ℕ, ◌+◌, ◌<◌, ◌≤◌, [], Option, Some, None, sym, ap, subst, ◌∙◌, ⊎_elim, set, length, arith}
use Rattle.std.proofs.lemmas.Bool.{cases_eq}
use Rattle.std.specs.Prelude.{slice_get, slice_set}
use Rattle.std.specs.Option.{option_map, option_and_then, option_map_or}
use Rattle.model.specs.Graph.{Object}
use Rattle.workers.specs.Block.{Block, Copy, front_copy, updated, with_field, with_copy}
use Rattle.workers.specs.Setting.{Setting, old_field, old_pointers}
use Rattle.workers.specs.Worker.{Worker, Hand, Nothing, Open, Holding, HoldingLarge, allocation_at, current_in, current_object}
use Rattle.workers.specs.WorkerRun.{History}
use Rattle.workers.specs.Joined.{OnSome}
use Rattle.workers.proofs.Lists.{at, mapped, none-some, at-updated_same, at-updated_other, at-set_other, get-lt, get-updated}
use Rattle.workers.proofs.Moves.{Move, Moves, none, more, learns, proposes, finishes, writes_open, writes_held, writes_large, draws, retires_open, retires_aside, retires_done, copies, claims, scans_open_more, scans_open_last, scans_held_more, scans_held_last, scans_large, exports, takes, owns, owns_large, HandFit, Fit, name_place, front-copy, moves_fit}
use Rattle.workers.proofs.WorkerFalls.{FieldsIn}

module _ (setting : Setting) where
  -- so many fields are among those of the object
  abbrev In : ℕ → Option (ℕ × ℕ) → Type 0
  In i o = OnSome (λ c. i ≤ length (old_pointers setting c.0)) o

  none_in : (o : Option (ℕ × ℕ)) → In 0 o
  none_in None = tt
  none_in (Some c) = omega arith

  zero_in : (i : ℕ) (o : Option (ℕ × ℕ)) → i ≡ 0 → In i o
  zero_in i o e = subst (λ k. In k o) (sym e) (none_in o)

  field_lt : (name i : ℕ) (o : Option ℕ) → old_field setting name i ≡ Some o → i < length (old_pointers setting name)
  field_lt name i o e = go (setting.object name) e
    where
      go : (x : Option Object) → option_and_then (λ y. slice_get y.pointers i) x ≡ Some o → i < length (option_map_or (λ y. y.pointers) x [])
      go None e = absurd (none-some e)
      go (Some y) e = get-lt y.pointers i o e

  field_in : (c : ℕ × ℕ) (i : ℕ) (o : Option ℕ) → old_field setting c.0 i ≡ Some o → In (i + 1) (Some c)
  field_in c i o e = let l = field_lt c.0 i o e in omega arith

  front_field : (i : ℕ) (v : Option ℕ) (b : Block) (c : Copy) → front_copy b ≡ Some c → option_map name_place (front_copy (with_field i v b)) ≡ Some (c.name, c.place)
  front_field i v b c e = ap (option_map name_place) (get-updated (λ (x : Copy). record x { pointers = slice_set x.pointers i v }) b.copies b.front ∙ ap (option_map (λ (x : Copy). record x { pointers = slice_set x.pointers i v })) e)

  set_in : (w : Worker) (d : ℕ) (v : Option Block) (i : ℕ) (hand : Hand) → hand ≢ Open d → In i (current_in w hand) → In i (current_in (record w { allocation = set w.allocation d v }) hand)
  set_in w d v i Nothing ne l = l
  set_in w d v i (Open e) ne l = subst (λ o. In i (option_map name_place (option_and_then front_copy o))) (sym (at-set_other w.allocation d e v (λ p. ne (ap Open p)))) l
  set_in w d v i (Holding b) ne l = l
  set_in w d v i (HoldingLarge n) ne l = l

  copy_in : (w : Worker) (d : ℕ) (c : Copy) (i : ℕ) (hand : Hand) → HandFit w hand → In i (current_in w hand) → In i (current_in (record w { allocation = updated (mapped (with_copy c)) w.allocation d }) hand)
  copy_in w d c i Nothing f l = l
  copy_in w d c i (Open e) f l =
      ⊎_elim
      (λ (p : e ≡ d).
      let x : at (updated (mapped (with_copy c)) w.allocation d) e ≡ Some (with_copy c f.0) = ap (at (updated (mapped (with_copy c)) w.allocation d)) p ∙ at-updated_same (with_copy c) w.allocation d ∙ ap (mapped (with_copy c)) (ap (at w.allocation) (sym p) ∙ f.1.0) in
      let y : option_and_then front_copy (at (updated (mapped (with_copy c)) w.allocation d) e) ≡ option_and_then front_copy (at w.allocation e) = ap (option_and_then front_copy) x ∙ front-copy c f.0 f.1.1 ∙ sym (ap (option_and_then front_copy) f.1.0) in
      subst (λ o. In i (option_map name_place o)) (sym y) l)
      (λ (n : e ≢ d). subst (λ o. In i (option_map name_place (option_and_then front_copy o))) (sym (at-updated_other (with_copy c) w.allocation d e n)) l)
      (cases_eq e d)
  copy_in w d c i (Holding b) f l = l
  copy_in w d c i (HoldingLarge n) f l = l

  empty_hand : (w : Worker) → w.hand ≡ Nothing → Fit w → w.fields ≡ 0
  empty_hand w e f = let x : HandFit w Nothing = subst (HandFit w) e f in x

  move_fields : {w w' : Worker} {h h' : History} → Move setting w h w' h' → Fit w → FieldsIn setting w → FieldsIn setting w'
  move_fields (learns name place y) f l = l
  move_fields (proposes p) f l = l
  move_fields (finishes t ts v e q) f l = l
  move_fields {w = w} (writes_open d b c o v e a r s q) f l =
      subst (λ hand. In (w.fields + 1) (current_in (record w { fields = w.fields + 1; allocation = updated (mapped (with_field w.fields v)) w.allocation d }) hand)) (sym e)
      (subst (In (w.fields + 1)) (sym (ap (λ x. option_map name_place (option_and_then front_copy x)) (at-updated_same (with_field w.fields v) w.allocation d ∙ ap (mapped (with_field w.fields v)) a) ∙ front_field w.fields v b c r)) (field_in (c.name, c.place) w.fields o s))
  move_fields {w = w} (writes_held b c o v e r s q) f l = subst (In (w.fields + 1)) (sym (front_field w.fields v b c r)) (field_in (c.name, c.place) w.fields o s)
  move_fields {w = w} (writes_large n o v e s q) f l = subst (λ hand. In (w.fields + 1) (current_in (record w { fields = w.fields + 1 }) hand)) (sym e) (field_in (n, n) w.fields o s)
  move_fields {w = w} (draws d number e r) f l = set_in w d _ w.fields w.hand (λ p. let x : HandFit w (Open d) = subst (HandFit w) p f in none-some (sym e ∙ x.1.0)) l
  move_fields {w = w} (retires_open d number b a e fu) f l =
      let x : In w.fields (option_map name_place (option_and_then front_copy (allocation_at w d))) = subst (λ hand. In w.fields (current_in w hand)) e l in
      subst (λ o. In w.fields (option_map name_place (option_and_then front_copy o))) a x
  move_fields {w = w} (retires_aside d number b a ne u fu) f l = set_in w d _ w.fields w.hand ne l
  move_fields {w = w} (retires_done d number b a ne u fu) f l = set_in w d _ w.fields w.hand ne l
  move_fields {w = w} (copies d b copy rest a i q k z y to) f l = copy_in w d copy w.fields w.hand f l
  move_fields (claims n rest q k) f l = l
  move_fields {w' = w'} (scans_open_more d b c e a r s u) f l = none_in (current_object w')
  move_fields {w' = w'} (scans_open_last d b c e a r s u) f l = none_in (current_object w')
  move_fields {w' = w'} (scans_held_more b c e r s u) f l = none_in (current_object w')
  move_fields {w' = w'} (scans_held_last b c e r s u) f l = none_in (current_object w')
  move_fields {w' = w'} (scans_large n e s) f l = none_in (current_object w')
  move_fields (exports b bs e) f l = l
  move_fields {w = w} {w' = w'} (takes b e u) f l = zero_in w.fields (current_object w') (empty_hand w e f)
  move_fields {w = w} {w' = w'} (owns d b e a u) f l = zero_in w.fields (current_object w') (empty_hand w e f)
  move_fields {w = w} {w' = w'} (owns_large n ns e a) f l = zero_in w.fields (current_object w') (empty_hand w e f)

  pub moves_fields : {s : Worker} {k : History} {w : Worker} {h : History} → Moves setting s k w h → Fit s → FieldsIn setting s → FieldsIn setting w
  moves_fields none f l = l
  moves_fields (more ms m) f l = move_fields m (moves_fit setting ms f) (moves_fields ms f l)

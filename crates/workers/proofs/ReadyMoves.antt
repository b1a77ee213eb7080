-- A worker's moves keep ahead of its scan what the originals hold.
use Rattle.std.proofs.Common.{◌≡◌, ◌≢◌, ℕ, ◌+◌, true, List, [], ◌∷◌, Option, Some, None, sym, ap, subst, ◌∙◌, ⊎_elim, set}
use Rattle.std.proofs.lemmas.Bool.{cases_eq}
use Rattle.workers.specs.Block.{Block, Copy, empty_block, has_unscanned, updated, with_field, with_copy, with_front_moved}
use Rattle.workers.specs.Setting.{Setting}
use Rattle.workers.specs.Worker.{Worker, Hand, Nothing, Open, Holding, HoldingLarge, allocation_at}
use Rattle.workers.specs.WorkerRun.{History}
use Rattle.workers.specs.Joined.{Each, OnSome}
use Rattle.workers.specs.Ready.{IsUnwritten}
use Rattle.workers.proofs.Lists.{Each-append, Each-left, Each-right, at, mapped, none-some, at-updated_same, at-updated_other, at-set_either, at-set_other}
use Rattle.workers.proofs.Moves.{Move, Moves, none, more, learns, proposes, finishes, writes_open, writes_held, writes_large, draws, retires_open, retires_aside, retires_done, copies, claims, scans_open_more, scans_open_last, scans_held_more, scans_held_last, scans_large, exports, takes, owns, owns_large, HandFit, Fit, moves_fit}
use Rattle.workers.proofs.ReadyCopies.{Ahead, IsYoungCopy, empty_ahead, field_ahead, moved_ahead, copied_ahead}

module _ (setting : Setting) where
  -- k pointers of what is in hand are finished
  abbrev pub HandAhead : ℕ → Hand → List (Option Block) → Type 0
  HandAhead k Nothing al = Unit {0}
  HandAhead k (Open d) al = OnSome (Ahead setting k) (at al d)
  HandAhead k (Holding b) al = Ahead setting k b
  HandAhead k (HoldingLarge n) al = Unit {0}

  -- the allocation blocks that aren't in hand
  abbrev OthersAhead : Hand → List (Option Block) → Type 0
  OthersAhead hand al = (d : ℕ) → hand ≢ Open d → OnSome (Ahead setting 0) (at al d)

  abbrev pub Waits : Block → Type 0
  Waits b = Ahead setting 0 b × (has_unscanned b ≡ true)

  abbrev pub Keeps : Worker → Type 0
  Keeps w = OthersAhead w.hand w.allocation × (HandAhead w.fields w.hand w.allocation × Each Waits w.aside)

  -- the allocation changes at d
  set_at : (k d e : ℕ) (b : Block) (al : List (Option Block)) → Ahead setting k b → (e ≢ d → OnSome (Ahead setting k) (at al e)) → OnSome (Ahead setting k) (at (set al d (Some b)) e)
  set_at k d e b al a h =
      ⊎_elim
      (λ (p : e ≡ d). subst (λ x. OnSome (Ahead setting k) (at (set al d (Some b)) x)) (sym p) (at-set_either (OnSome (Ahead setting k)) al d (Some b) a tt))
      (λ (n : e ≢ d). subst (OnSome (Ahead setting k)) (sym (at-set_other al d e (Some b) n)) (h n))
      (cases_eq e d)

  set_hand : (k d : ℕ) (v : Option Block) (al : List (Option Block)) (hand : Hand) → hand ≢ Open d → HandAhead k hand al → HandAhead k hand (set al d v)
  set_hand k d v al Nothing ne h = tt
  set_hand k d v al (Open e) ne h = subst (OnSome (Ahead setting k)) (sym (at-set_other al d e v (λ p. ne (ap Open p)))) h
  set_hand k d v al (Holding b) ne h = h
  set_hand k d v al (HoldingLarge n) ne h = tt

  -- a copy is added at d
  module _ (copy : Copy) (young : IsYoungCopy setting copy) (unwritten : IsUnwritten setting copy) (d : ℕ) where
    push_some : (k : ℕ) (o : Option Block) → OnSome (Ahead setting k) o → OnSome (Ahead setting k) (mapped (with_copy copy) o)
    push_some k None h = tt
    push_some k (Some b) h = copied_ahead setting k copy b young unwritten h

    push_at : (k e : ℕ) (al : List (Option Block)) → OnSome (Ahead setting k) (at al e) → OnSome (Ahead setting k) (at (updated (mapped (with_copy copy)) al d) e)
    push_at k e al h =
        ⊎_elim
        (λ (p : e ≡ d). subst (λ x. OnSome (Ahead setting k) (at (updated (mapped (with_copy copy)) al d) x)) (sym p) (subst (OnSome (Ahead setting k)) (sym (at-updated_same (with_copy copy) al d)) (push_some k (at al d) (subst (λ x. OnSome (Ahead setting k) (at al x)) p h))))
        (λ (n : e ≢ d). subst (OnSome (Ahead setting k)) (sym (at-updated_other (with_copy copy) al d e n)) h)
        (cases_eq e d)

    push_hand : (k : ℕ) (al : List (Option Block)) (hand : Hand) → HandAhead k hand al → HandAhead k hand (updated (mapped (with_copy copy)) al d)
    push_hand k al Nothing h = tt
    push_hand k al (Open e) h = push_at k e al h
    push_hand k al (Holding b) h = h
    push_hand k al (HoldingLarge n) h = tt

  apart : (w : Worker) (d e : ℕ) → w.hand ≡ Open d → e ≢ d → w.hand ≢ Open e
  apart w d e h n p = (let q : Open d ≡ Open e = sym h ∙ p in let r : d ≡ e = cc in n (sym r))

  not_it : (d e : ℕ) → Open d ≢ Open e → e ≢ d
  not_it d e n p = n (ap Open (sym p))

  not_none : (w : Worker) (d : ℕ) → w.hand ≡ Nothing → w.hand ≢ Open d
  not_none w d h p = (let q : Nothing ≡ Open d = sym h ∙ p in absurd (cc))

  not_held : (w : Worker) (b : Block) (d : ℕ) → w.hand ≡ Holding b → w.hand ≢ Open d
  not_held w b d h p = (let q : Holding b ≡ Open d = sym h ∙ p in absurd (cc))

  not_large : (w : Worker) (n d : ℕ) → w.hand ≡ HoldingLarge n → w.hand ≢ Open d
  not_large w n d h p = (let q : HoldingLarge n ≡ Open d = sym h ∙ p in absurd (cc))

  -- the block in hand
  open_block : (w : Worker) (d : ℕ) (b : Block) → Keeps w → w.hand ≡ Open d → allocation_at w d ≡ Some b → Ahead setting w.fields b
  open_block w d b l e a = subst (OnSome (Ahead setting w.fields)) a (subst (λ hand. HandAhead w.fields hand w.allocation) e l.1.0)

  held_block : (w : Worker) (b : Block) → Keeps w → w.hand ≡ Holding b → Ahead setting w.fields b
  held_block w b l e = subst (λ hand. HandAhead w.fields hand w.allocation) e l.1.0

  other_block : (w : Worker) (d : ℕ) (b : Block) → Keeps w → w.hand ≢ Open d → allocation_at w d ≡ Some b → Ahead setting 0 b
  other_block w d b l ne a = subst (OnSome (Ahead setting 0)) a (l.0 d ne)

  none_done : (w : Worker) → Fit w → w.hand ≡ Nothing → w.fields ≡ 0
  none_done w f e = let x : HandFit w Nothing = subst (HandFit w) e f in x

  move_keeps : {w w' : Worker} {h h' : History} → Move setting w h w' h' → Fit w → Each (Ahead setting 0) h'.taken → Keeps w → Keeps w'
  move_keeps (learns name place y) f t l = l
  move_keeps (proposes p) f t l = l
  move_keeps (finishes x xs v e q) f t l = l
  move_keeps {w = w} (writes_open d b c o v e a r s q) f t l = (
    λ x n. (let ne : x ≢ d = λ p. n (e ∙ ap Open (sym p)) in subst (OnSome (Ahead setting 0)) (sym (at-updated_other (with_field w.fields v) w.allocation d x ne)) (l.0 x n)),
    (
      subst (λ hand. HandAhead (w.fields + 1) hand (updated (mapped (with_field w.fields v)) w.allocation d)) (sym e)
          (subst (OnSome (Ahead setting (w.fields + 1))) (sym (at-updated_same (with_field w.fields v) w.allocation d ∙ ap (mapped (with_field w.fields v)) a)) (field_ahead setting w.fields v b (open_block w d b l e a))),
      l.1.1,
    ),
  )
  move_keeps {w = w} (writes_held b c o v e r s q) f t l = (λ x n. l.0 x (not_held w b x e), (field_ahead setting w.fields v b (held_block w b l e), l.1.1))
  move_keeps {w = w} (writes_large n o v e s q) f t l = (l.0, (subst (λ hand. HandAhead (w.fields + 1) hand w.allocation) (sym e) tt, l.1.1))
  move_keeps {w = w} (draws d number e r) f t l =
      let ne : w.hand ≢ Open d = λ p. (let x : HandFit w (Open d) = subst (HandFit w) p f in none-some (sym e ∙ x.1.0)) in
      (λ x n. set_at 0 d x (empty_block number d) w.allocation (empty_ahead setting number d) (λ _. l.0 x n), (set_hand w.fields d _ w.allocation w.hand ne l.1.0, l.1.1))
  move_keeps {w = w} (retires_open d number b a e fu) f t l = (λ x n. set_at 0 d x (empty_block number d) w.allocation (empty_ahead setting number d) (λ ne. l.0 x (apart w d x e ne)), (open_block w d b l e a, l.1.1))
  move_keeps {w = w} (retires_aside d number b a ne u fu) f t l = (
    λ x n. set_at 0 d x (empty_block number d) w.allocation (empty_ahead setting number d) (λ _. l.0 x n),
    (set_hand w.fields d _ w.allocation w.hand ne l.1.0, Each-append Waits w.aside (b ∷ []) l.1.1 ((other_block w d b l ne a, u), tt)),
  )
  move_keeps {w = w} (retires_done d number b a ne u fu) f t l = (λ x n. set_at 0 d x (empty_block number d) w.allocation (empty_ahead setting number d) (λ _. l.0 x n), (set_hand w.fields d _ w.allocation w.hand ne l.1.0, l.1.1))
  move_keeps {w = w} (copies d b copy rest a i q k z y to) f t l =
      let u : IsUnwritten setting copy = ap (λ (c : Copy). c.pointers) i in
      (λ x n. push_at copy y u d 0 x w.allocation (l.0 x n), (push_hand copy y u d w.fields w.allocation w.hand l.1.0, l.1.1))
  move_keeps (claims n rest q k) f t l = l
  move_keeps {w = w} (scans_open_more d b c e a r s u) f t l =
      let m : Ahead setting 0 (with_front_moved b) = moved_ahead setting w.fields b (open_block w d b l e a) in
      (λ x n. set_at 0 d x (with_front_moved b) w.allocation m (λ ne. l.0 x (apart w d x e ne)), (at-set_either (OnSome (Ahead setting 0)) w.allocation d (Some (with_front_moved b)) m tt, l.1.1))
  move_keeps {w = w} (scans_open_last d b c e a r s u) f t l =
      let m : Ahead setting 0 (with_front_moved b) = moved_ahead setting w.fields b (open_block w d b l e a) in
      (λ x n. set_at 0 d x (with_front_moved b) w.allocation m (λ ne. l.0 x (apart w d x e ne)), (tt, l.1.1))
  move_keeps {w = w} (scans_held_more b c e r s u) f t l = (λ x n. l.0 x (not_held w b x e), (moved_ahead setting w.fields b (held_block w b l e), l.1.1))
  move_keeps {w = w} (scans_held_last b c e r s u) f t l = (λ x n. l.0 x (not_held w b x e), (tt, l.1.1))
  move_keeps {w = w} (scans_large n e s) f t l = (λ x m. l.0 x (not_large w n x e), (tt, l.1.1))
  move_keeps (exports b bs e) f t l = let x : Each Waits (b ∷ bs) = subst (Each Waits) e l.1.1 in (l.0, (l.1.0, x.1))
  move_keeps {w = w} {h = h} (takes b e u) f t l = (λ x n. l.0 x (not_none w x e), (subst (λ k. Ahead setting k b) (sym (none_done w f e)) (Each-right (Ahead setting 0) h.taken (b ∷ []) t).0, l.1.1))
  move_keeps {w = w} (owns d b e a u) f t l = (λ x n. l.0 x (not_none w x e), (subst (λ k. OnSome (Ahead setting k) (at w.allocation d)) (sym (none_done w f e)) (l.0 d (not_none w d e)), l.1.1))
  move_keeps {w = w} (owns_large n ns e a) f t l = (λ x m. l.0 x (not_none w x e), (tt, l.1.1))

  move_taken : {w w' : Worker} {h h' : History} → Move setting w h w' h' → Each (Ahead setting 0) h'.taken → Each (Ahead setting 0) h.taken
  move_taken {h = h} (takes b e u) t = Each-left (Ahead setting 0) h.taken (b ∷ []) t
  move_taken _ t = t

  pub moves_keep : {s : Worker} {k : History} {w : Worker} {h : History} → Moves setting s k w h → Fit s → Each (Ahead setting 0) h.taken → Keeps s → Keeps w
  moves_keep none f t l = l
  moves_keep (more ms m) f t l = move_keeps m (moves_fit setting ms f) t (moves_keep ms f (move_taken m t) l)

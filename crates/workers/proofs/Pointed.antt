-- The finished pointers of copies hold new places, the others what they held.
use Rattle.std.proofs.Common.{◌≡◌, ◌≢◌, ℕ, zero, suc, ◌+◌, Bool, true, false, List, [], ◌∷◌, ◌++◌, Option, Some, None, refl, sym, ap, subst, ◌∙◌, ⊎_elim, set, cond, true≢false, nat_eq, map, eq-eqb, ne_eqb, add-one}
use Rattle.std.proofs.lemmas.Bool.{cases_eq}
use Rattle.std.specs.Prelude.{slice_get, slice_set}
use Rattle.std.specs.Option.{option_and_then, option_map_or}
use Rattle.model.specs.Graph.{Object}
use Rattle.workers.specs.Block.{Block, Copy, empty_block, front_copy, updated, with_field, with_copy, with_front_moved}
use Rattle.workers.specs.Setting.{Setting, old_field, old_pointers, is_collected}
use Rattle.workers.specs.Worker.{Worker, Hand, Nothing, Open, Holding, HoldingLarge, allocation_at}
use Rattle.workers.specs.WorkerRun.{History}
use Rattle.workers.specs.Places.{new_pointer, new_pointers, IsPair}
use Rattle.workers.proofs.Lists.{Each, OnSome, Each-append, Each-left, Each-right, at, mapped, at-updated_same, at-updated_other, at-set_either, at-set_other, none-some}
use Rattle.workers.proofs.Moves.{Move, Moves, none, more, learns, proposes, finishes, writes_open, writes_held, writes_large, draws, retires_open, retires_aside, retires_done, copies, claims, scans_open_more, scans_open_last, scans_held_more, scans_held_last, scans_large, exports, takes, owns, owns_large, HandFit, Fit, Wrote, WroteTo, moves_fit}

-- it has a place
abbrev pub HasPlace : (ℕ → Option ℕ) → ℕ → Type 0
HasPlace f name = (place : ℕ) × (f name ≡ Some place)

-- where it leads to a collected object, this has a place
abbrev pub IsLed : Setting → (ℕ → Option ℕ) → Option ℕ → Type 0
IsLed setting f None = Unit {0}
IsLed setting f (Some t) = is_collected setting t ≡ true → HasPlace f t

pub old_field-get : (setting : Setting) (name i : ℕ) → old_field setting name i ≡ slice_get (old_pointers setting name) i
old_field-get setting name i = go (setting.object name)
  where
    go : (x : Option Object) → option_and_then (λ o. slice_get o.pointers i) x ≡ slice_get (option_map_or (λ o. o.pointers) x []) i
    go None = refl
    go (Some o) = refl

abbrev pub open_fields : Hand → ℕ → ℕ → ℕ
open_fields Nothing k d = 0
open_fields (Open e) k d = cond (nat_eq d e) k 0
open_fields (Holding b) k d = 0
open_fields (HoldingLarge n) k d = 0

open_fields-same : (k d : ℕ) → open_fields (Open d) k d ≡ k
open_fields-same k d = ap (λ x. cond x k 0) (eq-eqb d d refl)

open_fields-other : (hand : Hand) (k d : ℕ) → hand ≢ Open d → open_fields hand k d ≡ 0
open_fields-other Nothing k d n = refl
open_fields-other (Open e) k d n = ap (λ x. cond x k 0) (ne_eqb d e (λ p. n (ap Open (sym p))))
open_fields-other (Holding b) k d n = refl
open_fields-other (HoldingLarge x) k d n = refl

open_fields-zero : (hand : Hand) (d : ℕ) → open_fields hand 0 d ≡ 0
open_fields-zero Nothing d = refl
open_fields-zero (Open e) d = go (nat_eq d e)
  where
    go : (b : Bool) → ◌≡◌ {A = ℕ} (cond b 0 0) 0
    go true = refl
    go false = refl
open_fields-zero (Holding b) d = refl
open_fields-zero (HoldingLarge x) d = refl

module _ (setting : Setting) (f : ℕ → Option ℕ) where
  -- the first k are finished
  abbrev pub Partly : ℕ → List (Option ℕ) → List (Option ℕ) → Type 0
  Partly zero os vs = vs ≡ os
  Partly (suc k) [] vs = vs ≡ []
  Partly (suc k) (o ∷ os) [] = ⊥
  Partly (suc k) (o ∷ os) (v ∷ vs) = (v ≡ new_pointer setting f o) × (IsLed setting f o × Partly k os vs)

  pub record Wholly (name : ℕ) (vs : List (Option ℕ)) : Type 0 where
    pub new : vs ≡ new_pointers setting f name
    pub led : Each (IsLed setting f) (old_pointers setting name)

  abbrev pub LedTo : ℕ → List (Option ℕ) → Type 0
  LedTo zero os = Unit {0}
  LedTo (suc k) [] = Unit {0}
  LedTo (suc k) (o ∷ os) = IsLed setting f o × LedTo k os

  Partly-next : (k : ℕ) (os vs : List (Option ℕ)) (o v : Option ℕ) → slice_get os k ≡ Some o → v ≡ new_pointer setting f o → IsLed setting f o → Partly k os vs → Partly (suc k) os (slice_set vs k v)
  Partly-next zero [] vs o v g e l h = absurd (none-some g)
  Partly-next zero (x ∷ os) vs o v g e l h =
      let q : x ≡ o = cc in
      subst (λ y. Partly 1 (x ∷ os) (slice_set y 0 v)) (sym h) (e ∙ ap (new_pointer setting f) (sym q), (subst (IsLed setting f) (sym q) l, refl))
  Partly-next (suc k) [] vs o v g e l h = absurd (none-some g)
  Partly-next (suc k) (x ∷ os) [] o v g e l h = h
  Partly-next (suc k) (x ∷ os) (y ∷ vs) o v g e l h = (h.0, (h.1.0, Partly-next k os vs o v g e l h.1.1))

  Partly-all : (k : ℕ) (os vs : List (Option ℕ)) → slice_get os k ≡ None → Partly k os vs → (vs ≡ map (new_pointer setting f) os) × Each (IsLed setting f) os
  Partly-all zero [] vs g h = (h, tt)
  Partly-all zero (x ∷ os) vs g h = absurd (none-some (sym g))
  Partly-all (suc k) [] vs g h = (h, tt)
  Partly-all (suc k) (x ∷ os) [] g h = absurd h
  Partly-all (suc k) (x ∷ os) (y ∷ vs) g h =
      let r = Partly-all k os vs g h.1.1 in
      (ap (λ z. z ∷ vs) h.0 ∙ ap (λ z. new_pointer setting f x ∷ z) r.0, (h.1.0, r.1))

  LedTo-next : (k : ℕ) (os : List (Option ℕ)) (o : Option ℕ) → slice_get os k ≡ Some o → IsLed setting f o → LedTo k os → LedTo (suc k) os
  LedTo-next zero [] o g l h = tt
  LedTo-next zero (x ∷ os) o g l h = let q : x ≡ o = cc in (subst (IsLed setting f) (sym q) l, tt)
  LedTo-next (suc k) [] o g l h = tt
  LedTo-next (suc k) (x ∷ os) o g l h = (h.0, LedTo-next k os o g l h.1)

  LedTo-all : (k : ℕ) (os : List (Option ℕ)) → slice_get os k ≡ None → LedTo k os → Each (IsLed setting f) os
  LedTo-all k [] g h = tt
  LedTo-all zero (x ∷ os) g h = absurd (none-some (sym g))
  LedTo-all (suc k) (x ∷ os) g h = (h.0, LedTo-all k os g h.1)

  abbrev pub Untouched : Copy → Type 0
  Untouched c = c.pointers ≡ old_pointers setting c.name

  -- the copies before the front are finished, of the first at the front so many pointers are, the others hold what they held
  abbrev pub Copies : ℕ → ℕ → List Copy → Type 0
  Copies k front [] = (front ≡ 0) × (k ≡ 0)
  Copies k zero (c ∷ cs) = Partly k (old_pointers setting c.name) c.pointers × Each Untouched cs
  Copies k (suc front) (c ∷ cs) = Wholly c.name c.pointers × Copies k front cs

  abbrev pub Good : ℕ → Block → Type 0
  Good k b = Copies k b.front b.copies

  Copies-field : (k front : ℕ) (cs : List Copy) (c : Copy) (o v : Option ℕ) → slice_get cs front ≡ Some c → slice_get (old_pointers setting c.name) k ≡ Some o → v ≡ new_pointer setting f o → IsLed setting f o → Copies k front cs → Copies (suc k) front (updated (λ copy. record copy { pointers = slice_set copy.pointers k v }) cs front)
  Copies-field k front [] c o v g s e l h = absurd (none-some g)
  Copies-field k zero (x ∷ cs) c o v g s e l h =
      let q : x ≡ c = cc in
      (Partly-next k (old_pointers setting x.name) x.pointers o v (ap (λ y. slice_get (old_pointers setting y.name) k) q ∙ s) e l h.0, h.1)
  Copies-field k (suc front) (x ∷ cs) c o v g s e l h = (h.0, Copies-field k front cs c o v g s e l h.1)

  Untouched-all : (cs : List Copy) → Each Untouched cs → Copies 0 0 cs
  Untouched-all [] h = (refl, refl)
  Untouched-all (c ∷ cs) h = h

  Copies-moved : (k front : ℕ) (cs : List Copy) (c : Copy) → slice_get cs front ≡ Some c → slice_get (old_pointers setting c.name) k ≡ None → Copies k front cs → Copies 0 (suc front) cs
  Copies-moved k front [] c g s h = absurd (none-some g)
  Copies-moved k zero (x ∷ cs) c g s h =
      let q : x ≡ c = cc in
      let r = Partly-all k (old_pointers setting x.name) x.pointers (ap (λ y. slice_get (old_pointers setting y.name) k) q ∙ s) h.0 in
      (record { new = r.0; led = r.1 }, Untouched-all cs h.1)
  Copies-moved k (suc front) (x ∷ cs) c g s h = (h.0, Copies-moved k front cs c g s h.1)

  Copies-append : (k front : ℕ) (cs : List Copy) (c : Copy) → Untouched c → Copies k front cs → Copies k front (cs ++ c ∷ [])
  Copies-append k front [] c u h = subst (λ x. Copies k x (c ∷ [])) (sym h.0) (subst (λ x. Copies x 0 (c ∷ [])) (sym h.1) (u, tt))
  Copies-append k zero (x ∷ cs) c u h = (h.0, Each-append Untouched cs (c ∷ []) h.1 (u, tt))
  Copies-append k (suc front) (x ∷ cs) c u h = (h.0, Copies-append k front cs c u h.1)

  field-good : (k : ℕ) (b : Block) (c : Copy) (o v : Option ℕ) → front_copy b ≡ Some c → old_field setting c.name k ≡ Some o → v ≡ new_pointer setting f o → IsLed setting f o → Good k b → Good (k + 1) (with_field k v b)
  field-good k b c o v g s e l h = subst (λ n. Good n (with_field k v b)) (sym (add-one k)) (Copies-field k b.front b.copies c o v g (sym (old_field-get setting c.name k) ∙ s) e l h)

  moved-good : (k : ℕ) (b : Block) (c : Copy) → front_copy b ≡ Some c → old_field setting c.name k ≡ None → Good k b → Good 0 (with_front_moved b)
  moved-good k b c g s h = subst (λ n. Copies 0 n b.copies) (sym (add-one b.front)) (Copies-moved k b.front b.copies c g (sym (old_field-get setting c.name k) ∙ s) h)

  -- what was written is what the pointer holds in the end
  wrote-new : (known : List (ℕ × ℕ)) (o v : Option ℕ) → Each (IsPair f) known → Wrote setting known o v → (v ≡ new_pointer setting f o) × IsLed setting f o
  wrote-new known None v a q = (q, tt)
  wrote-new known (Some t) v a q = go (is_collected setting t) q
    where
      go : (y : Bool) → WroteTo y known t v → (v ≡ cond y (f t) (Some t)) × (y ≡ true → HasPlace f t)
      go true q =
          let p : f t ≡ Some q.0 = (subst (Each (IsPair f)) q.1.1.1 a).0 in
          (q.1.1.0 ∙ sym p, λ _. (q.0, p))
      go false q = (q, λ e. absurd (true≢false (sym e)))

  -- of a worker; of blocks that it took only where P
  module _ (P : Type 0) (start : Worker) where
    abbrev pub HandGood : ℕ → Hand → Type 0
    HandGood k Nothing = Unit {0}
    HandGood k (Open d) = Unit {0}
    HandGood k (Holding b) = P → Good k b
    HandGood k (HoldingLarge n) = LedTo k (old_pointers setting n)

    abbrev AllocationGood : Hand → ℕ → List (Option Block) → Type 0
    AllocationGood hand k al = (d : ℕ) → OnSome (Good (open_fields hand k d)) (at al d)

    pub record Pointed (w : Worker) (h : History) : Type 0 where
      pub starts : Each (λ t. IsLed setting f (Some t)) w.starts → Each (λ t. IsLed setting f (Some t)) start.starts
      pub allocation : (d : ℕ) → OnSome (Good (open_fields w.hand w.fields d)) (allocation_at w d)
      pub hand : HandGood w.fields w.hand
      pub aside : Each (Good 0) w.aside
      pub done : P → Each (Good 0) w.done
      pub exported : Each (Good 0) h.exported
      pub large_done : Each (λ n. Each (IsLed setting f) (old_pointers setting n)) w.large_done

    -- one place of the allocation changes
    set-good : (hand hand' : Hand) (k k' d : ℕ) (al : List (Option Block)) (b : Block) → Good (open_fields hand' k' d) b → ((e : ℕ) → e ≢ d → open_fields hand k e ≡ open_fields hand' k' e) → AllocationGood hand k al → AllocationGood hand' k' (set al d (Some b))
    set-good hand hand' k k' d al b g s a e =
        ⊎_elim
        (λ (p : e ≡ d). subst (λ x. OnSome (Good (open_fields hand' k' x)) (at (set al d (Some b)) x)) (sym p) (at-set_either (OnSome (Good (open_fields hand' k' d))) al d (Some b) g tt))
        (λ (n : e ≢ d). subst (OnSome (Good (open_fields hand' k' e))) (sym (at-set_other al d e (Some b) n)) (subst (λ x. OnSome (Good x) (at al e)) (s e n) (a e)))
        (cases_eq e d)

    updated-good : (hand : Hand) (k k' d : ℕ) (al : List (Option Block)) (b : Block) (g : Block → Block) → at al d ≡ Some b → Good (open_fields hand k' d) (g b) → ((e : ℕ) → e ≢ d → open_fields hand k e ≡ open_fields hand k' e) → AllocationGood hand k al → AllocationGood hand k' (updated (mapped g) al d)
    updated-good hand k k' d al b g q h s a e =
        ⊎_elim
        (λ (p : e ≡ d). subst (λ x. OnSome (Good (open_fields hand k' x)) (at (updated (mapped g) al d) x)) (sym p) (subst (OnSome (Good (open_fields hand k' d))) (sym (at-updated_same g al d ∙ ap (mapped g) q)) h))
        (λ (n : e ≢ d). subst (OnSome (Good (open_fields hand k' e))) (sym (at-updated_other g al d e n)) (subst (λ x. OnSome (Good x) (at al e)) (s e n) (a e)))
        (cases_eq e d)

    not_open : (d e : ℕ) → e ≢ d → Open d ≢ Open e
    not_open d e n p = n (let q : d ≡ e = cc in sym q)

    open_fields-apart : (k k' d e : ℕ) → e ≢ d → open_fields (Open d) k e ≡ open_fields (Open d) k' e
    open_fields-apart k k' d e n = open_fields-other (Open d) k e (not_open d e n) ∙ sym (open_fields-other (Open d) k' e (not_open d e n))

    block-good : (w : Worker) (h : History) (d : ℕ) (b : Block) → Pointed w h → allocation_at w d ≡ Some b → Good (open_fields w.hand w.fields d) b
    block-good w h d b p a = subst (OnSome (Good (open_fields w.hand w.fields d))) a (p.allocation d)

    move_pointed : {w w' : Worker} {h h' : History} → Move setting w h w' h' → Fit w → Each (IsPair f) h'.known → (P → Each (Good 0) h'.taken) → Pointed w h → Pointed w' h'
    move_pointed (learns name place y) fit a t p = record { starts = p.starts; allocation = p.allocation; hand = p.hand; aside = p.aside; done = p.done; exported = p.exported; large_done = p.large_done }
    move_pointed (proposes x) fit a t p = record { starts = p.starts; allocation = p.allocation; hand = p.hand; aside = p.aside; done = p.done; exported = p.exported; large_done = p.large_done }
    move_pointed {h = h} (finishes x xs v e q) fit a t p =
        let r = wrote-new h.known (Some x) v a q in
        record { starts = λ l. p.starts (subst (Each (λ y. IsLed setting f (Some y))) (sym e) (r.1, l)); allocation = p.allocation; hand = p.hand; aside = p.aside; done = p.done; exported = p.exported; large_done = p.large_done }
    move_pointed {w = w} {h = h} (writes_open d b c o v e al fc s q) fit a t p =
        let r = wrote-new h.known o v a q in
        let g : Good (open_fields w.hand w.fields d) b = block-good w h d b p al in
        let g' : Good w.fields b = subst (λ x. Good x b) (ap (λ y. open_fields y w.fields d) e ∙ open_fields-same w.fields d) g in
        let g2 : Good (w.fields + 1) (with_field w.fields v b) = field-good w.fields b c o v fc s r.0 r.1 g' in
        record {
          starts = p.starts;
          allocation = updated-good w.hand w.fields (w.fields + 1) d w.allocation b (with_field w.fields v) al
              (subst (λ x. Good x (with_field w.fields v b)) (sym (ap (λ y. open_fields y (w.fields + 1) d) e ∙ open_fields-same (w.fields + 1) d)) g2)
              (λ x n. ap (λ y. open_fields y w.fields x) e ∙ open_fields-apart w.fields (w.fields + 1) d x n ∙ sym (ap (λ y. open_fields y (w.fields + 1) x) e))
              p.allocation;
          hand = subst (HandGood (w.fields + 1)) (sym e) tt;
          aside = p.aside;
          done = p.done;
          exported = p.exported;
          large_done = p.large_done;
        }
    move_pointed {w = w} {h = h} (writes_held b c o v e fc s q) fit a t p =
        let r = wrote-new h.known o v a q in
        let g : P → Good w.fields b = subst (HandGood w.fields) e p.hand in
        record { starts = p.starts; allocation = subst (λ y. AllocationGood y w.fields w.allocation) e p.allocation; hand = λ x. field-good w.fields b c o v fc s r.0 r.1 (g x); aside = p.aside; done = p.done; exported = p.exported; large_done = p.large_done }
    move_pointed {w = w} {h = h} (writes_large n o v e s q) fit a t p =
        let r = wrote-new h.known o v a q in
        let g : LedTo w.fields (old_pointers setting n) = subst (HandGood w.fields) e p.hand in
        let g2 : LedTo (w.fields + 1) (old_pointers setting n) = subst (λ k. LedTo k (old_pointers setting n)) (sym (add-one w.fields)) (LedTo-next w.fields (old_pointers setting n) o (sym (old_field-get setting n w.fields) ∙ s) r.1 g) in
        record {
          starts = p.starts;
          allocation = subst (λ y. AllocationGood y (w.fields + 1) w.allocation) (sym e) (subst (λ y. AllocationGood y w.fields w.allocation) e p.allocation);
          hand = subst (HandGood (w.fields + 1)) (sym e) g2;
          aside = p.aside;
          done = p.done;
          exported = p.exported;
          large_done = p.large_done;
        }
    move_pointed {w = w} {h = h} (draws d number e rg) fit a t p =
        let ne : w.hand ≢ Open d = λ q. (let x : HandFit w (Open d) = subst (HandFit w) q fit in none-some (sym e ∙ x.1.0)) in
        record {
          starts = p.starts;
          allocation = set-good w.hand w.hand w.fields w.fields d w.allocation (empty_block number d) (refl, open_fields-other w.hand w.fields d ne) (λ x n. refl) p.allocation;
          hand = p.hand;
          aside = p.aside;
          done = p.done;
          exported = p.exported;
          large_done = p.large_done;
        }
    move_pointed {w = w} {h = h} (retires_open d number b al e fu) fit a t p =
        let g : Good (open_fields w.hand w.fields d) b = block-good w h d b p al in
        let g' : Good w.fields b = subst (λ x. Good x b) (ap (λ y. open_fields y w.fields d) e ∙ open_fields-same w.fields d) g in
        record {
          starts = p.starts;
          allocation = set-good (Open d) (Holding b) w.fields w.fields d w.allocation (empty_block number d) (refl, refl) (λ x n. open_fields-other (Open d) w.fields x (not_open d x n)) (subst (λ y. AllocationGood y w.fields w.allocation) e p.allocation);
          hand = λ _. g';
          aside = p.aside;
          done = p.done;
          exported = p.exported;
          large_done = p.large_done;
        }
    move_pointed {w = w} {h = h} (retires_aside d number b al ne u fu) fit a t p =
        let g : Good 0 b = subst (λ x. Good x b) (open_fields-other w.hand w.fields d ne) (block-good w h d b p al) in
        record {
          starts = p.starts;
          allocation = set-good w.hand w.hand w.fields w.fields d w.allocation (empty_block number d) (refl, open_fields-other w.hand w.fields d ne) (λ x n. refl) p.allocation;
          hand = p.hand;
          aside = Each-append (Good 0) w.aside (b ∷ []) p.aside (g, tt);
          done = p.done;
          exported = p.exported;
          large_done = p.large_done;
        }
    move_pointed {w = w} {h = h} (retires_done d number b al ne u fu) fit a t p =
        let g : Good 0 b = subst (λ x. Good x b) (open_fields-other w.hand w.fields d ne) (block-good w h d b p al) in
        record {
          starts = p.starts;
          allocation = set-good w.hand w.hand w.fields w.fields d w.allocation (empty_block number d) (refl, open_fields-other w.hand w.fields d ne) (λ x n. refl) p.allocation;
          hand = p.hand;
          aside = p.aside;
          done = λ x. Each-append (Good 0) w.done (b ∷ []) (p.done x) (g, tt);
          exported = p.exported;
          large_done = p.large_done;
        }
    move_pointed {w = w} {h = h} (copies d b copy rest al i q l z y to) fit a t p =
        record {
          starts = p.starts;
          allocation = updated-good w.hand w.fields w.fields d w.allocation b (with_copy copy) al (Copies-append (open_fields w.hand w.fields d) b.front b.copies copy (ap (λ x. x.pointers) i) (block-good w h d b p al)) (λ x n. refl) p.allocation;
          hand = p.hand;
          aside = p.aside;
          done = p.done;
          exported = p.exported;
          large_done = p.large_done;
        }
    move_pointed (claims n rest q l) fit a t p = record { starts = p.starts; allocation = p.allocation; hand = p.hand; aside = p.aside; done = p.done; exported = p.exported; large_done = p.large_done }
    move_pointed {w = w} {h = h} (scans_open_more d b c e al fc s u) fit a t p =
        let g : Good (open_fields w.hand w.fields d) b = block-good w h d b p al in
        let g' : Good w.fields b = subst (λ x. Good x b) (ap (λ y. open_fields y w.fields d) e ∙ open_fields-same w.fields d) g in
        record {
          starts = p.starts;
          allocation = set-good (Open d) (Open d) w.fields 0 d w.allocation (with_front_moved b) (subst (λ x. Good x (with_front_moved b)) (sym (open_fields-same 0 d)) (moved-good w.fields b c fc s g')) (λ x n. open_fields-apart w.fields 0 d x n) (subst (λ y. AllocationGood y w.fields w.allocation) e p.allocation);
          hand = tt;
          aside = p.aside;
          done = p.done;
          exported = p.exported;
          large_done = p.large_done;
        }
    move_pointed {w = w} {h = h} (scans_open_last d b c e al fc s u) fit a t p =
        let g : Good (open_fields w.hand w.fields d) b = block-good w h d b p al in
        let g' : Good w.fields b = subst (λ x. Good x b) (ap (λ y. open_fields y w.fields d) e ∙ open_fields-same w.fields d) g in
        record {
          starts = p.starts;
          allocation = set-good (Open d) Nothing w.fields 0 d w.allocation (with_front_moved b) (moved-good w.fields b c fc s g') (λ x n. open_fields-other (Open d) w.fields x (not_open d x n)) (subst (λ y. AllocationGood y w.fields w.allocation) e p.allocation);
          hand = tt;
          aside = p.aside;
          done = p.done;
          exported = p.exported;
          large_done = p.large_done;
        }
    move_pointed {w = w} {h = h} (scans_held_more b c e fc s u) fit a t p =
        let g : P → Good w.fields b = subst (HandGood w.fields) e p.hand in
        record { starts = p.starts; allocation = subst (λ y. AllocationGood y w.fields w.allocation) e p.allocation; hand = λ x. moved-good w.fields b c fc s (g x); aside = p.aside; done = p.done; exported = p.exported; large_done = p.large_done }
    move_pointed {w = w} {h = h} (scans_held_last b c e fc s u) fit a t p =
        let g : P → Good w.fields b = subst (HandGood w.fields) e p.hand in
        record { starts = p.starts; allocation = subst (λ y. AllocationGood y w.fields w.allocation) e p.allocation; hand = tt; aside = p.aside; done = λ x. Each-append (Good 0) w.done (with_front_moved b ∷ []) (p.done x) (moved-good w.fields b c fc s (g x), tt); exported = p.exported; large_done = p.large_done }
    move_pointed {w = w} {h = h} (scans_large n e s) fit a t p =
        let g : LedTo w.fields (old_pointers setting n) = subst (HandGood w.fields) e p.hand in
        let l : Each (IsLed setting f) (old_pointers setting n) = LedTo-all w.fields (old_pointers setting n) (sym (old_field-get setting n w.fields) ∙ s) g in
        record { starts = p.starts; allocation = subst (λ y. AllocationGood y w.fields w.allocation) e p.allocation; hand = tt; aside = p.aside; done = p.done; exported = p.exported; large_done = Each-append _ w.large_done (n ∷ []) p.large_done (l, tt) }
    move_pointed {w = w} {h = h} (exports b bs e) fit a t p =
        let x : Each (Good 0) (b ∷ bs) = subst (Each (Good 0)) e p.aside in
        record { starts = p.starts; allocation = p.allocation; hand = p.hand; aside = x.1; done = p.done; exported = Each-append (Good 0) h.exported (b ∷ []) p.exported (x.0, tt); large_done = p.large_done }
    move_pointed {w = w} {h = h} (takes b e u) fit a t p =
        let z : w.fields ≡ 0 = subst (HandFit w) e fit in
        record { starts = p.starts; allocation = subst (λ y. AllocationGood y w.fields w.allocation) e p.allocation; hand = λ x. subst (λ k. Good k b) (sym z) (Each-right (Good 0) h.taken (b ∷ []) (t x)).0; aside = p.aside; done = p.done; exported = p.exported; large_done = p.large_done }
    move_pointed {w = w} {h = h} (owns d b e al u) fit a t p =
        let z : w.fields ≡ 0 = subst (HandFit w) e fit in
        let g : AllocationGood Nothing w.fields w.allocation = subst (λ y. AllocationGood y w.fields w.allocation) e p.allocation in
        record { starts = p.starts; allocation = λ x. subst (λ k. OnSome (Good k) (at w.allocation x)) (sym (ap (λ k. open_fields (Open d) k x) z ∙ open_fields-zero (Open d) x)) (g x); hand = tt; aside = p.aside; done = p.done; exported = p.exported; large_done = p.large_done }
    move_pointed {w = w} {h = h} (owns_large n ns e l) fit a t p =
        let z : w.fields ≡ 0 = subst (HandFit w) e fit in
        record { starts = p.starts; allocation = subst (λ y. AllocationGood y w.fields w.allocation) e p.allocation; hand = subst (λ k. LedTo k (old_pointers setting n)) (sym z) tt; aside = p.aside; done = p.done; exported = p.exported; large_done = p.large_done }

    move_known : {w w' : Worker} {h h' : History} → Move setting w h w' h' → Each (IsPair f) h'.known → Each (IsPair f) h.known
    move_known (learns name place y) a = a.1
    move_known _ a = a

    move_taken : {w w' : Worker} {h h' : History} → Move setting w h w' h' → Each (Good 0) h'.taken → Each (Good 0) h.taken
    move_taken {h = h} (takes b e u) a = Each-left (Good 0) h.taken (b ∷ []) a
    move_taken _ a = a

    pub moves_pointed : {s : Worker} {k : History} {w : Worker} {h : History} → Moves setting s k w h → Fit s → Each (IsPair f) h.known → (P → Each (Good 0) h.taken) → Pointed s k → Pointed w h
    moves_pointed none fit a t p = p
    moves_pointed (more ms m) fit a t p = move_pointed m (moves_fit setting ms fit) a t (moves_pointed ms fit (move_known m a) (λ x. move_taken m (t x)) p)

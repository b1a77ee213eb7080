-- A slot is finished: what contracts see of it.
use Rattle.std.proofs.Common.{◌≡◌, ◌≢◌, ℕ, zero, suc, ◌+◌, ◌-◌, ◌<◌, ◌≤◌, cond, eq-eqb, ne_eqb, List, [], ◌∷◌, length, map, drop, take, set, Option, Some, None, refl, sym, ap, subst, ◌∙◌, ⊎_elim, arith}
use Rattle.std.proofs.lemmas.Bool.{cases_eq}
use Rattle.std.proofs.lemmas.List.{map-set, length-take-le}
use Rattle.workers.proofs.Lists.{at-set_same, at-set_other}
use Rattle.std.specs.Prelude.{slice_get}
use Rattle.std.specs.Option.{option_map, option_and_then}
use Rattle.model.specs.Destination.{Shape}
use Rattle.layout.specs.declared.place.Place.{Place}
use Rattle.layout.specs.declared.place.Place.TheVariants.{Small, Large}
use Rattle.layout.specs.Object.{Raw, raw_size}
use Rattle.layout.specs.Place.{place_word, pointer_word, small_word}
use Rattle.block_pool.specs.BlockValue.{BlockValue, with_pointer_word, without_last, offset_of}
use Rattle.steps.specs.Words.{target_of_word}
use Rattle.workers.specs.Block.{Block, Copy, front_copy, updated, with_field}
use Rattle.scavenge.specs.Named.{named, named_copies, named_copy}
use Rattle.workers.specs.Worker.{Worker, Proposal, Copied, Hand, Nothing, Open, Holding, HoldingLarge}
use Rattle.workers.specs.WorkerSteps.{finish_first, finish_slot, write_hand, race_of, after_race}
use Rattle.scavenge.specs.Fronts.{slot_at}
use Rattle.workers.specs.Ready.{HasField, CanWrite, CanFinish}
use Rattle.scavenge.specs.Shown.{IsNoted, AreNoted, proposal_of, proposal_at, proposed_at, proposed_in, copied_of, unnoted, IsThere, StandsLast, WorkspaceValue, lost_to}
use Rattle.scavenge.specs.declared.workspace.proposed.Proposed.{Proposed}
use Rattle.workers.specs.Joined.{OnSome}

pub none_left : {A B : Type 0} (f : A → B) (xs : List A) (n : ℕ) → drop n (map f xs) ≡ [] → length xs ≤ n
none_left f [] n e = omega arith
none_left f (x ∷ xs) zero e = absurd (cc)
none_left f (x ∷ xs) (suc n) e = let h : length xs ≤ n = none_left f xs n e in omega arith

pub all_left : {A B : Type 0} (f : A → B) (xs : List A) (n : ℕ) → length xs ≤ n → drop n (map f xs) ≡ []
all_left f [] zero l = refl
all_left f [] (suc n) l = refl
all_left f (x ∷ xs) zero l = absurd (omega arith)
all_left f (x ∷ xs) (suc n) l = all_left f xs n (omega arith)

-- one more is dropped
pub record Drops {B : Type 0} (ys : List B) (n : ℕ) : Type 0 where
  pub first : B
  pub is : drop n ys ≡ first ∷ drop (n + 1) ys

pub drops : {A B : Type 0} (f : A → B) (xs : List A) (n : ℕ) → n < length xs → Drops (map f xs) n
drops f [] n l = absurd (omega arith)
drops f (x ∷ xs) zero l = record { first = f x; is = refl }
drops f (x ∷ xs) (suc n) l = let h = drops f xs n (omega arith) in let e : suc n + 1 ≡ suc (n + 1) = omega arith in record { first = h.first; is = h.is ∙ ap (λ k. h.first ∷ drop k (f x ∷ map f xs)) (sym e) }

-- a pointer's word is read back
pub target_of_pointer : (pointer : Option Place) → target_of_word (pointer_word pointer) ≡ option_map place_word pointer
target_of_pointer None = refl
target_of_pointer (Some (Small at)) = grind arith
target_of_pointer (Some (Large of)) = grind arith

same_size : (raw : Raw) (i word : ℕ) → raw_size (with_pointer_word raw i word) ≡ raw_size raw
same_size raw i word = ap (λ n. 1 + n + length raw.plain) (length-set_any raw.pointers i word)
  where
    length-set_any : {A : Type 0} (xs : List A) (i : ℕ) (v : A) → length (set xs i v) ≡ length xs
    length-set_any [] i v = refl
    length-set_any (x ∷ xs) zero v = refl
    length-set_any (x ∷ xs) (suc i) v = ap suc (length-set_any xs i v)

named_set : (number offset : ℕ) (origins : List ℕ) (raws : List Raw) (k i word : ℕ) (raw : Raw) → slice_get raws k ≡ Some raw
    → named_copies number offset origins (set raws k (with_pointer_word raw i word)) ≡ updated (λ (c : Copy). record c { pointers = set c.pointers i (target_of_word word) }) (named_copies number offset origins raws) k
named_set number offset [] raws k i word raw e = refl
named_set number offset (o ∷ origins) [] k i word raw e = refl
named_set number offset (o ∷ origins) (r ∷ raws) zero i word raw e =
    let q : raw ≡ r = cc in
    ap (λ (x : Raw). named_copies number offset (o ∷ origins) (with_pointer_word x i word ∷ raws)) q
    ∙ ap (λ n. named_copy number offset o (with_pointer_word r i word) ∷ named_copies number (offset + n) origins raws) (same_size r i word)
    ∙ ap (λ ps. (let x : Copy = record { name = o; place = small_word number offset; pointers = ps; plain = r.plain } in x) ∷ named_copies number (offset + raw_size r) origins raws) (map-set target_of_word r.pointers i word)
named_set number offset (o ∷ origins) (r ∷ raws) (suc k) i word raw e =
    ap (λ cs. named_copy number offset o r ∷ cs) (named_set number (offset + raw_size r) origins raws k i word raw e)

-- the block after a pointer of its first unscanned object was written
abbrev pub written : BlockValue → Raw → ℕ → ℕ → BlockValue
written b raw i word = record b { objects = set b.objects b.front (with_pointer_word raw i word) }

pub named_written : (shape : Shape) (b : BlockValue) (raw : Raw) (i word : ℕ) → slice_get b.objects b.front ≡ Some raw → named shape (written b raw i word) ≡ with_field i (target_of_word word) (named shape b)
named_written shape b raw i word e = ap (λ cs. (let x : Block = record (named shape b) { copies = cs } in x)) (named_set b.number 0 b.origins b.objects b.front i word raw e)

-- the object of a copy
pub record Behind (b : BlockValue) (i : ℕ) : Type 0 where
  pub raw : Raw
  pub there : slice_get b.objects b.front ≡ Some raw
  pub field : i < length raw.pointers

copy_behind : (number offset : ℕ) (origins : List ℕ) (raws : List Raw) (k : ℕ) (c : Copy) → slice_get (named_copies number offset origins raws) k ≡ Some c → (raw : Raw) × ((slice_get raws k ≡ Some raw) × (c.pointers ≡ map target_of_word raw.pointers))
copy_behind number offset [] raws k c e = absurd (cc)
copy_behind number offset (o ∷ origins) [] k c e = absurd (cc)
copy_behind number offset (o ∷ origins) (r ∷ raws) zero c e = let q : named_copy number offset o r ≡ c = cc in (r, (refl, ap (λ (x : Copy). x.pointers) (sym q)))
copy_behind number offset (o ∷ origins) (r ∷ raws) (suc k) c e = copy_behind number (offset + raw_size r) origins raws k c e

pub length-map : {A B : Type 0} (f : A → B) (xs : List A) → length (map f xs) ≡ length xs
length-map f [] = refl
length-map f (x ∷ xs) = ap suc (length-map f xs)

pub behind : (shape : Shape) (b : BlockValue) (i : ℕ) (c : Copy) → front_copy (named shape b) ≡ Some c → i < length c.pointers → Behind b i
behind shape b i c e l =
    let r = copy_behind b.number 0 b.origins b.objects b.front c e in
    let n : length c.pointers ≡ length r.0.pointers = ap length r.1.1 ∙ length-map target_of_word r.0.pointers in
    record { raw = r.0; there = r.1.0; field = omega arith }

-- a slot of the table
pub slots-get : (shape : Shape) (slots : List (Option BlockValue)) (d : ℕ) → option_and_then (λ b. b) (slice_get (map (option_map (named shape)) slots) d) ≡ option_map (named shape) (option_and_then (λ b. b) (slice_get slots d))
slots-get shape [] d = refl
slots-get shape (None ∷ slots) zero = refl
slots-get shape (Some b ∷ slots) zero = refl
slots-get shape (s ∷ slots) (suc d) = slots-get shape slots d

updated-set : {A : Type 0} (f : A → A) (xs : List (Option A)) (d : ℕ) (x : A) → option_and_then (λ b. b) (slice_get xs d) ≡ Some x → updated (λ b. option_and_then (λ y. Some (f y)) b) xs d ≡ set xs d (Some (f x))
updated-set f [] d x e = refl
updated-set f (None ∷ xs) zero x e = absurd (cc)
updated-set f (Some y ∷ xs) zero x e = let q : y ≡ x = cc in ap (λ z. Some (f z) ∷ xs) q
updated-set f (y ∷ xs) (suc d) x e = ap (λ zs. y ∷ zs) (updated-set f xs d x e)

pub slots_written : (shape : Shape) (slots : List (Option BlockValue)) (d : ℕ) (b b' : BlockValue) (f : Block → Block) → option_and_then (λ b. b) (slice_get slots d) ≡ Some b → named shape b' ≡ f (named shape b)
    → map (option_map (named shape)) (set slots d (Some b')) ≡ updated (λ x. option_and_then (λ block. Some (f block)) x) (map (option_map (named shape)) slots) d
slots_written shape slots d b b' f there is =
    map-set (option_map (named shape)) slots d (Some b')
    ∙ ap (λ x. set (map (option_map (named shape)) slots) d (Some x)) is
    ∙ sym (updated-set f (map (option_map (named shape)) slots) d (named shape b) (slots-get shape slots d ∙ ap (option_map (named shape)) there))

-- finishing a slot, by where it is
pub finish_start : (w : Worker) (v : Option ℕ) (t : ℕ) (ts : List ℕ) → w.starts ≡ t ∷ ts → finish_slot v w ≡ record w { starts = ts }
finish_start w v t ts e = ap (finish_first v w) e

pub finish_open : (w : Worker) (v : Option ℕ) (d : ℕ) → w.starts ≡ [] → w.hand ≡ Open d → finish_slot v w ≡ record w { fields = w.fields + 1; allocation = updated (λ b. option_and_then (λ block. Some (with_field w.fields v block)) b) w.allocation d }
finish_open w v d e h = ap (finish_first v w) e ∙ ap (write_hand v w) h

pub finish_held : (w : Worker) (v : Option ℕ) (block : Block) → w.starts ≡ [] → w.hand ≡ Holding block → finish_slot v w ≡ record w { fields = w.fields + 1; hand = Holding (with_field w.fields v block) }
finish_held w v block e h = ap (finish_first v w) e ∙ ap (write_hand v w) h

pub finish_large : (w : Worker) (v : Option ℕ) (name : ℕ) → w.starts ≡ [] → w.hand ≡ HoldingLarge name → finish_slot v w ≡ record w { fields = w.fields + 1 }
finish_large w v name e h = ap (finish_first v w) e ∙ ap (write_hand v w) h

-- the workspace with its slot finished
abbrev pub finished : Option Place → WorkspaceValue → WorkspaceValue
finished value v = record v { worker = finish_slot (option_map place_word value) v.worker }

-- and the whole workspace then
pub held_finished : {V N : WorkspaceValue} (value : Option Place) (block : Block) → V ≡ N → (h : Hand) → h ≡ Holding (with_field V.worker.fields (option_map place_word value) block) → V.worker.starts ≡ [] → V.worker.hand ≡ Holding block
    → (let x : WorkspaceValue = record V { worker = record V.worker { fields = V.worker.fields + 1; hand = h } } in x) ≡ finished value N
held_finished {V = V} value block same h he e k =
    ap (λ z. (let x : WorkspaceValue = record V { worker = record V.worker { fields = V.worker.fields + 1; hand = z } } in x)) he
    ∙ ap (λ (w : Worker). (let x : WorkspaceValue = record V { worker = w } in x)) (sym (finish_held V.worker (option_map place_word value) block e k))
    ∙ ap (finished value) same

pub value_written : (word : ℕ) (value : Option Place) → word ≡ pointer_word value → target_of_word word ≡ option_map place_word value
value_written word value e = ap target_of_word e ∙ target_of_pointer value

-- the object that a slot is of
pub record Ready (slots : List (Option BlockValue)) (d i : ℕ) : Type 0 where
  pub block : BlockValue
  pub there : slot_at slots d ≡ Some block
  pub front : Behind block i

pub open_ready : (shape : Shape) (slots : List (Option BlockValue)) (d i : ℕ) → HasField i (option_and_then (λ b. b) (slice_get (map (option_map (named shape)) slots) d)) → Ready slots d i
open_ready shape slots d i h = go (slot_at slots d) refl (subst (HasField i) (slots-get shape slots d) h)
  where
    go : (o : Option BlockValue) → slot_at slots d ≡ o → HasField i (option_map (named shape) o) → Ready slots d i
    go None e k = absurd k
    go (Some b) e k = record { block = b; there = e; front = behind shape b i k.0 k.1 k.2 }

-- what is noted stays so
pub noted_written : (more : ℕ) (b : BlockValue) (raw : Raw) (i word : ℕ) → IsNoted more b → IsNoted more (written b raw i word)
noted_written more b raw i word n = record { count = length-set b.objects b.front _ ∙ n.count; front = n.front }
  where
    length-set : {A : Type 0} (xs : List A) (i : ℕ) (v : A) → length (set xs i v) ≡ length xs
    length-set [] i v = refl
    length-set (x ∷ xs) zero v = refl
    length-set (x ∷ xs) (suc i) v = ap suc (length-set xs i v)

-- nothing is proposed where none is shown
pub some_there : {A : Type 0} (xs : List A) (i : ℕ) → i < length xs → (x : A) × (slice_get xs i ≡ Some x)
some_there [] i l = absurd (omega arith)
some_there (x ∷ xs) zero l = (x, refl)
some_there (x ∷ xs) (suc i) l = some_there xs i (omega arith)

copied-some : (name place d : ℕ) (o : Option Raw) (raw : Raw) → o ≡ Some raw → copied_of name place d o ≡ None → ⊥
copied-some name place d o raw is none = go (ap (copied_of name place d) (sym is) ∙ none)
  where
    go : copied_of name place d (Some raw) ≡ None → ⊥
    go e = cc

pub no_proposal : (slots : List (Option BlockValue)) (aside done : List BlockValue) (held : Option BlockValue) (proposed : Option Proposed) → AreNoted slots aside done held proposed → proposal_of slots proposed ≡ None → proposed ≡ None
no_proposal slots aside done held None n e = refl
no_proposal slots aside done held (Some p) n e = absurd (go p.destination refl n.there e)
  where
    claimed : proposal_at slots p None ≡ None → ⊥
    claimed e = cc

    go : (o : Option ℕ) → p.destination ≡ o → IsThere slots (place_word p.place) o → proposal_at slots p o ≡ None → ⊥
    go None is t k = claimed k
    go (Some d) is t k =
        let m : OnSome (IsNoted (proposed_at d (Some p))) (Some t.block) = subst (OnSome (IsNoted (proposed_at d (Some p)))) t.there (n.in_slots d) in
        let one : proposed_at d (Some p) ≡ 1 = ap (proposed_in d) is ∙ ap (λ b. cond b 1 0) (eq-eqb d d refl) in
        let c : length t.block.objects ≡ length t.block.origins + 1 = m.count ∙ ap (λ x. length t.block.origins + x) one in
        let r = some_there t.block.objects (length t.block.origins) (omega arith) in
        copied-some (place_word p.name) (place_word p.place) d (unnoted (slot_at slots d)) r.0 (ap unnoted t.there ∙ r.1) k

-- a block of the table changes, where nothing is proposed
pub slots_noted : (slots : List (Option BlockValue)) (aside done : List BlockValue) (held : Option BlockValue) (d : ℕ) (b b' : BlockValue) → slot_at slots d ≡ Some b → (IsNoted 0 b → IsNoted 0 b')
    → AreNoted slots aside done held None → AreNoted (set slots d (Some b')) aside done held None
slots_noted slots aside done held d b b' at k n =
    record {
      in_slots = λ e. ⊎_elim
          (λ (p : e ≡ d). subst (λ x. OnSome (IsNoted 0) (slot_at (set slots d (Some b')) x)) (sym p)
          (subst (OnSome (IsNoted 0)) (sym (at-set_same slots d (Some b') b at)) (k (subst (OnSome (IsNoted 0)) at (n.in_slots d)))))
          (λ (ne : e ≢ d). subst (OnSome (IsNoted 0)) (sym (at-set_other slots d e (Some b') ne)) (n.in_slots e))
          (cases_eq e d);
      in_aside = n.in_aside;
      in_done = n.in_done;
      in_hand = n.in_hand;
      there = tt;
    }

-- what is proposed at the end of a block was decided: the block is as wanted then
pub slots_decided : (slots : List (Option BlockValue)) (aside done : List BlockValue) (held : Option BlockValue) (p : Proposed) (d : ℕ) (b b' : BlockValue) → p.destination ≡ Some d → slot_at slots d ≡ Some b → (IsNoted 1 b → IsNoted 0 b')
    → AreNoted slots aside done held (Some p) → AreNoted (set slots d (Some b')) aside done held None
slots_decided slots aside done held p d b b' is at k n =
    record {
      in_slots = λ e. ⊎_elim
          (λ (q : e ≡ d). subst (λ x. OnSome (IsNoted 0) (slot_at (set slots d (Some b')) x)) (sym q)
          (subst (OnSome (IsNoted 0)) (sym (at-set_same slots d (Some b') b at)) (k (subst (λ m. IsNoted m b) (one d) (subst (OnSome (IsNoted (proposed_at d (Some p)))) at (n.in_slots d))))))
          (λ (ne : e ≢ d). subst (OnSome (IsNoted 0)) (sym (at-set_other slots d e (Some b') ne)) (subst (λ m. OnSome (IsNoted m) (slot_at slots e)) (none e ne) (n.in_slots e)))
          (cases_eq e d);
      in_aside = n.in_aside;
      in_done = n.in_done;
      in_hand = n.in_hand;
      there = tt;
    }
  where
    one : (x : ℕ) → proposed_at d (Some p) ≡ 1
    one x = ap (proposed_in d) is ∙ ap (λ b. cond b 1 0) (eq-eqb d d refl)

    none : (e : ℕ) → e ≢ d → proposed_at e (Some p) ≡ 0
    none e ne = ap (proposed_in e) is ∙ ap (λ b. cond b 1 0) (ne_eqb e d ne)

pub slots_undecided : (slots : List (Option BlockValue)) (aside done : List BlockValue) (held : Option BlockValue) (p : Proposed) → p.destination ≡ None → AreNoted slots aside done held (Some p) → AreNoted slots aside done held None
slots_undecided slots aside done held p is n =
    record { in_slots = λ e. subst (λ m. OnSome (IsNoted m) (slot_at slots e)) (ap (proposed_in e) is) (n.in_slots e); in_aside = n.in_aside; in_done = n.in_done; in_hand = n.in_hand; there = tt }

-- the last object is taken back, or noted
named_short : (number offset : ℕ) (origins : List ℕ) (raws : List Raw) → named_copies number offset origins (take (length origins) raws) ≡ named_copies number offset origins raws
named_short number offset [] raws = refl
named_short number offset (o ∷ origins) [] = refl
named_short number offset (o ∷ origins) (r ∷ raws) = ap (λ cs. named_copy number offset o r ∷ cs) (named_short number (offset + raw_size r) origins raws)

abbrev pub taken_back : BlockValue → BlockValue
taken_back b = record b { objects = without_last b.objects }

pub named_back : (shape : Shape) (b : BlockValue) → IsNoted 1 b → named shape (taken_back b) ≡ named shape b
named_back shape b n =
    let e : length b.objects - 1 ≡ length b.origins = omega (arith, n.count) in
    ap (λ cs. (let x : Block = record (named shape b) { copies = cs } in x)) (ap (λ k. named_copies b.number 0 b.origins (take k b.objects)) e ∙ named_short b.number 0 b.origins b.objects)

pub noted_back : (b : BlockValue) → IsNoted 1 b → IsNoted 0 (taken_back b)
noted_back b n = record { count = length-take-le (length b.objects - 1) b.objects (omega arith) ∙ omega (arith, n.count); front = n.front }

pub unscanned_last : (b : BlockValue) → IsNoted 1 b → b.front < length b.objects
unscanned_last b n = omega (arith, n.count, n.front)

pub set-same : {A : Type 0} (xs : List (Option A)) (d : ℕ) (x : A) → option_and_then (λ b. b) (slice_get xs d) ≡ Some x → set xs d (Some x) ≡ xs
set-same [] d x e = refl
set-same (None ∷ xs) zero x e = absurd (cc)
set-same (Some y ∷ xs) zero x e = let q : y ≡ x = cc in ap (λ z. Some z ∷ xs) (sym q)
set-same (y ∷ xs) (suc d) x e = ap (λ zs. y ∷ zs) (set-same xs d x e)

pub slots_back : (shape : Shape) (slots : List (Option BlockValue)) (d : ℕ) (b : BlockValue) → slot_at slots d ≡ Some b → IsNoted 1 b → map (option_map (named shape)) (set slots d (Some (taken_back b))) ≡ map (option_map (named shape)) slots
slots_back shape slots d b there n =
    map-set (option_map (named shape)) slots d (Some (taken_back b))
    ∙ ap (λ x. set (map (option_map (named shape)) slots) d (Some x)) (named_back shape b n)
    ∙ set-same (map (option_map (named shape)) slots) d (named shape b) (slots-get shape slots d ∙ ap (option_map (named shape)) there)

-- what stands at the end of a block, proposed
pub record Last (slots : List (Option BlockValue)) (p : Proposed) (d : ℕ) : Type 0 where
  pub block : BlockValue
  pub there : slot_at slots d ≡ Some block
  pub noted : IsNoted 1 block
  pub raw : Raw
  pub last : slice_get block.objects (length block.origins) ≡ Some raw
  pub place_is : place_word p.place ≡ small_word block.number (offset_of block.objects (length block.origins))
  pub shown : proposal_of slots (Some p) ≡ Some (Copied (record { name = place_word p.name; place = place_word p.place; pointers = map target_of_word raw.pointers; plain = raw.plain }) d)

pub last_there : (slots : List (Option BlockValue)) (aside done : List BlockValue) (held : Option BlockValue) (p : Proposed) (d : ℕ) → p.destination ≡ Some d → AreNoted slots aside done held (Some p) → Last slots p d
last_there slots aside done held p d is n =
    let t : StandsLast slots (place_word p.place) d = subst (IsThere slots (place_word p.place)) is n.there in
    let m : OnSome (IsNoted (proposed_at d (Some p))) (Some t.block) = subst (OnSome (IsNoted (proposed_at d (Some p)))) t.there (n.in_slots d) in
    let one : proposed_at d (Some p) ≡ 1 = ap (proposed_in d) is ∙ ap (λ b. cond b 1 0) (eq-eqb d d refl) in
    let k : IsNoted 1 t.block = subst (λ x. IsNoted x t.block) one m in
    let r = some_there t.block.objects (length t.block.origins) (omega (arith, k.count)) in
    record {
      block = t.block;
      there = t.there;
      noted = k;
      raw = r.0;
      last = r.1;
      place_is = t.place_is;
      shown = ap (proposal_at slots p) is ∙ ap (copied_of (place_word p.name) (place_word p.place) d) (ap unnoted t.there ∙ r.1);
    }

-- a slot may still be finished where neither hand nor blocks changed
pub can_still : (w : Worker) (q : Option Proposal) (a : List (Option Block)) → a ≡ w.allocation → CanFinish w w.starts → CanFinish (record w { proposal = q; allocation = a }) w.starts
can_still w q a e h = subst (λ x. CanFinish (record w { proposal = q; allocation = x }) w.starts) (sym e) (on_starts w.starts h)
  where
    on_hand : (hand : Hand) → CanWrite w hand → CanWrite (record w { proposal = q }) hand
    on_hand Nothing k = k
    on_hand (Open d) k = k
    on_hand (Holding b) k = k
    on_hand (HoldingLarge n) k = k

    on_starts : (xs : List ℕ) → CanFinish w xs → CanFinish (record w { proposal = q }) xs
    on_starts [] k = on_hand w.hand k
    on_starts (x ∷ xs) k = k

-- the race is over: the worker, and the room that was for it
abbrev pub over : WorkspaceValue → Worker → WorkspaceValue
over v w = record v { worker = w; won_room = v.won_room - 1 }

abbrev pub raced : Option ℕ → WorkspaceValue → WorkspaceValue
raced lost v = over v (after_race v.worker lost)

abbrev pub raced_lost : ℕ → WorkspaceValue → WorkspaceValue
raced_lost first v = over v (after_race v.worker (Some (lost_to first v.worker.proposal)))

pub lost_copy : {V N : WorkspaceValue} → V ≡ N → (q : Option Proposal) (a : List (Option Block)) → q ≡ None → a ≡ V.worker.allocation → (copy : Copy) (d first : ℕ) → V.worker.proposal ≡ Some (Copied copy d)
    → over V (finish_slot (Some first) (record V.worker { proposal = q; allocation = a })) ≡ raced_lost first N
lost_copy {V = V} same q a qe ae copy d first e =
    ap (λ z. over V (finish_slot (Some first) (record V.worker { proposal = z; allocation = a }))) qe
    ∙ ap (λ z. over V (finish_slot (Some first) (record V.worker { proposal = None; allocation = z }))) ae
    ∙ ap (over V) (sym (ap (λ o. race_of V.worker o (Some (lost_to first o))) e))
    ∙ ap (raced_lost first) same

pub can_still_of : {V N : WorkspaceValue} → V ≡ N → (q : Option Proposal) (a : List (Option Block)) → a ≡ V.worker.allocation → CanFinish N.worker N.worker.starts → CanFinish (record V.worker { proposal = q; allocation = a }) V.worker.starts
can_still_of {V = V} same q a e h = can_still V.worker q a e (subst (λ (v : WorkspaceValue). CanFinish v.worker v.worker.starts) (sym same) h)

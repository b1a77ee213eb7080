-- What is ahead of the scan of a block is as in the originals.
use Rattle.std.proofs.Common.{◌≡◌, ℕ, zero, suc, ◌+◌, true, List, [], ◌∷◌, ◌++◌, Option, refl, sym, ap, subst, ◌∙◌, drop, add-one}
use Rattle.std.proofs.lemmas.List.{drop-set-lt}
use Rattle.std.proofs.Math.Nat.{lt-suc_self}
use Rattle.std.specs.Prelude.{slice_get, slice_set}
use Rattle.workers.specs.Block.{Block, Copy, empty_block, front_copy, updated, with_field, with_copy, with_front_moved}
use Rattle.workers.specs.Setting.{Setting, old_pointers, is_collected}
use Rattle.workers.specs.Joined.{Each}
use Rattle.workers.specs.Ready.{HoldsOld, IsUnwritten}
use Rattle.workers.proofs.Lists.{Each-append, Each-updated}
use Rattle.workers.proofs.Pointed.{old_field-get}

drop_one : {A : Type 0} (k : ℕ) (xs : List A) → drop (suc k) xs ≡ drop 1 (drop k xs)
drop_one zero xs = refl
drop_one (suc k) [] = refl
drop_one (suc k) (x ∷ xs) = drop_one k xs

drop_get : {A : Type 0} (k : ℕ) (xs : List A) → slice_get (drop k xs) 0 ≡ slice_get xs k
drop_get zero xs = refl
drop_get (suc k) [] = refl
drop_get (suc k) (x ∷ xs) = drop_get k xs

module _ (setting : Setting) where
  -- from pointer k on it holds what the original holds
  abbrev HoldsFrom : ℕ → Copy → Type 0
  HoldsFrom k c = drop k c.pointers ≡ drop k (old_pointers setting c.name)

  -- the first from pointer k on, the others wholly
  abbrev pub Rest : ℕ → List Copy → Type 0
  Rest k [] = Unit {0}
  Rest k (c ∷ cs) = HoldsFrom k c × Each (IsUnwritten setting) cs

  pub rest_each : (cs : List Copy) → Rest 0 cs → Each (IsUnwritten setting) cs
  rest_each [] h = tt
  rest_each (c ∷ cs) h = h

  pub each_rest : (cs : List Copy) → Each (IsUnwritten setting) cs → Rest 0 cs
  each_rest [] h = tt
  each_rest (c ∷ cs) h = h

  rest_field : (k : ℕ) (v : Option ℕ) (n : ℕ) (cs : List Copy) → Rest k (drop n cs) → Rest (suc k) (drop n (updated (λ copy. record copy { pointers = slice_set copy.pointers k v }) cs n))
  rest_field k v zero [] h = tt
  rest_field k v zero (c ∷ cs) h = (drop-set-lt (suc k) c.pointers k v (lt-suc_self k) ∙ drop_one k c.pointers ∙ ap (drop 1) h.0 ∙ sym (drop_one k (old_pointers setting c.name)), h.1)
  rest_field k v (suc n) [] h = tt
  rest_field k v (suc n) (c ∷ cs) h = rest_field k v n cs h

  rest_moved : (k n : ℕ) (cs : List Copy) → Rest k (drop n cs) → Rest 0 (drop (suc n) cs)
  rest_moved k zero [] h = tt
  rest_moved k zero (c ∷ cs) h = each_rest cs h.1
  rest_moved k (suc n) [] h = tt
  rest_moved k (suc n) (c ∷ cs) h = rest_moved k n cs h

  rest_push : (k n : ℕ) (cs : List Copy) (c : Copy) → IsUnwritten setting c → Rest k (drop n cs) → Rest k (drop n (cs ++ c ∷ []))
  rest_push k zero [] c u h = (ap (drop k) u, tt)
  rest_push k zero (x ∷ cs) c u h = (h.0, Each-append (IsUnwritten setting) cs (c ∷ []) h.1 (u, tt))
  rest_push k (suc zero) [] c u h = tt
  rest_push k (suc (suc n)) [] c u h = tt
  rest_push k (suc n) (x ∷ cs) c u h = rest_push k n cs c u h

  rest_front : (k n : ℕ) (cs : List Copy) → Rest k (drop n cs) → HoldsOld setting k (slice_get cs n)
  rest_front k zero [] h = tt
  rest_front k zero (c ∷ cs) h = sym (drop_get k c.pointers) ∙ ap (λ xs. slice_get xs 0) h.0 ∙ drop_get k (old_pointers setting c.name) ∙ sym (old_field-get setting c.name k)
  rest_front k (suc n) [] h = tt
  rest_front k (suc n) (c ∷ cs) h = rest_front k n cs h

  abbrev pub IsYoungCopy : Copy → Type 0
  IsYoungCopy c = is_collected setting c.name ≡ true

  -- copies of collected objects, the first unscanned one from pointer k on as its original, the others after it wholly
  abbrev pub Ahead : ℕ → Block → Type 0
  Ahead k b = Each IsYoungCopy b.copies × Rest k (drop b.front b.copies)

  pub empty_ahead : (number d : ℕ) → Ahead 0 (empty_block number d)
  empty_ahead number d = (tt, tt)

  pub field_ahead : (k : ℕ) (v : Option ℕ) (b : Block) → Ahead k b → Ahead (k + 1) (with_field k v b)
  field_ahead k v b h = (Each-updated IsYoungCopy _ (λ c y. y) b.copies b.front h.0, subst (λ n. Rest n (drop b.front (with_field k v b).copies)) (sym (add-one k)) (rest_field k v b.front b.copies h.1))

  pub moved_ahead : (k : ℕ) (b : Block) → Ahead k b → Ahead 0 (with_front_moved b)
  moved_ahead k b h = (h.0, subst (λ n. Rest 0 (drop n b.copies)) (sym (add-one b.front)) (rest_moved k b.front b.copies h.1))

  pub copied_ahead : (k : ℕ) (copy : Copy) (b : Block) → IsYoungCopy copy → IsUnwritten setting copy → Ahead k b → Ahead k (with_copy copy b)
  copied_ahead k copy b y u h = (Each-append IsYoungCopy b.copies (copy ∷ []) h.0 (y, tt), rest_push k b.front b.copies copy u h.1)

  pub front_ahead : (k : ℕ) (b : Block) → Ahead k b → HoldsOld setting k (front_copy b)
  front_ahead k b h = rest_front k b.front b.copies h.1

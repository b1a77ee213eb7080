-- Where a sweep stands in a block, and after a pointer of the object there was written.
use Rattle.std.proofs.Common.{◌≡◌, ◌≢◌, ◌⊎◌, ℕ, zero, suc, ◌<◌, List, length, Some, refl, sym, ap, ◌∙◌, ⊎_elim, inl, inr, arith}
use Rattle.std.proofs.lemmas.Bool.{cases_eq}
use Rattle.std.proofs.lemmas.List.{take-set, length-set}
use Rattle.std.specs.Prelude.{slice_get}
use Rattle.layout.specs.Object.{Raw}
use Rattle.block_pool.specs.BlockValue.{BlockValue, BeginsAt, words_of, offset_of, with_pointer_word}
use Rattle.block_pool.proofs.ObjectLemmas.{offset_of-rises}
use Rattle.workers.proofs.Lists.{get-lt}
use Rattle.workers.proofs.SystemQueues.{get-set_same}
use Rattle.scavenge.specs.declared.sweep.cursor.Cursor.{Cursor}
use Rattle.scavenge.specs.Cursors.{StandsAt}
use Rattle.scavenge.proofs.Fields.{written}

-- no two objects of a block begin at one offset
same_ordinal : (objects : List Raw) (i j : ℕ) → i < length objects → j < length objects → offset_of objects i ≡ offset_of objects j → i ≡ j
same_ordinal objects i j in_i in_j e = ⊎_elim (λ (same : i ≡ j). same) (λ (other : i ≢ j). absurd (apart (lt_or_gt i j other))) (cases_eq i j)
  where
    apart : (i < j) ⊎ (j < i) → ⊥
    apart (inl h) = let up : offset_of objects i < offset_of objects j = offset_of-rises objects i j h (omega arith) in absurd (omega arith)
    apart (inr h) = let down : offset_of objects j < offset_of objects i = offset_of-rises objects j i h (omega arith) in absurd (omega arith)

    lt_or_gt : (m n : ℕ) → m ≢ n → (m < n) ⊎ (n < m)
    lt_or_gt zero zero h = absurd (h refl)
    lt_or_gt zero (suc n) h = inl (omega arith)
    lt_or_gt (suc m) zero h = inr (omega arith)
    lt_or_gt (suc m) (suc n) h = ⊎_elim (λ (l : m < n). inl (omega arith)) (λ (l : n < m). inr (omega arith)) (lt_or_gt m n (λ e. h (ap suc e)))

-- the object at the cursor begins there
pub begins_there : (b : BlockValue) (cursor : Cursor) (s : StandsAt b cursor) → BeginsAt b cursor.at s.raw
begins_there b cursor s = record { ordinal = b.front; within = get-lt b.objects b.front s.raw s.there; begins = sym s.at_is; there = s.there }

-- and no other one does
pub is_front : (b : BlockValue) (cursor : Cursor) (s : StandsAt b cursor) (k : ℕ) (raw : Raw) → k < length b.objects → offset_of b.objects k ≡ cursor.at → slice_get b.objects k ≡ Some raw → (k ≡ b.front) × (s.raw ≡ raw)
is_front b cursor s k raw lt at there =
    let is : k ≡ b.front = same_ordinal b.objects k b.front lt (get-lt b.objects b.front s.raw s.there) (at ∙ s.at_is) in
    let same : Some s.raw ≡ Some raw = sym s.there ∙ ap (slice_get b.objects) (sym is) ∙ there in
    (is, cc)

pub stands_still : (b : BlockValue) (cursor : Cursor) (i word : ℕ) (s : StandsAt b cursor) → StandsAt (written b s.raw i word) cursor
stands_still b cursor i word s =
    record {
      raw = with_pointer_word s.raw i word;
      there = get-set_same b.objects b.front (with_pointer_word s.raw i word) s.raw s.there;
      at_is = s.at_is ∙ ap words_of (sym (take-set b.objects b.front (with_pointer_word s.raw i word)));
      pointers_is = s.pointers_is ∙ sym (length-set s.raw.pointers i word);
    }

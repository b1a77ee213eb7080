-- The object at a place of a block.
use Rattle.std.proofs.Common.{◌≡◌, ◌≢◌, ℕ, zero, suc, ◌+◌, ◌<◌, List, [], ◌∷◌, length, take, Option, Some, None, refl, ap, ◌∙◌, arith}
use Rattle.std.proofs.lemmas.List.Sums.{sum_by-cons}
use Rattle.std.specs.Prelude.{slice_get}
use Rattle.std.specs.Ordering.{nat_cmp}
use Rattle.std.specs.FinMap.{find}
use Rattle.model.specs.Graph.{Object}
use Rattle.model.proofs.NatMap.{find_same, find_other}
use Rattle.layout.specs.Object.{Raw, raw_size}
use Rattle.block_pool.specs.BlockValue.{words_of, offset_of}
use Rattle.steps.specs.BlockObjects.{object_of, objects_from}

first_offset : (word : ℕ) (raws : List Raw) → word ≡ word + offset_of raws 0
first_offset word [] = omega arith
first_offset word (r ∷ raws) = omega arith

-- the k-th object stands after those before it
pub find-object : (word g s : ℕ) (raws : List Raw) (k q : ℕ) (raw : Raw) → slice_get raws k ≡ Some raw → word + offset_of raws k ≡ q → find nat_cmp q (objects_from word g s raws) ≡ Some (object_of g s raw)
find-object word g s [] k q raw is at = absurd (cc)
find-object word g s (r ∷ raws) zero q raw is at =
    let here : q ≡ word = omega arith in
    ap (λ x. find nat_cmp x ((word, object_of g s r) ∷ objects_from (word + raw_size r) g s raws)) here ∙ find_same word (object_of g s r) (objects_from (word + raw_size r) g s raws) ∙ ap (λ (o : Option Raw). from_option o) is
  where
    from_option : Option Raw → Option Object
    from_option None = None
    from_option (Some x) = Some (object_of g s x)
find-object word g s (r ∷ raws) (suc k) q raw is at =
    let more : words_of (r ∷ take k raws) ≡ raw_size r + words_of (take k raws) = sum_by-cons raw_size r (take k raws) in
    let ne : q ≢ word = λ e. absurd (omega arith) in
    find_other q word (object_of g s r) _ ne ∙ find-object (word + raw_size r) g s raws k q raw is (omega arith)

-- a word at which no object begins
pub find-no_object : (word g s : ℕ) (raws : List Raw) (q : ℕ) → ((k : ℕ) → k < length raws → word + offset_of raws k ≢ q) → find nat_cmp q (objects_from word g s raws) ≡ None
find-no_object word g s [] q none = refl
find-no_object word g s (r ∷ raws) q none =
    let ne : q ≢ word = λ e. none 0 (omega arith) (omega (arith, e)) in
    find_other q word (object_of g s r) _ ne
    ∙ find-no_object (word + raw_size r) g s raws q
    (λ k lt e. none (suc k) (omega arith) (omega (arith, e, sum_by-cons raw_size r (take k raws))))

-- The words of an object, of which the pointers come first.
use Rattle.std.proofs.Common.{◌≡◌, ◌∙◌, ℕ, ◌+◌, ◌-◌, ◌<◌, ◌≤◌, List, length, take, drop, set, replicate, ap, arith}
use Rattle.std.proofs.Math.Seq.{take-set-lt}
use Rattle.std.proofs.lemmas.List.{take-set-le, drop-set-lt, drop-set-add, length-take, take-replicate, drop-replicate}
use Rattle.block_pool.specs.BlockValue.{new_object, with_pointer_word, with_plain_word}
use Rattle.large_objects.specs.Stored.{raw_in}

module _ (p : ℕ) (words : List ℕ) where
  pub pointer_set : (i word : ℕ) → i < length (take p words) → raw_in p (set words i word) ≡ with_pointer_word (raw_in p words) i word
  pointer_set i word lt =
      let low : i < p = omega (arith, length-take p words) in
      let e = take-set-lt p words i word low in
      let f = drop-set-lt p words i word low in
      cc

  pub plain_set : (i word : ℕ) → raw_in p (set words (p + i) word) ≡ with_plain_word (raw_in p words) i word
  plain_set i word =
      let e = take-set-le p words (p + i) word (omega arith) in
      let f = drop-set-add p words i word in
      cc

  pub new_raw : words ≡ replicate (length words) 0 → p ≤ length words → raw_in p words ≡ new_object p (length words - p)
  new_raw zeros le =
      let e = ap (take p) zeros ∙ take-replicate p (length words) 0 le in
      let f = ap (drop p) zeros ∙ drop-replicate p (length words) 0 in
      cc

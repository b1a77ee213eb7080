use Rattle.std.proofs.Common.{◌≡◌, ◌∙◌, ◌-◌, ◌*◌, ◌/◌, ◌%◌, ◌^◌, ◌+◌, arith, replicate, refl}
use Rattle.std.proofs.lemmas.List.{length-replicate, length-set}
use Rattle.std.proofs.lemmas.Nat.{one_shl}
use Rattle.block_pool.proofs.NumberSetsWordLemmas.{full-flags, full-members, IsNumberSet-full}
use Rattle.block_pool.proofs.number_sets.number_set.NumberSet.full.Goals as goal

pub invariant_of-result : goal.invariant_of-result
invariant_of-result g c =
    let limit = c.args.limit in
    let items : c.in_ok-words.words.items ≡ replicate (limit / 64 + 1) (2 ^ 64 - 1) = c.in_ok-words.ensures.items_if_clones_equal (λ y e. e) in
    let shifted : 1 * 2 ^ (limit % 64) % 2 ^ 64 ≡ 2 ^ (limit % 64) = one_shl (limit % 64) 64 (omega arith) in
    rw (items, shifted) (IsNumberSet-full limit _ c.requires (length-set _ _ _ ∙ length-replicate _ _) (full-flags limit))

pub returns : goal.returns
returns g c =
    let limit = c.args.limit in
    let items : c.in_ok-words.words.items ≡ replicate (limit / 64 + 1) (2 ^ 64 - 1) = c.in_ok-words.ensures.items_if_clones_equal (λ y e. e) in
    let shifted : 1 * 2 ^ (limit % 64) % 2 ^ 64 ≡ 2 ^ (limit % 64) = one_shl (limit % 64) 64 (omega arith) in
    rw (items, shifted, full-members limit _ (full-flags limit)) refl

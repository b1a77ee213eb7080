use Rattle.std.proofs.Common.{◌≡◌, ◌<◌, ◌/◌, ap, arith, get_or, length, false, refl}
use Rattle.std.proofs.lemmas.List.{length-set, get_or_read}
use Rattle.block_pool.specs.NumberSetsWords.{flags_of, members_of}
use Rattle.block_pool.proofs.FlagLemmas.{not_set-from_not_contains, contains-set, insert_rising-set, set_from-at_most}
use Rattle.block_pool.proofs.NumberSetsWordLemmas.{length-flags, flags-set, IsNumberSet-inserted}
use Rattle.block_pool.proofs.number_sets.number_set.NumberSet.insert.Goals as goal

pub overflow_add-self : goal.overflow_add-self
overflow_add-self g c =
    omega (arith, c.self.invariant.count_is, c.self.invariant.limit_in_range, set_from-at_most (flags_of c.self.inside.words.items) c.self.inside.limit c.self.invariant.none_past)

pub invariant_of-self : goal.invariant_of-self
invariant_of-self g c =
    let ws = c.self.inside.words.items in
    let members : members_of ws ≡ c.args.self.now.members = ap (λ v. v.members) c.self.view_is in
    let limit : c.self.inside.limit ≡ c.args.self.now.limit = ap (λ v. v.limit) c.self.view_is in
    let below : c.args.number < c.self.inside.limit = omega (arith, c.requires.in_limit) in
    let off : get_or (flags_of ws) c.args.number false ≡ false = not_set-from_not_contains (flags_of ws) c.args.number (rw members c.requires.absent) in
    let word : c.index_mut.result.now ≡ get_or ws (c.args.number / 64) 0 =
    get_or_read ws (c.args.number / 64) _ (omega (arith, c.self.invariant.limit_in_words)) c.index_mut.ensures.value 0
    in
    let flags = flags-set ws c.args.number c.index_mut.result.now (omega (arith, c.self.invariant.limit_in_words)) word in
    IsNumberSet-inserted ws _ _ _ _ _ c.args.number c.self.invariant flags (length-set _ _ _) below off (omega (arith, c.min-self-inside.ensures)) (omega (arith, c.min-self-inside.ensures))

pub returns-clause-inserted : goal.returns-clause-inserted
returns-clause-inserted g c =
    let ws = c.self.inside.words.items in
    let members : members_of ws ≡ c.args.self.now.members = ap (λ v. v.members) c.self.view_is in
    let limit : c.self.inside.limit ≡ c.args.self.now.limit = ap (λ v. v.limit) c.self.view_is in
    let within : c.args.number < length (flags_of ws) = omega (arith, c.requires.in_limit, c.self.invariant.limit_in_words, length-flags ws) in
    let off : get_or (flags_of ws) c.args.number false ≡ false = not_set-from_not_contains (flags_of ws) c.args.number (rw members c.requires.absent) in
    let word : c.index_mut.result.now ≡ get_or ws (c.args.number / 64) 0 =
    get_or_read ws (c.args.number / 64) _ (omega (arith, length-flags ws)) c.index_mut.ensures.value 0
    in
    let flags = flags-set ws c.args.number c.index_mut.result.now (omega (arith, length-flags ws)) word in
    rw (flags, insert_rising-set (flags_of ws) c.args.number within off, ← c.self.view_is) refl

pub returns-clause-members : goal.returns-clause-members
returns-clause-members g c =
    let ws = c.self.inside.words.items in
    let members : members_of ws ≡ c.args.self.now.members = ap (λ v. v.members) c.self.view_is in
    let limit : c.self.inside.limit ≡ c.args.self.now.limit = ap (λ v. v.limit) c.self.view_is in
    let within : c.args.number < length (flags_of ws) = omega (arith, c.requires.in_limit, c.self.invariant.limit_in_words, length-flags ws) in
    let word : c.index_mut.result.now ≡ get_or ws (c.args.number / 64) 0 =
    get_or_read ws (c.args.number / 64) _ (omega (arith, length-flags ws)) c.index_mut.ensures.value 0
    in
    let flags = flags-set ws c.args.number c.index_mut.result.now (omega (arith, length-flags ws)) word in
    rw (flags, ← members) (λ n. contains-set (flags_of ws) c.args.number n within)

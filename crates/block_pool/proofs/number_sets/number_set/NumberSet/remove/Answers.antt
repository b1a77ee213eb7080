use Rattle.std.proofs.Common.{◌≡◌, ◌<◌, ◌/◌, ap, arith, get_or, refl}
use Rattle.std.specs.List.{Contains}
use Rattle.std.proofs.lemmas.List.{length-set, get_or_read}
use Rattle.block_pool.specs.NumberSetsWords.{flags_of, members_of}
use Rattle.block_pool.proofs.FlagLemmas.{is_set-from_contains, contains-cleared, without-cleared, contains-below}
use Rattle.block_pool.proofs.NumberSetsWordLemmas.{flags-cleared, IsNumberSet-removed}
use Rattle.block_pool.proofs.number_sets.number_set.NumberSet.remove.Goals as goal

pub index_mut-requires : goal.index_mut-requires
index_mut-requires g c =
    let ws = c.self.inside.words.items in
    let members : members_of ws ≡ c.args.self.now.members = ap (λ v. v.members) c.self.view_is in
    let there : Contains (members_of ws) c.args.number = rw members c.requires in
    omega (arith, contains-below _ _ c.args.number c.self.invariant.none_past there, c.self.invariant.limit_in_words)

pub invariant_of-self : goal.invariant_of-self
invariant_of-self g c =
    let ws = c.self.inside.words.items in
    let members : members_of ws ≡ c.args.self.now.members = ap (λ v. v.members) c.self.view_is in
    let there : Contains (members_of ws) c.args.number = rw members c.requires in
    let below : c.args.number < c.self.inside.limit = contains-below _ _ c.args.number c.self.invariant.none_past there in
    let word : c.index_mut.result.now ≡ get_or ws (c.args.number / 64) 0 =
    get_or_read ws (c.args.number / 64) _ (omega (arith, c.self.invariant.limit_in_words)) c.index_mut.ensures.value 0
    in
    let flags = flags-cleared ws c.args.number c.index_mut.result.now (omega (arith, c.self.invariant.limit_in_words)) word in
    IsNumberSet-removed ws _ _ _ _ _ c.args.number c.self.invariant flags (length-set _ _ _) (is_set-from_contains _ _ there) c.self.invariant.none_below c.self.invariant.lowest_in_words

pub returns-clause-removed : goal.returns-clause-removed
returns-clause-removed g c =
    let ws = c.self.inside.words.items in
    let members : members_of ws ≡ c.args.self.now.members = ap (λ v. v.members) c.self.view_is in
    let there : Contains (members_of ws) c.args.number = rw members c.requires in
    let below : c.args.number < c.self.inside.limit = contains-below _ _ c.args.number c.self.invariant.none_past there in
    let word : c.index_mut.result.now ≡ get_or ws (c.args.number / 64) 0 =
    get_or_read ws (c.args.number / 64) _ (omega (arith, c.self.invariant.limit_in_words)) c.index_mut.ensures.value 0
    in
    let flags = flags-cleared ws c.args.number c.index_mut.result.now (omega (arith, c.self.invariant.limit_in_words)) word in
    rw (flags, without-cleared (flags_of ws) c.args.number, ← c.self.view_is) refl

pub returns-clause-members : goal.returns-clause-members
returns-clause-members g c =
    let ws = c.self.inside.words.items in
    let members : members_of ws ≡ c.args.self.now.members = ap (λ v. v.members) c.self.view_is in
    let there : Contains (members_of ws) c.args.number = rw members c.requires in
    let below : c.args.number < c.self.inside.limit = contains-below _ _ c.args.number c.self.invariant.none_past there in
    let word : c.index_mut.result.now ≡ get_or ws (c.args.number / 64) 0 =
    get_or_read ws (c.args.number / 64) _ (omega (arith, c.self.invariant.limit_in_words)) c.index_mut.ensures.value 0
    in
    let flags = flags-cleared ws c.args.number c.index_mut.result.now (omega (arith, c.self.invariant.limit_in_words)) word in
    rw (flags, ← members) (λ n. contains-cleared (flags_of ws) c.args.number n)

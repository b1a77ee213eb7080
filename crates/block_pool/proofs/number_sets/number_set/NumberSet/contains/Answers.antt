use Rattle.std.proofs.Common.{◌≡◌, ◌/◌, ◌%◌, ap, arith, eqb, get_or}
use Rattle.std.proofs.lemmas.Bool.{ltb-true}
use Rattle.std.proofs.lemmas.List.{get_or_read}
use Rattle.std.proofs.lemmas.Nat.Bits.{shr_and_one}
use Rattle.block_pool.specs.NumberSetsWords.{flags_of, members_of}
use Rattle.block_pool.proofs.FlagLemmas.{is_set-from_contains, contains-from_is_set, contains-below}
use Rattle.block_pool.proofs.NumberSetsWordLemmas.{flags-at}
use Rattle.block_pool.proofs.number_sets.number_set.NumberSet.contains.Goals as goal

pub returns-then-number-self-clause-value : goal.returns-then-number-self-clause-value
returns-then-number-self-clause-value g c =
    let ws = c.self.inside.words.items in
    let members : members_of ws ≡ c.args.self.now.members = ap (λ v. v.members) c.self.view_is in
    let word : c.index.result.now ≡ get_or ws (c.args.number / 64) 0 =
    get_or_read ws (c.args.number / 64) _ (omega (arith, c.if-number-self.true, c.self.invariant.limit_in_words)) c.index.ensures 0
    in
    let flag : get_or (flags_of ws) c.args.number _ ≡ eqb _ 1 = flags-at ws c.args.number (omega (arith, c.if-number-self.true, c.self.invariant.limit_in_words)) in
    rw (shr_and_one c.index.result.now (c.args.number % 64), word, ← flag, ← members) (
      λ e. contains-from_is_set (flags_of ws) c.args.number e,
      λ m. is_set-from_contains (flags_of ws) c.args.number m,
    )

pub returns-else-number-self-clause-value : goal.returns-else-number-self-clause-value
returns-else-number-self-clause-value g c =
    let members : members_of c.self.inside.words.items ≡ c.args.self.now.members = ap (λ v. v.members) c.self.view_is in
    rw (← members) (
      λ e. absurd (omega (arith, ltb-true _ _ e, c.if-number-self.false)),
      λ m. absurd (omega (arith, contains-below _ _ c.args.number c.self.invariant.none_past m, c.if-number-self.false)),
    )

pub returns-else-number-self-clause-in_limit : goal.returns-else-number-self-clause-in_limit
returns-else-number-self-clause-in_limit g c =
    let members : members_of c.self.inside.words.items ≡ c.args.self.now.members = ap (λ v. v.members) c.self.view_is in
    let limit : c.self.inside.limit ≡ c.args.self.now.limit = ap (λ v. v.limit) c.self.view_is in
    rw (← members, ← limit) (λ m. contains-below _ _ c.args.number c.self.invariant.none_past m)

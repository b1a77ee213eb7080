use Rattle.std.proofs.Common.{◌≡◌, ◌∙◌, ◌<◌, ◌++◌, ◌∷◌, [], ap, sym, arith, length, take, List, ℕ, subst}
use Rattle.std.specs.List.{Contains, All}
use Rattle.std.proofs.lemmas.List.{length_push, take-append-drop}
use Rattle.block_pool.proofs.PoolLemmas.{take-drop_next, contains-split, granted-apart, granted-in_limit}
use Rattle.block_pool.proofs.pool.Pool.grant.Goals as goal

pub loop-self-preserved : goal.loop-self-preserved
loop-self-preserved g c =
    let first : c.loop-self.self-inside.numbers.members ≡ c.in-Some.number ∷ c.pop_first.new.self.members = c.in-Some.ensures.value in
    let next = take-drop_next c.args.self.now.free (length c.loop-self.granted.items) c.in-Some.number c.pop_first.new.self.members (sym c.loop-self.invariant.rest ∙ first) in
    let items : c.push.new.self.items ≡ c.loop-self.granted.items ++ c.in-Some.number ∷ [] = rw c.unwrap.ensures at c.push.ensures.items in
    record {
      granted = rw (items, length_push) (ap (λ l. l ++ c.in-Some.number ∷ []) c.loop-self.invariant.granted ∙ sym next.0);
      rest = rw (items, length_push) (sym next.1);
      at_most = rw (items, length_push) (omega (arith, c.loop-self-test.true, c.len.ensures));
      enough = c.loop-self.invariant.enough;
      room = omega (arith, c.loop-self.invariant.room, c.push.ensures.capacity);
      same_limit = c.pop_first.ensures.limit ∙ c.loop-self.invariant.same_limit;
    }

pub returns-clause-in_limit : goal.returns-clause-in_limit
returns-clause-in_limit g c =
    let below : All (λ n. n < c.args.self.now.limit) c.args.self.now.free = rw (ap (λ v. v.free) c.self.view_is, ap (λ v. v.limit) c.self.view_is) at c.len.ensures.below in
    rw c.loop-self.invariant.granted (granted-in_limit c.args.self.now.free (length c.loop-self.granted.items) _ below)

pub returns-clause-members : goal.returns-clause-members
returns-clause-members g c =
    λ n.
    contains-split c.loop-self.granted.items c.loop-self.self-inside.numbers.members c.args.self.now.free n
    (ap (λ l. l ++ c.loop-self.self-inside.numbers.members) c.loop-self.invariant.granted
    ∙ ap (λ l. take (length c.loop-self.granted.items) c.args.self.now.free ++ l) c.loop-self.invariant.rest
    ∙ take-append-drop (length c.loop-self.granted.items) c.args.self.now.free)

pub returns-clause-apart : goal.returns-clause-apart
returns-clause-apart g c =
    λ n here there.
    let P : List ℕ → Type 0 = λ l. Contains l n in
    granted-apart c.args.self.now.free (length c.loop-self.granted.items) n (rw (ap (λ v. v.free) c.self.view_is) at c.len.ensures.rising)
    (subst P c.loop-self.invariant.granted here)
    (subst P c.loop-self.invariant.rest there)

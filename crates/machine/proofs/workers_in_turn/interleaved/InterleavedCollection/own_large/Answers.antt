use Rattle.workers.specs.System.{OwnLarge}
use Rattle.machine.proofs.Members.{lawful_as, goes_as, behind}
use Rattle.machine.proofs.Alone.{own_large_does}
use Rattle.machine.proofs.workers_in_turn.interleaved.InterleavedCollection.own_large.Goals as goal

pub invariant_of-self : goal.invariant_of-self
invariant_of-self g c =
    (own_large_does _ c.self.invariant c.args.t _ (behind c.self.inside.members.items c.args.t c.behind-self.view_is c.index_mut.ensures.value) c.own_large.new.self (lawful_as (OwnLarge c.args.t) c.self.view_is c.requires) c.own_large.ensures).0

pub returns : goal.returns
returns g c =
    goes_as c.self.view_is
    (own_large_does _ c.self.invariant c.args.t _ (behind c.self.inside.members.items c.args.t c.behind-self.view_is c.index_mut.ensures.value) c.own_large.new.self (lawful_as (OwnLarge c.args.t) c.self.view_is c.requires) c.own_large.ensures).1

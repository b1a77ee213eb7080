use Rattle.workers.specs.System.{Own}
use Rattle.machine.proofs.Members.{lawful_as, goes_as, behind}
use Rattle.machine.proofs.Alone.{own_does}
use Rattle.machine.proofs.workers_in_turn.interleaved.InterleavedCollection.own.Goals as goal

pub invariant_of-self : goal.invariant_of-self
invariant_of-self g c =
    (own_does _ c.self.invariant c.args.t _ (behind c.self.inside.members.items c.args.t c.behind-self.view_is c.index_mut.ensures.value) c.own.new.self c.args.d (lawful_as (Own c.args.t c.args.d) c.self.view_is c.requires) c.own.ensures).0

pub returns : goal.returns
returns g c =
    goes_as c.self.view_is
    (own_does _ c.self.invariant c.args.t _ (behind c.self.inside.members.items c.args.t c.behind-self.view_is c.index_mut.ensures.value) c.own.new.self c.args.d (lawful_as (Own c.args.t c.args.d) c.self.view_is c.requires) c.own.ensures).1

use Rattle.workers.specs.System.{Wake}
use Rattle.machine.proofs.Members.{lawful_as, goes_as, behind}
use Rattle.machine.proofs.Flags.{wake_does, some_idle}
use Rattle.machine.proofs.workers_in_turn.interleaved.InterleavedCollection.wake.Goals as goal

pub invariant_of-self : goal.invariant_of-self
invariant_of-self g c = (wake_does _ c.self.invariant c.args.t _ (behind c.self.inside.members.items c.args.t c.behind-self.view_is c.index_mut.ensures.value) (lawful_as (Wake c.args.t) c.self.view_is c.requires)).0

pub returns : goal.returns
returns g c = goes_as c.self.view_is (wake_does _ c.self.invariant c.args.t _ (behind c.self.inside.members.items c.args.t c.behind-self.view_is c.index_mut.ensures.value) (lawful_as (Wake c.args.t) c.self.view_is c.requires)).1

pub overflow_sub-self : goal.overflow_sub-self
overflow_sub-self g c = some_idle _ c.self.invariant c.args.t _ (behind c.self.inside.members.items c.args.t c.behind-self.view_is c.index_mut.ensures.value) (lawful_as (Wake c.args.t) c.self.view_is c.requires)

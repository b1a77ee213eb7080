use Rattle.workers.specs.System.{Idle}
use Rattle.machine.proofs.Members.{lawful_as, goes_as, behind}
use Rattle.machine.proofs.Flags.{idle_does}
use Rattle.machine.proofs.workers_in_turn.interleaved.InterleavedCollection.idle.Goals as goal

pub invariant_of-self : goal.invariant_of-self
invariant_of-self g c = (idle_does _ c.self.invariant c.args.t _ (behind c.self.inside.members.items c.args.t c.behind-self.view_is c.index_mut.ensures.value) (lawful_as (Idle c.args.t) c.self.view_is c.requires)).0

pub returns : goal.returns
returns g c = goes_as c.self.view_is (idle_does _ c.self.invariant c.args.t _ (behind c.self.inside.members.items c.args.t c.behind-self.view_is c.index_mut.ensures.value) (lawful_as (Idle c.args.t) c.self.view_is c.requires)).1

use Rattle.workers.specs.System.{End}
use Rattle.machine.proofs.Members.{lawful_as, goes_as, behind}
use Rattle.machine.proofs.Flags.{end_does}
use Rattle.machine.proofs.workers_in_turn.interleaved.InterleavedCollection.end.Goals as goal

pub invariant_of-self : goal.invariant_of-self
invariant_of-self g c = (end_does _ c.self.invariant c.args.t _ (behind c.self.inside.members.items c.args.t c.behind-self.view_is c.index_mut.ensures.value) (lawful_as (End c.args.t) c.self.view_is c.requires)).0

pub returns : goal.returns
returns g c = goes_as c.self.view_is (end_does _ c.self.invariant c.args.t _ (behind c.self.inside.members.items c.args.t c.behind-self.view_is c.index_mut.ensures.value) (lawful_as (End c.args.t) c.self.view_is c.requires)).1

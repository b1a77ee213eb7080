use Rattle.std.proofs.Common.{◌≡◌, ◌++◌, [], ◌∷◌, map, ap, subst, ◌∙◌, arith, append_assoc}
use Rattle.machine.proofs.Ended.{workspace_of, all_gone}
use Rattle.machine.proofs.interleaved_settling.settled.workspaces_of.Goals as goal

pub loop-member-init : goal.loop-member-init
loop-member-init g c = record { so_far = rw c.new-workspaces.ensures.items (ap (map workspace_of) c.into_iter-member-iterator.ensures.into_iter_gives.0) }

pub loop-member-preserved : goal.loop-member-preserved
loop-member-preserved g c =
    record {
      so_far =
          rw (c.in_ok-push.ensures.items, c.into_parts-workspace.ensures.workspace)
          (append_assoc c.loop-member.workspaces.items (workspace_of c.in-Some.member ∷ []) (map workspace_of c.next.new.self.rest.items)
          ∙ subst (λ rest. c.loop-member.workspaces.items ++ map workspace_of rest ≡ map workspace_of c.args.members.items) c.in-Some.ensures.steps.0 c.loop-member.invariant.so_far);
    }

pub returns : goal.returns
returns g c = all_gone c.loop-member.workspaces.items c.loop-member.member-iterator.rest.items c.args.members.items (omega (arith, c.in-None.ensures.steps.0, c.loop-member.member-iterator.rest.ok)) c.loop-member.invariant.so_far

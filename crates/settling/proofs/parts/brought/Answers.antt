use Rattle.std.proofs.Common.{map, sym, subst, arith}
use Rattle.std.proofs.lemmas.List.{map-append}
use Rattle.layout.specs.Place.{place_word}
use Rattle.settling.proofs.Parted.{BroughtSoFar, brought_none, brought_more, brought_all}
use Rattle.settling.proofs.parts.brought.Goals as goal

pub loop-workspace-init : goal.loop-workspace-init
loop-workspace-init g c =
    record {
      brought =
          rw (c.into_iter-workspace-iterator.ensures.into_iter_gives.0, c.new-reports.ensures.items, c.new-blocks.ensures.items, c.new-large.ensures.items)
          (brought_none c.args.heap.now c.args.collection.now c.args.workspaces.items c.requires.rest);
    }

pub loop-workspace-preserved : goal.loop-workspace-preserved
loop-workspace-preserved g c =
    record {
      brought =
          rw (c.in_ok-push.ensures.items, c.in_ok-append.ensures.items, c.in_ok-append-2.ensures.items)
          (subst (BroughtSoFar c.args.heap.now c.args.collection.now c.args.workspaces.items c.next.new.self.rest.items _ _) (sym (map-append place_word c.loop-workspace.large.items c.in_ok-report.claimed.items))
          (brought_more c.args.heap.now c.args.collection.now c.args.workspaces.items c.in-Some.workspace c.next.new.self.rest.items c.loop-workspace.reports.items c.in_ok-report.report c.loop-workspace.blocks.items c.in_ok-report.left.items
          (map place_word c.loop-workspace.large.items) (map place_word c.in_ok-report.claimed.items)
          (subst (λ rest. BroughtSoFar c.args.heap.now c.args.collection.now c.args.workspaces.items rest c.loop-workspace.reports.items c.loop-workspace.blocks.items (map place_word c.loop-workspace.large.items)) c.in-Some.ensures.steps.0 c.loop-workspace.invariant.brought)
          c.in_ok-report.ensures));
    }

pub returns : goal.returns
returns g c =
    brought_all c.args.heap.now c.args.collection.now c.args.workspaces.items c.loop-workspace.workspace-iterator.rest.items c.loop-workspace.reports.items c.loop-workspace.blocks.items (map place_word c.loop-workspace.large.items)
    (omega (arith, c.in-None.ensures.steps.0, c.loop-workspace.workspace-iterator.rest.ok)) c.loop-workspace.invariant.brought

use Rattle.std.proofs.Common.{arith, refl, ◌≡◌, ◌∙◌, List, ap, length, get_or}
use Rattle.forwarding.specs.Noted.{NotedValue}
use Rattle.forwarding.proofs.Joining.{unchanged, gathered_more}
use Rattle.forwarding.proofs.box_cells.box_settle.gather.Goals as goal

pub loop-pass-preserved : goal.loop-pass-preserved
loop-pass-preserved c =
    let inv = c.loop-pass.invariant in
    let many = ap length inv.passes in
    let item = get_or c.loop-pass.pass-items c.loop-pass.pass-index c.pass-item.result in
    let at : item ≡ get_or c.args.passes.now c.loop-pass.pass-index c.pass-item.result = ap (λ (ps : List NotedValue). get_or ps c.loop-pass.pass-index c.pass-item.result) inv.passes in
    record {
      all = record { number = c.learn.ensures.pass.number ∙ inv.all.number; cells = c.learn.ensures.pass.cells ∙ inv.all.cells };
      many = c.learn.ensures.many;
      passes = unchanged _ _ item _ c.pass-item.result refl c.learn.ensures.other ∙ inv.passes;
      gathered = gathered_more c.loop-pass.pass-index c.args.passes.now item c.pass-item.result c.loop-pass.all.known c.learn.new.self.known at (omega arith) c.learn.ensures.sound c.learn.ensures.joined inv.gathered;
    }

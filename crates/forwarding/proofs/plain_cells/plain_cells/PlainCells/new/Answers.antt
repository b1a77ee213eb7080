use Rattle.std.proofs.Common.{arith, ap, length, ◌≡◌, ◌∙◌}
use Rattle.forwarding.specs.Plain.{fresh_passes}
use Rattle.forwarding.proofs.PlainStart.{length-fresh_passes, fresh_passes-more, fresh_all_fit, fresh_differ}
use Rattle.forwarding.proofs.plain_cells.plain_cells.PlainCells.new.Goals as goal

pub push_reserved-requires : goal.push_reserved-requires
push_reserved-requires g c =
    let many = ap length c.loop-number.invariant.made ∙ length-fresh_passes c.args.count c.args.passes c.loop-number.number in
    let room = c.loop-number.invariant.room in
    let more = c.loop-number-test.true in omega arith

pub loop-number-preserved : goal.loop-number-preserved
loop-number-preserved g c =
    let made = c.loop-number.invariant.made in
    let pass = c.new.ensures in
    let pushed = c.push_reserved.ensures.items in
    let more = fresh_passes-more c.args.count c.args.passes c.loop-number.number in
    let room = c.loop-number.invariant.room in
    let same = c.push_reserved.ensures.capacity in
    record { made = cc; room = omega arith }

pub returns-clause-fits : goal.returns-clause-fits
returns-clause-fits g c =
    let all : c.loop-number.number ≡ c.args.passes = (let past = c.loop-number-test.false in let end = c.loop-number.auto.number-end in omega arith) in
    rw (c.loop-number.invariant.made ∙ ap (fresh_passes c.args.count c.args.passes) all, c.in_ok-cells.ensures) (fresh_all_fit c.args.count c.args.passes)

pub returns-clause-apart : goal.returns-clause-apart
returns-clause-apart g c =
    let all : c.loop-number.number ≡ c.args.passes = (let past = c.loop-number-test.false in let end = c.loop-number.auto.number-end in omega arith) in
    rw (c.loop-number.invariant.made ∙ ap (fresh_passes c.args.count c.args.passes) all) (fresh_differ c.args.count c.args.passes)

pub returns-clause-many : goal.returns-clause-many
returns-clause-many g c =
    let all : c.loop-number.number ≡ c.args.passes = (let past = c.loop-number-test.false in let end = c.loop-number.auto.number-end in omega arith) in
    rw (c.loop-number.invariant.made ∙ ap (fresh_passes c.args.count c.args.passes) all) (length-fresh_passes c.args.count c.args.passes c.args.passes)

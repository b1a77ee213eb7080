use Rattle.std.proofs.Common.{◌≡◌, ◌+◌, Ok, inl, inr, refl, sym, ap, subst, ◌∙◌}
use Rattle.heap_text.specs.Streams.{Appends}
use Rattle.trace_text.specs.Grammar.{entry_of}
use Rattle.trace_session.specs.declared.trace_lines.attempt.Attempt.TheVariants.{Done, NurseryFull}
use Rattle.trace_session.specs.declared.trace_lines.fault.Fault.TheVariants.{HeapFull}
use Rattle.trace_session.specs.CollectsFirst.{auto_line}
use Rattle.trace_session.specs.Refusals.{MayBeFull, IsFullForLine, IsFullToCollect}
use Rattle.trace_session.specs.Session.{Stands}
use Rattle.trace_session.proofs.Twice.{told, tells_full, wants_blocks, first_fault, room_fault, done_twice, no_full_twice, second_fault}
use Rattle.trace_session.proofs.HandedOn.{handed_on, fault_is}
use Rattle.trace_session.proofs.trace_step.step.carry_out.Goals as goal

pub returns-in-Done-clause-ok : goal.returns-in-Done-clause-ok
returns-in-Done-clause-ok g c = λ config store stands. (told _ _ c.in_ok-attempt_line.field-0 Done c.in-Done.is (c.in_ok-attempt_line.ensures.ok config store stands)).0

pub returns-in_err-attempt_line-clause-err : goal.returns-in_err-attempt_line-clause-err
returns-in_err-attempt_line-clause-err g c =
    handed_on _ _ _ c.from_residual.ensures
    (first_fault (Stands c.args.session.now) c.args.number c.args.line.now (λ config store. MayBeFull 1 config store c.args.line.now) (λ config store written. written ≡ auto_line store) g.W.Sink.output c.args.writer.now
    (λ config store may not lacks. may) c.attempt_line.new.writer _ c.in_err-attempt_line.field-0.0 c.in_err-attempt_line.ensures.err)

pub returns-in_err-make_room-clause-err : goal.returns-in_err-make_room-clause-err
returns-in_err-make_room-clause-err g c =
    handed_on _ _ _ c.from_residual-in_err-make_room.ensures
    (let line = c.args.line.now in
    let same = c.in_ok-attempt_line.ensures.full (ap (λ a. Ok a) c.in-NurseryFull.is) in
    room_fault (Stands c.args.session.now) c.args.number line (λ config store. MayBeFull 1 config store line) (λ config store written. written ≡ auto_line store) g.W.Sink.output c.args.writer.now
    (λ config store there. told _ _ c.in_ok-attempt_line.field-0 NurseryFull c.in-NurseryFull.is (c.in_ok-attempt_line.ensures.ok config store there)) c.attempt_line.new.writer same.1
    (IsFullToCollect c.attempt_line.new.session.heap 0 1)
    (λ config store there sound first short.
    record {
      sound = sound;
      wants =
          wants_blocks 1 config store (entry_of line) first
          (record { heap = c.args.session.now.heap; names = c.args.session.now.names; stands = there; full = subst (λ s. IsFullToCollect s.heap 0 1) same.0 short });
    })
    c.attempt_line.new.session c.make_room.new.session c.make_room.new.writer _ _ (λ is. is ∙ ap (λ w. g.W.Sink.failed_writes w + 1) same.1) c.in_err-make_room.field-0.0 c.in_err-make_room.ensures.err)

pub returns-in-Done-2-clause-ok : goal.returns-in-Done-2-clause-ok
returns-in-Done-2-clause-ok g c = λ config store stands.
    let line = c.args.line.now in
    let same = c.in_ok-attempt_line.ensures.full (ap (λ a. Ok a) c.in-NurseryFull.is) in
    let done = done_twice (Stands c.args.session.now) c.args.number line (λ config store. MayBeFull 1 config store line) (λ config store written. written ≡ auto_line store) g.W.Sink.output c.args.writer.now
    (λ config store there. told _ _ c.in_ok-attempt_line.field-0 NurseryFull c.in-NurseryFull.is (c.in_ok-attempt_line.ensures.ok config store there)) (Stands c.make_room.new.session) (g.W.Sink.output c.make_room.new.writer)
    (λ config store there.
    let made = c.in_ok-make_room.ensures.ok config store (subst (λ s. Stands s config store) (sym same.0) there) in
    (made.0, record { written = auto_line store; held = subst (λ w. Appends (g.W.Sink.output w) (g.W.Sink.output c.make_room.new.writer) (auto_line store)) same.1 made.1; holds = refl }))
    (Stands c.attempt_line-2.new.session) (g.W.Sink.output c.attempt_line-2.new.writer) (λ config store there. (told _ _ c.in_ok-attempt_line-2.field-0 Done c.in-Done-2.is (c.in_ok-attempt_line-2.ensures.ok config store there)).0) config store stands in
    record {
      next = done.0;
      out = auto_line store;
      steps = done.1.0;
      stands' = done.1.1;
      held = subst (λ out. Appends (g.W.Sink.output c.args.writer.now) (g.W.Sink.output c.attempt_line-2.new.writer) out) done.1.2.holds done.1.2.held;
    }

pub returns-in-NurseryFull-2-clause-err : goal.returns-in-NurseryFull-2-clause-err
returns-in-NurseryFull-2-clause-err g c =
    let line = c.args.line.now in
    let same = c.in_ok-attempt_line.ensures.full (ap (λ a. Ok a) c.in-NurseryFull.is) in (
      refl,
      no_full_twice (Stands c.args.session.now) c.args.number line (λ config store. MayBeFull 1 config store line) (λ config store written. written ≡ auto_line store) g.W.Sink.output c.args.writer.now
          (λ config store there. told _ _ c.in_ok-attempt_line.field-0 NurseryFull c.in-NurseryFull.is (c.in_ok-attempt_line.ensures.ok config store there)) (Stands c.make_room.new.session) (g.W.Sink.output c.make_room.new.writer)
          (λ config store there.
          let made = c.in_ok-make_room.ensures.ok config store (subst (λ s. Stands s config store) (sym same.0) there) in
          (made.0, record { written = auto_line store; held = subst (λ w. Appends (g.W.Sink.output w) (g.W.Sink.output c.make_room.new.writer) (auto_line store)) same.1 made.1; holds = refl }))
          (λ config store there. told _ _ c.in_ok-attempt_line-2.field-0 NurseryFull c.in-NurseryFull-2.is (c.in_ok-attempt_line-2.ensures.ok config store there)) (λ config store. MayBeFull 1 config store line × (c.attempt_line-2.new.writer ≡ c.args.writer.now)),
    )

pub returns-in_err-attempt_line-2-clause-err : goal.returns-in_err-attempt_line-2-clause-err
returns-in_err-attempt_line-2-clause-err g c =
    handed_on _ _ _ c.from_residual-in_err-attempt_line-2.ensures
    (let line = c.args.line.now in
    let same = c.in_ok-attempt_line.ensures.full (ap (λ a. Ok a) c.in-NurseryFull.is) in
    second_fault (Stands c.args.session.now) c.args.number line (λ config store. MayBeFull 1 config store line) (λ config store written. written ≡ auto_line store) g.W.Sink.output c.args.writer.now
    (λ config store there. told _ _ c.in_ok-attempt_line.field-0 NurseryFull c.in-NurseryFull.is (c.in_ok-attempt_line.ensures.ok config store there)) (Stands c.make_room.new.session) (g.W.Sink.output c.make_room.new.writer)
    (λ config store there.
    let made = c.in_ok-make_room.ensures.ok config store (subst (λ s. Stands s config store) (sym same.0) there) in
    (made.0, record { written = auto_line store; held = subst (λ w. Appends (g.W.Sink.output w) (g.W.Sink.output c.make_room.new.writer) (auto_line store)) same.1 made.1; holds = refl }))
    _ c.make_room.new.writer c.attempt_line-2.new.writer _ _ refl (λ is. is ∙ ap (λ n. n + 1) (c.in_ok-make_room.ensures.counts ∙ ap (λ w. g.W.Sink.failed_writes w) same.1)) c.in_err-attempt_line-2.field-0.0 c.in_err-attempt_line-2.ensures.err)

pub returns-in_err-attempt_line-clause-full : goal.returns-in_err-attempt_line-clause-full
returns-in_err-attempt_line-clause-full g c = λ at is.
    let line = c.args.line.now in
    let full = fault_is _ _ _ c.from_residual.ensures is in
    tells_full (Stands c.args.session.now) c.args.number line (λ config store. IsFullForLine 1 c.args.session.now.heap config store line) (λ config store written. written ≡ auto_line store) g.W.Sink.output c.args.writer.now c.attempt_line.new.writer _ c.in_err-attempt_line.field-0.0 at full
    (first_fault (Stands c.args.session.now) c.args.number line (λ config store. IsFullForLine 1 c.args.session.now.heap config store line) (λ config store written. written ≡ auto_line store) g.W.Sink.output c.args.writer.now
    (λ config store may not lacks. inl lacks) c.attempt_line.new.writer _ c.in_err-attempt_line.field-0.0 c.in_err-attempt_line.ensures.err)

pub returns-in_err-make_room-clause-full : goal.returns-in_err-make_room-clause-full
returns-in_err-make_room-clause-full g c = λ at is.
    let line = c.args.line.now in
    let same = c.in_ok-attempt_line.ensures.full (ap (λ a. Ok a) c.in-NurseryFull.is) in
    let full = fault_is _ _ _ c.from_residual-in_err-make_room.ensures is in
    tells_full (Stands c.args.session.now) c.args.number line (λ config store. IsFullForLine 1 c.args.session.now.heap config store line) (λ config store written. written ≡ auto_line store) g.W.Sink.output c.args.writer.now c.make_room.new.writer _ c.in_err-make_room.field-0.0 at full
    (room_fault (Stands c.args.session.now) c.args.number line (λ config store. IsFullForLine 1 c.args.session.now.heap config store line) (λ config store written. written ≡ auto_line store) g.W.Sink.output c.args.writer.now
    (λ config store there. told _ _ c.in_ok-attempt_line.field-0 NurseryFull c.in-NurseryFull.is (c.in_ok-attempt_line.ensures.ok config store there)) c.attempt_line.new.writer same.1
    (IsFullToCollect c.attempt_line.new.session.heap 0 1)
    (λ config store there sound first short. inr (first, subst (λ s. IsFullToCollect s.heap 0 1) same.0 short))
    c.attempt_line.new.session c.make_room.new.session c.make_room.new.writer _ _ (λ failed. failed) c.in_err-make_room.field-0.0 c.in_err-make_room.ensures.err)

pub returns-in-NurseryFull-2-clause-full : goal.returns-in-NurseryFull-2-clause-full
returns-in-NurseryFull-2-clause-full g c = λ at is.
    let line = c.args.line.now in
    let same = c.in_ok-attempt_line.ensures.full (ap (λ a. Ok a) c.in-NurseryFull.is) in
    no_full_twice (Stands c.args.session.now) c.args.number line (λ config store. IsFullForLine 1 c.args.session.now.heap config store line) (λ config store written. written ≡ auto_line store) g.W.Sink.output c.args.writer.now
    (λ config store there. told _ _ c.in_ok-attempt_line.field-0 NurseryFull c.in-NurseryFull.is (c.in_ok-attempt_line.ensures.ok config store there)) (Stands c.make_room.new.session) (g.W.Sink.output c.make_room.new.writer)
    (λ config store there.
    let made = c.in_ok-make_room.ensures.ok config store (subst (λ s. Stands s config store) (sym same.0) there) in
    (made.0, record { written = auto_line store; held = subst (λ w. Appends (g.W.Sink.output w) (g.W.Sink.output c.make_room.new.writer) (auto_line store)) same.1 made.1; holds = refl }))
    (λ config store there. told _ _ c.in_ok-attempt_line-2.field-0 NurseryFull c.in-NurseryFull-2.is (c.in_ok-attempt_line-2.ensures.ok config store there)) (λ config store. IsFullForLine 1 c.args.session.now.heap config store line)

pub returns-in_err-attempt_line-2-clause-full : goal.returns-in_err-attempt_line-2-clause-full
returns-in_err-attempt_line-2-clause-full g c = λ at is.
    let line = c.args.line.now in
    let same = c.in_ok-attempt_line.ensures.full (ap (λ a. Ok a) c.in-NurseryFull.is) in
    let full = fault_is _ _ _ c.from_residual-in_err-attempt_line-2.ensures is in
    tells_full (Stands c.args.session.now) c.args.number line (λ config store. IsFullForLine 1 c.args.session.now.heap config store line) (λ config store written. written ≡ auto_line store) g.W.Sink.output c.args.writer.now c.attempt_line-2.new.writer _ c.in_err-attempt_line-2.field-0.0 at full
    (second_fault (Stands c.args.session.now) c.args.number line (λ config store. IsFullForLine 1 c.args.session.now.heap config store line) (λ config store written. written ≡ auto_line store) g.W.Sink.output c.args.writer.now
    (λ config store there. told _ _ c.in_ok-attempt_line.field-0 NurseryFull c.in-NurseryFull.is (c.in_ok-attempt_line.ensures.ok config store there)) (Stands c.make_room.new.session) (g.W.Sink.output c.make_room.new.writer)
    (λ config store there.
    let made = c.in_ok-make_room.ensures.ok config store (subst (λ s. Stands s config store) (sym same.0) there) in
    (made.0, record { written = auto_line store; held = subst (λ w. Appends (g.W.Sink.output w) (g.W.Sink.output c.make_room.new.writer) (auto_line store)) same.1 made.1; holds = refl }))
    _ c.make_room.new.writer c.attempt_line-2.new.writer _ _ refl (λ failed. failed) c.in_err-attempt_line-2.field-0.0 c.in_err-attempt_line-2.ensures.err)

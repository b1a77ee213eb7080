use Rattle.std.proofs.Common.{◌≡◌, ◌+◌, Ok, refl, ap, subst, ◌∙◌}
use Rattle.trace_session.specs.declared.trace_lines.attempt.Attempt.TheVariants.{Done, NurseryFull}
use Rattle.trace_replay.specs.Stops.{IsFullInTurn}
use Rattle.trace_session.specs.Session.{Stands}
use Rattle.trace_session.proofs.Twice.{told, first_fault, room_fault, done_twice, no_full_twice, second_fault}
use Rattle.trace_text.specs.Grammar.{entry_of}
use Rattle.trace_session.specs.Does.{LineDoes}
use Rattle.trace_replay.specs.Replays.{state_of, HasMadeRoom, MakesRoom}
use Rattle.trace_replay.specs.ReplayStops.{WantsRoom, for_collection, for_large}
use Rattle.trace_replay.proofs.RoomSteps.{same_names, plain_steps, with_room_steps, made_between, made_at_first}
use Rattle.trace_session.proofs.HandedOn.{handed_on}
use Rattle.trace_replay.proofs.replaying.carry_out_line.Goals as goal

pub returns-in-Done-clause-ok : goal.returns-in-Done-clause-ok
returns-in-Done-clause-ok g c = λ config store stands.
    let done = told _ _ c.in_ok-attempt_line.field-0 Done c.in-Done.is (c.in_ok-attempt_line.ensures.ok config store stands) in
    plain_steps c.args.session.now c.attempt_line.new.session config c.args.workers store c.args.line.now _ _ c.requires.plain (told _ _ c.in_ok-attempt_line.field-0 Done c.in-Done.is c.in_ok-attempt_line.ensures.own c.requires.plain) done.1 done.0

pub returns-in_err-attempt_line-clause-err : goal.returns-in_err-attempt_line-clause-err
returns-in_err-attempt_line-clause-err g c =
    handed_on _ _ _ c.from_residual.ensures
    (first_fault (Stands c.args.session.now) c.args.number c.args.line.now (λ config store. WantsRoom config c.args.workers (state_of c.args.session.now store) c.args.line.now) (λ config store. HasMadeRoom c.args.workers (state_of c.args.session.now store)) g.W.Sink.output c.args.writer.now
    (λ config store may not lacks. for_large may.sound c.requires.plain lacks) c.attempt_line.new.writer _ c.in_err-attempt_line.field-0.0 c.in_err-attempt_line.ensures.err)

pub returns-in_err-make_room-clause-err : goal.returns-in_err-make_room-clause-err
returns-in_err-make_room-clause-err g c =
    handed_on _ _ _ c.from_residual-in_err-make_room.ensures
    (let same = c.in_ok-attempt_line.ensures.full (ap (λ a. Ok a) c.in-NurseryFull.is) in
    room_fault (Stands c.args.session.now) c.args.number c.args.line.now (λ config store. WantsRoom config c.args.workers (state_of c.args.session.now store) c.args.line.now) (λ config store. HasMadeRoom c.args.workers (state_of c.args.session.now store)) g.W.Sink.output c.args.writer.now
    (λ config store there. told _ _ c.in_ok-attempt_line.field-0 NurseryFull c.in-NurseryFull.is (c.in_ok-attempt_line.ensures.ok config store there)) c.attempt_line.new.writer same.1
    (IsFullInTurn c.attempt_line.new.session.heap 0 c.args.workers) (λ config store there sound first blocks. for_collection sound first (subst (λ s. IsFullInTurn s.heap 0 c.args.workers) same.0 blocks))
    c.attempt_line.new.session c.make_room.new.session c.make_room.new.writer _ _ (λ is. is ∙ ap (λ w. g.W.Sink.failed_writes w + 1) same.1) c.in_err-make_room.field-0.0 c.in_err-make_room.ensures.err)

pub returns-in-Done-2-clause-ok : goal.returns-in-Done-2-clause-ok
returns-in-Done-2-clause-ok g c = λ config store stands.
    let same = c.in_ok-attempt_line.ensures.full (ap (λ a. Ok a) c.in-NurseryFull.is) in
    let first = (told _ _ c.in_ok-attempt_line.field-0 NurseryFull c.in-NurseryFull.is (c.in_ok-attempt_line.ensures.ok config store stands)).1 in
    let room = c.make_room.new.session in
    let last = c.attempt_line-2.new.session in
    let does = told _ _ c.in_ok-attempt_line-2.field-0 Done c.in-Done-2.is c.in_ok-attempt_line-2.ensures.own c.requires.plain in
    let names_are = c.in_ok-make_room.ensures.names ∙ same_names c.attempt_line.new.session c.args.session.now same.0 in
    with_room_steps c.args.session.now last room.heap config c.args.workers store c.args.line.now _ _ first (subst (λ names. LineDoes room.heap names (entry_of c.args.line.now) last.heap last.names) names_are does)
    (done_twice (Stands c.args.session.now) c.args.number c.args.line.now (λ config store. WantsRoom config c.args.workers (state_of c.args.session.now store) c.args.line.now) (λ config store written. MakesRoom c.args.workers (state_of c.args.session.now store) written room.heap) g.W.Sink.output c.args.writer.now
    (λ config store there. told _ _ c.in_ok-attempt_line.field-0 NurseryFull c.in-NurseryFull.is (c.in_ok-attempt_line.ensures.ok config store there)) (Stands room) (g.W.Sink.output c.make_room.new.writer)
    (made_between c.args.workers c.args.session.now c.attempt_line.new.session room same.0 g.W.Sink.output c.args.writer.now c.attempt_line.new.writer c.make_room.new.writer same.1 c.in_ok-make_room.ensures.ok)
    (Stands last) (g.W.Sink.output c.attempt_line-2.new.writer) (λ config store there. (told _ _ c.in_ok-attempt_line-2.field-0 Done c.in-Done-2.is (c.in_ok-attempt_line-2.ensures.ok config store there)).0) config store stands)

pub returns-in-NurseryFull-2-clause-err : goal.returns-in-NurseryFull-2-clause-err
returns-in-NurseryFull-2-clause-err g c =
    let same = c.in_ok-attempt_line.ensures.full (ap (λ a. Ok a) c.in-NurseryFull.is) in (
      refl,
      no_full_twice (Stands c.args.session.now) c.args.number c.args.line.now (λ config store. WantsRoom config c.args.workers (state_of c.args.session.now store) c.args.line.now) (λ config store. HasMadeRoom c.args.workers (state_of c.args.session.now store)) g.W.Sink.output c.args.writer.now
          (λ config store there. told _ _ c.in_ok-attempt_line.field-0 NurseryFull c.in-NurseryFull.is (c.in_ok-attempt_line.ensures.ok config store there)) (Stands c.make_room.new.session) (g.W.Sink.output c.make_room.new.writer)
          (made_at_first c.args.workers c.args.session.now c.attempt_line.new.session c.make_room.new.session same.0 g.W.Sink.output c.args.writer.now c.attempt_line.new.writer c.make_room.new.writer same.1 c.in_ok-make_room.ensures.ok)
          (λ config store there. told _ _ c.in_ok-attempt_line-2.field-0 NurseryFull c.in-NurseryFull-2.is (c.in_ok-attempt_line-2.ensures.ok config store there))
          (λ config store. WantsRoom config c.args.workers (state_of c.args.session.now store) c.args.line.now × (c.attempt_line-2.new.writer ≡ c.args.writer.now)),
    )

pub returns-in_err-attempt_line-2-clause-err : goal.returns-in_err-attempt_line-2-clause-err
returns-in_err-attempt_line-2-clause-err g c =
    handed_on _ _ _ c.from_residual-in_err-attempt_line-2.ensures
    (let same = c.in_ok-attempt_line.ensures.full (ap (λ a. Ok a) c.in-NurseryFull.is) in
    second_fault (Stands c.args.session.now) c.args.number c.args.line.now (λ config store. WantsRoom config c.args.workers (state_of c.args.session.now store) c.args.line.now) (λ config store. HasMadeRoom c.args.workers (state_of c.args.session.now store)) g.W.Sink.output c.args.writer.now
    (λ config store there. told _ _ c.in_ok-attempt_line.field-0 NurseryFull c.in-NurseryFull.is (c.in_ok-attempt_line.ensures.ok config store there)) (Stands c.make_room.new.session) (g.W.Sink.output c.make_room.new.writer)
    (made_at_first c.args.workers c.args.session.now c.attempt_line.new.session c.make_room.new.session same.0 g.W.Sink.output c.args.writer.now c.attempt_line.new.writer c.make_room.new.writer same.1 c.in_ok-make_room.ensures.ok)
    _ c.make_room.new.writer c.attempt_line-2.new.writer _ _ refl (λ is. is ∙ ap (λ n. n + 1) (c.in_ok-make_room.ensures.counts ∙ ap (λ w. g.W.Sink.failed_writes w) same.1)) c.in_err-attempt_line-2.field-0.0 c.in_err-attempt_line-2.ensures.err)

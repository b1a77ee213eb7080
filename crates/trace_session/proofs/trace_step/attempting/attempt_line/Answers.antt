use Rattle.std.proofs.Common.{◌≡◌, Ok, Some, subst}
use Rattle.model.specs.Commands.{command_of}
use Rattle.trace_text.specs.Answer.{view}
use Rattle.trace_text.specs.Grammar.{entry_of}
use Rattle.trace_session.specs.Session.{Stands}
use Rattle.trace_session.proofs.CommandFaults.{as_before}
use Rattle.trace_session.proofs.HandedOn.{is_found}
use Rattle.trace_session.proofs.CommandLine.{command_does, nothing_does, new_does, line_fault, new_line, new_fault}
use Rattle.trace_session.proofs.trace_step.attempting.attempt_line.Goals as goal

pub returns-in-Ok-Command-New-clause-ok : goal.returns-in-Ok-Command-New-clause-ok
returns-in-Ok-Command-New-clause-ok g c =
    let line_says = subst (λ l. entry_of c.args.line.now ≡ Ok (view l)) c.in-Ok-Command-New.field-0-is c.in-Ok-Command-New.ensures in
    let says = subst (λ k. entry_of c.args.line.now ≡ Ok (Some (command_of k))) c.in-Ok-Command-New.field-0-0-is line_says in
    new_line (Stands c.args.session.now) _ c.args.line.now _ says _ c.add.result c.add.ensures.ok

pub returns-in_err-carry_out_command-in-Ok-Command : goal.returns-in_err-carry_out_command-in-Ok-Command
returns-in_err-carry_out_command-in-Ok-Command g c =
    let says = subst (λ l. entry_of c.args.line.now ≡ Ok (view l)) c.in-Ok-Command.field-0-is c.in-Ok-Command.ensures in
    rw (is_found _ _ c.from_residual.ensures) (record {
      ok = tt;
      own = tt;
      full = λ is. absurd (cc);
      counts = tt;
      rises = c.in_err-carry_out_command-in-Ok-Command.ensures.rises;
      before = c.in_err-carry_out_command-in-Ok-Command.ensures.before;
      err =
          line_fault c.args.session.now (Stands c.args.session.now) c.args.number c.args.line.now (command_of c.in-Ok-Command.command) says _ _ _
          c.in_err-carry_out_command-in-Ok-Command.field-0.0 c.in_err-carry_out_command-in-Ok-Command.ensures.err;
    })

pub returns-in-Ok-Command-New-clause-err : goal.returns-in-Ok-Command-New-clause-err
returns-in-Ok-Command-New-clause-err g c =
    let line_says = subst (λ l. entry_of c.args.line.now ≡ Ok (view l)) c.in-Ok-Command-New.field-0-is c.in-Ok-Command-New.ensures in
    let says = subst (λ k. entry_of c.args.line.now ≡ Ok (Some (command_of k))) c.in-Ok-Command-New.field-0-0-is line_says in
    new_fault c.args.session.now (Stands c.args.session.now) c.args.number c.args.line.now _ _ _ _ says c.args.writer.now _ c.add.result c.add.ensures.err

pub returns-in-Ok-Command-New-clause-own : goal.returns-in-Ok-Command-New-clause-own
returns-in-Ok-Command-New-clause-own g c =
    let line_says = subst (λ l. entry_of c.args.line.now ≡ Ok (view l)) c.in-Ok-Command-New.field-0-is c.in-Ok-Command-New.ensures in
    let says = subst (λ k. entry_of c.args.line.now ≡ Ok (Some (command_of k))) c.in-Ok-Command-New.field-0-0-is line_says in
    new_does c.args.session.now.heap c.args.session.now.names _ _ c.args.line.now _ says c.add.result c.add.ensures.own

pub returns-in-Ok-Nothing-clause-own : goal.returns-in-Ok-Nothing-clause-own
returns-in-Ok-Nothing-clause-own g c = λ plain.
    nothing_does c.args.session.now.heap c.args.session.now.names c.args.line.now (subst (λ l. entry_of c.args.line.now ≡ Ok (view l)) c.in-Ok-Nothing.field-0-is c.in-Ok-Nothing.ensures)

pub returns-in_ok-carry_out_command-in-Ok-Command-clause-own : goal.returns-in_ok-carry_out_command-in-Ok-Command-clause-own
returns-in_ok-carry_out_command-in-Ok-Command-clause-own g c =
    let says = subst (λ l. entry_of c.args.line.now ≡ Ok (view l)) c.in-Ok-Command.field-0-is c.in-Ok-Command.ensures in
    command_does c.args.session.now.heap c.args.session.now.names _ _ c.args.line.now (command_of c.in-Ok-Command.command) says c.in_ok-carry_out_command-in-Ok-Command.ensures.own

pub returns-in-Ok-Command-New-clause-before : goal.returns-in-Ok-Command-New-clause-before
returns-in-Ok-Command-New-clause-before g c = as_before c.add.result _ c.add.ensures.before

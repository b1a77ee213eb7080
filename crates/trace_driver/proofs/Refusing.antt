-- Why words are refused.
use Rattle.std.proofs.Common.{◌≡◌, Bor, List, Result, Ok, Err, IfOk, IfErr, inl, inr, true, refl, subst, sym}
use Rattle.std.specs.Result.{IsErrAnd}
use Rattle.clap.specs.Walk.{Text}
use Rattle.clap.specs.Simple.{App}
use Rattle.clap.specs.Faults.{fault_of, is_simple_and_free}
use Rattle.clap.specs.Kinds.{HasKind}
use Rattle.clap.specs.Values.{kind_of}
use Rattle.clap.specs.declared.error.Error.{Error}
use Rattle.clap.specs.declared.error.ErrorKind.{ErrorKind}
use Rattle.clap.specs.declared.error.ErrorKind.TheVariants.{OutOfMemory}
use Rattle.clap.proofs.OnLiterals.{clap_on_literals}
use Rattle.trace_driver.specs.declared.command_line.words.Refused.{Refused}
use Rattle.trace_driver.specs.declared.command_line.words.Options.{Options}
use Rattle.trace_driver.specs.Refusals.{IsToldOf}
use Rattle.trace_driver.specs.Gctrace.{IsGctrace, gctrace}
use Rattle.trace_driver.specs.Asked.{AreAskedBy, AreRefusedFor, AreToldOf, no_memory, faulty}

-- no argument of the command has a rule on another, so that `clap` says which words it refuses, and why
pub gctrace_is_free : (kinds : Bor (List (Bor Text))) → is_simple_and_free (gctrace kinds) ≡ true
unfolding clap_on_literals
gctrace_is_free kinds = refl

pub for_memory : (words : List Text) (kind : ErrorKind) → kind ≡ OutOfMemory → AreRefusedFor words kind
for_memory words kind e = no_memory e

pub for_faults : (app : App) (words : List Text) (e : Error) → IsGctrace app → HasKind (fault_of app words) e → AreRefusedFor words (kind_of e)
for_faults app words e is (inl memory) = no_memory memory
for_faults app words e is (inr among) = faulty app is among

pub told_of : (words : List Text) (kind : ErrorKind) (refused : Refused) → AreRefusedFor words kind → IsToldOf kind refused → AreToldOf words refused
told_of words kind refused why told = record { kind = kind; why = why; told = told }

-- a result that hands an error up is refused for it
pub handed_up : (words : List Text) (r : Result Options Error) (e : Error) → IsErrAnd r (λ y. y ≡ e) → AreRefusedFor words (kind_of e)
    → IfOk r (AreAskedBy words) × IfErr r (λ y. AreRefusedFor words (kind_of y))
handed_up words (Ok options) e is why = absurd is
handed_up words (Err y) e is why = (tt, subst (λ (x : Error). AreRefusedFor words (kind_of x)) (sym is) why)

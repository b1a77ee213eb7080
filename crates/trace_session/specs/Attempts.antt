-- A fact for each way in which a line may come back.
use Rattle.trace_session.specs.declared.trace_lines.attempt.Attempt.{Attempt}
use Rattle.trace_session.specs.declared.trace_lines.attempt.Attempt.TheVariants.{Done, NurseryFull}

abbrev pub MatchAttempt : Attempt → Type 0 → Type 0 → Type 0
MatchAttempt Done done full = done
MatchAttempt NurseryFull done full = full

use Rattle.std.proofs.Common.{◌∙◌, refl, sym, rules}
use Rattle.std.proofs.lemmas.Bool.{false≢true}
use Rattle.workers.specs.Lawful.{IsLawful}
use Rattle.machine.specs.SystemEvents.{event_of}
use Rattle.machine.specs.MachineValue.{setting_in}
use Rattle.machine.proofs.machine.Machine.step.Goals as goal

pub go_on-requires : goal.go_on-requires
go_on-requires g c = c.lawful.ensures.lawful.0 c.if-not-lawful.false

pub returns-then-not-lawful-clause-unlawful : goal.returns-then-not-lawful-clause-unlawful
returns-then-not-lawful-clause-unlawful g c = (λ _ l. false≢true (sym c.if-not-lawful.true ∙ c.lawful.ensures.lawful.1 l), λ _. refl)

pub returns-in_err-go_on-clause-unlawful : goal.returns-in_err-go_on-clause-unlawful
returns-in_err-go_on-clause-unlawful g c =
    let l : IsLawful (setting_in c.args.self.now) c.args.self.now.system (event_of c.args.event) = c.lawful.ensures.lawful.0 c.if-not-lawful.false in
    search rules

pub returns-in_err-go_on-clause-memory : goal.returns-in_err-go_on-clause-memory
returns-in_err-go_on-clause-memory g c = λ _. c.lawful.ensures.lawful.0 c.if-not-lawful.false

pub returns-clause-unlawful : goal.returns-clause-unlawful
returns-clause-unlawful g c = (λ e. absurd (cc), λ no. absurd (no (c.lawful.ensures.lawful.0 c.if-not-lawful.false)))

use Rattle.std.proofs.Common.{ap, sym, subst, ◌∙◌, ◌≡◌, ◌≤◌, length, arith}
use Rattle.std.specs.Slots.{slots_items, slots_counts}
use Rattle.atomic_table.specs.Table.{State, Seen}
use Rattle.forwarding.specs.declared.word_cells.plays.Mind.{Mind}
use Rattle.forwarding.specs.declared.word_cells.plays.Plan.{Plan}
use Rattle.forwarding.specs.Kept.{IsKeptWords}
use Rattle.forwarding.specs.Known.{known_in}
use Rattle.forwarding.specs.Words.{WordsValue, WordPassValue}
use Rattle.forwarding.proofs.Read.{settles, is_first}
use Rattle.forwarding.proofs.Agreeing.{agrees}
use Rattle.forwarding.proofs.word_cells.word_cells.WordCells.settle.Goals as goal

pub returns-clause-settled : goal.returns-clause-settled
returns-clause-settled g c =
    let wide : c.self.inside.plan.count ≤ length (slots_items c.close_with.result.words) = omega (arith, c.close_with.ensures.counts.0, c.self.invariant.wide, (slots_counts c.close_with.result.words).0) in
    let f = c.close_with.ensures.values.2 in
    let final : (s : State (Unit {0}) Mind) × Seen (IsKeptWords c.self.inside.plan) c.gather-seat.result.id c.gather-seat.result.me.0 s × (s.words ≡ _) = (f.0, subst (λ (plan : Plan). Seen (IsKeptWords plan) c.gather-seat.result.id c.gather-seat.result.me.0 f.0) c.self.invariant.keyed f.1, f.2) in
    rw (← c.self.view_is, c.of_closed.ensures, c.of-words.ensures) (settles _ _ _ _ _ _ final (is_first _ _ wide) (c.gather-seat.ensures.seat.1 ∙ (c.requires.all ∙ sym (ap (λ (v : WordsValue). v.passes) c.self.view_is))) c.gather-seat.ensures.known c.gather-seat.ensures.won)

pub returns-clause-agree : goal.returns-clause-agree
returns-clause-agree g c = agrees (λ (p : WordPassValue). known_in p.known) _ _ (returns-clause-settled g c).known_settled

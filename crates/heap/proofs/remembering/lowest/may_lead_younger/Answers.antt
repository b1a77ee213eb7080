use Rattle.std.proofs.Common.{◌≡◌, map, Some, refl, sym, subst, ◌∙◌, arith, ⊎_elim}
use Rattle.std.proofs.lemmas.Bool.{true≢false, cases_eq}
use Rattle.std.proofs.lemmas.List.{length-map}
use Rattle.std.proofs.lemmas.Option.{slice_get_within}
use Rattle.std.specs.Prelude.{slice_get}
use Rattle.layout.specs.Place.{place_word}
use Rattle.steps.specs.Words.{target_of_word}
use Rattle.heap.proofs.LowestBlocks.{leads_at, word_at}
use Rattle.heap.proofs.remembering.lowest.may_lead_younger.Goals as goal

pub returns-then-may_be_younger : goal.returns-then-may_be_younger
returns-then-may_be_younger c =
    let i = c.loop-word.word-index in
    let at = c.may_be_younger.ensures.0 c.if-may_be_younger.true in (
      λ _. record { field = i; place = at.0; pointer = leads_at c.args.words.now i c.loop-word-test.true at.0 at.1; younger = at.2 },
      λ _. refl,
    )

pub loop-word-preserved : goal.loop-word-preserved
loop-word-preserved c field place lt leads younger =
    let i = c.loop-word.word-index in
    ⊎_elim
    (λ same.
    let here = subst (λ k. slice_get (map target_of_word c.args.words.now) k ≡ Some (Some (place_word place))) same leads in
    let word = word_at c.args.words.now i c.loop-word-test.true (place_word place) here in
    absurd (true≢false (sym (c.may_be_younger.ensures.1 (place, word, younger)) ∙ c.if-may_be_younger.false)))
    (λ differ. c.loop-word.invariant field place (omega (arith, lt, differ)) leads younger)
    (cases_eq field i)

pub returns : goal.returns
returns c = (
  λ no. absurd (true≢false (sym no)),
  λ leads.
      let within = slice_get_within (map target_of_word c.args.words.now) leads.field (Some (place_word leads.place)) leads.pointer in
      absurd (c.loop-word.invariant leads.field leads.place (omega (arith, within, length-map c.args.words.now target_of_word, c.loop-word-test.false)) leads.pointer leads.younger),
)

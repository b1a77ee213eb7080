use Rattle.std.proofs.Common.{◌≡◌, true, false, Bool, refl, sym, ap, subst, ◌∙◌, inl, inr, true≢false}
use Rattle.model.specs.Config.{Config}
use Rattle.layout.specs.Place.{place_word}
use Rattle.layout.specs.ObjectRef.{raw_of}
use Rattle.workers.specs.Worker.{allocation_at}
use Rattle.scavenge.specs.Evacuates.{ProposesThere}
use Rattle.scavenge.specs.Shown.{has_place_for}
use Rattle.scavenge.specs.Slots.{objects_of}
use Rattle.scavenge.proofs.Placing.{Facts, facts, fits_alike, a_draw}
use Rattle.scavenge.proofs.AtOnce.{proposes_there}
use Rattle.scavenge.proofs.proposing.propose_there.Goals as goal

not_true : (b : Bool) → (b ≡ true → ⊥) → b ≡ false
not_true true n = absurd (n refl)
not_true false n = refl

pub push_copy-requires-clause-fits : goal.push_copy-requires-clause-fits
push_copy-requires-clause-fits g c =
    ap (λ n. has_place_for c.args.workspace.now.config.block_words n (allocation_at c.args.workspace.now.worker c.in-Some.d)) (sym c.size.ensures) ∙ c.fits.ensures.0 c.if-not-fits.false

pub returns-in_default-clause-wants : goal.returns-in_default-clause-wants
returns-in_default-clause-wants g c = λ _. inl c.in_default.ensures

pub returns-then-not-fits-clause-wants : goal.returns-then-not-fits-clause-wants
returns-then-not-fits-clause-wants g c = λ _.
    let f : Facts c.args.heap.now (place_word c.args.name) (raw_of c.args.found.object) = facts c.args.heap.now (place_word c.args.name) (raw_of c.args.found.object) c.requires.shown in
    let seen = fits_alike c.args.heap.now (place_word c.args.name) c.size.result (allocation_at c.args.workspace.now.worker c.in-Some.d) (f.words ∙ sym c.size.ensures) ∙ ap (λ (k : Config). has_place_for k.block_words c.size.result (allocation_at c.args.workspace.now.worker c.in-Some.d)) (sym c.requires.config) in
    inr (a_draw (objects_of c.args.heap.now) c.args.workspace.now.worker (place_word c.args.name) c.in-Some.d c.in-Some.ensures.small c.in-Some.ensures.of (seen ∙ not_true _ (λ e. true≢false (sym (c.fits.ensures.1 e) ∙ c.if-not-fits.true))))

pub returns-clause-proposed : goal.returns-clause-proposed
returns-clause-proposed g c = λ _.
    let w = c.args.workspace.now in
    let fits = ap (λ n. has_place_for w.config.block_words n (allocation_at w.worker c.in-Some.d)) (sym c.size.ensures) ∙ c.fits.ensures.0 c.if-not-fits.false in
    subst (ProposesThere (objects_of c.args.heap.now) (place_word c.args.name) w) (sym c.push_copy.ensures)
    (proposes_there c.args.heap.now w (place_word c.args.name) c.in-Some.d (raw_of c.args.found.object) c.requires.config c.requires.shown c.in-Some.ensures.small c.in-Some.ensures.of fits)

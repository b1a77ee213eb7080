use Rattle.std.proofs.Common.{rules, arith, ◌≡◌, ◌<◌, ◌∙◌, ℕ, List, ◌++◌, take, drop, length, ap, sym, subst}
use Rattle.std.specs.Prelude.{IsTrue}
use Rattle.std.specs.List.{sum_by}
use Rattle.std.proofs.Math.Seq.{take-append_seam}
use Rattle.std.proofs.lemmas.List.{length-map}
use Rattle.once_cell.specs.Once.{cell_name}
use Rattle.forwarding.specs.Noted.{NotedValue, place_of}
use Rattle.forwarding.specs.Gathered.{IsGathered, win_count}
use Rattle.forwarding.proofs.ShownPlace.{shown_each}
use Rattle.forwarding.proofs.Settling.{agree, few_wins_in_all, settles, wins_all, wins_once, not_all}
use Rattle.forwarding.proofs.box_cells.box_cells.BoxCells.settle.Goals as goal

-- the passes are as they were
same_passes : (n : ℕ) (now old : List NotedValue) → now ≡ old → length old ≡ n → take n (now ++ drop (length now) old) ≡ old
same_passes n now old same many =
    ap (λ (ps : List NotedValue). take n (ps ++ drop (length ps) old)) same ∙ (ap (λ (m : ℕ). take m (old ++ drop (length old) old)) (sym many) ∙ take-append_seam old (drop (length old) old))

pub is_each_won-requires : goal.is_each_won-requires
is_each_won-requires g c =
    let all = c.gather.new.all in
    let g : IsGathered (length c.args.passes.items) c.args.passes.items all.known = subst (λ (ps : List NotedValue). IsGathered (length ps) ps all.known) c.deref_mut.ensures.value c.gather.ensures.gathered in
    let now = c.deref.ensures.value ∙ same_passes c.args.passes.len _ _ (c.gather.ensures.passes ∙ c.deref_mut.ensures.value) (search rules) in
    let cells : length all.cells ≡ length c.args.self = ap length (c.gather.ensures.all.cells ∙ (ap (λ (p : NotedValue). p.cells) c.in-Ok.ensures)) in
    let names : length c.args.self ≡ length c.self.inside.cells.items = ap length (sym c.self.view_is) ∙ length-map c.self.inside.cells.items cell_name in
    let wins : sum_by win_count c.deref.result.now ≡ sum_by win_count c.args.passes.items = ap (sum_by win_count) now in
    let few = few_wins_in_all all.known c.args.passes.items c.requires.apart g in
    let many = c.gather.ensures.many in
    let bound : length c.self.inside.cells.items < 4294967296 = c.self.invariant in
    omega arith

pub returns-then-not-is_each_won-clause-not_won : goal.returns-then-not-is_each_won-clause-not_won
returns-then-not-is_each_won-clause-not_won g c =
    λ is.
    let all = c.gather.new.all in
    let g : IsGathered (length c.args.passes.items) c.args.passes.items all.known = subst (λ (ps : List NotedValue). IsGathered (length ps) ps all.known) c.deref_mut.ensures.value c.gather.ensures.gathered in
    let now = c.deref.ensures.value ∙ same_passes c.args.passes.len _ _ (c.gather.ensures.passes ∙ c.deref_mut.ensures.value) (search rules) in
    not_all all.known c.args.passes.items c.requires.apart g (λ e. let each : IsTrue c.is_each_won.result = c.is_each_won.ensures.1 (e ∙ sym (ap (sum_by win_count) now)) in let not_each = c.if-not-is_each_won.true in absurd (search rules))

pub returns-then-not-is_each_won-clause-agree : goal.returns-then-not-is_each_won-clause-agree
returns-then-not-is_each_won-clause-agree g c =
    λ is.
    let all = c.gather.new.all in
    agree all.known c.args.passes.items c.requires.apart (subst (λ (ps : List NotedValue). IsGathered (length ps) ps all.known) c.deref_mut.ensures.value c.gather.ensures.gathered)

pub returns-in-Ok-words-clause-settled : goal.returns-in-Ok-words-clause-settled
returns-in-Ok-words-clause-settled g c =
    let all = c.gather.new.all in
    let g : IsGathered (length c.args.passes.items) c.args.passes.items all.known = subst (λ (ps : List NotedValue). IsGathered (length ps) ps all.known) c.deref_mut.ensures.value c.gather.ensures.gathered in
    let now = c.deref.ensures.value ∙ same_passes c.args.passes.len _ _ (c.gather.ensures.passes ∙ c.deref_mut.ensures.value) (search rules) in
    let cells = ap length (c.gather.ensures.all.cells ∙ (ap (λ (p : NotedValue). p.cells) c.in-Ok.ensures)) in
    settles all.known c.args.passes.items c.requires.apart g (length c.args.self) c.of.result (c.gather.ensures.many ∙ cells) (c.of.ensures ∙ shown_each place_of _ _ c.in-Ok-words.ensures)
    (c.is_each_won.ensures.0 (search rules) ∙ ap (sum_by win_count) now)

pub returns-in-Ok-words-clause-all_won : goal.returns-in-Ok-words-clause-all_won
returns-in-Ok-words-clause-all_won g c =
    let all = c.gather.new.all in
    let g : IsGathered (length c.args.passes.items) c.args.passes.items all.known = subst (λ (ps : List NotedValue). IsGathered (length ps) ps all.known) c.deref_mut.ensures.value c.gather.ensures.gathered in
    let now = c.deref.ensures.value ∙ same_passes c.args.passes.len _ _ (c.gather.ensures.passes ∙ c.deref_mut.ensures.value) (search rules) in
    wins_all all.known c.args.passes.items c.requires.apart g
    (c.is_each_won.ensures.0 (search rules) ∙ ap (sum_by win_count) now)

pub returns-in-Ok-words-clause-agree : goal.returns-in-Ok-words-clause-agree
returns-in-Ok-words-clause-agree g c =
    λ is.
    let all = c.gather.new.all in
    agree all.known c.args.passes.items c.requires.apart (subst (λ (ps : List NotedValue). IsGathered (length ps) ps all.known) c.deref_mut.ensures.value c.gather.ensures.gathered)

pub returns-then-not-is_each_won-clause-won_once : goal.returns-then-not-is_each_won-clause-won_once
returns-then-not-is_each_won-clause-won_once g c =
    λ is.
    let all = c.gather.new.all in
    wins_once all.known c.args.passes.items c.requires.apart (subst (λ (ps : List NotedValue). IsGathered (length ps) ps all.known) c.deref_mut.ensures.value c.gather.ensures.gathered)

pub returns-in-Ok-words-clause-won_once : goal.returns-in-Ok-words-clause-won_once
returns-in-Ok-words-clause-won_once g c =
    λ is.
    let all = c.gather.new.all in
    wins_once all.known c.args.passes.items c.requires.apart (subst (λ (ps : List NotedValue). IsGathered (length ps) ps all.known) c.deref_mut.ensures.value c.gather.ensures.gathered)

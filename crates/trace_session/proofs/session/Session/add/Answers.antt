use Rattle.std.proofs.Common.{◌≡◌, ◌<◌, false, Err, refl, sym, ap, subst, ◌∙◌, ⊎_elim}
use Rattle.std.proofs.lemmas.Bool.{cases_Bool}
use Rattle.std.proofs.str.Laws.{order}
use Rattle.std.specs.Ordering.{nat_cmp}
use Rattle.std.specs.Cmp.Lexicographic.{slice_cmp}
use Rattle.std.specs.FinMap.{find, put}
use Rattle.model.specs.Commands.{is_too_big}
use Rattle.heap.specs.Commands.{Allocates}
use Rattle.trace_session.specs.NamesView.{names_view}
use Rattle.trace_session.specs.Refusals.{LacksBlocks}
use Rattle.trace_session.specs.Does.{allocates}
use Rattle.trace_session.proofs.SessionSteps.{name_in_use, root_known, root_unknown, names_of, heap_of, steps_new, had_room, large_full}
use Rattle.trace_session.proofs.session.Session.add.Goals as goal

pub returns-then-is_some-clause-err : goal.returns-then-is_some-clause-err
returns-then-is_some-clause-err g c =
    let are = names_of _ _ c.self.view_is in
    let found = root_known c.get.result c.args.self.now.names c.args.name.now (c.get.ensures ∙ ap (find (slice_cmp nat_cmp) c.args.name.now) are) (sym c.is_some.ensures ∙ c.if-is_some.true) in
    (refl, λ config store stands. name_in_use _ _ config store stands c.args.name.now c.args.mutator c.args.pointers c.args.plain found.0 found.1)

pub returns-in-Err-HeapFull-clause-err : goal.returns-in-Err-HeapFull-clause-err
returns-in-Err-HeapFull-clause-err g c =
    let are = names_of _ _ c.self.view_is in
    let heap = c.args.self.now.heap in
    let same = heap_of _ _ c.self.view_is in
    let was = c.in-Err-HeapFull.ensures.heap_full.0 (ap (λ e. Err e) c.in-Err-HeapFull.field-0-is) in
    let in_range : c.args.mutator < heap.config.mutators = rw (← same) was.0 in
    let free = root_unknown c.get.result c.args.self.now.names c.args.name.now (c.get.ensures ∙ ap (find (slice_cmp nat_cmp) c.args.name.now) are) (sym c.is_some.ensures ∙ c.if-is_some.false) in
    let lacks : LacksBlocks heap c.args.pointers c.args.plain = record { large = rw (← same) was.2; few = rw (← same) was.3 } in
    (refl, lacks, λ config store stands. large_full _ _ config store stands c.args.name.now c.args.mutator c.args.pointers c.args.plain free in_range was.1 lacks)

pub returns-clause-ok : goal.returns-clause-ok
returns-clause-ok g c =
    let are = names_of _ _ c.self.view_is in
    let was = c.self.inside.0.0 in
    let same : was ≡ c.args.self.now.heap = heap_of _ _ c.self.view_is in
    let in_range : c.args.mutator < was.config.mutators =
    ⊎_elim (λ lt. lt) (λ le. let bad = c.in-Ok-allocate.ensures.no_mutator.1 le in absurd (cc)) (order c.args.mutator was.config.mutators) in
    let small : is_too_big c.args.pointers c.args.plain ≡ false =
    ⊎_elim (λ big. let bad = c.in-Ok-allocate.ensures.too_big.1 (in_range, big) in absurd (cc)) (λ small. small) (cases_Bool (is_too_big c.args.pointers c.args.plain)) in
    let free = root_unknown c.get.result c.args.self.now.names c.args.name.now (c.get.ensures ∙ ap (find (slice_cmp nat_cmp) c.args.name.now) are) (sym c.is_some.ensures ∙ c.if-is_some.false) in
    let root = c.in-Ok-allocate.root.number in
    let names_are : names_view c.put_in.new.roots ≡ put (slice_cmp nat_cmp) c.args.name.now root c.args.self.now.names = c.put_in.ensures
    ∙ ap (put (slice_cmp nat_cmp) c.in-Ok.text.items root) (c.in-Ok.ensures.names ∙ are)
    ∙ ap (λ t. put (slice_cmp nat_cmp) t root c.args.self.now.names) c.in-Ok.ensures.text in
    let allocates = subst (λ h. Allocates h c.args.mutator c.args.pointers c.args.plain root c.allocate.new.self) same c.in-Ok-allocate.ensures.ok in
    λ config store stands. (
      steps_new _ _ config store stands c.args.name.now c.args.mutator c.args.pointers c.args.plain root _ _ free allocates names_are (rw (← same) in_range) small,
      had_room _ _ config store stands c.args.name.now c.args.mutator c.args.pointers c.args.plain root _ allocates,
    )

pub returns-clause-own : goal.returns-clause-own
returns-clause-own g c =
    let are = names_of _ _ c.self.view_is in
    let free = root_unknown c.get.result c.args.self.now.names c.args.name.now (c.get.ensures ∙ ap (find (slice_cmp nat_cmp) c.args.name.now) are) (sym c.is_some.ensures ∙ c.if-is_some.false) in
    let root = c.in-Ok-allocate.root.number in
    let names_are : names_view c.put_in.new.roots ≡ put (slice_cmp nat_cmp) c.args.name.now root c.args.self.now.names = c.put_in.ensures
    ∙ ap (put (slice_cmp nat_cmp) c.in-Ok.text.items root) (c.in-Ok.ensures.names ∙ are)
    ∙ ap (λ t. put (slice_cmp nat_cmp) t root c.args.self.now.names) c.in-Ok.ensures.text in
    let allocated = subst (λ h. Allocates h c.args.mutator c.args.pointers c.args.plain root c.allocate.new.self) (heap_of _ _ c.self.view_is) c.in-Ok-allocate.ensures.ok in
    rw names_are (allocates free allocated)

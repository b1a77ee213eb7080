use Rattle.std.proofs.Common.{◌≡◌, Some, Err, refl, sym, ap, subst, ◌∙◌}
use Rattle.std.specs.Option.{option_map}
use Rattle.steps.specs.declared.heap_values.root_id.RootId.{RootId}
use Rattle.heap.specs.Commands.{Loads}
use Rattle.trace_session.specs.Does.{loads}
use Rattle.trace_session.proofs.FieldSteps.{never_unrooted}
use Rattle.trace_session.proofs.GetSteps.{is_given_up, get_in_use, get_no_field, get_nil, get_sound, loaded_sound, steps_get}
use Rattle.trace_session.proofs.SessionSteps.{root_known, root_unknown}
use Rattle.trace_session.proofs.session.Session.get.Goals as goal

pub returns-then-is_some-clause-err : goal.returns-then-is_some-clause-err
returns-then-is_some-clause-err g c =
    let found = root_known c.get.result c.args.self.now.names c.args.new_name.now c.get.ensures (sym c.is_some.ensures ∙ c.if-is_some.true) in
    (refl, λ config store stands. get_in_use _ _ config store stands c.args.new_name.now c.args.name.now c.args.field found.0 found.1)

pub returns-in-Err-NoRoot-clause-err : goal.returns-in-Err-NoRoot-clause-err
returns-in-Err-NoRoot-clause-err g c =
    (refl, λ config store stands. absurd (never_unrooted _ _ config store stands c.args.name.now c.in-Some.holder.number (sym c.in-Some.ensures) (c.in-Err-NoRoot.ensures.no_root.0 (ap (λ e. Err e) c.in-Err-NoRoot.field-0-is))))

pub returns-in-Err-BadField-clause-err : goal.returns-in-Err-BadField-clause-err
returns-in-Err-BadField-clause-err g c =
    let free = root_unknown c.get.result c.args.self.now.names c.args.new_name.now c.get.ensures (sym c.is_some.ensures ∙ c.if-is_some.false) in
    (refl, λ config store stands. get_no_field _ _ config store stands c.args.new_name.now c.args.name.now c.args.field free c.in-Some.holder.number (sym c.in-Some.ensures) (c.in-Err-BadField.ensures.bad_field.0 (ap (λ e. Err e) c.in-Err-BadField.field-0-is)).1)

pub returns-in-Err-NoMemory-clause-err : goal.returns-in-Err-NoMemory-clause-err
returns-in-Err-NoMemory-clause-err g c =
    let free = root_unknown c.get.result c.args.self.now.names c.args.new_name.now c.get.ensures (sym c.is_some.ensures ∙ c.if-is_some.false) in
    (refl, λ config store stands. get_sound _ _ config store stands c.args.new_name.now c.args.name.now c.args.field free c.in-Some.holder.number (sym c.in-Some.ensures) (c.in-Err-NoMemory.ensures.memory (ap (λ e. Err e) c.in-Err-NoMemory.field-0-is)))

pub returns-in_default-loaded-clause-err : goal.returns-in_default-loaded-clause-err
returns-in_default-loaded-clause-err g c =
    let free = root_unknown c.get.result c.args.self.now.names c.args.new_name.now c.get.ensures (sym c.is_some.ensures ∙ c.if-is_some.false) in
    (refl, λ config store stands. get_nil _ _ config store stands c.args.new_name.now c.args.name.now c.args.field free c.in-Some.holder.number (sym c.in-Some.ensures) _ (option_map (λ (r : RootId). r.number) c.in-Ok.loaded) c.in-Ok.ensures.ok (ap (option_map (λ (r : RootId). r.number)) c.in_default-loaded.is))

pub returns-in-Ok-insert-clause-ok : goal.returns-in-Ok-insert-clause-ok
returns-in-Ok-insert-clause-ok g c =
    let free = root_unknown c.get.result c.args.self.now.names c.args.new_name.now c.get.ensures (sym c.is_some.ensures ∙ c.if-is_some.false) in
    λ config store stands. steps_get _ _ config store stands c.args.new_name.now c.args.name.now c.args.field free c.in-Some.holder.number (sym c.in-Some.ensures) _ (option_map (λ (r : RootId). r.number) c.in-Ok.loaded) c.in-Ok.ensures.ok c.in-Some-loaded.root.number _ (ap (option_map (λ (r : RootId). r.number)) c.in-Some-loaded.is) c.in-Ok-insert.ensures.ok

pub returns-in-Err-clause-err : goal.returns-in-Err-clause-err
returns-in-Err-clause-err g c =
    let free = root_unknown c.get.result c.args.self.now.names c.args.new_name.now c.get.ensures (sym c.is_some.ensures ∙ c.if-is_some.false) in
    (refl, λ config store stands. loaded_sound _ _ config store stands c.args.new_name.now c.args.name.now c.args.field free c.in-Some.holder.number (sym c.in-Some.ensures) _ (option_map (λ (r : RootId). r.number) c.in-Ok.loaded) c.in-Ok.ensures.ok c.in-Some-loaded.root.number (ap (option_map (λ (r : RootId). r.number)) c.in-Some-loaded.is))

pub returns-in-Ok-insert-clause-own : goal.returns-in-Ok-insert-clause-own
returns-in-Ok-insert-clause-own g c =
    let free = root_unknown c.get.result c.args.self.now.names c.args.new_name.now c.get.ensures (sym c.is_some.ensures ∙ c.if-is_some.false) in
    let is : option_map (λ (r : RootId). r.number) c.in-Ok.loaded ≡ Some c.in-Some-loaded.root.number = ap (option_map (λ (r : RootId). r.number)) c.in-Some-loaded.is in
    let heap = c.args.self.now.heap in
    let loaded = subst (λ r. Loads heap c.in-Some.holder.number c.args.field r c.load.new.self) is c.in-Ok.ensures.ok in
    rw c.in-Ok-insert.ensures.ok (loads free (sym c.in-Some.ensures) loaded)

pub returns-in-Err-clause-before : goal.returns-in-Err-clause-before
returns-in-Err-clause-before g c =
    let is : option_map (λ (r : RootId). r.number) c.in-Ok.loaded ≡ Some c.in-Some-loaded.root.number = ap (option_map (λ (r : RootId). r.number)) c.in-Some-loaded.is in
    let heap = c.args.self.now.heap in
    let loaded = subst (λ r. Loads heap c.in-Some.holder.number c.args.field r c.load.new.self) is c.in-Ok.ensures.ok in
    let as_before = is_given_up c.release-known.result heap c.load.new.self c.release-known.new.self c.in-Some.holder.number c.args.field c.in-Some-loaded.root.number loaded c.release-known.ensures.known c.release-known.ensures.ok in
    rw (as_before, c.in-Err.ensures.err) refl

use Rattle.std.proofs.Common.{Err, refl, sym, ap, ◌∙◌, ⊎_elim}
use Rattle.std.specs.Option.{option_map}
use Rattle.std.proofs.lemmas.Bool.{true≢false}
use Rattle.model.specs.Commands.{target_of}
use Rattle.steps.specs.declared.heap_values.root_id.RootId.{RootId}
use Rattle.trace_session.specs.Does.{stores}
use Rattle.trace_session.proofs.FieldSteps.{never_unrooted, pointer_there, value_of, set_no_field, set_sound, steps_set, unknown_target}
use Rattle.trace_session.proofs.session.Session.set.Goals as goal

pub returns-then-has_pointer-clause-err : goal.returns-then-has_pointer-clause-err
returns-then-has_pointer-clause-err g c = (
  refl,
  λ config store stands.
      unknown_target _ _ config store stands c.args.name.now c.in-Some.holder.number (sym c.in-Some.ensures) c.args.field (target_of (λ x. x.now) c.args.target) (c.has_pointer.ensures.0 c.if-has_pointer.true) c.in-Err.ensures.err.1
      ∙ ap (λ kind. Err kind) (sym c.in-Err.ensures.err.0),
)

pub returns-in-Err-clause-err : goal.returns-in-Err-clause-err
returns-in-Err-clause-err g c = (
  refl,
  λ config store stands.
      set_no_field _ _ config store stands c.args.name.now c.in-Some.holder.number (sym c.in-Some.ensures) c.args.field (target_of (λ x. x.now) c.args.target) (λ h. true≢false (sym (c.has_pointer.ensures.1 h) ∙ c.if-has_pointer.false)),
)

pub returns-in-Ok-store-clause-ok : goal.returns-in-Ok-store-clause-ok
returns-in-Ok-store-clause-ok g c = λ config store stands.
    steps_set _ _ config store stands c.args.name.now c.in-Some.holder.number (sym c.in-Some.ensures) c.args.field (target_of (λ x. x.now) c.args.target) (option_map (λ (r : RootId). r.number) c.in-Ok.value) _ c.in-Ok.ensures.ok c.in-Ok-store.ensures.field c.in-Ok-store.ensures.ok

pub returns-in-Err-NoRoot-clause-err : goal.returns-in-Err-NoRoot-clause-err
returns-in-Err-NoRoot-clause-err g c = (
  refl,
  λ config store stands.
      ⊎_elim
      (λ none. absurd (never_unrooted _ _ config store stands c.args.name.now c.in-Some.holder.number (sym c.in-Some.ensures) none))
      (λ wrong. absurd (wrong.1 (value_of _ _ config store stands (target_of (λ x. x.now) c.args.target) (option_map (λ (r : RootId). r.number) c.in-Ok.value) c.in-Ok.ensures.ok).known))
      (c.in-Err-NoRoot.ensures.no_root.0 (ap (λ e. Err e) c.in-Err-NoRoot.field-0-is)),
)

pub returns-in-Err-BadField-clause-err : goal.returns-in-Err-BadField-clause-err
returns-in-Err-BadField-clause-err g c = (
  refl,
  λ config store stands.
      set_no_field _ _ config store stands c.args.name.now c.in-Some.holder.number (sym c.in-Some.ensures) c.args.field (target_of (λ x. x.now) c.args.target) (c.in-Err-BadField.ensures.bad_field.0 (ap (λ e. Err e) c.in-Err-BadField.field-0-is)).1,
)

pub returns-in-Err-NoMemory-clause-err : goal.returns-in-Err-NoMemory-clause-err
returns-in-Err-NoMemory-clause-err g c = (
  refl,
  λ config store stands.
      set_sound _ _ config store stands c.args.name.now c.in-Some.holder.number (sym c.in-Some.ensures) c.args.field (target_of (λ x. x.now) c.args.target) (option_map (λ (r : RootId). r.number) c.in-Ok.value) c.in-Ok.ensures.ok
      (pointer_there _ _ config store stands c.args.name.now c.in-Some.holder.number (sym c.in-Some.ensures) c.args.field
      (λ missing. let other = c.in-Err-NoMemory.ensures.bad_field.1 missing in let is = c.in-Err-NoMemory.field-0-is in cc (other, is))),
)

pub returns-in-Ok-store-clause-own : goal.returns-in-Ok-store-clause-own
returns-in-Ok-store-clause-own g c = stores (sym c.in-Some.ensures) c.in-Ok.ensures.ok c.in-Ok-store.ensures.ok

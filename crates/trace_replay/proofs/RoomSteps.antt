-- A line of a replay that is carried out once room was made for it.
use Rattle.std.proofs.Common.{◌≡◌, ℕ, List, Ok, ap, subst, inl, inr}
use Rattle.heap_text.specs.Streams.{Output}
use Rattle.model.specs.Config.{Config}
use Rattle.steps.specs.HeapValue.{HeapValue}
use Rattle.model.specs.Store.{Store, collected}
use Rattle.trace_text.specs.Grammar.{entry_of}
use Rattle.trace_session.specs.CollectsFirst.{LineCollectsFirst, auto_line}
use Rattle.trace_session.specs.Outcome.{line_step}
use Rattle.trace_session.specs.Stepped.{AtEach, StepsTo, Writes}
use Rattle.trace_session.specs.declared.session.Session.{Session}
use Rattle.trace_session.specs.Session.{Stands}
use Rattle.trace_session.specs.Commands.{IsNoCollection}
use Rattle.trace_session.specs.Does.{LineDoes}
use Rattle.trace_replay.specs.Replays.{state_of, MakesRoom, HasMadeRoom, LineReplayed}

pub same_names : {A : Type 0} (a b : Session A) → a ≡ b → a.names ≡ b.names
same_names a b same = ap (λ s. s.names) same

-- a line that needed no room
pub plain_steps : {A : Type 0} (old new : Session A) (config : Config) (n : ℕ) (store : Store) (line : List ℕ) (printed printed' : Output) → IsNoCollection (entry_of line) → LineDoes old.heap old.names (entry_of line) new.heap new.names → ¬ LineCollectsFirst config store line
    → StepsTo (Stands new) config (line_step config store line) printed printed' → LineReplayed new config n (state_of old store) line printed printed'
plain_steps old new config n store line printed printed' plain does has_room done = record {
  store' = done.next;
  stands' = done.stands';
  out = done.out;
  steps = inl (record { plain = plain; has_room = has_room; steps = done.steps; does = does; holds = done.stands' });
  held = done.held;
}

-- a line for which room was made
pub with_room_steps : {A : Type 0} (old new : Session A) (between : HeapValue) (config : Config) (n : ℕ) (store : Store) (line : List ℕ) (printed printed' : Output) → LineCollectsFirst config store line → LineDoes between old.names (entry_of line) new.heap new.names
    → (next : Store) × ((line_step config store line ≡ Ok (next, auto_line store)) × Stands new config next × Writes (λ written. MakesRoom n (state_of old store) written between) printed printed') → LineReplayed new config n (state_of old store) line printed printed'
with_room_steps old new between config n store line printed printed' first does done =
    let own = done.1.2 in
    record {
      store' = done.0;
      stands' = done.1.1;
      out = own.written;
      steps = inr (record { first = first; between = between; makes_room = own.holds; does = does; steps = done.1.0; holds = done.1.1 });
      held = own.held;
    }

-- nothing had changed before room was made
module _ {A : Type 0} (n : ℕ) (first before after : Session A) (same : before ≡ first) {W : Type 0} (contents : W → Output) (old between new : W) (same_writer : between ≡ old)
    (made : AtEach (Stands before) (λ config store. Stands after config (collected config 0 store) × Writes (λ written. MakesRoom n (state_of before store) written after.heap) (contents between) (contents new))) where
  pub made_between : AtEach (Stands first) (λ config store. Stands after config (collected config 0 store) × Writes (λ written. MakesRoom n (state_of first store) written after.heap) (contents old) (contents new))
  made_between =
      subst (λ s. AtEach (Stands s) (λ config store. Stands after config (collected config 0 store) × Writes (λ written. MakesRoom n (state_of s store) written after.heap) (contents old) (contents new))) same
      (subst (λ w. AtEach (Stands before) (λ config store. Stands after config (collected config 0 store) × Writes (λ written. MakesRoom n (state_of before store) written after.heap) (contents w) (contents new))) same_writer made)

  pub made_at_first : AtEach (Stands first) (λ config store. Stands after config (collected config 0 store) × Writes (HasMadeRoom n (state_of first store)) (contents old) (contents new))
  made_at_first = λ config store there.
      let at = made_between config store there in
      (at.0, record { written = at.1.written; held = at.1.held; holds = (after.heap, at.1.holds) })

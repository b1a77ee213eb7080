-- A worker that looks and races at once.
use Rattle.std.proofs.Common.{◌≡◌, ℕ, ◌≤◌, nat_le, true, false, cond, ⊎_elim, Option, Some, None, refl, sym, ap, subst, ◌∙◌}
use Rattle.std.proofs.lemmas.Bool.Decides.{leb_tells}
use Rattle.std.specs.Prelude.{MatchOption, IsSomeAnd, not, ◌&&◌}
use Rattle.std.specs.Option.{option_map, option_map_or}
use Rattle.model.specs.Config.{Config}
use Rattle.model.specs.Graph.{Object, object_at, is_large}
use Rattle.model.specs.Live.{IsYoung}
use Rattle.layout.specs.declared.place.Place.{Place}
use Rattle.layout.specs.Object.{Raw, raw_size}
use Rattle.block_pool.specs.BlockValue.{BlockValue, BeginsAt}
use Rattle.block_pool.specs.ClaimsValue.{SeatValue}
use Rattle.heap.specs.Found.{IsFoundIn, HasNumber}
use Rattle.heap.specs.StepPairs.{stands_at}
use Rattle.heap.specs.HeapValue.{HeapValue}
use Rattle.heap.specs.Words.{IsShownAs, LiesIn}
use Rattle.heap.specs.CollectionValue.{CollectionValue}
use Rattle.workers.specs.Block.{Block}
use Rattle.workers.specs.Setting.{Setting, fits_in, is_collected, is_large_name, destination_of}
use Rattle.workers.specs.Worker.{Worker, allocation_at}
use Rattle.workers.specs.WorkerSteps.{propose_into, draws_for, current_slot, cell_wanted, collected_target, draw_at, after_look, look_slot, look_at, finish_slot}
use Rattle.scavenge.specs.Shown.{WorkspaceValue, has_place_for, with_copy_proposed}
use Rattle.scavenge.specs.Slots.{seen, objects_of, Looks, IsTold, cell_of, seat_after}
use Rattle.scavenge.specs.Evacuates.{ProposesThere}
use Rattle.scavenge.proofs.Placing.{Facts, facts, fits_alike, same_copy, no_draw, look_no_draw}

-- what an object fits in is there
pub there_of : (setting : Setting) (name : ℕ) (o : Option Block) → fits_in setting name o ≡ true → (block : Block) × (o ≡ Some block)
there_of setting name None f = absurd (let q : false ≡ true = f in cc)
there_of setting name (Some block) f = (block, refl)

-- what is older isn't collected
old_object : (heap : HeapValue) (c : CollectionValue) (name : ℕ) (object : Object) → object_at heap.graph name ≡ Some object → (IsYoung heap.graph c.generation name → ⊥) → is_collected (seen heap c) name ≡ false
old_object heap c name object there not_young =
    ap (λ o. option_map_or (λ (x : Object). nat_le x.generation c.generation) o false) there ∙ no_le (λ l. not_young (record { object = object; there = there; young = l }))
  where
    no_le : {m n : ℕ} → (m ≤ n → ⊥) → nat_le m n ≡ false
    no_le {m = m} {n = n} h = ⊎_elim (λ y. absurd (h y.1)) (λ f. f.0) (leb_tells m n)

-- what a look-up finds by a place in a block is small
pub small_there : (heap : HeapValue) (c : CollectionValue) (name offset : ℕ) (block : BlockValue) (at : ℕ × ℕ) (number : Option ℕ) → IsFoundIn heap c name offset block at number → is_large_name (objects_of heap) name ≡ false
small_there heap c name offset block at number f = ap (λ o. option_map_or (is_large heap.config.block_words) o false) f.there ∙ f.small

-- what has no number isn't collected
pub old_there : (heap : HeapValue) (c : CollectionValue) (name offset : ℕ) (block : BlockValue) (at : ℕ × ℕ) (found : Option ℕ) → found ≡ None → IsFoundIn heap c name offset block at found → is_collected (seen heap c) name ≡ false
old_there heap c name offset block at found is f =
    old_object heap c name f.object f.there (subst (λ o. MatchOption o (IsYoung heap.graph c.generation name → ⊥) (λ n. IsYoung heap.graph c.generation name × HasNumber heap c name n)) is f.number)

-- the block that a look-up finds is the one in which the object lies, and tells where it stands
pub lies_there : (heap : HeapValue) (c : CollectionValue) (name offset : ℕ) (block : BlockValue) (at : ℕ × ℕ) (found : Option ℕ) → IsFoundIn heap c name offset block at found
    → IsSomeAnd (object_at heap.graph name) (λ o. LiesIn o offset block) × (Some at ≡ option_map stands_at (object_at heap.graph name))
lies_there heap c name offset block at found f =
    (subst (λ o. IsSomeAnd o (λ x. LiesIn x offset block)) (sym f.there) f.lies, ap Some f.stands ∙ ap (option_map stands_at) (sym f.there))

-- a slot whose object isn't collected is finished with it
pub looks_old : (heap : HeapValue) (c : CollectionValue) (gives : ℕ → Option Place → Type 0) (known : ℕ → Option Place) (seat : SeatValue) (old new : WorkspaceValue) (name : ℕ)
    → current_slot (seen heap c) old.worker ≡ Some (Some name) → is_collected (seen heap c) name ≡ false → new ≡ record old { worker = finish_slot (Some name) old.worker } → Looks heap c gives known known seat seat old new
looks_old heap c gives known seat old new name current is_old e =
    record {
      shown = None;
      number = 0;
      told = subst (IsTold heap c gives known known None) (sym wanted) refl;
      drawn = sym (ap (λ x. seat_after seat (draw_at (seen heap c) old.worker x (cell_of (seen heap c) x None)) 0) wanted);
      worker = e ∙ ap (λ (w : Worker). (let x : WorkspaceValue = record old { worker = w } in x))
          (sym (ap (λ x. after_look (seen heap c) old.worker (cell_of (seen heap c) x None) 0) wanted
          ∙ ap (look_slot (seen heap c) old.worker None 0) current
          ∙ ap (λ b. cond b (look_at (seen heap c) old.worker None 0 name) (finish_slot (Some name) old.worker)) is_old));
    }
  where
    wanted : cell_wanted (seen heap c) old.worker ≡ None
    wanted = ap (collected_target (seen heap c)) current ∙ ap (λ b. cond b (Some name) None) is_old

-- what stands in a block of the heap
pub lies : (o : Option Object) (offset : ℕ) (block : BlockValue) → IsSomeAnd o (λ x. LiesIn x offset block) → (raw : Raw) × (BeginsAt block offset raw × IsSomeAnd o (λ x. IsShownAs x raw))
lies None offset block h = absurd h
lies (Some x) offset block h = (h.raw, (h.begins, h.shown))

-- a copy that goes to a destination and fits there is proposed there
pub proposes_there : (heap : HeapValue) (old : WorkspaceValue) (name d : ℕ) (raw : Raw) → old.config ≡ heap.config → IsSomeAnd (object_at heap.graph name) (λ o. IsShownAs o raw) → is_large_name (objects_of heap) name ≡ false → d ≡ destination_of (objects_of heap) name
    → has_place_for old.config.block_words (raw_size raw) (allocation_at old.worker d) ≡ true → (let x : WorkspaceValue = record old { worker = with_copy_proposed old.worker name raw d } in ProposesThere (objects_of heap) name old x)
proposes_there heap old name d raw config shown small of fits =
    let f : Facts heap name raw = facts heap name raw shown in
    let size = raw_size raw in
    let seen = fits_alike heap name size (allocation_at old.worker d) f.words ∙ ap (λ (k : Config). has_place_for k.block_words size (allocation_at old.worker d)) (sym config) in
    let there : fits_in (objects_of heap) name (allocation_at old.worker d) ≡ true = seen ∙ fits in
    let draw : draws_for (objects_of heap) old.worker name ≡ false = no_draw (objects_of heap) old.worker name d small of there in
    let t = there_of (objects_of heap) name (allocation_at old.worker d) there in
    let copied = ap (λ (w : Worker). (let x : WorkspaceValue = record old { worker = w } in x)) (same_copy heap old.worker name d raw f) in
    record {
      destination = d;
      block = t.0;
      there = t.1;
      worker = copied ∙ ap (λ o. (let x : WorkspaceValue = record old { worker = propose_into (objects_of heap) old.worker name d o } in x)) t.1;
      proposes = λ seat. record {
        number = 0;
        drawn = sym (ap (λ b. seat_after seat b 0) draw);
        worker = copied ∙ ap (λ (w : Worker). (let x : WorkspaceValue = record old { worker = w } in x)) (look_no_draw (objects_of heap) old.worker name d 0 small draw of);
      };
    }

-- a copy that doesn't fit where the last ones stand wants a block
pub wants_block : (heap : HeapValue) (old : WorkspaceValue) (name : ℕ) (raw : Raw) → old.config ≡ heap.config → IsSomeAnd (object_at heap.graph name) (λ o. IsShownAs o raw) → is_large_name (objects_of heap) name ≡ false
    → has_place_for old.config.block_words (raw_size raw) (allocation_at old.worker (destination_of (objects_of heap) name)) ≡ false → draws_for (objects_of heap) old.worker name ≡ true
wants_block heap old name raw config shown small full =
    let block = allocation_at old.worker (destination_of (objects_of heap) name) in
    let seen = fits_alike heap name (raw_size raw) block (facts heap name raw shown).words ∙ ap (λ (k : Config). has_place_for k.block_words (raw_size raw) block) (sym config) in
    ap (λ b. not b && not (fits_in (objects_of heap) name block)) small ∙ ap (λ b. not false && not b) (seen ∙ full)

-- What is proposed is what a look proposes.
use Rattle.std.proofs.Common.{◌≡◌, ℕ, zero, suc, ◌+◌, ◌/◌, ◌<◌, ◌≤◌, Bool, true, false, cond, not, ◌&&◌, nat_lt, nat_le, le-leb, List, [], ◌∷◌, length, map, set, Option, Some, None, refl, sym, ap, subst, ◌∙◌, arith}
use Rattle.std.specs.Prelude.{slice_get}
use Rattle.std.specs.Option.{option_map, option_map_or, option_and_then, IsSomeAnd}
use Rattle.model.specs.Destination.{dest}
use Rattle.model.specs.Graph.{Object, object_at, size_of, is_large}
use Rattle.layout.specs.Object.{Raw, raw_size}
use Rattle.heap.specs.HeapValue.{HeapValue}
use Rattle.heap.specs.StepPairs.{stands_at}
use Rattle.heap.specs.Words.{target_of_word, IsShownAs}
use Rattle.workers.specs.Block.{Block, Copy, used_words, empty_block}
use Rattle.workers.specs.Setting.{Setting, words_of, old_pointers, old_plain, is_large_name, fits_in, destination_of, destination_number}
use Rattle.workers.specs.Worker.{Worker, Copied, Claimed, allocation_at}
use Rattle.workers.specs.WorkerSteps.{propose_copy, propose_into, draws_for, with_new_block, look_at}
use Rattle.layout.specs.Place.{small_word}
use Rattle.scavenge.specs.Shown.{has_place_for, propose_in, with_copy_proposed}
use Rattle.scavenge.specs.Slots.{objects_of}
use Rattle.scavenge.proofs.Fields.{length-map}

-- an object of the heap, as its words show it
pub record Facts (heap : HeapValue) (name : ℕ) (raw : Raw) : Type 0 where
  pub words : words_of (objects_of heap) name ≡ raw_size raw
  pub pointers : old_pointers (objects_of heap) name ≡ map target_of_word raw.pointers
  pub plain : old_plain (objects_of heap) name ≡ raw.plain
  pub large : is_large_name (objects_of heap) name ≡ nat_lt (heap.config.block_words / 4) (raw_size raw)

shown_size : (o : Object) (raw : Raw) → IsShownAs o raw → size_of o ≡ raw_size raw
shown_size o raw s =
    ap (λ (ps : List (Option ℕ)). 1 + length ps + length o.plain) (sym s.pointers)
    ∙ ap (λ n. 1 + n + length o.plain) (length-map target_of_word raw.pointers)
    ∙ ap (λ (xs : List ℕ). 1 + length raw.pointers + length xs) (sym s.plain)

pub facts : (heap : HeapValue) (name : ℕ) (raw : Raw) → IsSomeAnd (object_at heap.graph name) (λ o. IsShownAs o raw) → Facts heap name raw
facts heap name raw s = go (object_at heap.graph name) refl s
  where
    go : (x : Option Object) → object_at heap.graph name ≡ x → IsSomeAnd x (λ o. IsShownAs o raw) → Facts heap name raw
    go None e s = absurd s
    go (Some o) e s =
        record {
          words = ap (λ z. option_map_or size_of z 0) e ∙ shown_size o raw s;
          pointers = ap (λ (z : Option Object). option_map_or (λ (y : Object). y.pointers) z []) e ∙ sym s.pointers;
          plain = ap (λ (z : Option Object). option_map_or (λ (y : Object). y.plain) z []) e ∙ sym s.plain;
          large = ap (λ z. option_map_or (is_large heap.config.block_words) z false) e ∙ ap (nat_lt (heap.config.block_words / 4)) (shown_size o raw s);
        }

pub dest_of : (heap : HeapValue) (name : ℕ) (pair : ℕ × ℕ) → Some pair ≡ option_map stands_at (object_at heap.graph name) → destination_of (objects_of heap) name ≡ destination_number heap.config.shape (dest heap.config.shape pair)
dest_of heap name pair s = go (object_at heap.graph name) s
  where
    go : (x : Option Object) → Some pair ≡ option_map stands_at x → option_map_or (λ (o : Object). destination_number heap.config.shape (dest heap.config.shape (o.generation, o.step))) x 0 ≡ destination_number heap.config.shape (dest heap.config.shape pair)
    go None s = absurd (cc)
    go (Some o) s = let q : stands_at o ≡ pair = cc in ap (λ p. destination_number heap.config.shape (dest heap.config.shape p)) q

-- fitting is seen alike
pub fits_alike : (heap : HeapValue) (name size : ℕ) (o : Option Block) → words_of (objects_of heap) name ≡ size → fits_in (objects_of heap) name o ≡ has_place_for heap.config.block_words size o
fits_alike heap name size None w = refl
fits_alike heap name size (Some b) w = ap (λ x. nat_le (used_words b + x) heap.config.block_words) w

-- and so is the copy
pub same_copy : (heap : HeapValue) (w : Worker) (name d : ℕ) (raw : Raw) → Facts heap name raw → with_copy_proposed w name raw d ≡ propose_copy (objects_of heap) w name d
same_copy heap w name d raw f = go (allocation_at w d)
  where
    copy : Block → List (Option ℕ) → List ℕ → Copy
    copy b ps xs = record { name = name; place = small_word b.number (used_words b); pointers = ps; plain = xs }

    proposed : Block → List (Option ℕ) → List ℕ → Worker
    proposed b ps xs = record w { proposal = Some (Copied (copy b ps xs) d) }

    go : (o : Option Block) → propose_in w name raw d o ≡ propose_into (objects_of heap) w name d o
    go None = refl
    go (Some b) = ap (λ ps. proposed b ps raw.plain) (sym f.pointers) ∙ ap (λ xs. proposed b (old_pointers (objects_of heap) name) xs) (sym f.plain)

-- whether a block is drawn
pub no_draw : (setting : Setting) (w : Worker) (name d : ℕ) → is_large_name setting name ≡ false → d ≡ destination_of setting name → fits_in setting name (allocation_at w d) ≡ true → draws_for setting w name ≡ false
no_draw setting w name d l e f = ap (λ b. andb (not b) (not (fits_in setting name (allocation_at w (destination_of setting name))))) l ∙ ap not (subst (λ z. fits_in setting name (allocation_at w z) ≡ true) e f)
  where
    andb : Bool → Bool → Bool
    andb a b = a && b

pub a_draw : (setting : Setting) (w : Worker) (name d : ℕ) → is_large_name setting name ≡ false → d ≡ destination_of setting name → fits_in setting name (allocation_at w d) ≡ false → draws_for setting w name ≡ true
a_draw setting w name d l e f = ap (λ b. andb (not b) (not (fits_in setting name (allocation_at w (destination_of setting name))))) l ∙ ap not (subst (λ z. fits_in setting name (allocation_at w z) ≡ false) e f)
  where
    andb : Bool → Bool → Bool
    andb a b = a && b

pub look_no_draw : (setting : Setting) (w : Worker) (name d number : ℕ) → is_large_name setting name ≡ false → draws_for setting w name ≡ false → d ≡ destination_of setting name → propose_copy setting w name d ≡ look_at setting w None number name
look_no_draw setting w name d number l dr e =
    ap (propose_copy setting w name) e
    ∙ sym (ap (λ b. cond b (record w { proposal = Some (Claimed name) }) (propose_copy setting (cond (draws_for setting w name) (with_new_block w (destination_of setting name) number) w) name (destination_of setting name))) l
    ∙ ap (λ b. propose_copy setting (cond b (with_new_block w (destination_of setting name) number) w) name (destination_of setting name)) dr)

pub look_draw : (setting : Setting) (w : Worker) (name d number : ℕ) → is_large_name setting name ≡ false → draws_for setting w name ≡ true → d ≡ destination_of setting name → propose_copy setting (with_new_block w d number) name d ≡ look_at setting w None number name
look_draw setting w name d number l dr e =
    ap (λ z. propose_copy setting (with_new_block w z number) name z) e
    ∙ sym (ap (λ b. cond b (record w { proposal = Some (Claimed name) }) (propose_copy setting (cond (draws_for setting w name) (with_new_block w (destination_of setting name) number) w) name (destination_of setting name))) l
    ∙ ap (λ b. propose_copy setting (cond b (with_new_block w (destination_of setting name) number) w) name (destination_of setting name)) dr)

at-set_lt : {A : Type 0} (xs : List (Option A)) (d : ℕ) (x : A) → d < length xs → option_and_then (λ b. b) (slice_get (set xs d (Some x)) d) ≡ Some x
at-set_lt [] d x l = absurd (omega arith)
at-set_lt (y ∷ xs) zero x l = refl
at-set_lt (y ∷ xs) (suc d) x l = at-set_lt xs d x (omega arith)

pub fits_new : (setting : Setting) (w : Worker) (name d number : ℕ) → d < length w.allocation → words_of setting name ≤ setting.block_words → fits_in setting name (allocation_at (with_new_block w d number) d) ≡ true
fits_new setting w name d number l s = ap (fits_in setting name) (at-set_lt w.allocation d (empty_block number d) l) ∙ le-leb _ _ (omega (arith, s))

-- What a worker knows of its current slot.
use Rattle.std.proofs.Common.{◌≡◌, ℕ, zero, suc, ◌+◌, Bool, true, false, cond, nat_lt, List, [], ◌∷◌, length, map, Option, Some, None, refl, sym, ap, subst, ◌∙◌, arith}
use Rattle.std.specs.Prelude.{slice_get}
use Rattle.std.specs.Option.{option_map, option_and_then}
use Rattle.model.specs.Destination.{Shape}
use Rattle.layout.specs.Object.{Raw, raw_size}
use Rattle.block_pool.specs.BlockValue.{BlockValue}
use Rattle.steps.specs.Words.{target_of_word}
use Rattle.workers.specs.Block.{Copy, front_copy}
use Rattle.workers.specs.Worker.{Hand, Open, Holding}
use Rattle.workers.specs.Joined.{OnSome}
use Rattle.scavenge.specs.Named.{named, named_copies, named_copy}
use Rattle.layout.specs.Place.{IsPointer}
use Rattle.scavenge.specs.Fronts.{slot_at, raw_field, front_raw, front_field}
use Rattle.scavenge.specs.Shown.{WorkspaceValue, IsNoted, KnownSlot, Holds, HoldsPointer, CanRead, known_in, known_from, known_slot}
use Rattle.scavenge.proofs.WorkspaceSlotLemmas.{get_map}
use Rattle.scavenge.proofs.Renewing.{shown_at}

-- the first unscanned object and its copy
data FrontIs : Option Copy → Option Raw → Type 0 where
  neither : FrontIs None None
  both : (c : Copy) (raw : Raw) → c.pointers ≡ map target_of_word raw.pointers → FrontIs (Some c) (Some raw)

front_is : (number offset : ℕ) (origins : List ℕ) (raws : List Raw) (k : ℕ) → length raws ≡ length origins → FrontIs (slice_get (named_copies number offset origins raws) k) (slice_get raws k)
front_is number offset [] [] k e = neither
front_is number offset [] (r ∷ raws) k e = absurd (omega arith)
front_is number offset (o ∷ origins) [] k e = neither
front_is number offset (o ∷ origins) (r ∷ raws) zero e = both (named_copy number offset o r) r refl
front_is number offset (o ∷ origins) (r ∷ raws) (suc k) e = front_is number (offset + raw_size r) origins raws k (omega arith)

-- what the front holds is seen alike
front_seen : (i : ℕ) (c : Option Copy) (raw : Option Raw) → FrontIs c raw → option_and_then (λ (copy : Copy). slice_get copy.pointers i) c ≡ option_map target_of_word (raw_field i raw)
front_seen i _ _ neither = refl
front_seen i _ _ (both c raw e) = ap (λ ps. slice_get ps i) e ∙ get_map target_of_word raw.pointers i

slot_seen : (shape : Shape) (i : ℕ) (o : Option BlockValue) → OnSome (IsNoted 0) o → option_and_then (λ (copy : Copy). slice_get copy.pointers i) (option_and_then front_copy (option_map (named shape) o)) ≡ front_field i o
slot_seen shape i None n = refl
slot_seen shape i (Some b) n = front_seen i _ _ (front_is b.number 0 b.origins b.objects b.front (omega (arith, n.count)))

-- and whether it is a pointer
word_pointer : (word : ℕ) → HoldsPointer (Holds (Some (target_of_word word))) → IsPointer word
word_pointer word h = go (nat_lt 0 word) refl
  where
    go : (b : Bool) → nat_lt 0 word ≡ b → IsPointer word
    go true l = subst (λ t. HoldsPointer (Holds (Some t))) (ap (λ b. cond b (Some word) None) l) h
    go false l = (None, let z : 0 ≡ word = grind (arith, l) in z)

pub front_pointers : (i : ℕ) (o : Option BlockValue) → HoldsPointer (Holds (front_field i o)) → OnSome IsPointer (raw_field i (front_raw o))
front_pointers i o h = go (raw_field i (front_raw o)) h
  where
    go : (x : Option ℕ) → HoldsPointer (Holds (option_map target_of_word x)) → OnSome IsPointer x
    go None k = tt
    go (Some word) k = word_pointer word k

-- the current slot, by what is in hand
pub start_known : {V N : WorkspaceValue} → V ≡ N → (t : ℕ) (ts : List ℕ) → V.worker.starts ≡ t ∷ ts → Holds (Some (Some t)) ≡ known_slot N.worker
start_known {V = V} same t ts e = sym (ap (known_from V.worker) e) ∙ ap (λ (v : WorkspaceValue). known_slot v.worker) same

pub hand_known : {V N : WorkspaceValue} → V ≡ N → (hand : Hand) → V.worker.starts ≡ [] → V.worker.hand ≡ hand → known_in V.worker hand ≡ known_slot N.worker
hand_known {V = V} same hand s h = sym (ap (known_in V.worker) h) ∙ sym (ap (known_from V.worker) s) ∙ ap (λ (v : WorkspaceValue). known_slot v.worker) same

pub open_known : {V N : WorkspaceValue} → V ≡ N → (shape : Shape) (slots : List (Option BlockValue)) (d : ℕ) → V.worker.allocation ≡ map (option_map (named shape)) slots → V.worker.starts ≡ [] → V.worker.hand ≡ Open d
    → OnSome (IsNoted 0) (slot_at slots d) → Holds (front_field V.worker.fields (slot_at slots d)) ≡ known_slot N.worker
open_known {V = V} same shape slots d a s h n =
    ap Holds (sym (slot_seen shape V.worker.fields (slot_at slots d) n)
    ∙ ap (λ o. option_and_then (λ (copy : Copy). slice_get copy.pointers V.worker.fields) (option_and_then front_copy o)) (sym (shown_at shape slots d (slot_at slots d) V.worker a refl)))
    ∙ hand_known same (Open d) s h

pub held_known : {V N : WorkspaceValue} → V ≡ N → (shape : Shape) (b : BlockValue) → V.worker.starts ≡ [] → V.worker.hand ≡ Holding (named shape b) → IsNoted 0 b → Holds (front_field V.worker.fields (Some b)) ≡ known_slot N.worker
held_known {V = V} same shape b s h n = ap Holds (sym (slot_seen shape V.worker.fields (Some b) n)) ∙ hand_known same (Holding (named shape b)) s h

-- what is read where the start list is finished
pub read_of : {V N : WorkspaceValue} → V ≡ N → (k : KnownSlot) → V.worker.starts ≡ [] → k ≡ known_slot N.worker → CanRead N.worker N.worker.starts → HoldsPointer k
read_of {V = V} {N = N} same k s e h =
    subst HoldsPointer (sym (e ∙ ap (known_from N.worker) none)) (subst (CanRead N.worker) none h)
  where
    none : N.worker.starts ≡ []
    none = ap (λ (v : WorkspaceValue). v.worker.starts) (sym same) ∙ s

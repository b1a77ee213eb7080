-- The blocks of a sweep.
use Rattle.std.proofs.Common.{◌≡◌, ℕ, zero, suc, ◌<◌, false, List, [], ◌∷◌, length, set, Option, Some, None, refl, sym, ap, subst, ◌∙◌, arith}
use Rattle.std.specs.Prelude.{IsSome, is_some}
use Rattle.model.specs.Destination.{Shape}
use Rattle.block_pool.specs.BlockValue.{BlockValue}
use Rattle.workers.specs.Worker.{Holding}
use Rattle.scavenge.specs.Named.{named}
use Rattle.scavenge.specs.Fronts.{slot_at}
use Rattle.workers.specs.Ready.{HasField, CanWrite, CanFinish}
use Rattle.scavenge.specs.Shown.{WorkspaceValue, AreNoted, held_in}
use Rattle.scavenge.specs.Swept.{with_block}
use Rattle.scavenge.specs.declared.workspace.hand.Hand.{Hand as InHand}
use Rattle.scavenge.specs.declared.workspace.hand.Hand.TheVariants as in_hand
use Rattle.scavenge.specs.declared.workspace.proposed.Proposed.{Proposed}
use Rattle.scavenge.proofs.Fields.{Behind, behind, Last, last_there}

-- the block that is copied into stands in its place
pub in_place : (slots : List (Option BlockValue)) (d : ℕ) (b : BlockValue) → d < length slots → slot_at (with_block slots d b) d ≡ Some b
in_place [] d b l = absurd (omega arith)
in_place (x ∷ slots) zero b l = refl
in_place (x ∷ slots) (suc d) b l = in_place slots d b (omega arith)

-- another one in its place
pub put_again : (slots : List (Option BlockValue)) (d : ℕ) (b b' : BlockValue) → with_block slots d b' ≡ set (with_block slots d b) d (Some b')
put_again [] d b b' = refl
put_again (x ∷ slots) zero b b' = refl
put_again (x ∷ slots) (suc d) b b' = ap (λ xs. x ∷ xs) (put_again slots d b b')

-- it was taken from there
pub put_back : (slots : List (Option BlockValue)) (d : ℕ) (b : BlockValue) → slot_at slots d ≡ Some b → with_block (set slots d None) d b ≡ slots
put_back [] d b e = refl
put_back (None ∷ slots) zero b e = absurd (cc)
put_back (Some x ∷ slots) zero b e = let q : x ≡ b = cc in ap (λ y. Some y ∷ slots) (sym q)
put_back (x ∷ slots) (suc d) b e = ap (λ xs. x ∷ xs) (put_back slots d b e)

pub there_below : (slots : List (Option BlockValue)) (d : ℕ) (b : BlockValue) → slot_at slots d ≡ Some b → d < length slots
there_below [] d b e = absurd (cc)
there_below (x ∷ slots) zero b e = omega arith
there_below (x ∷ slots) (suc d) b e = let h : d < length slots = there_below slots d b e in omega arith

pub length-put : (slots : List (Option BlockValue)) (d : ℕ) (o : Option BlockValue) → length (set slots d o) ≡ length slots
length-put [] d o = refl
length-put (x ∷ slots) zero o = refl
length-put (x ∷ slots) (suc d) o = ap suc (length-put slots d o)

-- the block that is held in hand, and the one for a destination
pub held_is : {A : Type 0} (hand : InHand A) → IsSome (held_in hand) → (b : BlockValue) × (hand ≡ in_hand.Holding b)
held_is in_hand.Nothing some = absurd (cc)
held_is (in_hand.Open d) some = absurd (cc)
held_is (in_hand.Holding b) some = (b, refl)
held_is (in_hand.Large name) some = absurd (cc)

pub some_is : (o : Option BlockValue) → IsSome o → (b : BlockValue) × (o ≡ Some b)
some_is None some = absurd (cc)
some_is (Some b) some = (b, refl)

pub none_is : {T : Type 0} (o : Option T) → is_some o ≡ false → o ≡ None
none_is None none = refl
none_is (Some x) none = absurd (cc)

-- the current slot is one of the block's first unscanned copy
pub field_held : {V N : WorkspaceValue} → V ≡ N → (shape : Shape) (b : BlockValue) → V.worker.starts ≡ [] → V.worker.hand ≡ Holding (named shape b) → CanFinish N.worker N.worker.starts → HasField V.worker.fields (Some (named shape b))
field_held {V = V} same shape b s h k = subst (CanWrite V.worker) h (subst (CanFinish V.worker) s (subst (λ (v : WorkspaceValue). CanFinish v.worker v.worker.starts) (sym same) k))

-- the object of the current slot
pub behind_held : {V N : WorkspaceValue} → V ≡ N → (shape : Shape) (b : BlockValue) → V.worker.starts ≡ [] → V.worker.hand ≡ Holding (named shape b) → CanFinish N.worker N.worker.starts → Behind b V.worker.fields
behind_held {V = V} same shape b s h k =
    let f : HasField V.worker.fields (Some (named shape b)) = field_held same shape b s h k in
    behind shape b V.worker.fields f.0 f.1 f.2

-- what is proposed stands at the end of the block that is copied into
pub last_here : (slots : List (Option BlockValue)) (aside done : List BlockValue) (held : Option BlockValue) (p : Proposed) (d : ℕ) (b : BlockValue) → p.destination ≡ Some d → d < length slots → AreNoted (with_block slots d b) aside done held (Some p)
    → (t : Last (with_block slots d b) p d) × (t.block ≡ b)
last_here slots aside done held p d b is l n =
    let t : Last (with_block slots d b) p d = last_there (with_block slots d b) aside done held p d is n in
    let e : Some t.block ≡ Some b = sym t.there ∙ in_place slots d b l in
    (t, cc)

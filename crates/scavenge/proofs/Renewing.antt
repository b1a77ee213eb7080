-- A block is drawn, and the one before is retired.
use Rattle.std.proofs.Common.{◌≡◌, ℕ, Bool, true, false, cond, eq-eqb, ne_eqb, List, [], ◌∷◌, ◌++◌, ◌-◌, map, set, Option, Some, None, refl, sym, ap, subst, ◌∙◌}
use Rattle.std.proofs.lemmas.List.{map-set}
use Rattle.std.specs.Prelude.{slice_set, slice_get, option_and_then}
use Rattle.std.specs.Option.{option_map}
use Rattle.model.specs.Config.{Config}
use Rattle.model.specs.Destination.{Shape}
use Rattle.block_pool.specs.BlockValue.{BlockValue}
use Rattle.workers.specs.Block.{Block, empty_block, has_unscanned}
use Rattle.workers.specs.Worker.{Worker, Proposal, Hand, Holding, allocation_at}
use Rattle.workers.specs.WorkerSteps.{with_new_block, retired, is_open_at}
use Rattle.workers.specs.Joined.{Each, OnSome}
use Rattle.workers.proofs.Lists.{set-at}
use Rattle.scavenge.specs.Named.{named}
use Rattle.scavenge.specs.declared.workspace.hand.Hand.{Hand as InHand}
use Rattle.scavenge.specs.declared.workspace.hand.Hand.TheVariants as in_hand
use Rattle.scavenge.specs.declared.workspace.proposed.Proposed.{Proposed}
use Rattle.scavenge.specs.Fronts.{slot_at}
use Rattle.scavenge.specs.Shown.{WorkspaceValue, IsNoted, AreNoted, IsMade, AreMade, hand_of}
use Rattle.scavenge.proofs.Fields.{slots-get}

pub new_noted : {slots slots' : List (Option BlockValue)} {aside aside' done done' : List BlockValue} {held held' : Option BlockValue} {p : Option Proposed} (d : ℕ) (nb : BlockValue) → slots' ≡ set slots d (Some nb) → IsNoted 0 nb
    → Each (IsNoted 0) aside' → Each (IsNoted 0) done' → OnSome (IsNoted 0) held' → p ≡ None → AreNoted slots aside done held None → AreNoted slots' aside' done' held' p
new_noted {slots = slots} {slots' = slots'} {aside' = aside'} {done' = done'} {held' = held'} {p = p} d nb se i ha hd hh none n =
    subst (AreNoted slots' aside' done' held') (sym none)
    (record { in_slots = subst (λ xs. (e : ℕ) → OnSome (IsNoted 0) (slot_at xs e)) (sym se) (set-at (λ e. IsNoted 0) slots d nb i n.in_slots); in_aside = ha; in_done = hd; in_hand = hh; there = tt })

pub new_made : (k : Config) {slots slots' : List (Option BlockValue)} {aside aside' done done' : List BlockValue} {held held' : Option BlockValue} (d : ℕ) (nb : BlockValue) → slots' ≡ set slots d (Some nb) → IsMade k nb
    → Each (IsMade k) aside' → Each (IsMade k) done' → OnSome (IsMade k) held' → AreMade k slots aside done held → AreMade k slots' aside' done' held'
new_made k {slots = slots} d nb se i ha hd hh n =
    record { in_slots = subst (λ xs. (e : ℕ) → OnSome (IsMade k) (slot_at xs e)) (sym se) (set-at (λ e. IsMade k) slots d nb i n.in_slots); in_aside = ha; in_done = hd; in_hand = hh }

-- a new block, by what becomes of the old one
pub new_none : (w : Worker) (d number : ℕ) → allocation_at w d ≡ None → with_new_block w d number ≡ record w { allocation = slice_set w.allocation d (Some (empty_block number d)) }
new_none w d number e = ap (λ o. (let x : Worker = record (retired w d o) { allocation = slice_set w.allocation d (Some (empty_block number d)) } in x)) e

abbrev retired_by : Worker → Block → Bool → Bool → Worker
retired_by w block b c = cond b (record w { hand = Holding block }) (cond c (record w { aside = w.aside ++ block ∷ [] }) (record w { done = w.done ++ block ∷ [] }))

new_some : (w : Worker) (d number : ℕ) (block : Block) (b c : Bool) → allocation_at w d ≡ Some block → is_open_at d w.hand ≡ b → has_unscanned block ≡ c
    → with_new_block w d number ≡ record (retired_by w block b c) { allocation = slice_set w.allocation d (Some (empty_block number d)) }
new_some w d number block b c e o u =
    ap (λ z. (let x : Worker = record (retired w d z) { allocation = slice_set w.allocation d (Some (empty_block number d)) } in x)) e
    ∙ ap (λ z. (let x : Worker = record (retired_by w block z (has_unscanned block)) { allocation = slice_set w.allocation d (Some (empty_block number d)) } in x)) o
    ∙ ap (λ z. (let x : Worker = record (retired_by w block b z) { allocation = slice_set w.allocation d (Some (empty_block number d)) } in x)) u

pub new_open : (w : Worker) (d number : ℕ) (block : Block) → allocation_at w d ≡ Some block → is_open_at d w.hand ≡ true → with_new_block w d number ≡ record w { hand = Holding block; allocation = slice_set w.allocation d (Some (empty_block number d)) }
new_open w d number block e o = new_some w d number block true (has_unscanned block) e o refl

pub new_aside : (w : Worker) (d number : ℕ) (block : Block) → allocation_at w d ≡ Some block → is_open_at d w.hand ≡ false → has_unscanned block ≡ true → with_new_block w d number ≡ record w { aside = w.aside ++ block ∷ []; allocation = slice_set w.allocation d (Some (empty_block number d)) }
new_aside w d number block e o u = new_some w d number block false true e o u

pub new_done : (w : Worker) (d number : ℕ) (block : Block) → allocation_at w d ≡ Some block → is_open_at d w.hand ≡ false → has_unscanned block ≡ false → with_new_block w d number ≡ record w { done = w.done ++ block ∷ []; allocation = slice_set w.allocation d (Some (empty_block number d)) }
new_done w d number block e o u = new_some w d number block false false e o u

pub is_opened : {A : Type 0} (shape : Shape) (hand : InHand A) (d : ℕ) → hand ≡ in_hand.Open d → is_open_at d (hand_of shape hand) ≡ true
is_opened shape hand d e = ap (λ x. is_open_at d (hand_of shape x)) e ∙ eq-eqb d d refl

pub not_opened : {A : Type 0} (shape : Shape) (hand : InHand A) (d : ℕ) → (hand ≡ in_hand.Open d → ⊥) → is_open_at d (hand_of shape hand) ≡ false
not_opened shape in_hand.Nothing d n = refl
not_opened shape (in_hand.Open e) d n = ne_eqb d e (λ p. n (ap in_hand.Open (sym p)))
not_opened shape (in_hand.Holding block) d n = refl
not_opened shape (in_hand.Large name) d n = refl

-- the fields that a new block changes
abbrev pub renewed : Worker → Option Proposal → Hand → List (Option Block) → List Block → List Block → Worker
renewed w q h a s dn = record w { proposal = q; hand = h; allocation = a; aside = s; done = dn }

same_renewed : (w : Worker) {q q' : Option Proposal} {h h' : Hand} {a a' : List (Option Block)} {s s' dn dn' : List Block} → q ≡ q' → h ≡ h' → a ≡ a' → s ≡ s' → dn ≡ dn' → renewed w q h a s dn ≡ renewed w q' h' a' s' dn'
same_renewed w {q = q} {q' = q'} {h = h} {h' = h'} {a = a} {a' = a'} {s = s} {s' = s'} {dn = dn} {dn' = dn'} e1 e2 e3 e4 e5 =
    ap (λ x. renewed w x h a s dn) e1 ∙ ap (λ x. renewed w q' x a s dn) e2 ∙ ap (λ x. renewed w q' h' x s dn) e3 ∙ ap (λ x. renewed w q' h' a' x dn) e4 ∙ ap (λ x. renewed w q' h' a' s' x) e5

abbrev over : WorkspaceValue → Worker → WorkspaceValue
over v w = record v { worker = w; block_room = v.block_room - 1 }

pub renewed_is : {V N : WorkspaceValue} → V ≡ N → (q : Option Proposal) (h : Hand) (a : List (Option Block)) (s dn : List Block) (d number : ℕ) (h' : Hand) (s' dn' : List Block)
    → with_new_block V.worker d number ≡ renewed V.worker V.worker.proposal h' (slice_set V.worker.allocation d (Some (empty_block number d))) s' dn'
    → q ≡ V.worker.proposal → h ≡ h' → a ≡ slice_set V.worker.allocation d (Some (empty_block number d)) → s ≡ s' → dn ≡ dn'
    → over V (renewed V.worker q h a s dn) ≡ over N (with_new_block N.worker d number)
renewed_is {V = V} same q h a s dn d number h' s' dn' w e1 e2 e3 e4 e5 =
    ap (over V) (same_renewed V.worker e1 e2 e3 e4 e5 ∙ sym w)
    ∙ ap (λ (v : WorkspaceValue). over v (with_new_block v.worker d number)) same

-- what the worker's table shows at a place
pub shown_at : (shape : Shape) (slots : List (Option BlockValue)) (d : ℕ) (o : Option BlockValue) (w : Worker) → w.allocation ≡ map (option_map (named shape)) slots → slot_at slots d ≡ o → allocation_at w d ≡ option_map (named shape) o
shown_at shape slots d o w a e = ap (λ xs. at_of xs d) a ∙ slots-get shape slots d ∙ ap (option_map (named shape)) e
  where
    at_of : List (Option Block) → ℕ → Option Block
    at_of xs d = option_and_then (λ b. b) (slice_get xs d)

pub slots_drawn : (shape : Shape) (slots : List (Option BlockValue)) (d number : ℕ) (nb : BlockValue) → named shape nb ≡ empty_block number d
    → map (option_map (named shape)) (set slots d (Some nb)) ≡ slice_set (map (option_map (named shape)) slots) d (Some (empty_block number d))
slots_drawn shape slots d number nb e = map-set (option_map (named shape)) slots d (Some nb) ∙ ap (λ b. set (map (option_map (named shape)) slots) d (Some b)) e

pub shown_slot : (shape : Shape) (slots : List (Option BlockValue)) (d : ℕ) (o : Option BlockValue) → slot_at slots d ≡ o → option_and_then (λ b. b) (slice_get (map (option_map (named shape)) slots) d) ≡ option_map (named shape) o
shown_slot shape slots d o e = slots-get shape slots d ∙ ap (option_map (named shape)) e

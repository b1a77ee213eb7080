-- The current object is scanned.
use Rattle.std.proofs.Common.{◌≡◌, ℕ, zero, suc, ◌+◌, ◌<◌, Bool, true, false, cond, nat_lt, List, [], ◌∷◌, ◌++◌, length, map, take, set, Option, Some, None, refl, sym, ap, subst, ◌∙◌, arith, ltb-true}
use Rattle.std.proofs.lemmas.List.{map-set}
use Rattle.std.proofs.lemmas.List.Sums.{sum_by-cons}
use Rattle.std.specs.Prelude.{slice_get, slice_set}
use Rattle.std.specs.Option.{option_map, option_and_then}
use Rattle.model.specs.Destination.{Shape}
use Rattle.layout.specs.Object.{Raw, raw_size}
use Rattle.layout.specs.Place.{small_word}
use Rattle.block_pool.specs.BlockValue.{BlockValue, offset_of}
use Rattle.workers.specs.Block.{Block, Copy, front_copy, has_unscanned, with_front_moved}
use Rattle.workers.specs.Worker.{Worker, Hand, Nothing, Open, Holding, HoldingLarge, allocation_at, current_in}
use Rattle.workers.specs.WorkerSteps.{after_scan, scan_hand, scan_open, scan_block, log_scan}
use Rattle.scavenge.specs.Named.{named, named_copies, named_copy}
use Rattle.workers.specs.Worker.{Proposal}
use Rattle.workers.specs.Joined.{OnSome}
use Rattle.scavenge.specs.Fronts.{slot_at}
use Rattle.workers.specs.Ready.{IsUnscanned, CanPass}
use Rattle.scavenge.specs.Shown.{WorkspaceValue, IsNoted, slots_of}
use Rattle.scavenge.specs.Shown.{has_another}
use Rattle.scavenge.proofs.Fields.{slots-get}

named-length : (number offset : ℕ) (origins : List ℕ) (raws : List Raw) → length raws ≡ length origins → length (named_copies number offset origins raws) ≡ length raws
named-length number offset [] [] e = refl
named-length number offset [] (r ∷ raws) e = absurd (omega arith)
named-length number offset (o ∷ origins) [] e = refl
named-length number offset (o ∷ origins) (r ∷ raws) e = ap suc (named-length number (offset + raw_size r) origins raws (omega arith))

-- what is behind the first unscanned is seen alike
pub another_named : (shape : Shape) (b : BlockValue) → IsNoted 0 b → has_another (Holding (named shape b)) ≡ nat_lt (b.front + 1) (length b.objects)
another_named shape b n = ap (nat_lt (b.front + 1)) (named-length b.number 0 b.origins b.objects (omega (arith, n.count)))

-- the copy at an ordinal, and its place
pub record Standing (cs : List Copy) (k place : ℕ) : Type 0 where
  pub copy : Copy
  pub is : slice_get cs k ≡ Some copy
  pub at : copy.place ≡ place

standing : (number offset : ℕ) (origins : List ℕ) (raws : List Raw) (k : ℕ) → length raws ≡ length origins → k < length raws → Standing (named_copies number offset origins raws) k (small_word number (offset + offset_of raws k))
standing number offset [] [] k e l = absurd (omega arith)
standing number offset [] (r ∷ raws) k e l = absurd (omega arith)
standing number offset (o ∷ origins) [] k e l = absurd (omega arith)
standing number offset (o ∷ origins) (r ∷ raws) zero e l = let n : offset ≡ offset + 0 = omega arith in record { copy = named_copy number offset o r; is = refl; at = ap (small_word number) n }
standing number offset (o ∷ origins) (r ∷ raws) (suc k) e l =
    let h = standing number (offset + raw_size r) origins raws k (omega arith) (omega arith) in
    let s : offset_of (r ∷ raws) (suc k) ≡ raw_size r + offset_of raws k = sum_by-cons raw_size r (take k raws) in
    let n : (offset + raw_size r) + offset_of raws k ≡ offset + offset_of (r ∷ raws) (suc k) = omega arith in
    record { copy = h.copy; is = h.is; at = h.at ∙ ap (small_word number) n }

same_count : (b : BlockValue) → IsNoted 0 b → length b.objects ≡ length b.origins
same_count b n = omega (arith, n.count)

pub unscanned_named : (shape : Shape) (b : BlockValue) → IsNoted 0 b → has_unscanned (named shape b) ≡ nat_lt b.front (length b.objects)
unscanned_named shape b n = ap (nat_lt b.front) (named-length b.number 0 b.origins b.objects (same_count b n))

pub front_standing : (shape : Shape) (b : BlockValue) → IsNoted 0 b → b.front < length b.objects → Standing (named shape b).copies b.front (small_word b.number (offset_of b.objects b.front))
front_standing shape b n l =
    let h = standing b.number 0 b.origins b.objects b.front (same_count b n) l in
    let e : 0 + offset_of b.objects b.front ≡ offset_of b.objects b.front = omega arith in
    record { copy = h.copy; is = h.is; at = h.at ∙ ap (small_word b.number) e }

abbrev pub passed : BlockValue → BlockValue
passed b = record b { front = b.front + 1 }

pub passed_noted : (b : BlockValue) → IsNoted 0 b → b.front < length b.objects → IsNoted 0 (passed b)
passed_noted b n l = record { count = n.count; front = omega (arith, n.count) }

-- what can be passed
pub unscanned_lt : (shape : Shape) (b : BlockValue) → IsNoted 0 b → has_unscanned (named shape b) ≡ true → b.front < length b.objects
unscanned_lt shape b n u = ltb-true _ _ (sym (unscanned_named shape b n) ∙ u)

-- scanning, by what is in hand
pub scan_open_is : (w : Worker) (d : ℕ) (block : Block) (c : Copy) → w.hand ≡ Open d → allocation_at w d ≡ Some block → front_copy block ≡ Some c
    → after_scan w ≡ record w { fields = 0; scanned = w.scanned ++ c.place ∷ []; allocation = slice_set w.allocation d (Some (with_front_moved block)); hand = cond (has_unscanned (with_front_moved block)) (Open d) Nothing }
scan_open_is w d block c h a f =
    ap (λ x. scan_hand (log_scan w (current_in w x)) x) h
    ∙ ap (λ x. scan_hand (log_scan w x) (Open d)) (ap (λ o. option_map (λ (k : Copy). (k.name, k.place)) (option_and_then front_copy o)) a ∙ ap (option_map (λ (k : Copy). (k.name, k.place))) f)
    ∙ ap (λ o. scan_open (record w { fields = 0; scanned = w.scanned ++ c.place ∷ [] }) d (option_and_then (λ b. Some (with_front_moved b)) o)) a

pub scan_held_is : (w : Worker) (block : Block) (c : Copy) → w.hand ≡ Holding block → front_copy block ≡ Some c → after_scan w ≡ scan_block (record w { fields = 0; scanned = w.scanned ++ c.place ∷ [] }) (with_front_moved block)
scan_held_is w block c h f =
    ap (λ x. scan_hand (log_scan w (current_in w x)) x) h
    ∙ ap (λ x. scan_hand (log_scan w x) (Holding block)) (ap (option_map (λ (k : Copy). (k.name, k.place))) f)

pub scan_large_is : (w : Worker) (name : ℕ) → w.hand ≡ HoldingLarge name → after_scan w ≡ record w { fields = 0; scanned = w.scanned ++ name ∷ []; hand = Nothing; large_done = w.large_done ++ name ∷ [] }
scan_large_is w name h = ap (λ x. scan_hand (log_scan w (current_in w x)) x) h

-- the block that is passed
pub record Passing (slots : List (Option BlockValue)) (d : ℕ) : Type 0 where
  pub block : BlockValue
  pub there : slot_at slots d ≡ Some block
  pub noted : IsNoted 0 block
  pub lt : block.front < length block.objects

pub open_passing : {V N : WorkspaceValue} → V ≡ N → (shape : Shape) (slots : List (Option BlockValue)) (d : ℕ) → V.worker.allocation ≡ slots_of shape slots → V.worker.hand ≡ Open d → OnSome (IsNoted 0) (slot_at slots d) → CanPass N.worker N.worker.hand → Passing slots d
open_passing {V = V} same shape slots d ae h n k =
    let u : IsUnscanned (allocation_at V.worker d) = subst (CanPass V.worker) h (subst (λ (v : WorkspaceValue). CanPass v.worker v.worker.hand) (sym same) k) in
    go (slot_at slots d) refl (subst IsUnscanned (ap (λ a. option_and_then (λ b. b) (slice_get a d)) ae ∙ slots-get shape slots d) u) n
  where
    go : (o : Option BlockValue) → slot_at slots d ≡ o → IsUnscanned (option_map (named shape) o) → OnSome (IsNoted 0) o → Passing slots d
    go None e u n = absurd u
    go (Some b) e u n = record { block = b; there = e; noted = n; lt = unscanned_lt shape b n u }

pub held_passing : {V N : WorkspaceValue} → V ≡ N → (shape : Shape) (b : BlockValue) → V.worker.hand ≡ Holding (named shape b) → IsNoted 0 b → CanPass N.worker N.worker.hand → b.front < length b.objects
held_passing {V = V} same shape b h n k = unscanned_lt shape b n (subst (CanPass V.worker) h (subst (λ (v : WorkspaceValue). CanPass v.worker v.worker.hand) (sym same) k))

-- what a scan changes, field by field
abbrev pub scanned_with : Worker → Option Proposal → Hand → List (Option Block) → List Block → List ℕ → List ℕ → Worker
scanned_with w q h a dn ld s = record w { fields = 0; proposal = q; hand = h; allocation = a; done = dn; large_done = ld; scanned = s }

same_scan : (w : Worker) {q q' : Option Proposal} {h h' : Hand} {a a' : List (Option Block)} {dn dn' : List Block} {ld ld' s s' : List ℕ} → q ≡ q' → h ≡ h' → a ≡ a' → dn ≡ dn' → ld ≡ ld' → s ≡ s' → scanned_with w q h a dn ld s ≡ scanned_with w q' h' a' dn' ld' s'
same_scan w {q = q} {q' = q'} {h = h} {h' = h'} {a = a} {a' = a'} {dn = dn} {dn' = dn'} {ld = ld} {ld' = ld'} {s = s} {s' = s'} e1 e2 e3 e4 e5 e6 =
    ap (λ x. scanned_with w x h a dn ld s) e1 ∙ ap (λ x. scanned_with w q' x a dn ld s) e2 ∙ ap (λ x. scanned_with w q' h' x dn ld s) e3
    ∙ ap (λ x. scanned_with w q' h' a' x ld s) e4 ∙ ap (λ x. scanned_with w q' h' a' dn' x s) e5 ∙ ap (λ x. scanned_with w q' h' a' dn' ld' x) e6

pub scan_open_done : {V N : WorkspaceValue} → V ≡ N → (q : Option Proposal) (h : Hand) (a : List (Option Block)) (dn : List Block) (ld s : List ℕ) (d : ℕ) (block : Block) (c : Copy)
    → V.worker.hand ≡ Open d → allocation_at V.worker d ≡ Some block → front_copy block ≡ Some c
    → q ≡ V.worker.proposal → h ≡ cond (has_unscanned (with_front_moved block)) (Open d) Nothing → a ≡ slice_set V.worker.allocation d (Some (with_front_moved block)) → dn ≡ V.worker.done → ld ≡ V.worker.large_done → s ≡ V.worker.scanned ++ c.place ∷ []
    → (let x : WorkspaceValue = record V { worker = scanned_with V.worker q h a dn ld s } in x) ≡ (let x : WorkspaceValue = record N { worker = after_scan N.worker } in x)
scan_open_done {V = V} same q h a dn ld s d block c hand at fc e1 e2 e3 e4 e5 e6 =
    ap (λ w. (let x : WorkspaceValue = record V { worker = w } in x)) (same_scan V.worker e1 e2 e3 e4 e5 e6 ∙ sym (scan_open_is V.worker d block c hand at fc))
    ∙ ap (λ (v : WorkspaceValue). (let x : WorkspaceValue = record v { worker = after_scan v.worker } in x)) same

pub scan_held_done : {V N : WorkspaceValue} → V ≡ N → (q : Option Proposal) (h : Hand) (dn : List Block) (ld s : List ℕ) (block : Block) (c : Copy)
    → V.worker.hand ≡ Holding block → front_copy block ≡ Some c → (more : Bool) → has_unscanned (with_front_moved block) ≡ more
    → q ≡ V.worker.proposal → h ≡ cond more (Holding (with_front_moved block)) Nothing → dn ≡ cond more V.worker.done (V.worker.done ++ with_front_moved block ∷ []) → ld ≡ V.worker.large_done → s ≡ V.worker.scanned ++ c.place ∷ []
    → (let x : WorkspaceValue = record V { worker = scanned_with V.worker q h V.worker.allocation dn ld s } in x) ≡ (let x : WorkspaceValue = record N { worker = after_scan N.worker } in x)
scan_held_done {V = V} same q h dn ld s block c hand fc more is e1 e2 e4 e5 e6 =
    ap (λ w. (let x : WorkspaceValue = record V { worker = w } in x)) (same_scan V.worker e1 e2 refl e4 e5 e6 ∙ sym (scan_held_is V.worker block c hand fc ∙ on more is))
    ∙ ap (λ (v : WorkspaceValue). (let x : WorkspaceValue = record v { worker = after_scan v.worker } in x)) same
  where
    w0 : Worker
    w0 = record V.worker { fields = 0; scanned = V.worker.scanned ++ c.place ∷ [] }

    on : (m : Bool) → has_unscanned (with_front_moved block) ≡ m → scan_block (record V.worker { fields = 0; scanned = V.worker.scanned ++ c.place ∷ [] }) (with_front_moved block)
        ≡ scanned_with V.worker V.worker.proposal (cond m (Holding (with_front_moved block)) Nothing) V.worker.allocation (cond m V.worker.done (V.worker.done ++ with_front_moved block ∷ [])) V.worker.large_done (V.worker.scanned ++ c.place ∷ [])
    on true e = ap (λ b. cond b (record V.worker { fields = 0; scanned = V.worker.scanned ++ c.place ∷ []; hand = Holding (with_front_moved block) }) (record V.worker { fields = 0; scanned = V.worker.scanned ++ c.place ∷ []; hand = Nothing; done = V.worker.done ++ with_front_moved block ∷ [] })) e
    on false e = ap (λ b. cond b (record V.worker { fields = 0; scanned = V.worker.scanned ++ c.place ∷ []; hand = Holding (with_front_moved block) }) (record V.worker { fields = 0; scanned = V.worker.scanned ++ c.place ∷ []; hand = Nothing; done = V.worker.done ++ with_front_moved block ∷ [] })) e

pub slots_passed : (shape : Shape) (slots : List (Option BlockValue)) (d : ℕ) (b : BlockValue) → map (option_map (named shape)) (set slots d (Some (passed b))) ≡ slice_set (map (option_map (named shape)) slots) d (Some (with_front_moved (named shape b)))
slots_passed shape slots d b = map-set (option_map (named shape)) slots d (Some (passed b))

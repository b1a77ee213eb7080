-- Lists of what the workers won, scanned and left.
use Rattle.std.proofs.Common.{◌≡◌, ℕ, suc, ◌+◌, List, [], ◌∷◌, ◌++◌, map, Some, refl, ap, ◌∙◌, nat_eq}
use Rattle.std.proofs.lemmas.List.{map-append}
use Rattle.std.specs.Prelude.{flat_map, slice_get}
use Rattle.steps.specs.ReportValue.{WorkerLists, all_won, renaming_of}
use Rattle.workers.specs.Worker.{Worker}
use Rattle.workers.specs.Total.{total, one_if, times}
use Rattle.workers.specs.Joined.{Each, Part, blocks_of}
use Rattle.workers.specs.Kept.{won_lists}
use Rattle.workers.proofs.Totals.{total-append}
use Rattle.settling.specs.Brings.{left_blocks}

abbrev pub joined_lists : {A : Type 0} → List (List A) → List A
joined_lists xss = flat_map (λ xs. xs) xss

pub joined_map : {A B : Type 0} (f : A → List B) (xs : List A) → flat_map f xs ≡ joined_lists (map f xs)
joined_map f [] = refl
joined_map f (x ∷ xs) = ap (λ ys. f x ++ ys) (joined_map f xs)

pub renamed_joined : (names : List ℕ) (reports : List WorkerLists) → renaming_of names (all_won reports) ≡ joined_lists (map (λ (l : WorkerLists). renaming_of names l.won) reports)
renamed_joined names [] = refl
renamed_joined names (l ∷ ls) = map-append _ l.won (all_won ls) ∙ ap (λ xs. renaming_of names l.won ++ xs) (renamed_joined names ls)

pub same_places : (names : List ℕ) (won : List (ℕ × ℕ)) → map (λ (q : ℕ × ℕ). q.1) (renaming_of names won) ≡ map (λ (q : ℕ × ℕ). q.1) won
same_places names [] = refl
same_places names (e ∷ es) = ap (λ xs. e.1 ∷ xs) (same_places names es)

-- the same of the parts
pub parts_won : (ps : List Part) → won_lists ps ≡ flat_map (λ (w : Worker). w.won) (map (λ (p : Part). p.final) ps)
parts_won [] = refl
parts_won (p ∷ ps) = ap (λ xs. p.final.won ++ xs) (parts_won ps)

pub parts_left : (ps : List Part) → left_blocks ps ≡ flat_map blocks_of (map (λ (p : Part). p.final) ps)
parts_left [] = refl
parts_left (p ∷ ps) = ap (λ xs. blocks_of p.final ++ xs) (parts_left ps)

pub parts_times : (f : Worker → List ℕ) (x : ℕ) (ps : List Part) → times x (flat_map f (map (λ (p : Part). p.final) ps)) ≡ total (λ (p : Part). times x (f p.final)) ps
parts_times f x [] = refl
parts_times f x (p ∷ ps) = total-append (λ y. one_if (nat_eq y x)) (f p.final) _ ∙ ap (λ n. times x (f p.final) + n) (parts_times f x ps)

-- what holds of each where it stands
pub each_place : {A : Type 0} (P : A → Type 0) (xs : List A) → ((t : ℕ) (x : A) → slice_get xs t ≡ Some x → P x) → Each P xs
each_place P [] h = tt
each_place P (x ∷ xs) h = (h 0 x refl, each_place P xs (λ t y e. h (suc t) y e))

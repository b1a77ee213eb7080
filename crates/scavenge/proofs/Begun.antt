-- A workspace that was just opened, and its blocks in the end.
use Rattle.std.proofs.Common.{◌≡◌, ℕ, ◌<◌, false, List, [], ◌∷◌, length, map, replicate, Option, Some, None, sym, ap, subst, ◌∙◌, arith}
use Rattle.std.specs.Prelude.{All}
use Rattle.std.proofs.lemmas.List.Elements.{All-nil}
use Rattle.model.specs.Config.{Config}
use Rattle.layout.specs.declared.place.Place.{Place}
use Rattle.block_pool.specs.BlockValue.{BlockValue}
use Rattle.steps.specs.declared.heap_values.report.Won.{Won}
use Rattle.steps.specs.ReportView.{won_value}
use Rattle.workers.specs.Block.{Block}
use Rattle.workers.specs.Worker.{Nothing}
use Rattle.workers.specs.Joined.{Each, OnSome}
use Rattle.scavenge.specs.Named.{IsWhole}
use Rattle.scavenge.specs.Fronts.{slot_at}
use Rattle.scavenge.specs.Shown.{WorkspaceValue, IsNoted, AreNoted, IsMade, AreMade}
use Rattle.scavenge.proofs.Pushing.{none_at}

pub begun_noted : {slots : List (Option BlockValue)} {aside done : List BlockValue} (n : ℕ) → slots ≡ replicate n None → aside ≡ [] → done ≡ [] → AreNoted slots aside done None None
begun_noted n se ae de =
    record { in_slots = λ d. subst (OnSome (IsNoted 0)) (sym (ap (λ xs. slot_at xs d) se ∙ none_at n d)) tt; in_aside = subst (Each (IsNoted 0)) (sym ae) tt; in_done = subst (Each (IsNoted 0)) (sym de) tt; in_hand = tt; there = tt }

pub begun_made : (k : Config) {slots : List (Option BlockValue)} {aside done : List BlockValue} (n : ℕ) → slots ≡ replicate n None → aside ≡ [] → done ≡ [] → AreMade k slots aside done None
begun_made k n se ae de =
    record { in_slots = λ d. subst (OnSome (IsMade k)) (sym (ap (λ xs. slot_at xs d) se ∙ none_at n d)) tt; in_aside = subst (Each (IsMade k)) (sym ae) tt; in_done = subst (Each (IsMade k)) (sym de) tt; in_hand = tt }

abbrev pub begun : Config → Place → List ℕ → List ℕ → List (Option Block) → List Block → List Block → List ℕ → List ℕ → List (ℕ × ℕ) → List ℕ → WorkspaceValue
begun k p ns s a sd dn l ld w sc =
    record { config = k; claim = p; spare = false; won_room = 0; block_room = 0; names = ns; worker = record { starts = s; fields = 0; proposal = None; hand = Nothing; allocation = a; aside = sd; done = dn; large = l; large_done = ld; won = w; scanned = sc } }

pub begun_is : {k k' : Config} (p : Place) (ns : List ℕ) {s s' : List ℕ} {a a' : List (Option Block)} {sd dn : List Block} {l ld : List ℕ} {w : List (ℕ × ℕ)} {sc : List ℕ} → k ≡ k' → s ≡ s' → a ≡ a' → sd ≡ [] → dn ≡ [] → l ≡ [] → ld ≡ [] → w ≡ [] → sc ≡ []
    → begun k p ns s a sd dn l ld w sc ≡ begun k' p ns s' a' [] [] [] [] [] []
begun_is {k = k} {k' = k'} p ns {s = s} {s' = s'} {a = a} {a' = a'} {sd = sd} {dn = dn} {l = l} {ld = ld} {w = w} {sc = sc} e1 e2 e3 e4 e5 e6 e7 e8 e9 =
    ap (λ x. begun x p ns s a sd dn l ld w sc) e1 ∙ ap (λ x. begun k' p ns x a sd dn l ld w sc) e2 ∙ ap (λ x. begun k' p ns s' x sd dn l ld w sc) e3 ∙ ap (λ x. begun k' p ns s' a' x dn l ld w sc) e4
    ∙ ap (λ x. begun k' p ns s' a' [] x l ld w sc) e5 ∙ ap (λ x. begun k' p ns s' a' [] [] x ld w sc) e6 ∙ ap (λ x. begun k' p ns s' a' [] [] [] x w sc) e7 ∙ ap (λ x. begun k' p ns s' a' [] [] [] [] x sc) e8 ∙ ap (λ x. begun k' p ns s' a' [] [] [] [] [] x) e9

-- nothing is won
pub none_won : (names : List ℕ) {ws : List Won} → ws ≡ [] → All (λ e. e.0 < length names) (map won_value ws)
none_won names e = subst (λ xs. All (λ (e : ℕ × ℕ). e.0 < length names) (map won_value xs)) (sym e) (All-nil (λ (e : ℕ × ℕ). e.0 < length names))

pub whole : (k : Config) (b : BlockValue) → IsNoted 0 b → IsMade k b → IsWhole k.shape k.block_words b
whole k b n m = record { words = m.words; destination = m.destination; noted = omega (arith, n.count); front = omega (arith, n.count, n.front) }

pub whole_noted : (k : Config) (b : BlockValue) → IsWhole k.shape k.block_words b → IsNoted 0 b
whole_noted k b w = record { count = omega (arith, w.noted); front = omega (arith, w.noted, w.front) }

pub whole_made : (k : Config) (b : BlockValue) → IsWhole k.shape k.block_words b → IsMade k b
whole_made k b w = record { words = w.words; destination = w.destination }

pub whole_at : (k : Config) (o : Option BlockValue) → OnSome (IsNoted 0) o → OnSome (IsMade k) o → OnSome (IsWhole k.shape k.block_words) o
whole_at k None n m = tt
whole_at k (Some b) n m = whole k b n m

pub whole_all : (k : Config) (bs : List BlockValue) → Each (IsNoted 0) bs → Each (IsMade k) bs → Each (IsWhole k.shape k.block_words) bs
whole_all k [] n m = tt
whole_all k (b ∷ bs) n m = (whole k b n.0 m.0, whole_all k bs n.1 m.1)

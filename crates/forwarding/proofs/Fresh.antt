-- New passes are numbered, and have won nothing.
use Rattle.std.proofs.Common.{◌≡◌, ℕ, zero, suc, ◌+◌, List, [], All, map, replicate, get_or, length, Some, Result, Ok, Err, refl, sym, ap, subst, ◌∙◌, arith}
use Rattle.std.specs.Prelude.{slice_get, IfOk}
use Rattle.std.specs.List.{range_with_len}
use Rattle.std.proofs.lemmas.List.Elements.{All-nil, All-cons}
use Rattle.forwarding.specs.Noted.{NotedValue, new_pass, new_passes}
use Rattle.forwarding.specs.Passes.{AtEach, IsBoxPass}
use Rattle.atomic_table.specs.Table.{opening}
use Rattle.std.proofs.lemmas.List.{length-replicate}
use Rattle.forwarding.specs.declared.word_cells.plays.Plan.{Plan}
use Rattle.forwarding.specs.Kept.{mind, IsKeptWords}
use Rattle.forwarding.proofs.Gathered.{zeros}
use Rattle.forwarding.proofs.Keeps.{opens}

from : (cells : List ℕ) (a n i : ℕ) (p : NotedValue) → slice_get (map (new_pass cells) (range_with_len a n)) i ≡ Some p → IsBoxPass cells (a + i) p
from cells a zero i p e = absurd (cc)
from cells a (suc n) zero p e =
    let q : new_pass cells a ≡ p = cc in
    let z : a ≡ a + 0 = omega arith in
    subst (IsBoxPass cells (a + 0)) q (record { of = refl; number = z })
from cells a (suc n) (suc i) p e =
    let r = from cells (a + 1) n i p e in
    let z : a + 1 + i ≡ a + suc i = omega arith in
    record { of = r.of; number = r.number ∙ z }

nothing : (cells : List ℕ) (a n : ℕ) → All (λ (p : NotedValue). p.won ≡ []) (map (new_pass cells) (range_with_len a n))
nothing cells a zero = All-nil (λ (p : NotedValue). p.won ≡ [])
nothing cells a (suc n) = All-cons (λ (p : NotedValue). p.won ≡ []) (new_pass cells a) (map (new_pass cells) (range_with_len (a + 1) n)) refl (nothing cells (a + 1) n)

pub numbered : (cells : List ℕ) (n : ℕ) (ps : List NotedValue) → ps ≡ new_passes cells n → AtEach (IsBoxPass cells) ps
numbered cells n ps e = subst (AtEach (IsBoxPass cells)) (sym e) (λ i p at. (let z : 0 + i ≡ i = omega arith in subst (λ k. IsBoxPass cells k p) z (from cells 0 n i p at)))

pub unused : (cells : List ℕ) (n : ℕ) (ps : List NotedValue) → ps ≡ new_passes cells n → All (λ (p : NotedValue). p.won ≡ []) ps
unused cells n ps e = subst (All (λ (p : NotedValue). p.won ≡ [])) (sym e) (nothing cells 0 n)

pub on_ok : {X E : Type 0} (P Q : X → Type 0) → ((x : X) → P x → Q x) → (r : Result X E) → IfOk r P → IfOk r Q
on_ok P Q f (Ok x) h = f x h
on_ok P Q f (Err e) h = tt

-- words of zeros hold no place
pub opens_zero : (plan : Plan) (words : List ℕ) → words ≡ replicate (plan.count + 1) 0 → IsKeptWords plan (opening words [] (mind plan.passes [] []))
opens_zero plan words e = opens plan words (ap length e ∙ length-replicate (plan.count + 1) 0) (λ name. ap (λ (ws : List ℕ). get_or ws name 0) e ∙ zeros (plan.count + 1) name)

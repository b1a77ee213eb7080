-- One delivery more.
use Rattle.std.proofs.Common.{◌≡◌, ℕ, ◌+◌, ◌<◌, ◌≤◌, List, [], ◌∷◌, ◌++◌, length, map, take, get_or, None, refl, sym, ap, ◌∙◌, arith}
use Rattle.std.proofs.lemmas.List.{take_more, take_all, map-append}
use Rattle.std.proofs.lemmas.List.Concat.{flat_map-append}
use Rattle.std.proofs.lemmas.List.FromFn.{length-enumerate_from, get_or-enumerate_from}
use Rattle.std.specs.Prelude.{flat_map}
use Rattle.std.specs.List.{enumerate_from}
use Rattle.pending_queues.specs.declared.exports.deliveries.Delivery.{Delivery as Outcome}
use Rattle.steps.specs.declared.heap_values.report.Delivery.{Delivery}
use Rattle.settling.specs.Telling.{delivery_of, deliveries_of, all_deliveries}

abbrev pub untold : Outcome
untold = record { objects = 0; taker = None }

module _ (exporter : ℕ) (told : List Outcome) where
  abbrev numbered : List (ℕ × Outcome)
  numbered = enumerate_from 0 told

  pub told_more : (done : List Delivery) (d : Delivery) (i : ℕ) → i < length told → d ≡ delivery_of exporter (i, get_or told i untold) → done ≡ map (delivery_of exporter) (take i numbered)
      → done ++ d ∷ [] ≡ map (delivery_of exporter) (take (i + 1) numbered)
  told_more done d i lt is before =
      let from_zero : i ≡ 0 + i = omega arith in
      let lt' : i < length numbered = omega (arith, lt, length-enumerate_from 0 told) in
      ap (λ xs. xs ++ d ∷ []) before
      ∙ ap (λ x. map (delivery_of exporter) (take i numbered) ++ x ∷ []) (is ∙ ap (λ k. delivery_of exporter (k, get_or told i untold)) from_zero ∙ ap (delivery_of exporter) (sym (get_or-enumerate_from 0 told i (0, untold) lt)))
      ∙ sym (ap (map (delivery_of exporter)) (take_more numbered i (0, untold) lt') ∙ map-append (delivery_of exporter) (take i numbered) (get_or numbered i (0, untold) ∷ []))

  pub told_all : (i : ℕ) → length told ≤ i → map (delivery_of exporter) (take i numbered) ≡ deliveries_of exporter told
  told_all i le = ap (map (delivery_of exporter)) (take_all i numbered (omega (arith, le, length-enumerate_from 0 told)))

-- the exports of one worker more
module _ (told : List (List Outcome)) where
  abbrev pub first_deliveries : ℕ → List Delivery
  first_deliveries i = flat_map (λ (e : ℕ × List Outcome). deliveries_of e.0 e.1) (take i (enumerate_from 0 told))

  pub lists_more : (i : ℕ) → i < length told → first_deliveries i ++ deliveries_of i (get_or told i []) ≡ first_deliveries (i + 1)
  lists_more i lt =
      let numbered : List (ℕ × List Outcome) = enumerate_from 0 told in
      let from_zero : i ≡ 0 + i = omega arith in
      let lt' : i < length numbered = omega (arith, lt, length-enumerate_from 0 told) in
      ap (λ xs. first_deliveries i ++ xs) (ap (λ k. deliveries_of k (get_or told i [])) from_zero ∙ ap (λ (e : ℕ × List Outcome). deliveries_of e.0 e.1) (sym (get_or-enumerate_from 0 told i (0, []) lt)) ∙ no_more (deliveries_of (get_or numbered i (0, [])).0 (get_or numbered i (0, [])).1))
      ∙ sym (ap (flat_map (λ (e : ℕ × List Outcome). deliveries_of e.0 e.1)) (take_more numbered i (0, []) lt') ∙ flat_map-append (λ (e : ℕ × List Outcome). deliveries_of e.0 e.1) (take i numbered) (get_or numbered i (0, []) ∷ []))
    where
      no_more : {A : Type 0} (xs : List A) → xs ≡ xs ++ []
      no_more [] = refl
      no_more (x ∷ xs) = ap (λ ys. x ∷ ys) (no_more xs)

  pub lists_all : (i : ℕ) → length told ≤ i → first_deliveries i ≡ all_deliveries told
  lists_all i le = ap (flat_map (λ (e : ℕ × List Outcome). deliveries_of e.0 e.1)) (take_all i (enumerate_from 0 told) (omega (arith, le, length-enumerate_from 0 told)))

-- What joined threads promised is what each worker brings.
use Rattle.std.proofs.Common.{◌≡◌, ℕ, ◌+◌, ◌<◌, List, length, Option, subst, arith}
use Rattle.std.specs.Prelude.{slice_index_or}
use Rattle.std.proofs.lemmas.Option.{slice_get_within, slice_get_read, get_or_from_slice_get}
use Rattle.layout.specs.declared.place.Place.{Place}
use Rattle.block_pool.specs.ClaimsValue.{ClaimsValue}
use Rattle.steps.specs.HeapValue.{HeapValue}
use Rattle.steps.specs.CollectionValue.{CollectionValue}
use Rattle.pending_queues.specs.PendingValue.{Source}
use Rattle.scavenge.specs.Handed.{CopiesKeyValue}
use Rattle.workers_in_threads.specs.declared.kit.Brought.{Brought}
use Rattle.workers_in_threads.specs.declared.threads.OfShared.{OfShared}
use Rattle.forwarding.specs.Passes.{AtEach}
use Rattle.workers_in_threads.specs.Kits.{IsBroughtBack}

-- what a handle's promise is of
abbrev pub Row : Type 0 → Type 0 → Type 0
Row C A = HeapValue × CollectionValue × C × ClaimsValue × Source A CopiesKeyValue × ℕ × ℕ

abbrev pub row_of_promise : {S A P : Type 0} → OfShared S A P → Row S A
row_of_promise p = (p.heap.now, p.collection.now, p.cells.now, p.claims.now, p.queues.now, p.workers, p.worker)

module _ {P A C H : Type 0} (is_pass : C → ℕ → P → Type 0) (known : P → ℕ → Option Place) (won : P → List (ℕ × Place)) (row_of : H → Row C A) where
  abbrev pub Kept : Row C A → Brought P A → Type 0
  Kept p r = IsBroughtBack (is_pass p.2) known won p.0 p.1 p.3 p.4 p.5 p.6 r

  -- of the workers but the first
  pub are_kept : (heap : HeapValue) (c : CollectionValue) (cells : C) (claims : ClaimsValue) (queues : Source A CopiesKeyValue) (n m : ℕ) (hs : List H) (rs : List (Brought P A))
      → m ≡ length hs → m ≡ length rs → AtEach (λ i h. ◌≡◌ {A = Row C A} (row_of h) (heap, c, cells, claims, queues, n, 1 + i)) hs
      → ((i : ℕ) (r : Brought P A) → i < m → (h : H) × (h ≡ slice_index_or hs i h) × Kept (row_of h) (slice_index_or rs i r))
      → AtEach (λ i. IsBroughtBack (is_pass cells) known won heap c claims queues n (1 + i)) rs
  are_kept heap c cells claims queues n m hs rs handles results made each i r e =
      let within : i < m = let z = slice_get_within rs i r e in omega (arith, z, results) in
      let k = each i r within in
      let at = made i k.0 (slice_get_read hs m i k.0 handles within k.1) in
      subst (λ x. Kept (heap, c, cells, claims, queues, n, 1 + i) x) (get_or_from_slice_get rs i r r e) (subst (λ p. Kept p (slice_index_or rs i r)) at k.2)

-- What a line that collects nothing does to a heap and its named roots, by the heap's own calls.
use Rattle.std.specs.Prelude.{◌≡◌, ℕ, List, Option, Some, None, Result, Ok, Err, not, filter, slice_set}
use Rattle.std.specs.Ordering.{nat_cmp, eq_by_cmp}
use Rattle.std.specs.Cmp.Lexicographic.{slice_cmp}
use Rattle.std.specs.FinMap as map
use Rattle.model.specs.Graph.{without_root}
use Rattle.model.specs.declared.kind.Kind.{Kind}
use Rattle.model.specs.Commands.{Command, New, Set, Put, Get, Drop, Census, Heap}
use Rattle.heap.specs.HeapValue.{HeapValue}
use Rattle.heap.specs.Commands.{Allocates, Stores, Changes, Loads}
use Rattle.trace_session.specs.NamesView.{named}
use Rattle.trace_session.specs.Targets.{IsRootOf}

-- names in byte order, each with the number of its root
abbrev pub Rooted : Type 0
Rooted = List (List ℕ × ℕ)

-- the name leads to this root
abbrev pub with_root_of : Rooted → List ℕ → ℕ → Rooted
with_root_of names text root = map.put (slice_cmp nat_cmp) text root names

-- the name leads to nothing
abbrev pub without_root_of : Rooted → List ℕ → Rooted
without_root_of names text = filter (λ e. not (eq_by_cmp (slice_cmp nat_cmp) text e.0)) names

-- what each command does that collects nothing
pub data Does (heap : HeapValue) (names : Rooted) : Command → HeapValue → Rooted → Type 0 where
  allocates : {text : List ℕ} {mutator p q root : ℕ} {after : HeapValue} → named names text ≡ None → Allocates heap mutator p q root after → Does heap names (New text mutator p q) after (with_root_of names text root)
  stores : {text : List ℕ} {i root : ℕ} {target : Option (List ℕ)} {value : Option ℕ} {after : HeapValue} → named names text ≡ Some root → IsRootOf names target value → Stores heap root i value after → Does heap names (Set text i target) after names
  writes : {text : List ℕ} {i value root : ℕ} {after : HeapValue} → named names text ≡ Some root → Changes heap root (λ o. record o { plain = slice_set o.plain i value }) after → Does heap names (Put text i value) after names
  loads : {new_text text : List ℕ} {i holder root : ℕ} {after : HeapValue} → named names new_text ≡ None → named names text ≡ Some holder → Loads heap holder i (Some root) after → Does heap names (Get new_text text i) after (with_root_of names new_text root)
  releases : {text : List ℕ} {root : ℕ} → named names text ≡ Some root → Does heap names (Drop text) (record heap { graph = without_root heap.graph root }) (without_root_of names text)
  counts : Does heap names Census heap names
  shows : Does heap names Heap heap names

-- what a line does: nothing, or its command
abbrev pub LineDoes : HeapValue → Rooted → Result (Option Command) Kind → HeapValue → Rooted → Type 0
LineDoes heap names (Ok None) after names' = (after ≡ heap) × (names' ≡ names)
LineDoes heap names (Ok (Some command)) after names' = Does heap names command after names'
LineDoes heap names (Err kind) after names' = ⊥

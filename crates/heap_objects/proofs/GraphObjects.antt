-- Objects as those of a graph, and where their pointers lead.
use Rattle.std.proofs.Common.{◌≡◌, ◌≢◌, ℕ, zero, suc, ◌+◌, ◌-◌, ◌<◌, ◌≤◌, Bool, true, false, cond, List, [], ◌∷◌, ◌++◌, length, take, get_or, Option, Some, None, refl, sym, ap, subst, ◌∙◌, arith, ⊎_elim, ◌⊎◌, inl, inr}
use Rattle.std.proofs.lemmas.Bool.{cases_lt}
use Rattle.std.proofs.lemmas.Bool.Decides.{nat_tests}
use Rattle.std.proofs.lemmas.List.Sums.{sum_by-cons}
use Rattle.std.proofs.lemmas.Option.{slice_get-map, slice_get-get_or}
use Rattle.std.specs.Prelude.{nat_lt, nat_le, slice_get, is_some, IsSome, option_and_then, All}
use Rattle.std.specs.Option.{option_map, option_map_or}
use Rattle.model.specs.OldSlots.{is_young_name}
use Rattle.std.specs.Ordering.{nat_cmp}
use Rattle.std.specs.FinMap.{FinMap, find, get, entries}
use Rattle.model.specs.Graph.{Graph, Object, IsClosed, object_at}
use Rattle.model.proofs.Finds.{KeysWithin, or_else, find_above}
use Rattle.model.proofs.Rising.{KeysRise, KeysRise-weaker, KeysBelow, KeysBelow-append, KeysBelow-weaker}
use Rattle.model.proofs.Options.{some_not_none}
use Rattle.layout.specs.declared.place.Place.{Place}
use Rattle.layout.specs.declared.place.Place.TheVariants.{Small, Large}
use Rattle.layout.specs.declared.place.SmallPlace.{SmallPlace}
use Rattle.layout.specs.declared.place.LargeNumber.{LargeNumber}
use Rattle.layout.specs.Object.{Raw, raw_size}
use Rattle.layout.specs.Place.{place_word, small_word, large_word}
use Rattle.block_pool.specs.BlockValue.{BlockValue, used_of, words_of, offset_of}
use Rattle.steps.specs.Words.{target_of_word}
use Rattle.steps.specs.BlockObjects.{object_of, block_objects}
use Rattle.nursery.specs.Table.{slot_at, slot_objects, table_objects, objects_map}
use Rattle.large_objects.specs.LargeValue.{LargeObject, LargeValue, large_at, InUse}
use Rattle.heap_objects.specs.WithLarge.{large_object, large_entries}
use Rattle.heap_objects.specs.HeapGraph.{IsHeapGraph, IsClosedWord, PointersLead}
use Rattle.nursery.proofs.TableSteps.{in_list}
use Rattle.nursery.proofs.TableLemmas.{SlotFits, TableFits, IsWordOf, find-at, find-first, word_cases, objects_from-within, slot_objects-within}
use Rattle.nursery.proofs.TableMap.{get-objects_map, entries-objects_map, table_objects-rise}
use Rattle.nursery.proofs.Located.{large_none}
use Rattle.nursery.proofs.BlockFinds.{find-object}
use Rattle.nursery.proofs.YoungBlocks.{found-generation}
use Rattle.heap_objects.proofs.WithLarge.{found_large, get-with_large, get-small, get-large, entries-with_large}

abbrev generation : Option Object → Option ℕ
generation o = option_map (λ x. x.generation) o

pub target-some : (word : ℕ) → 0 < word → target_of_word word ≡ Some word
target-some word lt =
    let test : nat_lt 0 word ≡ true = grind (arith, nat_tests, lt) in
    ap (λ b. cond b (Some word) None) test

place_word-some : (place : Place) → 0 < place_word place
place_word-some (Small at) = omega arith
place_word-some (Large of) = omega arith

offset_below : (raws : List Raw) (k : ℕ) (raw : Raw) → slice_get raws k ≡ Some raw → offset_of raws k < words_of raws
offset_below [] k raw is = absurd (cc)
offset_below (r ∷ raws) zero raw is = omega (arith, sum_by-cons raw_size r raws)
offset_below (r ∷ raws) (suc k) raw is = omega (arith, offset_below raws k raw is, sum_by-cons raw_size r raws, sum_by-cons raw_size r (take k raws))

pub target-is : (place : Place) (word : ℕ) → place_word place ≡ word → target_of_word word ≡ Some (place_word place)
target-is place word is = ap target_of_word (sym is) ∙ target-some (place_word place) (place_word-some place)

-- a place in a block
pub record Located (name : ℕ) : Type 0 where
  pub number : ℕ
  pub offset : ℕ
  pub number_in_range : number < 65535
  pub offset_in_range : offset < 512
  pub word : name ≡ small_word number offset

-- the place of a large object
pub record LocatedLarge (name : ℕ) : Type 0 where
  pub number : ℕ
  pub number_in_range : number < 65535
  pub word : name ≡ large_word number

below_within : {X : Type 0} (low high : ℕ) (es : List (ℕ × X)) → KeysWithin low high es → KeysBelow high es
below_within low high [] h = tt
below_within low high (e ∷ es) h = (h.1, below_within low high es h.2)

below_table : (number end : ℕ) (table : List (Option BlockValue)) → TableFits table → number + length table ≤ end → KeysBelow (small_word end 0) (table_objects number table)
below_table number end [] fits le = tt
below_table number end (slot ∷ table) fits le =
    KeysBelow-append (small_word end 0) (slot_objects number slot) (table_objects (number + 1) table)
    (KeysBelow-weaker (small_word (number + 1) 0) (small_word end 0) (slot_objects number slot) (omega (arith, le)) (below_within (small_word number 0) (small_word (number + 1) 0) (slot_objects number slot) (slot_objects-within number slot (fits 0))))
    (below_table (number + 1) end table (λ n. fits (suc n)) (omega (arith, le)))

module _ (graph : Graph) (table : List (Option BlockValue)) (large : LargeValue) (short : length table ≤ 65535) (shows : IsHeapGraph graph table large) where
  pub graph-fits : TableFits table
  graph-fits n = go (slot_at table n) refl
    where
      go : (slot : Option BlockValue) → slot_at table n ≡ slot → SlotFits slot
      go None is = tt
      go (Some block) is = shows.fits n block is

  pub graph-small : (q : ℕ) → q < large_word 0 → object_at graph q ≡ get (objects_map table) q
  graph-small q lt = ap (λ m. get m q) shows.objects ∙ get-small (objects_map table) large.slots q lt

  pub graph-large : (n : ℕ) → object_at graph (large_word n) ≡ option_map large_object (large_at large n)
  graph-large n = ap (λ m. get m (large_word n)) shows.objects ∙ get-large (objects_map table) large.slots n (large_none table graph-fits short n)

  pub graph-at : (n q : ℕ) → n < 65535 → IsWordOf n q → object_at graph q ≡ find nat_cmp q (slot_objects n (slot_at table n))
  graph-at n q lt word = graph-small q (omega (arith, lt, word.high)) ∙ get-objects_map table q ∙ find-at table n q graph-fits word

  pub graph-entries : entries graph.objects ≡ table_objects 0 table ++ large_entries 0 large.slots
  graph-entries =
      ap (λ (m : FinMap nat_cmp Object). entries m) shows.objects
      ∙ entries-with_large (objects_map table) large.slots
      (subst (λ es. KeysRise 0 es) (sym same) (KeysRise-weaker 0 (small_word 0 0) (table_objects 0 table) (omega arith) (table_objects-rise 0 table graph-fits)))
      (subst (λ es. KeysBelow (large_word 0) es) (sym same) (KeysBelow-weaker (small_word 65535 0) (large_word 0) (table_objects 0 table) (omega arith) (below_table 0 65535 table graph-fits (omega (arith, short)))))
      ∙ ap (λ es. es ++ large_entries 0 large.slots) same
    where
      same : entries (objects_map table) ≡ table_objects 0 table
      same = entries-objects_map table graph-fits

  -- each object lies in a block, or is large
  pub each_located : (name : ℕ) (o : Object) → object_at graph name ≡ Some o → Located name ⊎ LocatedLarge name
  each_located name o is = either (get (objects_map table) name) refl
    where
      in_block : (number : ℕ) → IsWordOf number name → (x : Object) → (slot : Option BlockValue) → slot_at table number ≡ slot → find nat_cmp name (slot_objects number slot) ≡ Some x → Located name
      in_block number word x None there found = absurd (some_not_none (sym found))
      in_block number word x (Some block) there found = ⊎_elim
          (λ low.
          let in_table : number < length table = in_list table number block there in
          record {
            number = number;
            offset = name - small_word number 0;
            number_in_range = omega (arith, in_table, short);
            offset_in_range = omega (arith, low, word.low, shows.fits number block there);
            word = omega (arith, word.low);
          })
          (λ high. absurd (some_not_none (sym found ∙ find_above name _ _ _ (objects_from-within (small_word number 0) block.generation block.step block.objects) high)))
          (cases_lt name (small_word number 0 + used_of block))

      either : (x : Option Object) → get (objects_map table) name ≡ x → Located name ⊎ LocatedLarge name
      either (Some x) here = ⊎_elim
          (λ first. absurd (some_not_none (sym here ∙ get-objects_map table name ∙ find-first table name graph-fits first)))
          (λ at. inl (in_block at.0 at.1 x (slot_at table at.0) refl (sym (get-objects_map table name ∙ find-at table at.0 name graph-fits at.1) ∙ here)))
          (word_cases name)
      either None here =
          let f = found_large 0 name large.slots o (sym (ap (λ m. get m name) shows.objects ∙ get-with_large (objects_map table) large.slots name ∙ ap (λ x. or_else x (find nat_cmp name (large_entries 0 large.slots))) here) ∙ is) in
          let used : InUse large f.k = subst (λ x. IsSome x) (sym f.there) refl in
          let found : LocatedLarge name = record { number = f.k; number_in_range = shows.numbers f.k used; word = omega (arith, f.word) } in
          inr found

  -- the generation of an object is its block's
  pub generation-small : (number offset word : ℕ) → number < 65535 → offset < 512 → word ≡ small_word number offset → IsClosedWord graph word → option_map (λ b. b.generation) (slot_at table number) ≡ generation (object_at graph word)
  generation-small number offset word few lt is closed =
      go (slot_at table number) (graph-at number word few at) (closed word (target-some word (omega (arith, is))))
    where
      at : IsWordOf number word
      at = record { low = omega (arith, is); high = omega (arith, is, lt) }

      go : (slot : Option BlockValue) → object_at graph word ≡ find nat_cmp word (slot_objects number slot) → IsSome (object_at graph word) → option_map (λ b. b.generation) slot ≡ generation (object_at graph word)
      go None found some = let none : IsSome {T = Object} None = subst (λ x. IsSome x) found some in absurd (cc)
      go (Some block) found some = there (object_at graph word) (sym found) some
        where
          there : (o : Option Object) → find nat_cmp word (block_objects number block) ≡ o → IsSome o → Some block.generation ≡ generation o
          there None e h = absurd (cc)
          there (Some o) e h = ap Some (sym (found-generation number word block o e))

  -- that of a large one is its own
  pub generation-large : (number word : ℕ) → word ≡ large_word number → option_map (λ (l : LargeObject). l.generation) (large_at large number) ≡ generation (object_at graph word)
  generation-large number word is = go (large_at large number) ∙ ap generation (sym (graph-large number) ∙ ap (object_at graph) (sym is))
    where
      go : (x : Option LargeObject) → option_map (λ (l : LargeObject). l.generation) x ≡ generation (option_map large_object x)
      go None = refl
      go (Some l) = refl

  pub target-found : (place : Place) (word : ℕ) (found : Option ℕ) → place_word place ≡ word → (IsClosedWord graph (place_word place) → found ≡ generation (object_at graph (place_word place))) → IsClosedWord graph word → found ≡ generation (option_and_then (object_at graph) (target_of_word word))
  target-found place word found is same closed =
      let here : found ≡ generation (object_at graph word) = subst (λ w. IsClosedWord graph w → found ≡ generation (object_at graph w)) is same closed in
      here ∙ sym (ap (λ t. generation (option_and_then (object_at graph) t)) (target-some word (omega (arith, is, place_word-some place))))

  -- a word that is no place's is nil
  pub target-none : (word : ℕ) → ((place : Place) → place_word place ≢ word) → IsClosedWord graph word → target_of_word word ≡ None
  target-none word none closed = go (nat_lt 0 word) refl
    where
      no_place : Located word ⊎ LocatedLarge word → ⊥
      no_place (inl at) =
          let small : SmallPlace = record { block = at.number; offset = at.offset; block_in_range = at.number_in_range; offset_in_range = at.offset_in_range } in
          none (Small small) (sym at.word)
      no_place (inr at) =
          let number : LargeNumber = record { number = at.number; in_range = at.number_in_range } in
          none (Large number) (sym at.word)

      found : 0 < word → (o : Option Object) → object_at graph word ≡ o → IsSome o → ⊥
      found lt None e h = cc
      found lt (Some o) e h = no_place (each_located word o e)

      go : (b : Bool) → nat_lt 0 word ≡ b → target_of_word word ≡ None
      go true is =
          let lt : 0 < word = grind (arith, nat_tests, is) in
          absurd (found lt (object_at graph word) refl (closed word (target-some word lt)))
      go false is = ap (λ b. cond b (Some word) None) is

  pointer_leads : (raw : Raw) (g s name i d : ℕ) → object_at graph name ≡ Some (object_of g s raw) → i < length raw.pointers → IsClosedWord graph (get_or raw.pointers i d)
  pointer_leads raw g s name i d found lt target leads =
      let o : Object = object_of g s raw in
      let pointer : slice_get o.pointers i ≡ Some (Some target) = slice_get-map target_of_word raw.pointers i ∙ ap (option_map target_of_word) (slice_get-get_or raw.pointers i d lt) ∙ ap Some leads in
      shows.lead name i target o found pointer

  -- the pointers of each object lead to objects
  pub closed_object : (number k : ℕ) (block : BlockValue) (raw : Raw) → slot_at table number ≡ Some block → slice_get block.objects k ≡ Some raw → All (IsClosedWord graph) raw.pointers
  closed_object number k block raw there is i d lt = pointer_leads raw block.generation block.step name i d found lt
    where
      name : ℕ
      name = small_word number 0 + offset_of block.objects k

      at : IsWordOf number name
      at = record { low = omega arith; high = omega (arith, offset_below block.objects k raw is, shows.fits number block there) }

      found : object_at graph name ≡ Some (object_of block.generation block.step raw)
      found =
          graph-at number name (let l : number < length table = in_list table number block there in omega (arith, l, short)) at
          ∙ ap (λ s. find nat_cmp name (slot_objects number s)) there
          ∙ find-object (small_word number 0) block.generation block.step block.objects k name raw is refl

  pub closed_large : (number : ℕ) (object : LargeObject) → large_at large number ≡ Some object → All (IsClosedWord graph) object.raw.pointers
  closed_large number object there i d lt = pointer_leads object.raw object.generation object.step (large_word number) i d (graph-large number ∙ ap (option_map large_object) there) lt

abbrev at_most : ℕ → Option ℕ → Bool
at_most g found = option_map_or (λ h. nat_le h g) found false

pub at_most_is : (graph : Graph) (g name : ℕ) (found : Option ℕ) → generation (object_at graph name) ≡ found → at_most g found ≡ is_young_name graph g name
at_most_is graph g name found is = ap (at_most g) (sym is) ∙ go (object_at graph name)
  where
    go : (o : Option Object) → at_most g (generation o) ≡ option_map_or (λ x. nat_le x.generation g) o false
    go None = refl
    go (Some o) = refl

-- so it is where the graph is closed
pub closed_leads : (graph : Graph) → IsClosed graph → PointersLead graph
closed_leads graph closed name i target o is leads =
    let there = closed.fields name i target (ap (option_and_then (λ (x : Object). slice_get x.pointers i)) is ∙ leads) in
    ap is_some there.1

-- The blocks of the generations 0 to g, and the objects that they hold.
use Rattle.std.proofs.Common.{◌≡◌, ◌≢◌, ℕ, zero, suc, ◌+◌, Bool, true, false, cond, List, [], ◌∷◌, ◌++◌, Option, Some, None, refl, sym, ap, subst, ◌∙◌, arith, ⊎_elim}
use Rattle.std.proofs.lemmas.List.Elements.{filter-append}
use Rattle.std.specs.Prelude.{nat_le, filter, option_and_then}
use Rattle.std.specs.Option.{option_map_or}
use Rattle.std.specs.Ordering.{nat_cmp, eq_by_cmp}
use Rattle.std.specs.FinMap.{FinMap, find, get, keys}
use Rattle.model.specs.Graph.{Graph, Object}
use Rattle.model.specs.OldSlots.{is_young_name}
use Rattle.model.proofs.NatMap.{find_same, find_other}
use Rattle.model.proofs.Finds.{find_below}
use Rattle.model.proofs.Options.{some_not_none}
use Rattle.layout.specs.Object.{Raw, raw_size}
use Rattle.layout.specs.Place.{small_word}
use Rattle.block_pool.specs.BlockValue.{BlockValue}
use Rattle.steps.specs.BlockObjects.{object_of, objects_from, block_objects}
use Rattle.steps.specs.CollectionValue.{young_names}
use Rattle.nursery.specs.Table.{slot_at, slot_objects, table_objects, objects_map, young_slot, young_table}
use Rattle.nursery.proofs.TableLemmas.{SlotFits, TableFits, TableFits-rest, IsWordOf, find-at, find-first, word_cases, objects_from-within, found_word}
use Rattle.nursery.proofs.TableMap.{get-objects_map, entries-objects_map}
use Rattle.nursery.proofs.Numbering.{names_of, names_of-append}

pub young_at : (table : List (Option BlockValue)) (g n : ℕ) → slot_at (young_table g table) n ≡ young_slot g (slot_at table n)
young_at [] g n = refl
young_at (slot ∷ table) g zero = refl
young_at (slot ∷ table) g (suc n) = young_at table g n

young_slot-fits : (g : ℕ) (slot : Option BlockValue) → SlotFits slot → SlotFits (young_slot g slot)
young_slot-fits g None fits = tt
young_slot-fits g (Some block) fits = go (nat_le block.generation g)
  where
    go : (b : Bool) → SlotFits (cond b (Some block) None)
    go true = fits
    go false = tt

pub young_fits : (table : List (Option BlockValue)) (g : ℕ) → TableFits table → TableFits (young_table g table)
young_fits table g fits = λ n. subst SlotFits (sym (young_at table g n)) (young_slot-fits g (slot_at table n) (fits n))

-- the object where its generation is at most g
abbrev kept : ℕ → Object → Option Object
kept g o = cond (nat_le o.generation g) (Some o) None

kept_from : (g q word h s : ℕ) (raws : List Raw) (b : Bool) → nat_le h g ≡ b → cond b (find nat_cmp q (objects_from word h s raws)) None ≡ option_and_then (kept g) (find nat_cmp q (objects_from word h s raws))
kept_from g q word h s [] true is = refl
kept_from g q word h s [] false is = refl
kept_from g q word h s (r ∷ raws) b is = go (eq_by_cmp nat_cmp q word) b is (kept_from g q (word + raw_size r) h s raws b is)
  where
    rest : Option Object
    rest = find nat_cmp q (objects_from (word + raw_size r) h s raws)

    go : (here c : Bool) → nat_le h g ≡ c → cond c rest None ≡ option_and_then (kept g) rest → cond c (cond here (Some (object_of h s r)) rest) None ≡ option_and_then (kept g) (cond here (Some (object_of h s r)) rest)
    go true true at later = sym (ap (λ t. cond t (Some (object_of h s r)) None) at)
    go true false at later = sym (ap (λ t. cond t (Some (object_of h s r)) None) at)
    go false c at later = later

kept_slot : (g number q : ℕ) (slot : Option BlockValue) → find nat_cmp q (slot_objects number (young_slot g slot)) ≡ option_and_then (kept g) (find nat_cmp q (slot_objects number slot))
kept_slot g number q None = refl
kept_slot g number q (Some block) = go (nat_le block.generation g) refl
  where
    go : (b : Bool) → nat_le block.generation g ≡ b → find nat_cmp q (slot_objects number (cond b (Some block) None)) ≡ option_and_then (kept g) (find nat_cmp q (block_objects number block))
    go true is = kept_from g q (small_word number 0) block.generation block.step block.objects true is
    go false is = kept_from g q (small_word number 0) block.generation block.step block.objects false is

pub young_get : (table : List (Option BlockValue)) (g q : ℕ) → TableFits table → get (objects_map (young_table g table)) q ≡ option_and_then (λ o. cond (nat_le o.generation g) (Some o) None) (get (objects_map table) q)
young_get table g q fits =
    get-objects_map (young_table g table) q
    ∙ ⊎_elim
    (λ first. find-first (young_table g table) q (young_fits table g fits) first ∙ ap (option_and_then (kept g)) (sym (find-first table q fits first)))
    (λ at.
    find-at (young_table g table) at.0 q (young_fits table g fits) at.1
    ∙ ap (λ s. find nat_cmp q (slot_objects at.0 s)) (young_at table g at.0)
    ∙ kept_slot g at.0 q (slot_at table at.0)
    ∙ ap (option_and_then (kept g)) (sym (find-at table at.0 q fits at.1)))
    (word_cases q)
    ∙ ap (option_and_then (kept g)) (sym (get-objects_map table q))

-- the test says the same of each object of a block
filter_from : (p : ℕ → Bool) (b : Bool) (word h s : ℕ) (raws : List Raw) → ((q : ℕ) (o : Object) → find nat_cmp q (objects_from word h s raws) ≡ Some o → p q ≡ b) → filter p (names_of (objects_from word h s raws)) ≡ cond b (names_of (objects_from word h s raws)) []
filter_from p true word h s [] same = refl
filter_from p false word h s [] same = refl
filter_from p b word h s (r ∷ raws) same = go b (same word (object_of h s r) (find_same word (object_of h s r) (objects_from (word + raw_size r) h s raws))) (filter_from p b (word + raw_size r) h s raws later)
  where
    names : List ℕ
    names = names_of (objects_from (word + raw_size r) h s raws)

    later : (q : ℕ) (o : Object) → find nat_cmp q (objects_from (word + raw_size r) h s raws) ≡ Some o → p q ≡ b
    later q o is =
        let ne : q ≢ word = λ e. some_not_none (sym is ∙ find_below q (word + raw_size r) _ (objects_from (word + raw_size r) h s raws) (objects_from-within (word + raw_size r) h s raws) (omega (arith, e))) in
        same q o (find_other q word (object_of h s r) (objects_from (word + raw_size r) h s raws) ne ∙ is)

    go : (c : Bool) → p word ≡ c → filter p names ≡ cond c names [] → cond (p word) (word ∷ filter p names) (filter p names) ≡ cond c (word ∷ names) []
    go true is rest = ap (λ t. cond t (word ∷ filter p names) (filter p names)) is ∙ ap (λ ns. word ∷ ns) rest
    go false is rest = ap (λ t. cond t (word ∷ filter p names) (filter p names)) is ∙ rest

found_generation : (q word h s : ℕ) (raws : List Raw) (o : Object) → find nat_cmp q (objects_from word h s raws) ≡ Some o → o.generation ≡ h
found_generation q word h s [] o is = absurd (some_not_none (sym is))
found_generation q word h s (r ∷ raws) o is = go (eq_by_cmp nat_cmp q word) is (found_generation q (word + raw_size r) h s raws o)
  where
    go : (b : Bool) → cond b (Some (object_of h s r)) (find nat_cmp q (objects_from (word + raw_size r) h s raws)) ≡ Some o → (find nat_cmp q (objects_from (word + raw_size r) h s raws) ≡ Some o → o.generation ≡ h) → o.generation ≡ h
    go true e rest = let same : object_of h s r ≡ o = cc in ap (λ x. x.generation) (sym same)
    go false e rest = rest e

-- an object found in a block is of its generation
pub found-generation : (number q : ℕ) (block : BlockValue) (o : Object) → find nat_cmp q (block_objects number block) ≡ Some o → o.generation ≡ block.generation
found-generation number q block o is = found_generation q (small_word number 0) block.generation block.step block.objects o is

abbrev young : ℕ → Option Object → Bool
young g found = option_map_or (λ o. nat_le o.generation g) found false

filter_slot : (p : ℕ → Bool) (g number : ℕ) (slot : Option BlockValue) → SlotFits slot → ((q : ℕ) → IsWordOf number q → p q ≡ young g (find nat_cmp q (slot_objects number slot))) → filter p (names_of (slot_objects number slot)) ≡ names_of (slot_objects number (young_slot g slot))
filter_slot p g number None fits test = refl
filter_slot p g number (Some block) fits test =
    filter_from p (nat_le block.generation g) (small_word number 0) block.generation block.step block.objects each ∙ go (nat_le block.generation g)
  where
    each : (q : ℕ) (o : Object) → find nat_cmp q (block_objects number block) ≡ Some o → p q ≡ nat_le block.generation g
    each q o is = test q (found_word number block q o fits is) ∙ ap (young g) is ∙ ap (λ h. nat_le h g) (found-generation number q block o is)

    go : (b : Bool) → cond b (names_of (block_objects number block)) [] ≡ names_of (slot_objects number (cond b (Some block) None))
    go true = refl
    go false = refl

filter_table : (p : ℕ → Bool) (g number : ℕ) (table : List (Option BlockValue)) → TableFits table → ((n q : ℕ) → IsWordOf (number + n) q → p q ≡ young g (find nat_cmp q (slot_objects (number + n) (slot_at table n)))) → filter p (names_of (table_objects number table)) ≡ names_of (table_objects number (young_table g table))
filter_table p g number [] fits test = refl
filter_table p g number (slot ∷ table) fits test =
    ap (filter p) (names_of-append (slot_objects number slot) (table_objects (number + 1) table))
    ∙ filter-append p (names_of (slot_objects number slot)) (names_of (table_objects (number + 1) table))
    ∙ ap (λ ns. ns ++ filter p (names_of (table_objects (number + 1) table))) (filter_slot p g number slot (fits 0) first)
    ∙ ap (λ ns. names_of (slot_objects number (young_slot g slot)) ++ ns) (filter_table p g (number + 1) table (TableFits-rest slot table fits) later)
    ∙ sym (names_of-append (slot_objects number (young_slot g slot)) (table_objects (number + 1) (young_table g table)))
  where
    first : (q : ℕ) → IsWordOf number q → p q ≡ young g (find nat_cmp q (slot_objects number slot))
    first q at =
        let none : number + 0 ≡ number = omega arith in
        let found : IsWordOf (number + 0) q → p q ≡ young g (find nat_cmp q (slot_objects (number + 0) slot)) = test 0 q in
        (rw none at found) at

    later : (n q : ℕ) → IsWordOf (number + 1 + n) q → p q ≡ young g (find nat_cmp q (slot_objects (number + 1 + n) (slot_at table n)))
    later n =
        let next : number + suc n ≡ number + 1 + n = omega arith in
        let found : (q : ℕ) → IsWordOf (number + suc n) q → p q ≡ young g (find nat_cmp q (slot_objects (number + suc n) (slot_at table n))) = test (suc n) in
        rw next at found

-- the young objects are those of the young blocks
pub young_names-table : (table : List (Option BlockValue)) (g : ℕ) (graph : Graph) → TableFits table → graph.objects ≡ objects_map table → young_names graph g ≡ keys (objects_map (young_table g table))
young_names-table table g graph fits shows =
    ap (λ (m : FinMap nat_cmp Object). filter (is_young_name graph g) (keys m)) shows
    ∙ ap (λ es. filter (is_young_name graph g) (names_of es)) (entries-objects_map table fits)
    ∙ filter_table (is_young_name graph g) g 0 table fits test
    ∙ sym (ap names_of (entries-objects_map (young_table g table) (young_fits table g fits)))
  where
    test : (n q : ℕ) → IsWordOf (0 + n) q → is_young_name graph g q ≡ young g (find nat_cmp q (slot_objects (0 + n) (slot_at table n)))
    test n q at =
        let none : 0 + n ≡ n = omega arith in
        rw none (ap (λ (m : FinMap nat_cmp Object). young g (get m q)) shows ∙ ap (young g) (get-objects_map table q ∙ find-at table n q fits (rw none at at)))

-- The objects that a collection numbers: the small ones, and then the large ones.
use Rattle.std.proofs.Common.{◌≡◌, ℕ, suc, ◌+◌, ◌<◌, ◌≤◌, Bool, true, false, cond, List, [], ◌∷◌, ◌++◌, map, filter, length, Option, Some, None, refl, sym, ap, ◌∙◌, arith}
use Rattle.std.proofs.lemmas.Bool.Decides.{nat_tests}
use Rattle.std.proofs.lemmas.List.{length-append, get_or_append_left, get_or-append-add, map-append}
use Rattle.std.proofs.lemmas.List.Elements.{filter-append}
use Rattle.std.proofs.lemmas.List.Sums.{sum_by-cons, sum_by-append}
use Rattle.std.specs.Prelude.{nat_le, nat_lt, slice_index, slice_index_or}
use Rattle.std.specs.Option.{option_map, option_map_or}
use Rattle.std.specs.FinMap.{entries}
use Rattle.model.specs.Graph.{Graph, Object}
use Rattle.model.specs.Live.{IsYoung}
use Rattle.model.specs.OldSlots.{is_young_name}
use Rattle.model.proofs.Options.{some_is, some_not_none}
use Rattle.model.proofs.Rising.{KeysBelow}
use Rattle.layout.specs.Place.{small_word, large_word}
use Rattle.large_objects.specs.LargeValue.{LargeObject, LargeValue, large_at}
use Rattle.steps.specs.CollectionValue.{IsNumbering, rank_below, young_names}
use Rattle.steps.specs.Numbering.{NumberingValue}
use Rattle.heap_objects.specs.WithLarge.{large_object, large_entries}
use Rattle.heap_objects.proofs.WithLarge.{get-small}
use Rattle.heap_objects.specs.Space.{SpaceValue, graph_in as small_graph}
use Rattle.heap_objects.specs.HeapSpaceCollecting.{AreBases, IsNumbered as IsSmallNumbered}
use Rattle.heap_objects.specs.Objects.{objects_of, graph_in}
use Rattle.heap_objects.specs.Inside.{AreApart}
use Rattle.heap_objects.specs.Large.{CoversYoungLarge, young_before}
use Rattle.heap_objects.specs.Collecting.{IsNumbered}
use Rattle.heap_objects.proofs.Sides.{entries_below, entries_both, at_large, small_there}
use Rattle.heap_objects.proofs.YoungLarge.{young_large, rank_first, rank_large, stands_at, young_large-length}

-- a test of names that lie below a bound
same_filter : {X : Type 0} (p q : ℕ → Bool) (high : ℕ) (es : List (ℕ × X)) → KeysBelow high es → ((n : ℕ) → n < high → p n ≡ q n) → filter p (map (λ e. e.0) es) ≡ filter q (map (λ e. e.0) es)
same_filter p q high [] below same = refl
same_filter p q high (e ∷ es) below same =
    ap (λ b. cond b (e.0 ∷ filter p (map (λ x. x.0) es)) (filter p (map (λ x. x.0) es))) (same e.0 below.0)
    ∙ ap (λ rest. cond (q e.0) (e.0 ∷ rest) rest) (same_filter p q high es below.1 same)

rank_cons : (word name : ℕ) (names : List ℕ) → rank_below word (name ∷ names) ≡ cond (nat_lt name word) 1 0 + rank_below word names
rank_cons word name names = sum_by-cons (λ n. cond (nat_lt n word) 1 0) name names

-- all that lie below the bound
rank_all : {X : Type 0} (p : ℕ → Bool) (high word : ℕ) (es : List (ℕ × X)) → KeysBelow high es → high ≤ word → rank_below word (filter p (map (λ e. e.0) es)) ≡ length (filter p (map (λ e. e.0) es))
rank_all p high word [] below le = refl
rank_all p high word (e ∷ es) below le = go (p e.0) (rank_all p high word es below.1 le)
  where
    rest : List ℕ
    rest = filter p (map (λ x. x.0) es)

    go : (b : Bool) → rank_below word (filter p (map (λ x. x.0) es)) ≡ length (filter p (map (λ x. x.0) es)) → rank_below word (cond b (e.0 ∷ filter p (map (λ x. x.0) es)) (filter p (map (λ x. x.0) es))) ≡ length (cond b (e.0 ∷ filter p (map (λ x. x.0) es)) (filter p (map (λ x. x.0) es)))
    go true same =
        let test : nat_lt e.0 word ≡ true = grind (arith, nat_tests, below.0, le) in
        let one : ◌≡◌ {A = ℕ} (cond (nat_lt e.0 word) 1 0) 1 = ap (λ b. cond b 1 0) test in
        omega (arith, rank_cons word e.0 (filter p (map (λ x. x.0) es)), one, same)
    go false same = same

-- of the large objects those of generation at most g
filter_large : (g : ℕ) (p : ℕ → Bool) (number : ℕ) (slots : List (Option LargeObject)) → ((k : ℕ) (o : LargeObject) → slice_index_or slots k None ≡ Some o → p (large_word (number + k)) ≡ nat_le o.generation g) → filter p (map (λ e. e.0) (large_entries number slots)) ≡ young_large g number slots
filter_large g p number [] tests = refl
filter_large g p number (None ∷ slots) tests =
    filter_large g p (number + 1) slots (λ k o is. let next : large_word (number + 1 + k) ≡ large_word (number + suc k) = omega arith in ap p next ∙ tests (suc k) o is)
filter_large g p number (Some o ∷ slots) tests =
    let rest = filter_large g p (number + 1) slots (λ k x is. let next : large_word (number + 1 + k) ≡ large_word (number + suc k) = omega arith in ap p next ∙ tests (suc k) x is) in
    let first : large_word number ≡ large_word (number + 0) = omega arith in
    ap (λ b. cond b (large_word number ∷ filter p (map (λ e. e.0) (large_entries (number + 1) slots))) (filter p (map (λ e. e.0) (large_entries (number + 1) slots)))) (ap p first ∙ tests 0 o refl)
    ∙ ap (λ xs. cond (nat_le o.generation g) (large_word number ∷ xs) xs) rest

module _ (space : SpaceValue) (large : LargeValue) (are : AreApart space large) where
  abbrev graph : Graph
  graph = graph_in (objects_of space large)

  module _ (g : ℕ) where
    abbrev smalls : List ℕ
    smalls = young_names (small_graph space) g

    abbrev larges : List ℕ
    larges = young_large g 0 large.slots

    large_test : (k : ℕ) (o : LargeObject) → large_at large k ≡ Some o → is_young_name graph g (large_word (0 + k)) ≡ nat_le o.generation g
    large_test k o is =
        let from_0 : large_word (0 + k) ≡ large_word k = omega arith in
        ap (is_young_name graph g) from_0 ∙ ap (λ x. option_map_or (λ (y : Object). nat_le y.generation g) x false) (at_large space are.small large k ∙ ap (option_map large_object) is)

    -- the small ones come first
    pub young_split : young_names graph g ≡ smalls ++ larges
    young_split =
        ap (λ (es : List (ℕ × Object)). filter (is_young_name graph g) (map (λ e. e.0) es)) (entries_both space are.small large.slots)
        ∙ ap (filter (is_young_name graph g)) (map-append (λ (e : ℕ × Object). e.0) (entries space.objects) (large_entries 0 large.slots))
        ∙ filter-append (is_young_name graph g) (map (λ e. e.0) (entries space.objects)) (map (λ e. e.0) (large_entries 0 large.slots))
        ∙ ap (λ xs. xs ++ filter (is_young_name graph g) (map (λ e. e.0) (large_entries 0 large.slots)))
        (same_filter (is_young_name graph g) (is_young_name (small_graph space) g) (large_word 0) (entries space.objects) (entries_below space are.small) (λ n lt. ap (λ x. option_map_or (λ (y : Object). nat_le y.generation g) x false) (get-small space.objects large.slots n lt)))
        ∙ ap (λ ys. smalls ++ ys) (filter_large g (is_young_name graph g) 0 large.slots large_test)

    rank-append : (word : ℕ) (xs ys : List ℕ) → rank_below word (xs ++ ys) ≡ rank_below word xs + rank_below word ys
    rank-append word xs ys = sum_by-append (λ n. cond (nat_lt n word) 1 0) xs ys

    pub rank_of_small : (word : ℕ) → word ≤ large_word 0 → rank_below word (young_names graph g) ≡ rank_below word smalls
    rank_of_small word le = omega (arith, ap (rank_below word) young_split, rank-append word smalls larges, rank_first g word 0 large.slots le)

    pub rank_of_large : (n : ℕ) → rank_below (large_word n) (young_names graph g) ≡ length smalls + young_before g large.slots n
    rank_of_large n =
        let from_0 : large_word n ≡ large_word (0 + n) = omega arith in
        let below = rank_all (is_young_name (small_graph space) g) (large_word 0) (large_word n) (entries space.objects) (entries_below space are.small) (omega arith) in
        let those = ap (λ w. rank_below w larges) from_0 ∙ rank_large g 0 n large.slots in
        omega (arith, ap (rank_below (large_word n)) young_split, rank-append (large_word n) smalls larges, below, those)

    pub young_length : length (young_names graph g) ≡ length smalls + young_before g large.slots (length large.slots)
    young_length = omega (arith, ap length young_split, length-append smalls larges, young_large-length g 0 large.slots)

    -- the number of a small one
    pub numbered_small : (name number : ℕ) → IsSmallNumbered space g name number → IsNumbered (objects_of space large) g name number
    numbered_small name number is = record {
      in_range = omega (arith, young_length, is.in_range);
      is = ap (λ xs. slice_index xs number) young_split ∙ get_or_append_left smalls larges 0 number is.in_range ∙ is.is;
    }

    -- and of a large one
    pub numbered_large : (n : ℕ) (o : LargeObject) (number : ℕ) → large_at large n ≡ Some o → o.generation ≤ g → number ≡ rank_below (large_word n) (young_names graph g) → IsNumbered (objects_of space large) g (large_word n) number
    numbered_large n o number is young same =
        let at = stands_at g 0 n large.slots o is young in
        let place : number ≡ length smalls + young_before g large.slots n = same ∙ rank_of_large n in
        let from_0 : large_word (0 + n) ≡ large_word n = omega arith in
        record {
          in_range = omega (arith, place, at.in_range, ap length young_split, length-append smalls larges);
          is = ap (λ xs. slice_index xs number) young_split ∙ ap (λ i. slice_index (smalls ++ larges) i) place ∙ get_or-append-add smalls larges (young_before g large.slots n) 0 ∙ at.is ∙ from_0;
        }

    -- a young object of the blocks is one of the whole
    pub young_of_small : (block offset : ℕ) → IsYoung (small_graph space) g (small_word block offset) → IsYoung graph g (small_word block offset)
    young_of_small block offset young = record { object = young.object; there = small_there space are.small large.slots (small_word block offset) young.object young.there; young = young.young }

    pub small_of_young : (q : ℕ) → q < large_word 0 → IsYoung graph g q → IsYoung (small_graph space) g q
    small_of_young q lt young = record { object = young.object; there = sym (get-small space.objects large.slots q lt) ∙ young.there; young = young.young }

    -- a large one, by its number
    pub record YoungLarge (n : ℕ) : Type 0 where
      pub object : LargeObject
      pub there : large_at large n ≡ Some object
      pub young : object.generation ≤ g

    pub large_of_young : (n : ℕ) → IsYoung graph g (large_word n) → YoungLarge n
    large_of_young n young = go (large_at large n) refl
      where
        go : (slot : Option LargeObject) → large_at large n ≡ slot → YoungLarge n
        go None is = absurd (some_not_none (sym young.there ∙ at_large space are.small large n ∙ ap (option_map large_object) is))
        go (Some o) is =
            let same : large_object o ≡ young.object = some_is (sym (at_large space are.small large n ∙ ap (option_map large_object) is) ∙ young.there) in
            let generation : o.generation ≡ young.object.generation = ap (λ x. x.generation) same in
            record { object = o; there = is; young = omega (arith, generation, young.young) }

    pub young_of_large : (n : ℕ) (o : LargeObject) → large_at large n ≡ Some o → o.generation ≤ g → IsYoung graph g (large_word n)
    young_of_large n o is le = record { object = large_object o; there = at_large space are.small large n ∙ ap (option_map large_object) is; young = le }

    -- a block that a small object stands in is one of the heap's
    pub low_block : (block offset : ℕ) → offset < 65536 → IsYoung (small_graph space) g (small_word block offset) → block < 65535
    low_block block offset lt young =
        let at = are.small.places (small_word block offset) young.object young.there in
        omega (arith, lt, at.is, at.block_in_range, at.offset_in_range, are.small.in_range.most_blocks)

    -- the numbering, as the small objects alone see it
    pub bases_of : (numbering : NumberingValue) → IsNumbering graph g numbering → AreBases space g numbering.blocks
    bases_of numbering is = record {
      each = λ block lt. is.blocks block lt ∙ rank_of_small (small_word block 0) (omega (arith, lt, is.few));
      covers = λ block offset lt young. is.covers block offset (low_block block offset lt young) lt (young_of_small block offset young);
    }

    -- each block with a small object that is young has its base
    pub covers_small : (bases : List ℕ) → AreBases space g bases → (block offset : ℕ) → block < 65535 → offset < 65536 → IsYoung graph g (small_word block offset) → block < length bases
    covers_small bases are_bases block offset low lt young = are_bases.covers block offset lt (small_of_young (small_word block offset) (omega (arith, low, lt)) young)

    -- how all objects are numbered
    pub is_numbering : (blocks larges : List ℕ) → AreBases space g blocks → length blocks ≤ 65535 → CoversYoungLarge g large.slots (length larges) → ((n : ℕ) → n < length larges → slice_index larges n ≡ length smalls + young_before g large.slots n) → IsNumbering graph g (record { blocks = blocks; large = larges })
    is_numbering blocks larges bases short covers each = record {
      few = short;
      blocks = λ block lt. bases.each block lt ∙ sym (rank_of_small (small_word block 0) (omega (arith, lt, short)));
      covers = λ block offset low lt young. covers_small blocks bases block offset low lt young;
      large = λ n lt. each n lt ∙ sym (rank_of_large n);
      covers_large = λ n young. let at = large_of_young n young in covers n at.object at.there at.young;
    }

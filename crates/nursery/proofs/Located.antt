-- Objects by place and by number.
use Rattle.std.proofs.Common.{◌≡◌, ◌≢◌, ℕ, zero, suc, ◌+◌, ◌*◌, ◌<◌, ◌≤◌, List, [], ◌∷◌, length, get_or, take, Option, Some, None, sum_by, refl, ap, subst, ◌∙◌, arith, ⊎_elim}
use Rattle.std.proofs.lemmas.Bool.{cases_lt, cases_eq}
use Rattle.std.proofs.lemmas.Option.{slice_get-get_or}
use Rattle.model.proofs.NatMap.{find_other}
use Rattle.std.proofs.lemmas.List.Sums.{sum_by-cons, sum_by_more_le, sum_by-le}
use Rattle.std.specs.Prelude.{slice_get, IsSome, All}
use Rattle.std.specs.Ordering.{nat_cmp}
use Rattle.std.specs.FinMap.{find, get, keys}
use Rattle.model.specs.Graph.{Object}
use Rattle.layout.specs.Object.{Raw, raw_size}
use Rattle.layout.specs.Place.{small_word, large_word}
use Rattle.block_pool.specs.BlockValue.{BlockValue, used_of, words_of, offset_of}
use Rattle.steps.specs.BlockObjects.{object_of, objects_from}
use Rattle.steps.specs.CollectionValue.{rank_below}
use Rattle.nursery.specs.Table.{slot_at, slot_objects, table_objects, slot_len, objects_before, objects_map}
use Rattle.nursery.proofs.TableLemmas.{SlotFits, TableFits, IsWordOf, find-at, word_cases}
use Rattle.nursery.proofs.TableMap.{get-objects_map, entries-objects_map}
use Rattle.nursery.proofs.BlockFinds.{find-object, find-no_object}
use Rattle.nursery.proofs.Numbering.{names_of, rank-table, nth-table, length-table}
use Rattle.nursery.proofs.TableSteps.{get_or_end, in_list}

-- an object that begins at an offset of a block
pub record Begins (table : List (Option BlockValue)) (number offset ordinal : ℕ) (raw : Raw) : Type 0 where
  pub block : BlockValue
  pub there : slot_at table number ≡ Some block
  pub in_block : ordinal < length block.objects
  pub at : offset_of block.objects ordinal ≡ offset
  pub is : slice_get block.objects ordinal ≡ Some raw

pub record IsBeginning (table : List (Option BlockValue)) (number offset : ℕ) : Type 0 where
  pub ordinal : ℕ
  pub raw : Raw
  pub begins : Begins table number offset ordinal raw

begins_from : (word g s : ℕ) (raws : List Raw) (q : ℕ) → IsSome (find nat_cmp q (objects_from word g s raws)) → (k : ℕ) × (k < length raws) × (word + offset_of raws k ≡ q)
begins_from word g s [] q some = absurd (cc)
begins_from word g s (r ∷ raws) q some =
    ⊎_elim
    (λ same. (0, omega arith, omega (arith, same)))
    (λ ne.
    let rest = begins_from (word + raw_size r) g s raws q (rw (find_other q word (object_of g s r) (objects_from (word + raw_size r) g s raws) ne) at some) in
    (suc rest.0, omega (arith, rest.1), omega (arith, rest.2, sum_by-cons raw_size r (take rest.0 raws))))
    (cases_eq q word)

len_used : (raws : List Raw) → length raws ≤ words_of raws
len_used [] = omega arith
len_used (r ∷ raws) = omega (arith, len_used raws, sum_by-cons raw_size r raws)

len_fits : (o : Option BlockValue) → ((b : BlockValue) → o ≡ Some b → used_of b ≤ 512) → slot_len o ≤ 512
len_fits None h = omega arith
len_fits (Some b) h = omega (arith, h b refl, len_used b.objects)

module _ (table : List (Option BlockValue)) (fits : TableFits table) (short : length table ≤ 65535) where
  word_of : (number offset : ℕ) → offset < 65536 → IsWordOf number (small_word number offset)
  word_of number offset lt = record { low = omega arith; high = omega arith }

  pub at_word : (number offset : ℕ) → offset < 65536 → get (objects_map table) (small_word number offset) ≡ find nat_cmp (small_word number offset) (slot_objects number (slot_at table number))
  at_word number offset lt = get-objects_map table (small_word number offset) ∙ find-at table number (small_word number offset) fits (word_of number offset lt)

  pub object_found : (number offset ordinal : ℕ) (raw : Raw) → offset < 512 → (begins : Begins table number offset ordinal raw) → get (objects_map table) (small_word number offset) ≡ Some (object_of begins.block.generation begins.block.step raw)
  object_found number offset ordinal raw lt begins =
      let block = begins.block in
      let found = find-object (small_word number 0) block.generation block.step block.objects ordinal (small_word number offset) raw begins.is (omega (arith, begins.at)) in
      at_word number offset (omega arith) ∙ ap (λ s. find nat_cmp (small_word number offset) (slot_objects number s)) begins.there ∙ found

  pub object_none : (number offset : ℕ) → offset < 512 → ((block : BlockValue) → slot_at table number ≡ Some block → (k : ℕ) → k < length block.objects → offset_of block.objects k ≢ offset) → get (objects_map table) (small_word number offset) ≡ None
  object_none number offset lt none = at_word number offset (omega arith) ∙ go (slot_at table number) refl
    where
      go : (o : Option BlockValue) → slot_at table number ≡ o → find nat_cmp (small_word number offset) (slot_objects number o) ≡ None
      go None is = refl
      go (Some block) is = find-no_object (small_word number 0) block.generation block.step block.objects (small_word number offset) (λ k h e. none block is k h (omega (arith, e)))

  -- where there is an object, some object of the block begins
  pub begins_at : (number offset : ℕ) → offset < 512 → IsSome (get (objects_map table) (small_word number offset)) → IsBeginning table number offset
  begins_at number offset lt some = go (slot_at table number) refl (rw (at_word number offset (omega arith)) at some)
    where
      go : (o : Option BlockValue) → slot_at table number ≡ o → IsSome (find nat_cmp (small_word number offset) (slot_objects number o)) → IsBeginning table number offset
      go None is some = absurd (cc)
      go (Some block) is some =
          let found = begins_from (small_word number 0) block.generation block.step block.objects (small_word number offset) some in
          let d : Raw = record { pointers = []; plain = [] } in
          record {
            ordinal = found.0;
            raw = get_or block.objects found.0 d;
            begins = record { block = block; there = is; in_block = found.1; at = omega (arith, found.2); is = slice_get-get_or block.objects found.0 d found.1 };
          }

  pub past_none : (number q : ℕ) → IsWordOf number q → length table ≤ number → get (objects_map table) q ≡ None
  past_none number q word le = get-objects_map table q ∙ find-at table number q fits word ∙ ap (λ s. find nat_cmp q (slot_objects number s)) (get_or_end table number None le)

  pub large_none : (number : ℕ) → get (objects_map table) (large_word number) ≡ None
  large_none number = ⊎_elim
      (λ lt. absurd (omega arith))
      (λ at. past_none at.0 (large_word number) at.1 (omega (arith, at.1.low, at.1.high, short)))
      (word_cases (large_word number))

  -- a number without a block names no object
  pub no_block : (number offset : ℕ) → offset < 65536 → slot_at table number ≡ None → get (objects_map table) (small_word number offset) ≡ None
  no_block number offset lt is = at_word number offset lt ∙ ap (λ s. find nat_cmp (small_word number offset) (slot_objects number s)) is

  pub covered : (number offset : ℕ) → offset < 65536 → IsSome (get (objects_map table) (small_word number offset)) → number < length table
  covered number offset lt some = ⊎_elim
      (λ h. h)
      (λ le. let none = past_none number (small_word number offset) (word_of number offset lt) le in absurd (no_some (get (objects_map table) (small_word number offset)) none some))
      (cases_lt number (length table))
    where
      no_some : (o : Option Object) → o ≡ None → IsSome o → ⊥
      no_some None e h = cc
      no_some (Some x) e h = cc

  pub names_are : keys (objects_map table) ≡ names_of (table_objects 0 table)
  names_are = ap names_of (entries-objects_map table fits)

  pub rank_is : (number : ℕ) → rank_below (small_word number 0) (keys (objects_map table)) ≡ objects_before table number
  rank_is number = ap (rank_below (small_word number 0)) names_are ∙ rank-table 0 table number (small_word number 0) fits (omega arith)

  pub count_is : length (keys (objects_map table)) ≡ sum_by slot_len table
  count_is = ap length names_are ∙ length-table 0 table

  pub few_objects : sum_by slot_len table ≤ 65535 * 512
  few_objects =
      let each : All (λ o. slot_len o ≤ 512) table = λ k d lt. len_fits (get_or table k d) (λ b is. fits_at k b (same table k d b lt is)) in
      omega (arith, sum_by-le slot_len 512 table each, short)
    where
      fits_at : (k : ℕ) (b : BlockValue) → slot_at table k ≡ Some b → used_of b ≤ 512
      fits_at k b is = subst (λ o. SlotFits o) is (fits k)

      same : (xs : List (Option BlockValue)) (k : ℕ) (d : Option BlockValue) (b : BlockValue) → k < length xs → get_or xs k d ≡ Some b → slot_at xs k ≡ Some b
      same [] k d b lt is = absurd (omega arith)
      same (x ∷ xs) zero d b lt is = is
      same (x ∷ xs) (suc k) d b lt is = same xs k d b (omega arith) is

  pub number_in_range : (number offset ordinal : ℕ) (raw : Raw) → Begins table number offset ordinal raw → objects_before table number + ordinal < length (keys (objects_map table))
  number_in_range number offset ordinal raw begins =
      let more = sum_by_more_le slot_len table number None (in_list table number begins.block begins.there) in
      let here : slot_len (slot_at table number) ≡ length begins.block.objects = ap slot_len begins.there in
      omega (arith, count_is, more, here, begins.in_block)

  pub number_names : (number offset ordinal : ℕ) (raw : Raw) → Begins table number offset ordinal raw → get_or (keys (objects_map table)) (objects_before table number + ordinal) 0 ≡ small_word number offset
  number_names number offset ordinal raw begins =
      ap (λ ns. get_or ns (objects_before table number + ordinal) 0) names_are
      ∙ nth-table 0 table number ordinal begins.block begins.there begins.in_block
      ∙ omega (arith, begins.at)

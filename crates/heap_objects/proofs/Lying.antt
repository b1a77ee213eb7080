-- Each object in the blocks ends within its block, before the next one begins.
use Rattle.std.proofs.Common.{◌≡◌, ◌≢◌, ℕ, ◌+◌, ◌<◌, ◌≤◌, List, [], ◌∷◌, length, Option, Some, None, sum_by, refl, sym, ap, subst, ◌∙◌, arith, ⊎_elim}
use Rattle.std.proofs.lemmas.Bool.{cases_lt, cases_eq}
use Rattle.std.proofs.lemmas.List.{length-map}
use Rattle.std.proofs.lemmas.List.Sums.{sum_by-cons}
use Rattle.std.specs.Ordering.{nat_cmp}
use Rattle.std.specs.FinMap.{find, get}
use Rattle.model.specs.Config.{Config}
use Rattle.model.specs.Graph.{Object, size_of}
use Rattle.model.proofs.Finds.{find_below}
use Rattle.model.proofs.NatMap.{find_same, find_other}
use Rattle.model.proofs.Options.{some_is, some_not_none}
use Rattle.layout.specs.Object.{Raw, raw_size}
use Rattle.layout.specs.Place.{small_word}
use Rattle.block_pool.specs.BlockValue.{BlockValue}
use Rattle.block_pool.specs.PoolValue.{PoolValue}
use Rattle.steps.specs.BlockObjects.{object_of, objects_from}
use Rattle.steps.specs.Words.{target_of_word}
use Rattle.nursery.specs.Table.{slot_at, slot_objects, objects_map}
use Rattle.nursery.specs.NurseryValue.{NurseryValue}
use Rattle.nursery.proofs.TableLemmas.{TableFits, IsWordOf, find-at, find-first, word_cases, objects_from-within}
use Rattle.nursery.proofs.TableMap.{get-objects_map}
use Rattle.heap_objects.specs.Space.{IsSoundSpace, EndsInBlock}
use Rattle.heap_objects.proofs.Sound.{sound_fits}

-- the object that is found at the first word is the first
first_is : (word g s : ℕ) (r : Raw) (raws : List Raw) (q : ℕ) (o : Object) → q ≡ word → find nat_cmp q (objects_from word g s (r ∷ raws)) ≡ Some o → size_of o ≡ raw_size r
first_is word g s r raws q o same is =
    let found : find nat_cmp word (objects_from word g s (r ∷ raws)) ≡ Some o = subst (λ w. find nat_cmp w (objects_from word g s (r ∷ raws)) ≡ Some o) same is in
    let object : o ≡ object_of g s r = some_is (sym found ∙ find_same word (object_of g s r) (objects_from (word + raw_size r) g s raws)) in
    ap size_of object ∙ ap (λ n. 1 + n + length r.plain) (length-map r.pointers target_of_word)

-- one that is found at another is one of the others
later_is : (word g s : ℕ) (r : Raw) (raws : List Raw) (q : ℕ) (o : Object) → q ≢ word → find nat_cmp q (objects_from word g s (r ∷ raws)) ≡ Some o → find nat_cmp q (objects_from (word + raw_size r) g s raws) ≡ Some o
later_is word g s r raws q o ne is = sym (find_other q word (object_of g s r) (objects_from (word + raw_size r) g s raws) ne) ∙ is

-- and begins behind it
later_at : (word g s : ℕ) (raws : List Raw) (q : ℕ) (o : Object) → find nat_cmp q (objects_from word g s raws) ≡ Some o → word ≤ q
later_at word g s raws q o is = ⊎_elim
    (λ low. absurd (some_not_none (sym is ∙ find_below q _ _ _ (objects_from-within word g s raws) low)))
    (λ ge. ge)
    (cases_lt q word)

ends_from : (word g s : ℕ) (raws : List Raw) (q : ℕ) (o : Object) → find nat_cmp q (objects_from word g s raws) ≡ Some o → q + size_of o ≤ word + sum_by raw_size raws
ends_from word g s [] q o is = absurd (some_not_none (sym is))
ends_from word g s (r ∷ raws) q o is = ⊎_elim
    (λ same. omega (arith, same, first_is word g s r raws q o same is, sum_by-cons raw_size r raws))
    (λ ne. omega (arith, ends_from (word + raw_size r) g s raws q o (later_is word g s r raws q o ne is), sum_by-cons raw_size r raws))
    (cases_eq q word)

apart_from : (word g s : ℕ) (raws : List Raw) (q next : ℕ) (o p : Object) → find nat_cmp q (objects_from word g s raws) ≡ Some o → find nat_cmp next (objects_from word g s raws) ≡ Some p → q < next → q + size_of o ≤ next
apart_from word g s [] q next o p is other lt = absurd (some_not_none (sym is))
apart_from word g s (r ∷ raws) q next o p is other lt =
    let low = later_at word g s (r ∷ raws) q o is in
    let behind = later_is word g s r raws next p (λ e. absurd (omega (arith, e, low, lt))) other in
    ⊎_elim
    (λ same. omega (arith, same, first_is word g s r raws q o same is, later_at (word + raw_size r) g s raws next p behind))
    (λ ne. apart_from (word + raw_size r) g s raws q next o p (later_is word g s r raws q o ne is) behind lt)
    (cases_eq q word)

-- an object, and the block that it is found in
record Found (table : List (Option BlockValue)) (name : ℕ) (o : Object) : Type 0 where
  pub number : ℕ
  pub block : BlockValue
  pub there : slot_at table number ≡ Some block
  pub word : IsWordOf number name
  pub is : find nat_cmp name (objects_from (small_word number 0) block.generation block.step block.objects) ≡ Some o

module _ (config : Config) (table : List (Option BlockValue)) (nurseries : List NurseryValue) (pool : PoolValue) (sound : IsSoundSpace config table nurseries pool) where
  fits : TableFits table
  fits = sound_fits config table nurseries pool sound

  found_in : (number name : ℕ) (o : Object) → IsWordOf number name → find nat_cmp name (slot_objects number (slot_at table number)) ≡ Some o → Found table name o
  found_in number name o word is = go (slot_at table number) refl is
    where
      go : (slot : Option BlockValue) → slot_at table number ≡ slot → find nat_cmp name (slot_objects number slot) ≡ Some o → Found table name o
      go None there found = absurd (some_not_none (sym found))
      go (Some block) there found = record { number = number; block = block; there = there; word = word; is = found }

  found : (name : ℕ) (o : Object) → get (objects_map table) name ≡ Some o → Found table name o
  found name o is = ⊎_elim
      (λ first. absurd (some_not_none (sym is ∙ get-objects_map table name ∙ find-first table name fits first)))
      (λ at. found_in at.0 name o at.1 (sym (find-at table at.0 name fits at.1) ∙ sym (get-objects_map table name) ∙ is))
      (word_cases name)

  ends : (name : ℕ) (o : Object) (at : Found table name o) → name + size_of o ≤ small_word at.number 0 + config.block_words
  ends name o at = omega (arith, ends_from (small_word at.number 0) at.block.generation at.block.step at.block.objects name o at.is, (sound.blocks at.number at.block at.there).fits)

  pub each_within : (name : ℕ) (o : Object) → get (objects_map table) name ≡ Some o → EndsInBlock config.block_words name (size_of o)
  each_within name o is block offset lt at =
      let f = found name o is in
      omega (arith, lt, at, f.word.low, f.word.high, ends name o f)

  pub each_apart : (name next : ℕ) (o p : Object) → get (objects_map table) name ≡ Some o → get (objects_map table) next ≡ Some p → name < next → name + size_of o ≤ next
  each_apart name next o p is other lt =
      let f = found name o is in
      let n = found next p other in
      ⊎_elim
      (λ same.
      let one : n.block ≡ f.block = some_is (sym n.there ∙ ap (slot_at table) (sym same) ∙ f.there) in
      let there : find nat_cmp next (objects_from (small_word f.number 0) f.block.generation f.block.step f.block.objects) ≡ Some p =
      subst (λ b. find nat_cmp next (objects_from (small_word f.number 0) b.generation b.step b.objects) ≡ Some p) one (subst (λ m. find nat_cmp next (objects_from (small_word m 0) n.block.generation n.block.step n.block.objects) ≡ Some p) (sym same) n.is) in
      apart_from (small_word f.number 0) f.block.generation f.block.step f.block.objects name next o p f.is there lt)
      (λ ne. omega (arith, ne, lt, ends name o f, f.word.low, f.word.high, n.word.low, n.word.high, sound.in_range.most_words))
      (cases_eq f.number n.number)

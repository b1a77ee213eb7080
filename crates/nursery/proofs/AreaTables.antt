-- The flags of a table's blocks, and the counts that go from one flagged block to the next.
use Rattle.std.proofs.Common.{◌≡◌, ◌≢◌, ℕ, zero, suc, ◌+◌, ◌-◌, ◌<◌, ◌≤◌, Bool, true, false, cond, ◌||◌, ◌&&◌, List, [], ◌∷◌, ◌++◌, length, take, set, get_or, get_or-set_other, get_or-set_same, replicate, Option, Some, None, sum_by, take_all, refl, sym, ap, ◌∙◌, arith, ⊎_elim, length-append}
use Rattle.std.proofs.lemmas.Bool.{cases_eq, cases_lt, cases_Bool, true≢false, eq-eqb, ne_eqb}
use Rattle.std.proofs.lemmas.Bool.Decides.{nat_tests}
use Rattle.std.proofs.lemmas.List.{get_or_append_left, get_or-append-add, get_or-map, get_or-replicate, length-replicate, take_more}
use Rattle.std.proofs.lemmas.List.Sums.{sum_by_more}
use Rattle.std.specs.List.{IsDistinct, take-map}
use Rattle.std.specs.Prelude.{nat_eq, nat_lt, nat_le, is_some}
use Rattle.model.specs.Reached.{has}
use Rattle.layout.specs.Object.{Raw, raw_size}
use Rattle.block_pool.specs.BlockValue.{BlockValue, used_of}
use Rattle.nursery.specs.Areas.{holds_young, is_flagged, AreAreas}
use Rattle.nursery.specs.Counts.{HasCounted, IsYoungRun}
use Rattle.nursery.specs.Installed.{is_installed_at, installed}
use Rattle.nursery.specs.Table.{slot_at, slot_len, objects_before, cleared, young_slot, with_more}
use Rattle.nursery.proofs.Areas.{once_at}
use Rattle.nursery.proofs.Installed.{numbers_of, none_installed}
use Rattle.nursery.proofs.TableSteps.{get_or_end, in_list}

no_flags : (m k : ℕ) → let none : List Bool = [] in get_or (replicate m none) k none ≡ none
no_flags zero k = refl
no_flags (suc m) zero = refl
no_flags (suc m) (suc k) = no_flags m k

pub none_flagged : (m g n : ℕ) → let none : List Bool = [] in is_flagged (replicate m none) g n ≡ false
none_flagged m g n = ap (λ flags. get_or flags n false) (no_flags m _)

-- a block that holds an object of a generation up to g stands in the table
pub young_inside : (table : List (Option BlockValue)) (g n : ℕ) → holds_young g (slot_at table n) ≡ true → n < length table
young_inside table g n is = ⊎_elim
    (λ lt. lt)
    (λ le. absurd (true≢false (sym is ∙ ap (λ o. holds_young g o) (get_or_end table n None le))))
    (cases_lt n (length table))

-- a slot is one more of those whose blocks are flagged
pub slot_flagged : (table : List (Option BlockValue)) (g number n : ℕ) (slot : Option BlockValue) (was now : Bool) → slot_at table number ≡ slot → was ≡ (nat_lt n number && holds_young g (slot_at table n)) → now ≡ cond (nat_eq n number) (holds_young g slot || was) was → now ≡ (nat_lt n (number + 1) && holds_young g (slot_at table n))
slot_flagged table g number n slot was now there before after = ⊎_elim
    (λ e.
    let here : n ≡ number = e in
    let past : nat_lt n number ≡ false = grind (arith, nat_tests, here) in
    let below : nat_lt n (number + 1) ≡ true = grind (arith, nat_tests, here) in
    let none : was ≡ false = before ∙ ap (λ t. t && holds_young g (slot_at table n)) past in
    let same : slot_at table n ≡ slot = ap (slot_at table) here ∙ there in
    rw (below, same) (after ∙ ap (λ t. cond t (holds_young g slot || was) was) (eq-eqb n number here) ∙ ap (λ t. holds_young g slot || t) none ∙ or_false (holds_young g slot)))
    (λ ne.
    let other : n ≢ number = ne in
    let more : nat_lt n number ≡ nat_lt n (number + 1) = grind (arith, nat_tests, other) in
    after ∙ ap (λ t. cond t (holds_young g slot || was) was) (ne_eqb n number other) ∙ before ∙ ap (λ t. t && holds_young g (slot_at table n)) more)
    (cases_eq n number)
  where
    or_false : (b : Bool) → (b || false) ≡ b
    or_false true = refl
    or_false false = refl

pub all_flagged : (table : List (Option BlockValue)) (number : ℕ) (areas : List (List Bool)) → length table ≤ number → ((g n : ℕ) → is_flagged areas g n ≡ (nat_lt n number && holds_young g (slot_at table n))) → AreAreas table areas
all_flagged table number areas le each = record {
  each = λ g n. each g n ∙ ⊎_elim
      (λ yes. rw yes (let below : n < length table = young_inside table g n yes in let lt : nat_lt n number ≡ true = grind (arith, nat_tests, below, le) in ap (λ t. t && true) lt))
      (λ no. rw no (and_false (nat_lt n number)))
      (cases_Bool (holds_young g (slot_at table n)));
}
  where
    and_false : (b : Bool) → (b && false) ≡ false
    and_false true = refl
    and_false false = refl

-- one block more put in
installed-push : (xs : List BlockValue) (b : BlockValue) (n : ℕ) → installed (xs ++ b ∷ []) n ≡ cond (is_some (installed xs n)) (installed xs n) (installed (b ∷ []) n)
installed-push [] b n = refl
installed-push (x ∷ xs) b n = go (is_installed_at n x) (installed-push xs b n)
  where
    go : (t : Bool) → installed (xs ++ b ∷ []) n ≡ cond (is_some (installed xs n)) (installed xs n) (installed (b ∷ []) n) → cond t (Some x) (installed (xs ++ b ∷ []) n) ≡ cond (is_some (cond t (Some x) (installed xs n))) (cond t (Some x) (installed xs n)) (installed (b ∷ []) n)
    go true rest = refl
    go false rest = rest

young_either : (g : ℕ) (a b : Option BlockValue) → ((block : BlockValue) → b ≡ Some block → a ≡ None) → holds_young g (cond (is_some a) a b) ≡ (holds_young g b || holds_young g a)
young_either g None b one = sym (or_false (holds_young g b))
  where
    or_false : (t : Bool) → (t || false) ≡ t
    or_false true = refl
    or_false false = refl
young_either g (Some x) None one = refl
young_either g (Some x) (Some y) one = absurd (some_none (one y refl))
  where
    some_none : Some x ≡ None → ⊥
    some_none e = cc

module _ (blocks : List BlockValue) (once : IsDistinct nat_eq (numbers_of blocks)) (i : ℕ) (b : BlockValue) (here : get_or blocks i b ≡ b) (lt : i < length blocks) where
  none_before : (n : ℕ) (block : BlockValue) → installed (b ∷ []) n ≡ Some block → installed (take i blocks) n ≡ None
  none_before n block is =
      let number : b.number ≡ n = number_is (is_installed_at n b) refl is in
      let at : get_or (numbers_of blocks) i 0 ≡ n = get_or-map (λ x. x.number) blocks i b 0 lt ∙ ap (λ x. x.number) here ∙ number in
      let absent : has (take i (numbers_of blocks)) (get_or (numbers_of blocks) i 0) ≡ false = once_at (numbers_of blocks) i once (omega (arith, length-numbers blocks)) in
      none_installed (take i blocks) n (ap (λ ns. has ns n) (sym (take-map (λ x. x.number) i blocks)) ∙ ap (has (take i (numbers_of blocks))) (sym at) ∙ absent)
    where
      length-numbers : (xs : List BlockValue) → length (numbers_of xs) ≡ length xs
      length-numbers [] = refl
      length-numbers (x ∷ xs) = let rest : length (numbers_of xs) ≡ length xs = length-numbers xs in omega arith

      number_is : (t : Bool) → is_installed_at n b ≡ t → cond t (Some b) None ≡ Some block → b.number ≡ n
      number_is true is e = grind (arith, nat_tests, is)
      number_is false is e = absurd (cc)

  pub block_flagged : (g n : ℕ) (old was now : Bool) → was ≡ (holds_young g (installed (take i blocks) n) || old) → now ≡ (holds_young g (installed (b ∷ []) n) || was) → now ≡ (holds_young g (installed (take (i + 1) blocks) n) || old)
  block_flagged g n old was now before after =
      let more : take (i + 1) blocks ≡ take i blocks ++ b ∷ [] = take_more blocks i b lt ∙ ap (λ x. take i blocks ++ x ∷ []) here in
      let both : holds_young g (installed (take (i + 1) blocks) n) ≡ (holds_young g (installed (b ∷ []) n) || holds_young g (installed (take i blocks) n)) =
      ap (λ xs. holds_young g (installed xs n)) more ∙ ap (λ o. holds_young g o) (installed-push (take i blocks) b n) ∙ young_either g (installed (take i blocks) n) (installed (b ∷ []) n) (none_before n) in
      after ∙ ap (λ t. holds_young g (installed (b ∷ []) n) || t) before ∙ turned (holds_young g (installed (b ∷ []) n)) (holds_young g (installed (take i blocks) n)) old ∙ ap (λ t. t || old) (sym both)
    where
      turned : (x y z : Bool) → (x || (y || z)) ≡ ((x || y) || z)
      turned true y z = refl
      turned false y z = refl

-- blocks with no object of the generations collected add nothing to a sum
pub sum_still : (table : List (Option BlockValue)) (from d : ℕ) → from + d ≤ length table → ((k : ℕ) → from ≤ k → k < from + d → slot_len (get_or table k None) ≡ 0) → sum_by slot_len (take (from + d) table) ≡ sum_by slot_len (take from table)
sum_still table from zero le none = let same : from + 0 ≡ from = omega arith in rw same refl
sum_still table from (suc d) le none =
    let next : from + suc d ≡ from + d + 1 = omega arith in
    let rest : sum_by slot_len (take (from + d) table) ≡ sum_by slot_len (take from table) = sum_still table from d (omega arith) (λ k low lt. none k low (omega (arith, lt))) in
    let empty : slot_len (get_or table (from + d) None) ≡ 0 = none (from + d) (omega arith) (omega arith) in
    rw next (omega (arith, sum_by_more slot_len table (from + d) None (omega arith), rest, empty))

module _ (table : List (Option BlockValue)) (bases : List ℕ) (objects : ℕ) (so_far : HasCounted table bases objects) where
  sum_until : (b : ℕ) → length bases ≤ b → b ≤ length table → ((k : ℕ) → length bases ≤ k → k < b → slot_len (get_or table k None) ≡ 0) → objects ≡ sum_by slot_len (take b table)
  sum_until b low le none =
      let split : length bases + (b - length bases) ≡ b = omega arith in
      let still : sum_by slot_len (take (length bases + (b - length bases)) table) ≡ sum_by slot_len (take (length bases) table) = sum_still table (length bases) (b - length bases) (omega arith) (λ k from lt. none k from (omega (arith, lt))) in
      so_far.objects_are ∙ sym still ∙ ap (λ n. sum_by slot_len (take n table)) split

  -- blocks that hold no object have all the same count
  pub counted_to : (new : List ℕ) (number : ℕ) → number ≤ length table → length bases ≤ number → ((k : ℕ) → length bases ≤ k → k < number → slot_len (get_or table k None) ≡ 0) → new ≡ take number bases ++ replicate (number - length bases) objects → HasCounted table new objects
  counted_to new number le low none items =
      let whole : new ≡ bases ++ replicate (number - length bases) objects = items ∙ ap (λ xs. xs ++ replicate (number - length bases) objects) (take_all number bases low) in
      let len : length new ≡ number = ap length whole ∙ length-append bases (replicate (number - length bases) objects) ∙ ap (λ m. length bases + m) (length-replicate (number - length bases) objects) ∙ (omega arith) in
      record {
        each = λ b below. ap (λ xs. get_or xs b 0) whole ∙ ⊎_elim
            (λ old. get_or_append_left bases (replicate (number - length bases) objects) 0 b old ∙ so_far.each b old)
            (λ filled.
            let past : length bases ≤ b = filled in
            let split : length bases + (b - length bases) ≡ b = omega arith in
            let at : get_or (bases ++ replicate (number - length bases) objects) (length bases + (b - length bases)) 0 ≡ objects = get_or-append-add bases (replicate (number - length bases) objects) (b - length bases) 0 ∙ get_or-replicate (number - length bases) (b - length bases) objects 0 (omega (arith, below, len)) in
            sym (ap (λ m. get_or (bases ++ replicate (number - length bases) objects) m 0) split) ∙ at ∙ sum_until b past (omega (arith, below, len)) (λ k from under. none k from (omega (arith, under, below, len))))
            (cases_lt b (length bases));
        objects_are = sum_until number low le none ∙ ap (objects_before table) (sym len);
      }

  pub counted_all : length bases ≤ length table → ((k : ℕ) → length bases ≤ k → slot_len (get_or table k None) ≡ 0) → objects ≡ sum_by slot_len table
  counted_all le none = sum_until (length table) le (omega arith) (λ k from lt. none k from) ∙ ap (sum_by slot_len) (take_all (length table) table (omega arith))

-- a slot that isn't flagged counts nothing
pub old_len : (g : ℕ) (slot : Option BlockValue) → holds_young g slot ≡ false → slot_len (young_slot g slot) ≡ 0
old_len g None none = refl
old_len g (Some block) none = go (nat_le block.generation g) none
  where
    go : (b : Bool) → (b && nat_lt 0 (length block.objects)) ≡ false → slot_len (cond {A = Option BlockValue} b (Some block) None) ≡ 0
    go true empty = grind (arith, nat_tests, empty)
    go false h = refl

-- a run goes past a block that is flagged where it begins
pub run_passes : (g : ℕ) (table : List (Option BlockValue)) (from to : ℕ) → IsYoungRun g table from to → holds_young g (slot_at table from) ≡ true → from < to
run_passes g table from to run first = ⊎_elim
    (λ lt. lt)
    (λ le.
    let same : to ≡ from = omega (arith, le, run.no_shorter) in
    absurd (true≢false (sym first ∙ ap (λ n. holds_young g (slot_at table n)) (sym same) ∙ run.end)))
    (cases_lt from to)

-- the flags after a collection's blocks took the place of those that went
pub exchanged_areas : (old new : List (Option BlockValue)) (areas left now : List (List Bool)) (gone : List ℕ) (blocks : List BlockValue) (count : ℕ) → AreAreas old areas → ((g n : ℕ) → is_flagged left g n ≡ cond (has gone n) false (is_flagged areas g n)) → ((g n : ℕ) → is_flagged now g n ≡ (holds_young g (installed blocks n) || is_flagged left g n)) → ((n : ℕ) (block : BlockValue) → installed blocks n ≡ Some block → slot_at old n ≡ None) → ((n : ℕ) → slot_at new n ≡ cond (is_some (installed blocks n)) (installed blocks n) (cond (has gone n) (cond (nat_lt n count) (cleared (slot_at old n)) None) (slot_at old n))) → AreAreas new now
exchanged_areas old new areas left now gone blocks count are dropped put was_free slots = record {
  each = λ g n. put g n ∙ ap (λ t. holds_young g (installed blocks n) || t) (dropped g n ∙ ap (cond (has gone n) false) (are.each g n)) ∙ go g n (installed blocks n) refl ∙ sym (ap (λ o. holds_young g o) (slots n));
}
  where
    none_young : (g : ℕ) (t : Bool) (o : Option BlockValue) → o ≡ None → cond t false (holds_young g o) ≡ false
    none_young g true o none = refl
    none_young g false o none = ap (λ x. holds_young g x) none

    or_false : (a b : Bool) → b ≡ false → (a || b) ≡ a
    or_false true b h = refl
    or_false false b h = h

    none_in_cleared : (g : ℕ) (o : Option BlockValue) → holds_young g (cleared o) ≡ false
    none_in_cleared g None = refl
    none_in_cleared g (Some block) = and_false (nat_le block.generation g)
      where
        and_false : (b : Bool) → (b && false) ≡ false
        and_false true = refl
        and_false false = refl

    rest : (g : ℕ) (t u : Bool) (o : Option BlockValue) → cond t false (holds_young g o) ≡ holds_young g (cond t (cond u (cleared o) None) o)
    rest g true true o = sym (none_in_cleared g o)
    rest g true false o = refl
    rest g false u o = refl

    go : (g n : ℕ) (x : Option BlockValue) → installed blocks n ≡ x → (holds_young g x || cond (has gone n) false (holds_young g (slot_at old n))) ≡ holds_young g (cond (is_some x) x (cond (has gone n) (cond (nat_lt n count) (cleared (slot_at old n)) None) (slot_at old n)))
    go g n None is = rest g (has gone n) (nat_lt n count) (slot_at old n)
    go g n (Some block) is = or_false (holds_young g (Some block)) _ (none_young g (has gone n) (slot_at old n) (was_free n block is))

both_same : (a b c d : Bool) → a ≡ c → b ≡ d → (a && b) ≡ (c && d)
both_same a b c d e f = ap (λ t. t && b) e ∙ ap (λ t. c && t) f

-- the same blocks hold objects of the generations 0 to g, whatever g is
pub record SameYoung (old new : List (Option BlockValue)) : Type 0 where
  pub each : (g n : ℕ) → holds_young g (slot_at new n) ≡ holds_young g (slot_at old n)

-- a block was changed, and its generation and the number of its objects kept
pub set_young : (table : List (Option BlockValue)) (number : ℕ) (block new : BlockValue) → slot_at table number ≡ Some block → new.generation ≡ block.generation → length new.objects ≡ length block.objects → SameYoung table (set table number (Some new))
set_young table number block new there same many = record {
  each = λ g n. ⊎_elim
      (λ e.
      let here : n ≡ number = e in
      rw (here, there, get_or-set_same table number (Some new) None (in_list table number block there)) (both_same _ _ _ _ (ap (λ h. nat_le h g) same) (ap (λ k. nat_lt 0 k) many)))
      (λ ne. ap (λ o. holds_young g o) (get_or-set_other table number n (Some new) None ne))
      (cases_eq n number);
}

pub same_areas : (old new : List (Option BlockValue)) (areas : List (List Bool)) → SameYoung old new → AreAreas old areas → AreAreas new areas
same_areas old new areas same are = record { each = λ g n. are.each g n ∙ sym (same.each g n) }

-- a block of generation 0 got an object, and its number was put in where it is the first
pub pushed_areas : (table : List (Option BlockValue)) (number offset : ℕ) (block : BlockValue) (raw : Raw) (areas areas' : List (List Bool)) → slot_at table number ≡ Some block → block.generation ≡ 0 → offset ≡ used_of block → ((g n : ℕ) → is_flagged areas' g n ≡ ((nat_eq offset 0 && nat_eq n number) || is_flagged areas g n)) → AreAreas table areas → AreAreas (set table number (Some (with_more block raw))) areas'
pushed_areas table number offset block raw areas areas' there youngest at flags are = record {
  each = λ g n. flags g n ∙ ap (λ t. (nat_eq offset 0 && nat_eq n number) || t) (are.each g n) ∙ ⊎_elim
      (λ e.
      let here : n ≡ number = e in
      rw (here, there, get_or-set_same table number (Some (with_more block raw)) None (in_list table number block there)) (now_flagged g block.objects refl))
      (λ ne. ap (λ t. (nat_eq offset 0 && t) || holds_young g (slot_at table n)) (ne_eqb n number ne) ∙ none_more (nat_eq offset 0) (holds_young g (slot_at table n)) ∙ sym (ap (λ o. holds_young g o) (get_or-set_other table number n (Some (with_more block raw)) None ne)))
      (cases_eq n number);
}
  where
    none_more : (a b : Bool) → ((a && false) || b) ≡ b
    none_more true b = refl
    none_more false b = refl

    or_true : (a b : Bool) → b ≡ true → (a || b) ≡ true
    or_true true b h = refl
    or_true false b h = h

    some_here : (r : Raw) (raws : List Raw) → nat_lt 0 (length (r ∷ raws)) ≡ true
    some_here r raws = grind (arith, nat_tests)

    some_more : (raws : List Raw) → nat_lt 0 (length (raws ++ raw ∷ [])) ≡ true
    some_more [] = refl
    some_more (r ∷ raws) = grind (arith, nat_tests)

    now_flagged : (g : ℕ) (raws : List Raw) → block.objects ≡ raws → ((nat_eq offset 0 && nat_eq number number) || (nat_le block.generation g && nat_lt 0 (length block.objects))) ≡ (nat_le block.generation g && nat_lt 0 (length (block.objects ++ raw ∷ [])))
    now_flagged g [] is =
        let young : nat_le block.generation g ≡ true = grind (arith, nat_tests, youngest) in
        let first : nat_eq offset 0 ≡ true = eq-eqb offset 0 (at ∙ ap (λ raws. sum_by raw_size raws) is) in
        rw (young, first, eq-eqb number number refl) (sym (some_more block.objects))
    now_flagged g (r ∷ raws) is =
        let young : nat_le block.generation g ≡ true = grind (arith, nat_tests, youngest) in
        rw young (or_true _ (nat_lt 0 (length block.objects)) (ap (λ xs. nat_lt 0 (length xs)) is ∙ some_here r raws) ∙ sym (some_more block.objects))

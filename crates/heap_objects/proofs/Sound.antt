-- What follows from the state of a heap's blocks.
use Rattle.std.proofs.Common.{◌≡◌, ◌≢◌, ℕ, zero, suc, ◌+◌, ◌*◌, ◌-◌, ◌/◌, ◌<◌, ◌≤◌, List, [], ◌∷◌, ◌++◌, length, map, set, Option, Some, None, refl, sym, ap, subst, ◌∙◌, arith, ⊎_elim, get_or-set_other, get_or-set_same}
use Rattle.std.proofs.lemmas.Bool.{cases_eq, cases_lt}
use Rattle.std.proofs.lemmas.List.{length-set, length-replicate, map-set}
use Rattle.std.proofs.lemmas.List.Sums.{sum_by_push}
use Rattle.std.proofs.lemmas.Nat.{mul-le}
use Rattle.std.specs.Prelude.{slice_get}
use Rattle.model.specs.Config.{Config}
use Rattle.model.specs.Room.{Room}
use Rattle.model.proofs.Options.{some_is}
use Rattle.layout.specs.Object.{Raw, raw_size}
use Rattle.block_pool.specs.BlockValue.{BlockValue, used_of, new_object}
use Rattle.block_pool.specs.PoolValue.{PoolValue}
use Rattle.steps.specs.HeapValue.{nursery_count}
use Rattle.nursery.specs.Table.{slot_at, AreSmall, IsHeapBlock, AreHeapBlocks, with_more}
use Rattle.nursery.specs.NurseryValue.{NurseryValue, nursery_room, Pushes}
use Rattle.heap_objects.specs.Space.{IsSoundSpace, IsNurseryOf, rooms_of}
use Rattle.nursery.proofs.TableLemmas.{SlotFits, TableFits}
use Rattle.nursery.proofs.TableSteps.{in_list}
use Rattle.nursery.proofs.Nurseries.{same_nursery, same_room}

pub slot_fits : (o : Option BlockValue) → ((b : BlockValue) → o ≡ Some b → used_of b ≤ 512) → SlotFits o
slot_fits None h = tt
slot_fits (Some b) h = h b refl

pub AreSmall-push : (w : ℕ) (raws : List Raw) (raw : Raw) → AreSmall w raws → raw_size raw ≤ w / 4 → AreSmall w (raws ++ raw ∷ [])
AreSmall-push w [] raw each small = (small, tt)
AreSmall-push w (r ∷ raws) raw each small = (each.0, AreSmall-push w raws raw each.1 small)

new_object-size : (p q : ℕ) → raw_size (new_object p q) ≡ 1 + p + q
new_object-size p q = omega (arith, length-replicate {A = ℕ} p 0, length-replicate {A = ℕ} q 0)

-- a mutator's blocks end before those of the next begin
pub below_all : (mutators blocks mutator k : ℕ) → mutator < mutators → k < blocks → mutator * blocks + k < mutators * blocks
below_all mutators blocks mutator k lt in_range =
    let next : (mutator + 1) * blocks ≤ mutators * blocks = mul-le (mutator + 1) blocks mutators blocks (omega arith) (omega arith) in
    let split : (mutator + 1) * blocks ≡ mutator * blocks + blocks = grind arith in
    omega (arith, next, split)

pub apart : (blocks a b i j : ℕ) → a ≢ b → i < blocks → j < blocks → a * blocks + i ≢ b * blocks + j
apart blocks a b i j ne below below' same =
    ⊎_elim
    (λ lt. let h = below_all b blocks a i lt below in absurd (omega (arith, h, same)))
    (λ le. let h = below_all a blocks b j (omega arith) below' in absurd (omega (arith, h, same)))
    (cases_lt a b)

-- two lists of rooms that agree but at one place
rooms-set : (f f' : NurseryValue → Room) (nurseries : List NurseryValue) (m : ℕ) (r : Room) → ((i : ℕ) (n : NurseryValue) → i ≢ m → slice_get nurseries i ≡ Some n → f' n ≡ f n) → set (map f' nurseries) m r ≡ set (map f nurseries) m r
rooms-set f f' [] m r same = refl
rooms-set f f' (n ∷ nurseries) zero r same = ap (λ rooms. r ∷ rooms) (all nurseries (λ i x is. same (suc i) x (λ e. absurd (omega (arith, e))) is))
  where
    all : (xs : List NurseryValue) → ((i : ℕ) (x : NurseryValue) → slice_get xs i ≡ Some x → f' x ≡ f x) → map f' xs ≡ map f xs
    all [] h = refl
    all (x ∷ xs) h = let here : f' x ≡ f x = h 0 x refl in rw here (ap (λ rooms. f x ∷ rooms) (all xs (λ i y is. h (suc i) y is)))
rooms-set f f' (n ∷ nurseries) (suc m) r same =
    let here : f' n ≡ f n = same 0 n (λ e. absurd (omega (arith, e))) refl in
    rw here (ap (λ rooms. f n ∷ rooms) (rooms-set f f' nurseries m r (λ i x ne is. same (suc i) x (λ e. ne (omega (arith, e))) is)))

pub get-set_same : {X : Type 0} (xs : List X) (m : ℕ) (old new : X) → slice_get xs m ≡ Some old → slice_get (set xs m new) m ≡ Some new
get-set_same [] m old new is = absurd (cc)
get-set_same (x ∷ xs) zero old new is = refl
get-set_same (x ∷ xs) (suc m) old new is = get-set_same xs m old new is

pub get-set_other : {X : Type 0} (xs : List X) (m i : ℕ) (new : X) → i ≢ m → slice_get (set xs m new) i ≡ slice_get xs i
get-set_other [] m i new ne = refl
get-set_other (x ∷ xs) zero zero new ne = absurd (ne refl)
get-set_other (x ∷ xs) zero (suc i) new ne = refl
get-set_other (x ∷ xs) (suc m) zero new ne = refl
get-set_other (x ∷ xs) (suc m) (suc i) new ne = get-set_other xs m i new (λ e. ne (ap suc e))

pub get_below : {X : Type 0} (xs : List X) (m : ℕ) (x : X) → slice_get xs m ≡ Some x → m < length xs
get_below [] m x is = absurd (cc)
get_below (y ∷ xs) zero x is = omega arith
get_below (y ∷ xs) (suc m) x is = omega (arith, get_below xs m x is)

module _ (config : Config) (table : List (Option BlockValue)) (nurseries : List NurseryValue) (pool : PoolValue) (sound : IsSoundSpace config table nurseries pool) where
  pub sound_fits : TableFits table
  sound_fits = λ n. slot_fits (slot_at table n) (λ b is. omega (arith, (sound.blocks n b is).fits, sound.in_range.most_words))

  pub sound_blocks : AreHeapBlocks config 0 table
  sound_blocks = λ n block is. let none : 0 + n ≡ n = omega arith in rw none (sound.blocks n block is)

  pub few_blocks : length table ≤ 65535
  few_blocks = omega (arith, sound.short, sound.in_range.most_blocks)

  module _ (mutator : ℕ) (old new : NurseryValue) (at : slice_get nurseries mutator ≡ Some old) (p q place : ℕ) (table' : List (Option BlockValue)) (small : 1 + p + q ≤ config.block_words / 4) (push : Pushes config.block_words old table p q place new table') where
    own : IsNurseryOf config table mutator old
    own = sound.nurseries mutator old at

    pub in_range : mutator < config.mutators
    in_range = omega (arith, get_below nurseries mutator old at, sound.count)

    number_is : push.number ≡ mutator * config.nursery_blocks + (push.number - old.first)
    number_is = omega (arith, own.first, push.from)

    within : push.number - old.first < config.nursery_blocks
    within = omega (arith, own.blocks, push.from, push.below)

    pub is_set_aside : push.number < nursery_count config
    is_set_aside = let h = below_all config.mutators config.nursery_blocks mutator (push.number - old.first) in_range within in omega (arith, h, number_is)

    pub number_in_table : push.number < length table
    number_in_table = in_list table push.number push.block push.there

    pub same_slot : slot_at table' push.number ≡ Some (with_more push.block (new_object p q))
    same_slot = ap (λ t. slot_at t push.number) push.table_is ∙ get_or-set_same table push.number (Some (with_more push.block (new_object p q))) None number_in_table

    pub other_slot : (n : ℕ) → n ≢ push.number → slot_at table' n ≡ slot_at table n
    other_slot n ne = ap (λ t. slot_at t n) push.table_is ∙ get_or-set_other table push.number n (Some (with_more push.block (new_object p q))) None ne

    above : (n : ℕ) → nursery_count config ≤ n → slot_at table' n ≡ slot_at table n
    above n le = other_slot n (λ e. absurd (omega (arith, is_set_aside)))

    used_more : used_of (with_more push.block (new_object p q)) ≡ used_of push.block + (1 + p + q)
    used_more = sum_by_push raw_size push.block.objects (new_object p q) ∙ ap (λ n. used_of push.block + n) (new_object-size p q)

    new_block : IsHeapBlock config push.number (with_more push.block (new_object p q))
    new_block =
        let was = sound.blocks push.number push.block push.there in
        record {
          number_is = was.number_is;
          words = was.words;
          step = was.step;
          fits = omega (arith, used_more, push.fits);
          objects = AreSmall-push config.block_words push.block.objects (new_object p q) was.objects (omega (arith, new_object-size p q));
        }

    -- the other nurseries keep their blocks
    other_nursery : (i : ℕ) (n : NurseryValue) → i ≢ mutator → slice_get nurseries i ≡ Some n → (k : ℕ) → k < n.blocks → slot_at table' (n.first + k) ≡ slot_at table (n.first + k)
    other_nursery i n ne is k lt =
        let theirs = sound.nurseries i n is in
        let here : n.first + k ≡ i * config.nursery_blocks + k = omega (arith, theirs.first) in
        other_slot (n.first + k) (λ e. apart config.nursery_blocks i mutator k (push.number - old.first) ne (omega (arith, theirs.blocks)) within (sym here ∙ e ∙ number_is))

    pub pushed_sound : IsSoundSpace config table' (set nurseries mutator new) pool
    pushed_sound = record {
      in_range = sound.in_range;
      blocks = λ n block is. ⊎_elim
          (λ e. let same : with_more push.block (new_object p q) ≡ block = some_is (sym same_slot ∙ sym (ap (slot_at table') e) ∙ is) in subst (λ m. IsHeapBlock config m block) (sym e) (subst (IsHeapBlock config push.number) same new_block))
          (λ ne. sound.blocks n block (sym (other_slot n ne) ∙ is))
          (cases_eq n push.number);
      short = omega (arith, sound.short, ap length push.table_is, length-set table push.number (Some (with_more push.block (new_object p q))));
      count = length-set nurseries mutator new ∙ sound.count;
      nurseries = λ i n is. ⊎_elim
          (λ e.
          let same : new ≡ n = some_is (sym (get-set_same nurseries mutator old new at) ∙ subst (λ k. slice_get (set nurseries mutator new) k ≡ Some n) e is) in
          rw (sym same, e) (record {
            first = ap (λ x. x.first) push.nursery_is ∙ own.first;
            blocks = ap (λ x. x.blocks) push.nursery_is ∙ own.blocks;
            sound = push.sound;
          }))
          (λ ne.
          let was = sym (get-set_other nurseries mutator i new ne) ∙ is in
          let theirs = sound.nurseries i n was in
          record { first = theirs.first; blocks = theirs.blocks; sound = same_nursery n table table' (other_nursery i n ne was) config.block_words theirs.sound })
          (cases_eq i mutator);
      set_aside = omega (arith, sound.set_aside, ap length push.table_is, length-set table push.number (Some (with_more push.block (new_object p q))));
      young = λ n block lt is. ⊎_elim
          (λ e.
          let same : with_more push.block (new_object p q) ≡ block = some_is (sym same_slot ∙ sym (ap (slot_at table') e) ∙ is) in
          let was = sound.young push.number push.block is_set_aside push.there in
          (sym (ap (λ b. b.generation) same) ∙ was.0, sym (ap (λ b. b.step) same) ∙ was.1))
          (λ ne. sound.young n block lt (sym (other_slot n ne) ∙ is))
          (cases_eq n push.number);
      filled = λ n block le is. sound.filled n block le (sym (above n le) ∙ is);
      limit = sound.limit;
      are_free = λ n free. let was = sound.are_free n free in (was.0, was.1, above n was.0 ∙ was.2);
    }

    pub pushed_rooms : rooms_of (set nurseries mutator new) table' ≡ set (rooms_of nurseries table) mutator (nursery_room new table')
    pushed_rooms =
        map-set (λ n. nursery_room n table') nurseries mutator new
        ∙ rooms-set (λ n. nursery_room n table) (λ n. nursery_room n table') nurseries mutator (nursery_room new table')
        (λ i n ne is. same_room n table table' (other_nursery i n ne is) (sound.nurseries i n is).sound.current)

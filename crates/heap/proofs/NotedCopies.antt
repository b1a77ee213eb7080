-- Copies that are noted.
use Rattle.std.proofs.Common.{◌≡◌, ℕ, ◌+◌, ◌<◌, ◌≤◌, true, All, List, [], ◌∷◌, ◌++◌, length, map, take, get_or, Some, sym, ap, subst, ◌∙◌, arith}
use Rattle.std.proofs.lemmas.List.{append-nil, take_more}
use Rattle.std.proofs.lemmas.List.Elements.{All-nil, All-head, All-tail, All-append}
use Rattle.std.proofs.lemmas.Grind.{flat_map-append}
use Rattle.std.proofs.lemmas.Option.{slice_get-get_or}
use Rattle.std.specs.Prelude.{slice_get}
use Rattle.model.specs.Graph.{Object}
use Rattle.model.specs.Reached.{has}
use Rattle.layout.specs.Object.{Raw}
use Rattle.layout.specs.Place.{small_word}
use Rattle.block_pool.specs.BlockValue.{BlockValue, offset_of}
use Rattle.steps.specs.BlockObjects.{object_of, block_objects, copies_of}
use Rattle.steps.specs.Words.{target_of_word}
use Rattle.heap_objects.proofs.FieldSlots.{length-entries, entry_is}
use Rattle.remembered_set.specs.Sets.{members_of}
use Rattle.heap.specs.Growth.{AreGrown}
use Rattle.heap.specs.Lowest.{MayLeadYounger}
use Rattle.heap.specs.Noted.{IsNoted, IsCopyNoted, AreNoted, IsNotedAt, AreFrom}
use Rattle.heap.proofs.Grown.{grown_has}

pub noted_still : (P : Type 0) (youngest : ℕ) (a b : List (List ℕ)) → AreGrown a b → (e : ℕ × Object) → IsNoted P youngest a e → IsNoted P youngest b e
noted_still P youngest a b grown e noted = λ low high some. grown_has a b grown e.1.generation e.0 (noted low (omega (arith, high, grown.generations)) some)

copy_still : (lowest : ℕ → ℕ) (youngest : ℕ) (a b : List (List ℕ)) → AreGrown a b → (e : ℕ × Object) → IsCopyNoted lowest youngest a e → IsCopyNoted lowest youngest b e
copy_still lowest youngest a b grown e noted = noted_still (MayLeadYounger lowest e.1.generation e.1.pointers) youngest a b grown e noted

pub all_noted_still : (lowest : ℕ → ℕ) (youngest : ℕ) (a b : List (List ℕ)) (es : List (ℕ × Object)) → AreGrown a b → AreNoted lowest youngest a es → AreNoted lowest youngest b es
all_noted_still lowest youngest a b es grown noted = λ k d lt. copy_still lowest youngest a b grown (get_or es k d) (noted k d lt)

pub noted_at_still : (lowest : ℕ → ℕ) (youngest : ℕ) (a b : List (List ℕ)) (block : BlockValue) (k : ℕ) → AreGrown a b → IsNotedAt lowest youngest a block k → IsNotedAt lowest youngest b block k
noted_at_still lowest youngest a b block k grown noted d = copy_still lowest youngest a b grown (get_or (block_objects block.number block) k d) (noted d)

module _ (lowest : ℕ → ℕ) (youngest : ℕ) (sets : List (List ℕ)) (block : BlockValue) (k : ℕ) (raw : Raw) (is : slice_get block.objects k ≡ Some raw) where
  entry : (d : ℕ × Object) → get_or (block_objects block.number block) k d ≡ (small_word block.number 0 + offset_of block.objects k, object_of block.generation block.step raw)
  entry d = entry_is (small_word block.number 0) block.generation block.step block.objects k raw d is

  -- an object without such a pointer
  pub noted_without : (MayLeadYounger lowest block.generation (map target_of_word raw.pointers) → ⊥) → IsNotedAt lowest youngest sets block k
  noted_without none d = subst (IsCopyNoted lowest youngest sets) (sym (entry d)) (λ low high some. absurd (none some))

  pub noted_youngest : block.generation ≤ youngest → IsNotedAt lowest youngest sets block k
  noted_youngest first d = subst (IsCopyNoted lowest youngest sets) (sym (entry d)) (λ low high some. absurd (omega (arith, low, first)))

  pub noted_past : length sets ≤ block.generation → IsNotedAt lowest youngest sets block k
  noted_past past d = subst (IsCopyNoted lowest youngest sets) (sym (entry d)) (λ low high some. absurd (omega (arith, high, past)))

  pub noted_member : (word : ℕ) → word ≡ small_word block.number (offset_of block.objects k) → has (members_of sets block.generation) word ≡ true → IsNotedAt lowest youngest sets block k
  noted_member word at member d =
      let same : word ≡ small_word block.number 0 + offset_of block.objects k = omega (arith, at) in
      subst (IsCopyNoted lowest youngest sets) (sym (entry d)) (λ low high some. subst (λ w. has (members_of sets block.generation) w ≡ true) same member)

-- all objects of a block
pub block_noted : (lowest : ℕ → ℕ) (youngest : ℕ) (sets : List (List ℕ)) (block : BlockValue) (n : ℕ) → length block.objects ≤ n → ((k : ℕ) → k < n → IsNotedAt lowest youngest sets block k) → AreNoted lowest youngest sets (block_objects block.number block)
block_noted lowest youngest sets block n le each = λ k d lt. each k (omega (arith, lt, length-entries (small_word block.number 0) block.generation block.step block.objects, le)) d

pub block_each : (lowest : ℕ → ℕ) (youngest : ℕ) (sets : List (List ℕ)) (block : BlockValue) → ((k : ℕ) (raw : Raw) → slice_get block.objects k ≡ Some raw → IsNotedAt lowest youngest sets block k) → AreNoted lowest youngest sets (block_objects block.number block)
block_each lowest youngest sets block each = λ k d lt.
    let none : Raw = record { pointers = []; plain = [] } in
    each k (get_or block.objects k none) (slice_get-get_or block.objects k none (omega (arith, lt, length-entries (small_word block.number 0) block.generation block.step block.objects))) d

-- the copies with one block more
pub copies_more : (blocks : List BlockValue) (i : ℕ) (block : BlockValue) → i < length blocks → get_or blocks i block ≡ block → copies_of (take (i + 1) blocks) ≡ copies_of (take i blocks) ++ block_objects block.number block
copies_more blocks i block lt is =
    ap copies_of (take_more blocks i block lt)
    ∙ ap (λ x. copies_of (take i blocks ++ x ∷ [])) is
    ∙ flat_map-append (λ x. block_objects x.number x) (take i blocks) (block ∷ [])
    ∙ ap (λ es. copies_of (take i blocks) ++ es) (append-nil (block_objects block.number block))

-- one block more that is noted
pub copies_noted : (lowest : ℕ → ℕ) (youngest : ℕ) (a b : List (List ℕ)) (blocks : List BlockValue) (i : ℕ) (block : BlockValue) → i < length blocks → get_or blocks i block ≡ block → AreGrown a b → AreNoted lowest youngest a (copies_of (take i blocks)) → AreNoted lowest youngest b (block_objects block.number block) → AreNoted lowest youngest b (copies_of (take (i + 1) blocks))
copies_noted lowest youngest a b blocks i block lt is grown so_far here =
    let more = copies_more blocks i block lt is in
    rw more (All-append (IsCopyNoted lowest youngest b) (copies_of (take i blocks)) (block_objects block.number block) (all_noted_still lowest youngest a b (copies_of (take i blocks)) grown so_far) here)

-- a block's objects are of its generation
block_from : (youngest : ℕ) (block : BlockValue) → youngest ≤ block.generation → AreFrom youngest (block_objects block.number block)
block_from youngest block le = λ k d lt.
    let none : Raw = record { pointers = []; plain = [] } in
    let is = entry_is (small_word block.number 0) block.generation block.step block.objects k (get_or block.objects k none) d (slice_get-get_or block.objects k none (omega (arith, lt, length-entries (small_word block.number 0) block.generation block.step block.objects))) in
    subst (λ e. youngest ≤ e.1.generation) (sym is) le

-- one block more that has none of a younger generation
pub copies_from : (a b : ℕ) (blocks : List BlockValue) (i : ℕ) (block : BlockValue) → i < length blocks → get_or blocks i block ≡ block → b ≤ a → b ≤ block.generation → AreFrom a (copies_of (take i blocks)) → AreFrom b (copies_of (take (i + 1) blocks))
copies_from a b blocks i block lt is lower le so_far =
    let more = copies_more blocks i block lt is in
    rw more (All-append (λ e. b ≤ e.1.generation) (copies_of (take i blocks)) (block_objects block.number block) (λ k d low. omega (arith, so_far k d low, lower)) (block_from b block le))

-- no block is of an older generation than the youngest
pub none_older : (lowest : ℕ → ℕ) (youngest : ℕ) (sets : List (List ℕ)) (blocks : List BlockValue) → All (λ b. b.generation ≤ youngest) blocks → AreNoted lowest youngest sets (copies_of blocks)
none_older lowest youngest sets [] none = All-nil (IsCopyNoted lowest youngest sets)
none_older lowest youngest sets (block ∷ blocks) none = All-append (IsCopyNoted lowest youngest sets) (block_objects block.number block) (copies_of blocks)
    (block_each lowest youngest sets block (λ k raw is. noted_youngest lowest youngest sets block k raw is (All-head (λ b. b.generation ≤ youngest) block blocks none)))
    (none_older lowest youngest sets blocks (All-tail (λ b. b.generation ≤ youngest) block blocks none))

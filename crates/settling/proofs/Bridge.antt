-- What the workers bring may be committed.
use Rattle.std.proofs.Common.{◌≡◌, ◌≢◌, ℕ, ◌+◌, ◌<◌, ◌≤◌, Bool, true, false, List, [], ◌∷◌, ◌++◌, length, map, Option, Some, None, refl, sym, ap, subst, ◌∙◌, ◌⊎◌, inl, inr, arith, ⊎_elim, eq-eqb, eqb-true, nat_eq, true≢false}
use Rattle.std.proofs.lemmas.Bool.{cases_eq, cases_lt}
use Rattle.std.proofs.lemmas.List.{get_or_past}
use Rattle.std.proofs.lemmas.List.Elements.{All-nil, All-cons, All-weaker}
use Rattle.std.proofs.lemmas.List.Concat.{flat_map-cons}
use Rattle.std.specs.Prelude.{All, slice_index, slice_index_or, unwrap_or, IsTrue}
use Rattle.std.specs.Option.{option_map, option_map_or}
use Rattle.std.specs.List.{IsDistinct}
use Rattle.std.specs.Ordering.{nat_cmp}
use Rattle.std.specs.FinMap.{find}
use Rattle.model.specs.Graph.{Object, object_at, is_large}
use Rattle.model.specs.Reached.{has}
use Rattle.model.specs.Destination.{dest}
use Rattle.model.specs.Collected.{Renaming, renamed, moved_to}
use Rattle.model.specs.OldSlots.{is_young_name}
use Rattle.model.proofs.NatMap.{find_same, find_other}
use Rattle.model.proofs.Has.{has_head, has_tail}
use Rattle.model.proofs.Same.{apart_from_absent}
use Rattle.layout.specs.declared.place.Place.{Place}
use Rattle.layout.specs.Object.{Raw, raw_size}
use Rattle.layout.specs.Place.{place_word, small_word}
use Rattle.block_pool.specs.BlockValue.{BlockValue}
use Rattle.steps.specs.HeapValue.{HeapValue}
use Rattle.steps.specs.BlockObjects.{block_objects, copies_of, objects_from}
use Rattle.steps.specs.ReportValue.{renaming_of}
use Rattle.steps.specs.CollectedHeap.{IsIn}
use Rattle.steps.specs.CollectionValue.{CollectionValue, young_names}
use Rattle.steps.specs.SettledValue.{IsSettled}
use Rattle.model.proofs.RisingKeys.{same_index, keys-filter_rise}
use Rattle.model.proofs.Finds.{find_all}
use Rattle.steps.proofs.WonNames.{won_as, find-renaming}
use Rattle.workers.specs.Block.{Block, Copy}
use Rattle.workers.specs.Setting.{Setting, setting_of, is_large_name, words_of, destination_number}
use Rattle.workers.specs.Total.{total, one_if, times, wins_of, ones}
use Rattle.workers.specs.Laid.{LaidFrom, words_in}
use Rattle.workers.specs.Joined.{Each, Part, blocks_of, named_in}
use Rattle.workers.specs.Kept.{IsCopy, IsLeft}
use Rattle.scavenge.specs.Named.{named, named_copies, IsWhole}
use Rattle.settling.specs.Brings.{Brings, left_blocks}
use Rattle.settling.proofs.Entries.{Moved, moved_entries, laid_goes}
use Rattle.settling.proofs.Blocks.{Each-zip, total_some, one_if-positive, has_stands}

some_is : {X : Type 0} {x y : X} → Some x ≡ Some y → x ≡ y
some_is e = cc

none_some : {X : Type 0} {x : X} → None ≡ Some x → ⊥
none_some e = cc

-- lists
Each-append : {A : Type 0} (P : A → Type 0) (xs ys : List A) → Each P xs → Each P ys → Each P (xs ++ ys)
Each-append P [] ys h k = k
Each-append P (x ∷ xs) ys h k = (h.0, Each-append P xs ys h.1 k)

Each-map : {A : Type 0} (P Q : A → Type 0) → ((x : A) → P x → Q x) → (xs : List A) → Each P xs → Each Q xs
Each-map P Q k [] h = tt
Each-map P Q k (x ∷ xs) h = (k x h.0, Each-map P Q k xs h.1)

Each-of : {A B : Type 0} (P : B → Type 0) (f : A → B) (xs : List A) → Each P (map f xs) → Each (λ x. P (f x)) xs
Each-of P f [] h = tt
Each-of P f (x ∷ xs) h = (h.0, Each-of P f xs h.1)

All-each : {A : Type 0} (P : A → Type 0) (xs : List A) → Each P xs → All P xs
All-each P [] h = All-nil P
All-each P (x ∷ xs) h = All-cons P x xs h.0 (All-each P xs h.1)

total-append : {A : Type 0} (f : A → ℕ) (xs ys : List A) → total f (xs ++ ys) ≡ total f xs + total f ys
total-append f [] ys = omega arith
total-append f (x ∷ xs) ys = let h : total f (xs ++ ys) ≡ total f xs + total f ys = total-append f xs ys in omega arith

total-map : {A B : Type 0} (f : B → ℕ) (g : A → B) (xs : List A) → total f (map g xs) ≡ total (λ x. f (g x)) xs
total-map f g [] = refl
total-map f g (x ∷ xs) = ap (λ n. f (g x) + n) (total-map f g xs)

find-Each : {X : Type 0} (P : ℕ × X → Type 0) (k : ℕ) (x : X) (es : List (ℕ × X)) → Each P es → find nat_cmp k es ≡ Some x → P (k, x)
find-Each P k x [] h e = absurd (none_some e)
find-Each P k x (y ∷ es) h e =
    ⊎_elim
    (λ (p : k ≡ y.0).
    let v : Some y.1 ≡ Some x = sym (find_same y.0 y.1 es) ∙ ap (λ q. find nat_cmp q ((y.0, y.1) ∷ es)) (sym p) ∙ e in
    subst P (ap (λ q. (q, y.1)) (sym p) ∙ ap (λ z. (k, z)) (some_is v)) h.0)
    (λ n. find-Each P k x es h.1 (sym (find_other k y.0 y.1 es n) ∙ e))
    (cases_eq k y.0)

find_there : {X : Type 0} (k : ℕ) (es : List (ℕ × X)) → 0 < total (λ (e : ℕ × X). one_if (nat_eq e.0 k)) es → (x : X) × (find nat_cmp k es ≡ Some x)
find_there k [] l = absurd (omega arith)
find_there k (y ∷ es) l =
    ⊎_elim
    (λ (p : k ≡ y.0). (y.1, ap (λ q. find nat_cmp q ((y.0, y.1) ∷ es)) p ∙ find_same y.0 y.1 es))
    (λ n.
    let r = find_there k es (rest n (nat_eq y.0 k) refl) in
    (r.0, find_other k y.0 y.1 es n ∙ r.1))
    (cases_eq k y.0)
  where
    rest : k ≢ y.0 → (b : Bool) → nat_eq y.0 k ≡ b → 0 < total (λ (e : ℕ × _). one_if (nat_eq e.0 k)) es
    rest n true e = absurd (n (sym (eqb-true y.0 k e)))
    rest n false e = let z : one_if (nat_eq y.0 k) ≡ 0 = ap one_if e in omega arith

-- numbers that stand once are distinct
distinct_once : (xs : List ℕ) → ((k : ℕ) → times k xs ≤ 1) → IsDistinct nat_eq xs
unfolding IsDistinct
distinct_once [] h = tt
distinct_once (x ∷ xs) h = (
  apart_from_absent x xs (λ y m e. let p : 0 < times y xs = has_stands y xs m in let l : one_if (nat_eq x y) + times y xs ≤ 1 = h y in let o : one_if (nat_eq x y) ≡ 1 = ap one_if (eq-eqb x y e) in absurd (omega arith)),
  distinct_once xs (λ k. let l : one_if (nat_eq x k) + times k xs ≤ 1 = h k in omega arith),
)

times-map : (f : ℕ → ℕ) (k : ℕ) (xs : List ℕ) → times k xs ≤ times (f k) (map f xs)
times-map f k [] = omega arith
times-map f k (x ∷ xs) = let r : times k xs ≤ times (f k) (map f xs) = times-map f k xs in go (nat_eq x k) refl r
  where
    go : (b : Bool) → nat_eq x k ≡ b → times k xs ≤ times (f k) (map f xs) → one_if (nat_eq x k) + times k xs ≤ one_if (nat_eq (f x) (f k)) + times (f k) (map f xs)
    go true e r = let o : one_if (nat_eq (f x) (f k)) ≡ 1 = ap one_if (eq-eqb (f x) (f k) (ap f (eqb-true x k e))) in let p : one_if (nat_eq x k) ≡ 1 = ap one_if e in omega arith
    go false e r = let p : one_if (nat_eq x k) ≡ 0 = ap one_if e in omega arith

-- where a copy lies in its block
pub laid_offsets : (setting : Setting) (number destination offset : ℕ) (cs : List Copy) → LaidFrom setting number destination offset cs → offset + words_in setting cs ≤ 512 → Each (λ (c : Copy). (o : ℕ) × ((o < 512) × (c.place ≡ small_word number o))) cs
laid_offsets setting number destination offset [] h l = tt
laid_offsets setting number destination offset (c ∷ cs) h l =
    let w : 0 < words_of setting c.name = h.0.has_words in
    ((offset, (omega arith, h.0.place)), laid_offsets setting number destination (offset + words_of setting c.name) cs h.1 (omega arith))

module _ (heap : HeapValue) (c : CollectionValue) (workers : ℕ) (f : ℕ → Option ℕ) (parts : List Part) (places : List (Option Place)) (blocks : List BlockValue) (won : List (ℕ × ℕ))
    (b : Brings heap c workers f parts places blocks won) where
  abbrev names : List ℕ
  names = young_names heap.graph c.generation

  abbrev renaming : List (ℕ × ℕ)
  renaming = renaming_of names won

  abbrev setting : Setting
  setting = setting_of heap.graph c.generation heap.config.shape heap.config.block_words workers

  the_renaming : Renaming heap.config.block_words heap.graph c.generation renaming
  the_renaming = subst (Renaming heap.config.block_words heap.graph c.generation) (sym b.won_are) b.kept.renaming

  found : (name : ℕ) → find nat_cmp name renaming ≡ f name
  found name = ap (find nat_cmp name) b.won_are ∙ b.kept.places name

  abbrev IsMoved : ℕ × Object → Type 0
  IsMoved = Moved heap.graph c.generation heap.config.shape heap.config.block_words workers f renaming the_renaming found b.some_step

  left_each : (P : Block → Type 0) (ps : List Part) → Each (λ (p : Part). Each P (blocks_of p.final)) ps → Each P (left_blocks ps)
  left_each P [] h = tt
  left_each P (p ∷ ps) h = Each-append P (blocks_of p.final) (left_blocks ps) h.0 (left_each P ps h.1)

  left_total : (g : Block → ℕ) (ps : List Part) → total g (left_blocks ps) ≡ total (λ (p : Part). total g (blocks_of p.final)) ps
  left_total g [] = refl
  left_total g (p ∷ ps) = total-append g (blocks_of p.final) (left_blocks ps) ∙ ap (λ n. total g (blocks_of p.final) + n) (left_total g ps)

  named_total : (g : Block → ℕ) → total (λ (x : BlockValue). g (named heap.config.shape x)) blocks ≡ total (λ (p : Part). total g (blocks_of p.final)) parts
  named_total g = sym (total-map g (named heap.config.shape) blocks) ∙ ap (total g) b.blocks_are ∙ left_total g parts

  -- what holds of each block
  abbrev IsFine : BlockValue → Type 0
  IsFine x = IsLeft setting f parts (named heap.config.shape x) × IsWhole heap.config.shape heap.config.block_words x

  fine : Each IsFine blocks
  fine =
      Each-zip (λ x. IsLeft setting f parts (named heap.config.shape x)) (IsWhole heap.config.shape heap.config.block_words) blocks
      (Each-of (IsLeft setting f parts) (named heap.config.shape) blocks (subst (Each (IsLeft setting f parts)) (sym b.blocks_are) (left_each (IsLeft setting f parts) parts b.kept.blocks)))
      b.whole

  -- the objects of the blocks are live ones, moved
  block_moved : (x : BlockValue) → IsFine x → Each IsMoved (block_objects x.number x)
  block_moved x h =
      moved_entries heap.graph c.generation heap.config.shape heap.config.block_words workers f renaming the_renaming found b.some_step x.number 0 (x.generation, x.step) x.origins x.objects h.1.destination h.1.noted h.0.copies
      (laid_goes setting x.number (destination_number heap.config.shape (x.generation, x.step)) 0 (named heap.config.shape x).copies h.0.laid.from)

  all_moved : (xs : List BlockValue) → Each IsFine xs → Each IsMoved (copies_of xs)
  all_moved [] h = tt
  all_moved (x ∷ xs) h = subst (Each IsMoved) (sym (flat_map-cons (λ (y : BlockValue). block_objects y.number y) x xs)) (Each-append IsMoved (block_objects x.number x) (copies_of xs) (block_moved x h.0) (all_moved xs h.1))

  moved : Each IsMoved (copies_of blocks)
  moved = all_moved blocks fine

  -- a copy of a name is an object at its place
  module _ (name place : ℕ) (at : f name ≡ Some place) where
    in_entries : (number offset generation step : ℕ) (origins : List ℕ) (raws : List Raw) → Each (IsCopy setting f) (named_copies number offset origins raws)
        → total (λ (k : Copy). one_if (nat_eq k.name name)) (named_copies number offset origins raws) ≤ total (λ (e : ℕ × Object). one_if (nat_eq e.0 place)) (objects_from (small_word number offset) generation step raws)
    in_entries number offset generation step [] raws h = omega arith
    in_entries number offset generation step (o ∷ origins) [] h = omega arith
    in_entries number offset generation step (o ∷ origins) (raw ∷ raws) h =
        let r = in_entries number (offset + raw_size raw) generation step origins raws h.1 in
        let w : small_word number (offset + raw_size raw) ≡ small_word number offset + raw_size raw = omega arith in
        go (nat_eq o name) refl (subst (λ n. total (λ (k : Copy). one_if (nat_eq k.name name)) (named_copies number (offset + raw_size raw) origins raws) ≤ total (λ (e : ℕ × Object). one_if (nat_eq e.0 place)) (objects_from n generation step raws)) w r)
      where
        go : (t : Bool) → nat_eq o name ≡ t → total (λ (k : Copy). one_if (nat_eq k.name name)) (named_copies number (offset + raw_size raw) origins raws) ≤ total (λ (e : ℕ × Object). one_if (nat_eq e.0 place)) (objects_from (small_word number offset + raw_size raw) generation step raws)
            → one_if t + total (λ (k : Copy). one_if (nat_eq k.name name)) (named_copies number (offset + raw_size raw) origins raws) ≤ one_if (nat_eq (small_word number offset) place) + total (λ (e : ℕ × Object). one_if (nat_eq e.0 place)) (objects_from (small_word number offset + raw_size raw) generation step raws)
        go true e r =
            let same : small_word number offset ≡ place = some_is (sym h.0.place ∙ ap f (eqb-true o name e) ∙ at) in
            let u : one_if (nat_eq (small_word number offset) place) ≡ 1 = ap one_if (eq-eqb (small_word number offset) place same) in
            omega arith
        go false e r = omega arith

    in_copies : (xs : List BlockValue) → Each IsFine xs → total (λ (x : BlockValue). named_in name (named heap.config.shape x)) xs ≤ total (λ (e : ℕ × Object). one_if (nat_eq e.0 place)) (copies_of xs)
    in_copies [] h = omega arith
    in_copies (x ∷ xs) h =
        let e : total (λ (q : ℕ × Object). one_if (nat_eq q.0 place)) (copies_of (x ∷ xs)) ≡ total (λ (q : ℕ × Object). one_if (nat_eq q.0 place)) (block_objects x.number x) + total (λ (q : ℕ × Object). one_if (nat_eq q.0 place)) (copies_of xs) =
        ap (total (λ (q : ℕ × Object). one_if (nat_eq q.0 place))) (flat_map-cons (λ (y : BlockValue). block_objects y.number y) x xs) ∙ total-append (λ (q : ℕ × Object). one_if (nat_eq q.0 place)) (block_objects x.number x) (copies_of xs) in
        let r : total (λ (y : BlockValue). named_in name (named heap.config.shape y)) xs ≤ total (λ (q : ℕ × Object). one_if (nat_eq q.0 place)) (copies_of xs) = in_copies xs h.1 in
        let s : named_in name (named heap.config.shape x) ≤ total (λ (q : ℕ × Object). one_if (nat_eq q.0 place)) (block_objects x.number x) = in_entries x.number 0 x.generation x.step x.origins x.objects h.0.0.copies in
        omega arith

    -- a small one stands in some block
    module _ (small : is_large_name setting name ≡ false) where
      stands : total (λ (x : BlockValue). named_in name (named heap.config.shape x)) blocks ≡ 1
      stands =
          let s : total (λ (p : Part). total (named_in name) (blocks_of p.final)) parts + total (λ (p : Part). times name p.final.large_done) parts ≡ 1 = b.kept.stands_once name ∙ ap ones at in
          let z : total (λ (p : Part). times name p.final.large_done) parts ≡ 0 = no_large parts b.kept.large in
          named_total (named_in name) ∙ omega arith
        where
          none : (ns : List ℕ) → Each (λ n. is_large_name setting n ≡ true) ns → times name ns ≡ 0
          none [] h = refl
          none (n ∷ ns) h = go (nat_eq n name) refl (none ns h.1)
            where
              go : (t : Bool) → nat_eq n name ≡ t → times name ns ≡ 0 → one_if (nat_eq n name) + times name ns ≡ 0
              go true e r = absurd (true≢false (sym (subst (λ m. is_large_name setting m ≡ true) (eqb-true n name e) h.0) ∙ small))
              go false e r = let z : one_if (nat_eq n name) ≡ 0 = ap one_if e in omega arith

          no_large : (ps : List Part) → Each (λ (p : Part). Each (λ n. is_large_name setting n ≡ true) p.final.large_done) ps → total (λ (p : Part). times name p.final.large_done) ps ≡ 0
          no_large [] h = refl
          no_large (p ∷ ps) h = let x = none p.final.large_done h.0 in let y = no_large ps h.1 in omega arith

      copy_found : (o : Object) → object_at heap.graph name ≡ Some o → find nat_cmp place (copies_of blocks) ≡ Some (moved_to renaming (dest heap.config.shape (o.generation, o.step)) o)
      copy_found o there =
          let l = in_copies blocks fine in
          let s = stands in
          let x = find_there place (copies_of blocks) (omega arith) in
          let m : IsMoved (place, x.0) = find-Each IsMoved place x.0 (copies_of blocks) moved x.1 in
          let one : m.name ≡ name = one_name m.name (m.placed) in
          let same : m.object ≡ o = some_is (sym m.there ∙ ap (object_at heap.graph) one ∙ there) in
          x.1 ∙ ap Some (m.is ∙ ap (λ (y : Object). moved_to renaming (dest heap.config.shape (y.generation, y.step)) y) same)
        where
          to_place : (n : ℕ) → f n ≡ Some place → renamed renaming n ≡ place
          to_place n e = ap (λ x. unwrap_or x n) (found n ∙ e)

          one_name : (n : ℕ) → f n ≡ Some place → n ≡ name
          one_name n e = the_renaming.one_to_one n name (inl (the_renaming.only_live n place (found n ∙ e))) (inl (the_renaming.only_live name place (found name ∙ at))) (to_place n e ∙ sym (to_place name at))

      in_block : IsIn (map (λ (x : BlockValue). x.number) blocks) place
      in_block =
          let s = stands in
          let x = total_some (λ (x : BlockValue). named_in name (named heap.config.shape x)) (λ x. IsFine x × (has (map (λ (y : BlockValue). y.number) blocks) x.number ≡ true)) blocks
          (Each-zip IsFine (λ x. has (map (λ (y : BlockValue). y.number) blocks) x.number ≡ true) blocks fine (members (λ (y : BlockValue). y.number) blocks)) (omega arith) in
          let w : words_in setting (named heap.config.shape x.0).copies ≤ heap.config.block_words = x.1.0.0.0.laid.within in
          let k = total_some (λ (k : Copy). one_if (nat_eq k.name name)) (λ (k : Copy). IsCopy setting f k × ((o : ℕ) × ((o < 512) × (k.place ≡ small_word x.0.number o)))) (named heap.config.shape x.0).copies
          (Each-zip (IsCopy setting f) (λ (k : Copy). (o : ℕ) × ((o < 512) × (k.place ≡ small_word x.0.number o))) (named heap.config.shape x.0).copies x.1.0.0.0.copies
          (laid_offsets setting x.0.number (named heap.config.shape x.0).destination 0 (named heap.config.shape x.0).copies x.1.0.0.0.laid.from (omega (arith, b.few_words)))) x.1.1 in
          let p : k.0.place ≡ place = some_is (sym k.1.0.0.place ∙ ap f (eqb-true k.0.name name (one_if-positive _ k.1.1)) ∙ at) in
          (x.0.number, (k.1.0.1.0, (k.1.0.1.1.0, sym p ∙ k.1.0.1.1.1, x.1.0.1)))
        where
          members : (g : BlockValue → ℕ) (xs : List BlockValue) → Each (λ x. has (map g xs) (g x) ≡ true) xs
          members g [] = tt
          members g (x ∷ xs) = (has_head (g x) (map g xs), Each-map (λ y. has (map g xs) (g y) ≡ true) (λ y. has (g x ∷ map g xs) (g y) ≡ true) (λ y h. has_tail (g x) (map g xs) (g y) h) xs (members g xs))

  -- numbers and names
  one_number : (m n : ℕ) → m < length names → n < length names → slice_index names m ≡ slice_index names n → m ≡ n
  one_number m n lm ln is = same_index names m n (keys-filter_rise heap.graph.objects (is_young_name heap.graph c.generation)) lm ln is

  in_names : All (λ (e : ℕ × ℕ). e.0 < length names) won
  in_names = All-weaker (λ (e : ℕ × ℕ). e.0 < c.cells) (λ e. e.0 < length names) (λ e lt. omega (arith, b.opened.cells)) won b.numbers

  found_number : (number : ℕ) → number < c.cells → find nat_cmp (slice_index names number) renaming ≡ find nat_cmp number won
  found_number number lt = go (find nat_cmp number won) refl
    where
      none : (x : Option ℕ) → find nat_cmp (slice_index names number) renaming ≡ x → find nat_cmp number won ≡ None → x ≡ None
      none None e n = refl
      none (Some p) e n =
          let w = won_as names won (slice_index names number) p e in
          let l : w.number < length names = find_all (λ m. m < length names) won w.number p in_names w.found in
          let same : w.number ≡ number = one_number w.number number l (omega (arith, b.opened.cells)) w.is in
          absurd (none_some (sym n ∙ ap (λ m. find nat_cmp m won) (sym same) ∙ w.found))

      go : (x : Option ℕ) → find nat_cmp number won ≡ x → find nat_cmp (slice_index names number) renaming ≡ find nat_cmp number won
      go None e = none (find nat_cmp (slice_index names number) renaming) refl e ∙ sym e
      go (Some p) e = find-renaming names won number p one_number in_names (omega (arith, b.opened.cells)) e ∙ sym e

  same_place : (number : ℕ) → option_map place_word (slice_index_or places number None) ≡ find nat_cmp number won
  same_place number =
      ⊎_elim
      (λ (lt : number < c.cells). b.places_are number lt ∙ sym (found (slice_index names number)) ∙ found_number number lt)
      (λ (le : c.cells ≤ number). ap (option_map place_word) (get_or_past places number None (omega (arith, b.places_count))) ∙ sym (past (find nat_cmp number won) refl le))
      (cases_lt number c.cells)
    where
      past : (x : Option ℕ) → find nat_cmp number won ≡ x → c.cells ≤ number → find nat_cmp number won ≡ None
      past None e le = e
      past (Some p) e le = let l : number < c.cells = find_all (λ m. m < c.cells) won number p b.numbers e in absurd (omega arith)

  won_once : IsDistinct nat_eq (map (λ (e : ℕ × ℕ). e.0) won)
  won_once = distinct_once (map (λ (e : ℕ × ℕ). e.0) won) (λ k.
      let a : times k (map (λ (e : ℕ × ℕ). e.0) won) ≤ times (slice_index names k) (map (slice_index names) (map (λ (e : ℕ × ℕ). e.0) won)) = times-map (slice_index names) k (map (λ (e : ℕ × ℕ). e.0) won) in
      let e : times (slice_index names k) (map (slice_index names) (map (λ (q : ℕ × ℕ). q.0) won)) ≡ wins_of (slice_index names k) renaming = as_wins (slice_index names k) won in
      let o : wins_of (slice_index names k) renaming ≡ ones (f (slice_index names k)) = ap (wins_of (slice_index names k)) b.won_are ∙ b.kept.won_once (slice_index names k) in
      let l : ones (f (slice_index names k)) ≤ 1 = ones-le (f (slice_index names k)) in
      omega arith)
    where
      ones-le : (x : Option ℕ) → ones x ≤ 1
      ones-le None = omega arith
      ones-le (Some y) = omega arith

      as_wins : (k : ℕ) (ws : List (ℕ × ℕ)) → times k (map (slice_index names) (map (λ (q : ℕ × ℕ). q.0) ws)) ≡ wins_of k (renaming_of names ws)
      as_wins k [] = refl
      as_wins k (w ∷ ws) = ap (λ n. one_if (nat_eq (slice_index names w.0) k) + n) (as_wins k ws)

  numbers_once : IsDistinct nat_eq (map (λ (x : BlockValue). x.number) blocks)
  numbers_once = distinct_once (map (λ (x : BlockValue). x.number) blocks) (λ k.
      let a : times k (map (λ (x : BlockValue). x.number) blocks) ≡ total (λ (x : BlockValue). one_if (nat_eq x.number k)) blocks = total-map (λ n. one_if (nat_eq n k)) (λ (x : BlockValue). x.number) blocks in
      let e : total (λ (x : BlockValue). one_if (nat_eq x.number k)) blocks ≡ total (λ (p : Part). total (λ (x : Block). one_if (nat_eq x.number k)) (blocks_of p.final)) parts = named_total (λ (x : Block). one_if (nat_eq x.number k)) in
      let l = b.kept.one_block k in
      omega arith)

  on_size : (name place : ℕ) (o : Object) → f name ≡ Some place → object_at heap.graph name ≡ Some o → (P : Type 0) → (is_large_name setting name ≡ false → P) → IsTrue (is_large heap.config.block_words o) ⊎ P
  on_size name place o at there P k = go (is_large heap.config.block_words o) refl
    where
      go : (t : Bool) → is_large heap.config.block_words o ≡ t → IsTrue t ⊎ P
      go true e = inl refl
      go false e = inr (k (ap (λ x. option_map_or (is_large heap.config.block_words) x false) there ∙ e))

  pub settled : IsSettled heap c places blocks won
  settled =
      record {
        opened = b.opened;
        once = won_once;
        numbers = b.numbers;
        places_count = b.places_count;
        same_places = same_place;
        renaming = the_renaming;
        numbers_once = numbers_once;
        were_free = All-each (λ (x : BlockValue). IsTrue (has heap.free x.number)) blocks (Each-map IsFine (λ x. IsTrue (has heap.free x.number)) (λ x h. b.drawn_free x.number h.0.drawn) blocks fine);
        block_words = All-each (λ (x : BlockValue). x.words ≡ heap.config.block_words) blocks (Each-map (IsWhole heap.config.shape heap.config.block_words) (λ x. x.words ≡ heap.config.block_words) (λ x h. h.words) blocks b.whole);
        fresh = λ name o live there.
            let p = the_renaming.all_live name live in
            let at : f name ≡ Some p.0 = sym (found name) ∙ p.1 in
            on_size name p.0 o at there _ (λ small. subst (IsIn (map (λ (x : BlockValue). x.number) blocks)) (sym (ap (λ x. unwrap_or x name) p.1)) (in_block name p.0 at small));
        copies = λ name place o is there. let at : f name ≡ Some place = sym (found name) ∙ is in on_size name place o at there _ (λ small. copy_found name place at small o there);
        no_others = λ place o is. let m : IsMoved (place, o) = find-Each IsMoved place o (copies_of blocks) moved is in (m.name, found m.name ∙ m.placed);
      }

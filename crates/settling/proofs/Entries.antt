-- The objects of a block that a worker leaves are those of live objects, moved.
use Rattle.std.proofs.Common.{◌≡◌, ◌≢◌, ℕ, zero, suc, ◌+◌, ◌-◌, ◌*◌, ◌<◌, ◌≤◌, Bool, true, false, cond, List, [], ◌∷◌, length, map, Option, Some, None, refl, sym, ap, subst, ◌∙◌, arith, ⊎_elim, nat_lt, nat_le, leb-true, le-leb, true≢false}
use Rattle.std.proofs.lemmas.Bool.{cases_eq, cases_lt}
use Rattle.std.proofs.Math.Nat.{mul-le-mul_right}
use Rattle.std.specs.Prelude.{slice_get, unwrap_or}
use Rattle.std.specs.Option.{option_map, option_map_or}
use Rattle.std.specs.Ordering.{nat_cmp}
use Rattle.std.specs.FinMap.{find}
use Rattle.model.specs.Graph.{Graph, Object, object_at}
use Rattle.model.specs.Live.{Live, IsYoung}
use Rattle.model.specs.Reached.{later}
use Rattle.model.specs.Destination.{Shape, dest, oldest}
use Rattle.model.specs.Collected.{Renaming, renamed, moved_to}
use Rattle.model.proofs.LiveLemmas.{Live-young}
use Rattle.layout.specs.Object.{Raw, raw_size}
use Rattle.layout.specs.Place.{small_word}
use Rattle.steps.specs.BlockObjects.{object_of, objects_from}
use Rattle.steps.specs.Words.{target_of_word}
use Rattle.workers.specs.Block.{Copy}
use Rattle.workers.specs.Setting.{Setting, setting_of, is_collected, old_pointers, old_plain, words_of, destination_of, destination_number}
use Rattle.workers.specs.Places.{new_pointer, new_pointers}
use Rattle.workers.specs.Laid.{LaidFrom}
use Rattle.workers.specs.Joined.{Each}
use Rattle.workers.specs.Kept.{IsCopy}
use Rattle.scavenge.specs.Named.{named_copies, IsDestination}

-- a destination's number tells it
pub record InShape (shape : Shape) (at : ℕ × ℕ) : Type 0 where
  pub step : at.1 < shape.steps
  pub first : 0 < oldest shape → 0 < at.0 + at.1
  pub only : oldest shape ≡ 0 → (at.0 ≡ 0) × (at.1 ≡ 0)

dest-in_shape : (shape : Shape) (at : ℕ × ℕ) → 1 ≤ shape.steps → InShape shape (dest shape at)
dest-in_shape shape at some = go (nat_lt at.0 (oldest shape)) refl
  where
    lt : (a b : ℕ) → nat_lt a b ≡ true → a < b
    lt a b e = grind (arith, e)

    inner : (b : Bool) → nat_lt at.1 (shape.steps - 1) ≡ b → at.0 < oldest shape → InShape shape (cond b (at.0, at.1 + 1) (at.0 + 1, 0))
    inner true e l = let s : at.1 < shape.steps - 1 = lt _ _ e in record { step = omega arith; first = λ z. omega arith; only = λ z. absurd (omega arith) }
    inner false e l = record { step = omega arith; first = λ z. omega arith; only = λ z. absurd (omega arith) }

    go : (b : Bool) → nat_lt at.0 (oldest shape) ≡ b → InShape shape (cond b (cond (nat_lt at.1 (shape.steps - 1)) (at.0, at.1 + 1) (at.0 + 1, 0)) (oldest shape, 0))
    go true e = inner (nat_lt at.1 (shape.steps - 1)) refl (lt _ _ e)
    go false e = record { step = omega arith; first = λ z. omega arith; only = λ z. (z, refl) }

-- rows of so many tell their row and column
rows_apart : (s a b c d : ℕ) → b < s → a < c → a * s + b < c * s + d
rows_apart s a b c d l m =
    let h : (a + 1) * s ≤ c * s = mul-le-mul_right s (let k : a + 1 ≤ c = omega arith in k) in
    let e : (a + 1) * s ≡ a * s + s = omega arith in
    omega arith

number_tells : (shape : Shape) (a b : ℕ × ℕ) → InShape shape a → InShape shape b → destination_number shape a ≡ destination_number shape b → a ≡ b
number_tells shape a b ia ib e = on_oldest (oldest shape) refl
  where
    pair : (x y : ℕ × ℕ) → x.0 ≡ y.0 → x.1 ≡ y.1 → x ≡ y
    pair x y p q = ap (λ z. (z, x.1)) p ∙ ap (λ z. (y.0, z)) q

    on_oldest : (o : ℕ) → oldest shape ≡ o → a ≡ b
    on_oldest zero z = let p = ia.only z in let q = ib.only z in pair a b (p.0 ∙ sym q.0) (p.1 ∙ sym q.1)
    on_oldest (suc o) z =
        let pa : 0 < a.0 + a.1 = ia.first (omega arith) in
        let pb : 0 < b.0 + b.1 = ib.first (omega arith) in
        let la : a.1 < shape.steps = ia.step in
        let lb : b.1 < shape.steps = ib.step in
        let na : a.0 ≤ a.0 * shape.steps = rows_least shape.steps a.0 (omega arith) in
        let nb : b.0 ≤ b.0 * shape.steps = rows_least shape.steps b.0 (omega arith) in
        let f : a.0 * shape.steps + a.1 ≡ b.0 * shape.steps + b.1 = omega arith in
        ⊎_elim
        (λ (p : a.0 ≡ b.0). pair a b p (let g : a.0 * shape.steps ≡ b.0 * shape.steps = ap (λ n. n * shape.steps) p in omega arith))
        (λ (n : a.0 ≢ b.0). ⊎_elim
        (λ (l : a.0 < b.0). let h = rows_apart shape.steps a.0 a.1 b.0 b.1 la l in absurd (omega arith))
        (λ (l : b.0 ≤ a.0). let k : b.0 < a.0 = omega arith in let h = rows_apart shape.steps b.0 b.1 a.0 a.1 lb k in absurd (omega arith))
        (cases_lt a.0 b.0))
        (cases_eq a.0 b.0)
      where
        rows_least : (s n : ℕ) → 1 ≤ s → n ≤ n * s
        rows_least (suc s) n l = let e : n * suc s ≡ n + n * s = omega arith in omega arith
        rows_least zero n l = absurd (omega arith)

pub same_destination : (shape : Shape) (a b : ℕ × ℕ) → 1 ≤ shape.steps → IsDestination shape a → IsDestination shape b → destination_number shape a ≡ destination_number shape b → a ≡ b
same_destination shape a b some ia ib e =
    number_tells shape a b (subst (InShape shape) (sym ia.1) (dest-in_shape shape ia.0 some)) (subst (InShape shape) (sym ib.1) (dest-in_shape shape ib.0 some)) e

map_same : {A B : Type 0} (g h : Option A → B) (ps : List (Option A)) → g None ≡ h None → ((i : ℕ) (t : A) → slice_get ps i ≡ Some (Some t) → g (Some t) ≡ h (Some t)) → map g ps ≡ map h ps
map_same g h [] n k = refl
map_same g h (None ∷ ps) n k = ap (λ x. x ∷ map g ps) n ∙ ap (λ xs. h None ∷ xs) (map_same g h ps n (λ i t e. k (suc i) t e))
map_same g h (Some t ∷ ps) n k = ap (λ x. x ∷ map g ps) (k 0 t refl) ∙ ap (λ xs. h (Some t) ∷ xs) (map_same g h ps n (λ i u e. k (suc i) u e))

some_is : {X : Type 0} {x y : X} → Some x ≡ Some y → x ≡ y
some_is e = cc

-- where copies go, and their plain words
pub record Goes (setting : Setting) (destination : ℕ) (c : Copy) : Type 0 where
  pub goes : destination_of setting c.name ≡ destination
  pub plain : c.plain ≡ old_plain setting c.name

pub laid_goes : (setting : Setting) (number destination offset : ℕ) (cs : List Copy) → LaidFrom setting number destination offset cs → Each (Goes setting destination) cs
laid_goes setting number destination offset [] h = tt
laid_goes setting number destination offset (c ∷ cs) h = (record { goes = h.0.goes; plain = h.0.plain }, laid_goes setting number destination (offset + words_of setting c.name) cs h.1)

module _ (graph : Graph) (g : ℕ) (shape : Shape) (block_words workers : ℕ) (f : ℕ → Option ℕ) (places : List (ℕ × ℕ))
    (renaming : Renaming block_words graph g places) (found : (name : ℕ) → find nat_cmp name places ≡ f name) (some : 1 ≤ shape.steps) where
  abbrev pub setting : Setting
  setting = setting_of graph g shape block_words workers

  -- an entry at a live object's new place, which is that object moved
  pub record Moved (e : ℕ × Object) : Type 0 where
    pub name : ℕ
    pub object : Object
    pub placed : f name ≡ Some e.0
    pub there : object_at graph name ≡ Some object
    pub is : e.1 ≡ moved_to places (dest shape (object.generation, object.step)) object

  live_at : (name place : ℕ) → f name ≡ Some place → Live graph g name
  live_at name place e = renaming.only_live name place (found name ∙ e)

  collected-young : (t : ℕ) → is_collected setting t ≡ true → IsYoung graph g t
  collected-young t y = go (object_at graph t) refl y
    where
      go : (o : Option Object) → object_at graph t ≡ o → option_map_or (λ (x : Object). nat_le x.generation g) o false ≡ true → IsYoung graph g t
      go None e y = absurd (true≢false (sym y))
      go (Some o) e y = record { object = o; there = e; young = leb-true _ _ y }

  young-collected : (t : ℕ) → IsYoung graph g t → is_collected setting t ≡ true
  young-collected t y = ap (λ o. option_map_or (λ (x : Object). nat_le x.generation g) o false) y.there ∙ le-leb _ _ y.young

  -- a pointer of a live object is renamed
  pointer_renamed : (name i t : ℕ) (o : Object) → Live graph g name → object_at graph name ≡ Some o → slice_get o.pointers i ≡ Some (Some t) → new_pointer setting f (Some t) ≡ option_map (renamed places) (Some t)
  pointer_renamed name i t o live there at = go (is_collected setting t) refl
    where
      go : (b : Bool) → is_collected setting t ≡ b → cond b (f t) (Some t) ≡ Some (renamed places t)
      go true y =
          let l : Live graph g t = later live (record { i = i; leads = ap (λ x. field i x) there ∙ at; young = collected-young t y }) in
          let p = renaming.all_live t l in
          sym (found t) ∙ p.1 ∙ ap (λ x. Some (unwrap_or x t)) (sym p.1)
        where
          field : ℕ → Option Object → Option (Option ℕ)
          field i None = None
          field i (Some x) = slice_get x.pointers i
      go false y = ap (λ x. Some (unwrap_or x t)) (sym (gone (find nat_cmp t places) refl))
        where
          gone : (x : Option ℕ) → find nat_cmp t places ≡ x → find nat_cmp t places ≡ None
          gone None e = e
          gone (Some p) e = absurd (true≢false (sym (young-collected t (Live-young graph g t (renaming.only_live t p e))) ∙ y))

  moved_copy : (number offset origin : ℕ) (raw : Raw) (at : ℕ × ℕ) → IsDestination shape at → f origin ≡ Some (small_word number offset)
      → map target_of_word raw.pointers ≡ new_pointers setting f origin → destination_of setting origin ≡ destination_number shape at → raw.plain ≡ old_plain setting origin
      → Moved (small_word number offset, object_of at.0 at.1 raw)
  moved_copy number offset origin raw at d e p n q =
      let live : Live graph g origin = live_at origin (small_word number offset) e in
      let y : IsYoung graph g origin = Live-young graph g origin live in
      let o : Object = y.object in
      let w : old_pointers setting origin ≡ o.pointers = ap (λ (x : Option Object). option_map_or (λ (z : Object). z.pointers) x []) y.there in
      let v : old_plain setting origin ≡ o.plain = ap (λ (x : Option Object). option_map_or (λ (z : Object). z.plain) x []) y.there in
      let u : destination_of setting origin ≡ destination_number shape (dest shape (o.generation, o.step)) = ap (λ (x : Option Object). option_map_or (λ (z : Object). destination_number shape (dest shape (z.generation, z.step))) x 0) y.there in
      let same : at ≡ dest shape (o.generation, o.step) = same_destination shape at (dest shape (o.generation, o.step)) some d ((o.generation, o.step), refl) (sym n ∙ u) in
      let pointers : map target_of_word raw.pointers ≡ map (option_map (renamed places)) o.pointers =
      p ∙ ap (map (new_pointer setting f)) w ∙ map_same (new_pointer setting f) (option_map (renamed places)) o.pointers refl (λ i t s. pointer_renamed origin i t o live y.there s)
      in
      record {
        name = origin;
        object = o;
        placed = e;
        there = y.there;
        is = ap (λ ps. made ps raw.plain at.0 at.1) pointers ∙ ap (λ pl. made (map (option_map (renamed places)) o.pointers) pl at.0 at.1) (q ∙ v) ∙ ap (λ (x : ℕ × ℕ). made (map (option_map (renamed places)) o.pointers) o.plain x.0 x.1) same;
      }
    where
      made : List (Option ℕ) → List ℕ → ℕ → ℕ → Object
      made pointers plain generation step = record { pointers = pointers; plain = plain; generation = generation; step = step }

  pub moved_entries : (number offset : ℕ) (at : ℕ × ℕ) (origins : List ℕ) (raws : List Raw) → IsDestination shape at → length origins ≡ length raws
      → Each (IsCopy setting f) (named_copies number offset origins raws) → Each (Goes setting (destination_number shape at)) (named_copies number offset origins raws)
      → Each Moved (objects_from (small_word number offset) at.0 at.1 raws)
  moved_entries number offset at [] [] d l c k = tt
  moved_entries number offset at [] (raw ∷ raws) d l c k = absurd (omega arith)
  moved_entries number offset at (o ∷ origins) [] d l c k = tt
  moved_entries number offset at (o ∷ origins) (raw ∷ raws) d l c k = (
    moved_copy number offset o raw at d c.0.place c.0.pointers k.0.goes k.0.plain,
    let e : small_word number (offset + raw_size raw) ≡ small_word number offset + raw_size raw = omega arith in
        subst (λ w. Each Moved (objects_from w at.0 at.1 raws)) e (moved_entries number (offset + raw_size raw) at origins raws d (omega arith) c.1 k.1),
  )

-- A block whose objects are all small and of one step is one of the heap's.
use Rattle.std.proofs.Common.{◌≡◌, ◌≢◌, ℕ, zero, suc, ◌+◌, ◌/◌, ◌<◌, ◌≤◌, true, false, List, [], ◌∷◌, length, map, get_or, Some, refl, sym, ap, ◌∙◌, arith}
use Rattle.std.proofs.lemmas.Bool.{true≢false}
use Rattle.std.proofs.lemmas.Bool.Decides.{nat_tests}
use Rattle.std.specs.Prelude.{nat_eq}
use Rattle.std.specs.List.{IsDistinct}
use Rattle.std.specs.Ordering.{nat_cmp}
use Rattle.std.specs.FinMap.{find}
use Rattle.model.specs.Graph.{Object}
use Rattle.model.specs.Config.{Config}
use Rattle.model.specs.Destination.{IsStep}
use Rattle.model.specs.Reached.{has}
use Rattle.model.proofs.NatMap.{find_same, find_other}
use Rattle.model.proofs.Has.{has_head, has_tail}
use Rattle.model.proofs.Same.{distinct_absent}
use Rattle.layout.specs.Object.{Raw, raw_size}
use Rattle.block_pool.specs.BlockValue.{BlockValue}
use Rattle.steps.specs.BlockObjects.{object_of, objects_from}
use Rattle.nursery.specs.Installed.{is_installed_at, installed}
use Rattle.nursery.specs.Table.{AreSmall}
use Rattle.steps.specs.Words.{target_of_word}
use Rattle.std.proofs.lemmas.List.{length-map}
use Rattle.model.proofs.Finds.{find_below}
use Rattle.nursery.proofs.TableCensus.{IsHeapObject}
use Rattle.nursery.proofs.TableLemmas.{objects_from-within}
use Rattle.nursery.proofs.Installed.{numbers_of, distinct_rest}
use Rattle.model.proofs.Options.{some_not_none}

-- the step is one of the heap's, where there is an object at all
abbrev pub StandsAt : Config → ℕ → ℕ → List Raw → Type 0
StandsAt config g s [] = Unit {0}
StandsAt config g s (r ∷ raws) = IsStep config.shape (g, s)

pub small_raws : (config : Config) (g s word : ℕ) (raws : List Raw) → ((q : ℕ) (o : Object) → find nat_cmp q (objects_from word g s raws) ≡ Some o → IsHeapObject config o) → AreSmall config.block_words raws × StandsAt config g s raws
small_raws config g s word [] each = (tt, tt)
small_raws config g s word (r ∷ raws) each =
    let here : IsHeapObject config (object_of g s r) = each word (object_of g s r) (find_same word (object_of g s r) (objects_from (word + raw_size r) g s raws)) in
    let same : length (map target_of_word r.pointers) ≡ length r.pointers = length-map r.pointers target_of_word in
    let small : raw_size r ≤ config.block_words / 4 = omega (arith, here.1, same) in
    ((small, (small_raws config g s (word + raw_size r) raws later).0), here.0)
  where
    later : (q : ℕ) (o : Object) → find nat_cmp q (objects_from (word + raw_size r) g s raws) ≡ Some o → IsHeapObject config o
    later q o is =
        let ne : q ≢ word = λ e. some_not_none (sym is ∙ find_below q (word + raw_size r) _ (objects_from (word + raw_size r) g s raws) (objects_from-within (word + raw_size r) g s raws) (omega (arith, e))) in
        each q o (find_other q word (object_of g s r) (objects_from (word + raw_size r) g s raws) ne ∙ is)

-- a block with an object is installed
pub installed_at : (blocks : List BlockValue) (k : ℕ) (d : BlockValue) → IsDistinct nat_eq (numbers_of blocks) → k < length blocks → 0 < length (get_or blocks k d).objects → installed blocks (get_or blocks k d).number ≡ Some (get_or blocks k d)
installed_at [] k d once lt some = absurd (omega arith)
installed_at (b ∷ blocks) zero d once lt some =
    let here : is_installed_at b.number b ≡ true = grind (arith, nat_tests, some) in
    rw here refl
installed_at (b ∷ blocks) (suc k) d once lt some =
    let absent = distinct_absent b.number (numbers_of blocks) once in
    let there = number_there blocks k d (omega arith) in
    let ne : b.number ≢ (get_or blocks k d).number = λ e. true≢false (sym there ∙ ap (has (numbers_of blocks)) (sym e) ∙ absent) in
    let other : is_installed_at (get_or blocks k d).number b ≡ false = grind (arith, nat_tests, ne) in
    rw other (installed_at blocks k d (distinct_rest b.number (numbers_of blocks) once) (omega arith) some)
  where
    number_there : (bs : List BlockValue) (i : ℕ) (e : BlockValue) → i < length bs → has (numbers_of bs) (get_or bs i e).number ≡ true
    number_there [] i e lt = absurd (omega arith)
    number_there (x ∷ bs) zero e lt = has_head x.number (numbers_of bs)
    number_there (x ∷ bs) (suc i) e lt = has_tail x.number (numbers_of bs) (get_or bs i e).number (number_there bs i e (omega arith))

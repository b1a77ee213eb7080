-- Where the objects of blocks stand.
use Rattle.std.proofs.Common.{◌≡◌, ℕ, ◌<◌, List, [], ◌∷◌, Option, Some, None, refl, sym, ◌∙◌, arith}
use Rattle.std.proofs.lemmas.List.Elements.{All-head, All-tail}
use Rattle.std.specs.Prelude.{All}
use Rattle.std.specs.Ordering.{nat_cmp}
use Rattle.std.specs.FinMap.{find}
use Rattle.model.specs.Graph.{Object}
use Rattle.model.proofs.Finds.{find-append, or_else}
use Rattle.model.proofs.Options.{some_not_none}
use Rattle.block_pool.specs.BlockValue.{BlockValue}
use Rattle.steps.specs.BlockObjects.{block_objects, copies_of}
use Rattle.nursery.proofs.Installed.{EachFits}
use Rattle.nursery.proofs.TableLemmas.{found_word}

-- the objects of blocks with low numbers have words below those of large objects
pub copies_low : (blocks : List BlockValue) (q : ℕ) (o : Object) → EachFits blocks → All (λ b. b.number < 65535) blocks → find nat_cmp q (copies_of blocks) ≡ Some o → q < 9223372036854775808
copies_low [] q o fits low is = absurd (some_not_none (sym is))
copies_low (b ∷ blocks) q o fits low is =
    go (copies_low blocks q o fits.1 (All-tail (λ x. x.number < 65535) b blocks low)) (find nat_cmp q (block_objects b.number b)) refl (sym (find-append q (block_objects b.number b) (copies_of blocks)) ∙ is)
  where
    go : (find nat_cmp q (copies_of blocks) ≡ Some o → q < 9223372036854775808) → (first : Option Object) → find nat_cmp q (block_objects b.number b) ≡ first → or_else first (find nat_cmp q (copies_of blocks)) ≡ Some o → q < 9223372036854775808
    go below None none rest = below rest
    go below (Some x) at rest =
        let word = found_word b.number b q x fits.0 at in
        let here : b.number < 65535 = All-head (λ x. x.number < 65535) b blocks low in
        omega (arith, word.high, here)

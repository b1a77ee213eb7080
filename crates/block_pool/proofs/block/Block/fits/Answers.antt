use Rattle.std.proofs.Common.{◌≡◌, ap, arith, length}
use Rattle.std.proofs.lemmas.Bool.{leb-true, le-leb}
use Rattle.block_pool.specs.BlockValue.{words_of}
use Rattle.block_pool.proofs.BlockLemmas.{has_objects}
use Rattle.block_pool.proofs.block.Block.fits.Goals as goal

pub returns : goal.returns
returns g c =
    let used : words_of c.args.self.now.objects ≡ c.self.inside.used =
    (has_objects _ _ _ _ _ _ _ c.self.invariant (ap (λ v. v.objects) c.self.view_is)).used_is
    in
    let words : length c.self.inside.words.items ≡ c.args.self.now.words = ap (λ v. v.words) c.self.view_is in
    (λ e. omega (arith, leb-true _ _ e, c.self.invariant.used_in_words, c.len.ensures), λ h. le-leb _ _ (omega (arith, c.len.ensures)))

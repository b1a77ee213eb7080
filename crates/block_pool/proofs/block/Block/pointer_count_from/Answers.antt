use Rattle.std.proofs.Common.{sym, ap, arith, ◌∙◌}
use Rattle.std.proofs.lemmas.List.{get_or_read}
use Rattle.block_pool.specs.Words.{pointers_of}
use Rattle.block_pool.proofs.BeginLemmas.{Begun, begun}
use Rattle.block_pool.proofs.block.Block.pointer_count_from.Goals as goal

pub index-requires : goal.index-requires
index-requires g c =
    let f : Begun c.self.inside.words.items c.args.offset c.requires.0 = begun _ _ _ _ _ _ c.args.self.now c.args.offset c.requires.0 c.self.invariant (ap (λ v. v.objects) c.self.view_is) c.requires.1 in
    omega (arith, f.pointers.in_words)

pub returns : goal.returns
returns g c = λ raw r.
    let f : Begun c.self.inside.words.items c.args.offset raw = begun _ _ _ _ _ _ c.args.self.now c.args.offset raw c.self.invariant (ap (λ v. v.objects) c.self.view_is) r in
    ap pointers_of (get_or_read c.self.inside.words.items c.args.offset c.index.result.now f.pointers.in_words c.index.ensures 0) ∙ sym f.pointers.count

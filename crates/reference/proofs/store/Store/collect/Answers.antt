use Rattle.std.proofs.Common.{◌≡◌, ◌-◌, length, ap, ◌∙◌}
use Rattle.std.specs.Prelude.{count_by, nat_le}
use Rattle.model.specs.Store.{present, kept_count, freed_count}
use Rattle.model.specs.Text.{collection_line}
use Rattle.reference.proofs.PlainLemmas.{count-young}
use Rattle.reference.proofs.store.Store.collect.Goals as goal

pub returns-clause-line : goal.returns-clause-line
returns-clause-line g c =
    let kept : c.len-2.result ≡ kept_count c.args.self.now c.args.g = c.len-2.ensures ∙ c.in_ok-live.live.ok.0 ∙ ap length c.in_ok-live.ensures in
    let gone : c.len.result ≡ kept_count c.args.self.now c.args.g = c.len.ensures ∙ c.in_ok-live.live.ok.0 ∙ ap length c.in_ok-live.ensures in
    let young = c.young_count.ensures ∙ count-young c.args.g c.args.self.now.objects in
    let freed : c.saturating_sub-freed.result ≡ freed_count c.args.self.now c.args.g = c.saturating_sub-freed.ensures ∙ ap (λ n. n - c.len.result) young ∙ ap (λ n. count_by (λ o. nat_le o.generation c.args.g) (present c.args.self.now) - n) gone in
    c.in_ok-line.ensures ∙ ap (λ n. collection_line c.args.word.now c.args.g n c.saturating_sub-freed.result) kept ∙ ap (collection_line c.args.word.now c.args.g (kept_count c.args.self.now c.args.g)) freed

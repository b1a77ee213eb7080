use Rattle.std.proofs.Common.{length, ap, ◌∙◌}
use Rattle.reference.proofs.PlainLemmas.{same_totals}
use Rattle.reference.proofs.store.Store.census.Goals as goal

pub returns : goal.returns
returns g c =
    c.in_ok-push_totals.ensures
    ∙ same_totals c.in_ok-text.ensures c.count_in-objects.ensures c.words_in-words.ensures (c.len-roots.ensures ∙ c.self.inside.names.ok.0 ∙ ap (λ s. length s.names) c.self.view_is) c.remembered_count-remembered.ensures

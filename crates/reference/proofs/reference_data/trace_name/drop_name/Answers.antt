use Rattle.std.proofs.Common.{rules, not}
use Rattle.std.proofs.lemmas.Fn.{filter_same}
use Rattle.std.specs.Ordering.{nat_cmp, eq_by_cmp}
use Rattle.std.specs.Cmp.Lexicographic.{slice_cmp}
use Rattle.reference.proofs.reference_data.trace_name.drop_name.Goals as goal

pub returns : goal.returns
returns g c = filter_same _ (λ e. not (eq_by_cmp (slice_cmp nat_cmp) c.args.text.now e.0)) _ (λ x b f' k. search rules) _ _ c.retain.ensures.filtered

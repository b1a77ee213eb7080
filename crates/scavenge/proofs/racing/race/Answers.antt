use Rattle.std.proofs.Common.{◌<◌, arith, length, sym, ap, subst, ◌∙◌}
use Rattle.std.specs.Prelude.{slice_index}
use Rattle.heap.specs.CollectionValue.{young_names}
use Rattle.scavenge.proofs.Empty.{on_ok}
use Rattle.scavenge.proofs.racing.race.Goals as goal

pub race_for-requires-clause-known : goal.race_for-requires-clause-known
race_for-requires-clause-known g c =
    let lt : c.number_of-number.result < length (young_names c.args.heap.now.graph c.args.collection.now.generation) = omega (arith, c.number_of-number.ensures.in_range, c.requires.opened.cells) in
    subst (λ names. c.number_of-number.result < length names) (sym c.requires.names) lt

pub race_for-requires-clause-name : goal.race_for-requires-clause-name
race_for-requires-clause-name g c = ap (λ names. slice_index names c.number_of-number.result) c.requires.names ∙ c.number_of-number.ensures.number ∙ c.in-Some.ensures

pub returns-clause-ok : goal.returns-clause-ok
returns-clause-ok g c =
    on_ok c.race_for.result
    (λ r. record {
      outcome = r.outcome;
      bid = r.bid;
      fits = r.fits;
      ends = record { number = c.number_of-number.result; of = record { in_range = c.number_of-number.ensures.in_range; is = c.number_of-number.ensures.number ∙ c.in-Some.ensures }; given = r.given; learns = r.learns; won = r.won };
      worker = r.worker;
    })
    c.race_for.ensures.ok

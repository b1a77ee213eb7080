use Rattle.std.proofs.Common.{◌≡◌, ℕ, List, sym, ap, ◌∙◌}
use Rattle.std.specs.List.{insert}
use Rattle.reference.specs.NamePlace.{place_of}
use Rattle.reference.proofs.NameLemmas.{put-insert}
use Rattle.reference.proofs.reference_data.trace_name.add_name.Goals as goal

pub returns-clause-ok : goal.returns-clause-ok
returns-clause-ok g c =
    let names : List (List ℕ × ℕ) = c.args.names.now.items in
    let place : c.place_of-place.result ≡ place_of c.args.named.0 names = c.place_of-place.ensures.place ∙ ap (λ t. place_of t c.as_slice.result.now) c.text.ensures ∙ ap (place_of c.args.named.0) c.as_slice.ensures.value in
    c.in_ok-insert.ensures.items ∙ ap (λ i. insert names i c.args.named) place ∙ sym (put-insert c.args.named.0 c.args.named.1 names c.requires)

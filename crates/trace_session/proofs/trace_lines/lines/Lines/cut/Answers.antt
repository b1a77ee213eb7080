use Rattle.std.proofs.Common.{◌≡◌, sym, ap, subst, ◌∙◌, ◌++◌, ◌∷◌, drop}
use Rattle.trace_session.specs.Pieces.{HasNoFeed}
use Rattle.trace_session.specs.Lines.{LinesValue}
use Rattle.trace_session.proofs.LineLemmas.{line_there, line_after}
use Rattle.trace_session.proofs.trace_lines.lines.Lines.cut.Goals as goal

pub returns-clause-line : goal.returns-clause-line
returns-clause-line g c = λ _.
    let items = c.self.inside.text.items in
    let start = c.self.inside.start in
    let is : drop start items ≡ c.in-Some.line.now ++ 10 ∷ c.in-Some.field-0-1.now = ap (λ xs. drop start xs) (sym c.as_slice.ensures.value) ∙ sym c.split_at.ensures.back ∙ c.in-Some.ensures.some in
    let line = line_there items start _ _ is in
    let after = line_after items start _ _ is in
    let pending = ap (λ (v : LinesValue). v.pending) c.self.view_is in
    let reads = ap (λ (v : LinesValue). v.reads) c.self.view_is in
    (rw (line, after) (sym pending ∙ is), subst HasNoFeed (sym line) c.in-Some.ensures.first, reads)

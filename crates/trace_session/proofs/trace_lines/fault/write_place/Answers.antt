use Rattle.std.proofs.Common.{◌≡◌, ◌++◌, ℕ, Option, Some, sym, ap, ◌∙◌, codes}
use Rattle.std.specs.Prelude.{decimal}
use Rattle.heap_text.specs.Streams.{Output, AppendsFront}
use Rattle.heap_text.proofs.Streams.{Appends-as, AppendsFront-as, AppendsFront-after, AppendsFront-first, on_err, on_err_too}
use Rattle.trace_session.specs.FaultText.{place_text}
use Rattle.trace_session.proofs.trace_lines.fault.write_place.Goals as goal

of_line : (line : Option ℕ) (number : ℕ) (a b : Output) → line ≡ Some number → AppendsFront a b (place_text (Some number)) → AppendsFront a b (place_text line)
of_line line number a b is front = AppendsFront-as a b (place_text (Some number)) (place_text line) (ap place_text (sym is)) front

pub returns-in_err-write_all-clause-front : goal.returns-in_err-write_all-clause-front
returns-in_err-write_all-clause-front g c =
    on_err _ (of_line _ c.in-Some.line _ _ c.in-Some.is (AppendsFront-first _ _ (codes "line ") (decimal c.in-Some.line ++ codes ": ") c.in_err-write_all.ensures.front))

pub returns-in_err-write_all-2-clause-front : goal.returns-in_err-write_all-2-clause-front
returns-in_err-write_all-2-clause-front g c =
    let digits = AppendsFront-as _ _ _ (decimal c.in-Some.line) (c.as_bytes.ensures.value ∙ c.format.ensures.text) c.in_err-write_all-2.ensures.front in
    on_err _ (of_line _ c.in-Some.line _ _ c.in-Some.is
    (AppendsFront-after _ _ _ (codes "line ") (decimal c.in-Some.line ++ codes ": ") c.in_ok-write_all.ensures.bytes (AppendsFront-first _ _ (decimal c.in-Some.line) (codes ": ") digits)))

pub returns-clause-front : goal.returns-clause-front
returns-clause-front g c =
    let digits = Appends-as _ _ _ (decimal c.in-Some.line) (c.as_bytes.ensures.value ∙ c.format.ensures.text) c.in_ok-write_all-2.ensures.bytes in
    on_err_too _ (λ last. of_line _ c.in-Some.line _ _ c.in-Some.is
    (AppendsFront-after _ _ _ (codes "line ") (decimal c.in-Some.line ++ codes ": ") c.in_ok-write_all.ensures.bytes (AppendsFront-after _ _ _ (decimal c.in-Some.line) (codes ": ") digits last)))
    c.write_all-3.ensures.front

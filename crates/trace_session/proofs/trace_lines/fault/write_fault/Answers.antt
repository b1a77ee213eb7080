use Rattle.std.proofs.Common.{◌++◌, Result, Ok, Err, ap, ◌∙◌, codes}
use Rattle.std.specs.Prelude.{OnOk}
use Rattle.heap_text.proofs.Streams.{Appends-as, Appends-trans, AppendsFront-as, AppendsFront-after, AppendsFront-first, on_err, on_err_too}
use Rattle.trace_session.specs.FaultText.{line_of, place_text, plain_text}
use Rattle.trace_session.proofs.trace_lines.fault.write_fault.Goals as goal

if_ok : {T E : Type 0} {P Q : Type 0} (r : Result T E) → (P → Q) → OnOk r P → OnOk r Q
if_ok (Ok x) f p = f p
if_ok (Err e) f p = tt

pub returns-clause-bytes : goal.returns-clause-bytes
returns-clause-bytes g c =
    let fault = c.args.fault.now in
    let place = Appends-as _ _ _ (place_text (line_of fault)) (ap place_text c.line.ensures) c.in_ok-write_place.ensures.bytes in
    let plain = Appends-as _ _ _ (plain_text fault) (c.as_bytes.ensures.value ∙ c.text.ensures) c.in_ok-write_all-2.ensures.bytes in
    if_ok _
    (λ last. Appends-trans _ _ _ (codes "gctrace: ") (place_text (line_of fault) ++ plain_text fault ++ codes "\n") c.in_ok-write_all.ensures.bytes
    (Appends-trans _ _ _ (place_text (line_of fault) ++ plain_text fault) (codes "\n") (Appends-trans _ _ _ (place_text (line_of fault)) (plain_text fault) place plain) last))
    c.write_all-3.ensures.bytes

pub returns-in_err-write_all-clause-front : goal.returns-in_err-write_all-clause-front
returns-in_err-write_all-clause-front g c =
    let fault = c.args.fault.now in
    on_err _ (AppendsFront-first _ _ (codes "gctrace: ") (place_text (line_of fault) ++ plain_text fault ++ codes "\n") c.in_err-write_all.ensures.front)

pub returns-in_err-write_place-clause-front : goal.returns-in_err-write_place-clause-front
returns-in_err-write_place-clause-front g c =
    let fault = c.args.fault.now in
    let place = AppendsFront-as _ _ _ (place_text (line_of fault)) (ap place_text c.line.ensures) c.in_err-write_place.ensures.front in
    on_err _
    (AppendsFront-after _ _ _ (codes "gctrace: ") (place_text (line_of fault) ++ plain_text fault ++ codes "\n") c.in_ok-write_all.ensures.bytes
    (AppendsFront-first _ _ (place_text (line_of fault) ++ plain_text fault) (codes "\n") (AppendsFront-first _ _ (place_text (line_of fault)) (plain_text fault) place)))

pub returns-in_err-write_all-2-clause-front : goal.returns-in_err-write_all-2-clause-front
returns-in_err-write_all-2-clause-front g c =
    let fault = c.args.fault.now in
    let place = Appends-as _ _ _ (place_text (line_of fault)) (ap place_text c.line.ensures) c.in_ok-write_place.ensures.bytes in
    let plain = AppendsFront-as _ _ _ (plain_text fault) (c.as_bytes.ensures.value ∙ c.text.ensures) c.in_err-write_all-2.ensures.front in
    on_err _
    (AppendsFront-after _ _ _ (codes "gctrace: ") (place_text (line_of fault) ++ plain_text fault ++ codes "\n") c.in_ok-write_all.ensures.bytes
    (AppendsFront-first _ _ (place_text (line_of fault) ++ plain_text fault) (codes "\n") (AppendsFront-after _ _ _ (place_text (line_of fault)) (plain_text fault) place plain)))

pub returns-clause-front : goal.returns-clause-front
returns-clause-front g c =
    let fault = c.args.fault.now in
    let place = Appends-as _ _ _ (place_text (line_of fault)) (ap place_text c.line.ensures) c.in_ok-write_place.ensures.bytes in
    let plain = Appends-as _ _ _ (plain_text fault) (c.as_bytes.ensures.value ∙ c.text.ensures) c.in_ok-write_all-2.ensures.bytes in
    on_err_too _
    (λ last. AppendsFront-after _ _ _ (codes "gctrace: ") (place_text (line_of fault) ++ plain_text fault ++ codes "\n") c.in_ok-write_all.ensures.bytes
    (AppendsFront-after _ _ _ (place_text (line_of fault) ++ plain_text fault) (codes "\n") (Appends-trans _ _ _ (place_text (line_of fault)) (plain_text fault) place plain) last))
    c.write_all-3.ensures.front

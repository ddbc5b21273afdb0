use Rattle.std.proofs.Common.{◌≡◌, ◌∙◌, ap, sym, subst, Some}
use Rattle.std.specs.Fmt.{decimal}
use Rattle.std.specs.Str.{IsUtf8}
use Rattle.std.proofs.lemmas.Bool.Decides.{Decides-eqb}
use Rattle.std.proofs.lemmas.Fmt.{IsAscii-decimal, parse-decimal}
use Rattle.std.proofs.lemmas.Slice.Eq.{slice_eq-Decides}
use Rattle.std.proofs.lemmas.Str.{IsUtf8-from_ascii}
use Rattle.gix_object_lines.proofs.Refusals.{is_text, is_no_text, ok_of}
use Rattle.gix_object_lines.proofs.decimal.read_unsigned.Goals as goal

pub returns-in_err-ok : goal.returns-in_err-ok
returns-in_err-ok c =
    rw c.from_residual.ensures (λ n h e.
    is_no_text c.from_utf8.result _ (IsUtf8 c.args.text.now) _ (sym c.ok.ensures.value ∙ c.in_err-ok.was) c.from_utf8.ensures.cases
    (subst IsUtf8 (sym e) (IsUtf8-from_ascii (decimal n) (IsAscii-decimal n h))))

pub returns-in_err-number : goal.returns-in_err-number
returns-in_err-number c =
    rw c.from_residual-in_err-number.ensures (λ n h e.
    let text = is_text c.from_utf8.result c.in_ok-ok.field-0 c.args.text.now _ _ (sym c.ok.ensures.value ∙ c.in_ok-ok.was) c.from_utf8.ensures.cases in
    let read = ok_of c.parse.result n (parse-decimal 64 n c.in_ok-ok.field-0.now c.parse.result h h (text ∙ e) c.parse.ensures.value.0) in
    let none = c.in_err-number.was in
    cc (read, none, c.ok-2.ensures.value))

pub returns-else-eq : goal.returns-else-eq
returns-else-eq c = λ n h e.
    let text = is_text c.from_utf8.result c.in_ok-ok.field-0 c.args.text.now _ _ (sym c.ok.ensures.value ∙ c.in_ok-ok.was) c.from_utf8.ensures.cases in
    let read = ok_of c.parse.result n (parse-decimal 64 n c.in_ok-ok.field-0.now c.parse.result h h (text ∙ e) c.parse.ensures.value.0) in
    let some : c.ok-2.result ≡ Some c.in_ok-number.number = c.in_ok-number.was in
    let same : c.in_ok-number.number ≡ n = cc (read, some, c.ok-2.ensures.value) in
    let equal = (slice_eq-Decides Decides-eqb _ _ _ c.eq.ensures).1 (c.as_bytes.ensures.value ∙ c.format.ensures.text ∙ ap decimal same ∙ sym e) in
    cc (equal, c.if-eq.false)

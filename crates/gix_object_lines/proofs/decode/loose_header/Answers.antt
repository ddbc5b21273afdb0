use Rattle.std.proofs.Common.{◌∙◌, ap, sym, ◌++◌, arith}
use Rattle.gix_object_lines.specs.Header.{header_text}
use Rattle.gix_object_lines.proofs.Headers.{first_cut, second_cut, whole_text, taken, behind, same_header}
use Rattle.gix_object_lines.proofs.decode.loose_header.Goals as goal

pub returns-in_err-kind-clause-back : goal.returns-in_err-kind-clause-back
returns-in_err-kind-clause-back c = λ kind size content fits is.
    let cut = rw c.in_ok-word.ensures.ok_part at c.split_once.ensures in
    let first = first_cut kind size content _ _ _ is cut.0 cut.1 in
    absurd (c.in_err-kind.ensures kind first.0)

pub returns-in_err-size-clause-back : goal.returns-in_err-size-clause-back
returns-in_err-size-clause-back c = λ kind size content fits is.
    let cut = rw c.in_ok-word.ensures.ok_part at c.split_once.ensures in
    let later = rw c.in_ok-digits.ensures.ok_part at c.split_once-2.ensures in
    let number = rw c.in_err-size.ensures.ok_part at c.read_unsigned.ensures in
    let first = first_cut kind size content _ _ _ is cut.0 cut.1 in
    let second = second_cut size content _ _ _ fits first.1 later.0 later.1 in
    absurd (number size fits second.0)

pub returns-clause-read : goal.returns-clause-read
returns-clause-read c =
    let cut = rw c.in_ok-word.ensures.ok_part at c.split_once.ensures in
    let later = rw c.in_ok-digits.ensures.ok_part at c.split_once-2.ensures in
    let number = rw c.in_ok-size.ensures.ok_part at c.read_unsigned.ensures in
    let whole = whole_text c.in_ok-kind.kind c.in_ok-size.size _ _ _ _ c.in_ok-digits.content.now cut.0 c.in_ok-kind.ensures later.0 number in (
      taken c.in_ok-kind.kind c.in_ok-size.size _ _ whole,
      behind c.in_ok-kind.kind c.in_ok-size.size _ _ whole,
    )

pub returns-clause-back : goal.returns-clause-back
returns-clause-back c = λ kind size content fits is.
    let cut = rw c.in_ok-word.ensures.ok_part at c.split_once.ensures in
    let later = rw c.in_ok-digits.ensures.ok_part at c.split_once-2.ensures in
    let number = rw c.in_ok-size.ensures.ok_part at c.read_unsigned.ensures in
    let first = first_cut kind size content _ _ _ is cut.0 cut.1 in
    let second = second_cut size content _ _ _ fits first.1 later.0 later.1 in
    same_header kind c.in_ok-kind.kind size c.in_ok-size.size c.args.input.now c.in_ok-digits.content.now fits (omega arith)
    (is ∙ ap (λ t. header_text kind size ++ t) (sym second.1)) (sym c.in_ok-kind.ensures ∙ first.0) (sym number ∙ second.0)

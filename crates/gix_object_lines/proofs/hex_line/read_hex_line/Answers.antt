use Rattle.std.proofs.Common.{◌≡◌, ◌∙◌, ap, sym, ◌++◌, ◌∷◌, true, false, append_assoc}
use Rattle.gix_object_lines.specs.HexLine.{is_hex}
use Rattle.gix_object_lines.proofs.HexLines.{behind_space, same_digits, split_whole}
use Rattle.gix_object_lines.proofs.hex_line.read_hex_line.Goals as goal

pub returns-then-not-is_hexadecimal-clause-back : goal.returns-then-not-is_hexadecimal-clause-back
returns-then-not-is_hexadecimal-clause-back c = λ digits rest hex is.
    let word = rw c.in_ok-rest.ensures.ok_part at c.strip_word.ensures in
    let split = rw c.in_ok-digits.ensures.ok_part at c.split_at_checked.ensures.cases in
    let same = same_digits c.args.hex_len _ _ _ digits rest split hex.0 (behind_space c.args.word.now digits rest _ _ is word) in
    let both : false ≡ true = sym c.if-not-is_hexadecimal.true ∙ c.is_hexadecimal.ensures ∙ ap is_hex same.0 ∙ hex.1 in
    cc

pub returns-in-Some-clause-back : goal.returns-in-Some-clause-back
returns-in-Some-clause-back c = λ digits rest hex is.
    let word = rw c.in_ok-rest.ensures.ok_part at c.strip_word.ensures in
    let split = rw c.in_ok-digits.ensures.ok_part at c.split_at_checked.ensures.cases in
    let same = same_digits c.args.hex_len _ _ _ digits rest split hex.0 (behind_space c.args.word.now digits rest _ _ is word) in
    let end : 10 ∷ c.in-Some.rest.now ≡ 10 ∷ rest = sym c.in-Some.ensures ∙ same.1 in
    (same.0, cc)

pub returns-in-None-clause-back : goal.returns-in-None-clause-back
returns-in-None-clause-back c = λ digits rest hex is.
    let word = rw c.in_ok-rest.ensures.ok_part at c.strip_word.ensures in
    let split = rw c.in_ok-digits.ensures.ok_part at c.split_at_checked.ensures.cases in
    let same = same_digits c.args.hex_len _ _ _ digits rest split hex.0 (behind_space c.args.word.now digits rest _ _ is word) in
    c.in-None.ensures rest same.1

pub returns-in-None-clause-refused : goal.returns-in-None-clause-refused
returns-in-None-clause-refused c =
    let word = rw c.in_ok-rest.ensures.ok_part at c.strip_word.ensures in
    let split = rw c.in_ok-digits.ensures.ok_part at c.split_at_checked.ensures.cases in
    let whole = split_whole c.args.hex_len _ _ _ split in
    let digits = c.in_ok-digits.digits.now in
    let rest = c.in_ok-digits.rest.now in (
      digits,
      rest,
      word ∙ ap (λ t. c.args.word.now ++ 32 ∷ t) whole ∙ sym (append_assoc c.args.word.now (32 ∷ digits) rest),
      (split.3, sym c.is_hexadecimal.ensures ∙ c.if-not-is_hexadecimal.false),
      c.in-None.ensures,
    )

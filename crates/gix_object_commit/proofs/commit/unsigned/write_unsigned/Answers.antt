use Rattle.std.proofs.Common.{◌∙◌, ap, map, subst, Ok, Err}
use Rattle.std.proofs.lemmas.Result.{err_from_is_err_and}
use Rattle.gix_object_commit.specs.OwnedText.{own_field}
use Rattle.gix_object_commit.specs.Signing.{unsigned}
use Rattle.gix_object_commit.specs.Writing.{field_piece, message_piece, is_encoding_first}
use Rattle.gix_object_lines.specs.Pieces.{WritesPieces}
use Rattle.gix_object_commit.proofs.OwnCommits.{front_stops, lines_stop, all_written}
use Rattle.gix_object_commit.proofs.OwnPieces.{as_piece}
use Rattle.gix_object_commit.proofs.commit.unsigned.write_unsigned.Goals as goal

pub returns-in_err-write_own_front : goal.returns-in_err-write_own_front
returns-in_err-write_own_front g c =
    let commit = c.args.commit.now in
    let headers = unsigned commit.extra_headers.items in
    let first = c.is_encoding_first_unsigned.ensures ∙ ap (λ xs. is_encoding_first (map own_field (unsigned xs))) c.as_slice-headers.ensures.value in
    let p = err_from_is_err_and c.from_residual.result c.from_residual.ensures.1 in
    rw (p.1, p.2) (front_stops headers commit _ _ c.in_err-write_own_front.field-0.0 (c.in_err-write_own_front.ensures (map own_field headers) first))

pub returns-in_err-write_unsigned_headers : goal.returns-in_err-write_unsigned_headers
returns-in_err-write_unsigned_headers g c =
    let commit = c.args.commit.now in
    let headers = unsigned commit.extra_headers.items in
    let first = c.is_encoding_first_unsigned.ensures ∙ ap (λ xs. is_encoding_first (map own_field (unsigned xs))) c.as_slice-headers.ensures.value in
    let fault = c.in_err-write_unsigned_headers.field-0.0 in
    let p = err_from_is_err_and c.from_residual-in_err-write_unsigned_headers.result c.from_residual-in_err-write_unsigned_headers.ensures.1 in
    let lines = subst (λ xs. WritesPieces {U = Unit {0}} (g.W.Write.contents c.write_own_front.new.out) (g.W.Write.contents c.write_unsigned_headers.new.out) (map field_piece (map own_field (unsigned xs))) (Err fault)) c.as_slice-headers.ensures.value c.in_err-write_unsigned_headers.ensures in
    rw (p.1, p.2) (lines_stop headers commit _ _ _ fault (c.in_ok-write_own_front.ensures (map own_field headers) first) lines)

pub returns : goal.returns
returns g c =
    let commit = c.args.commit.now in
    let headers = unsigned commit.extra_headers.items in
    let r = c.write_message.result in
    let first = c.is_encoding_first_unsigned.ensures ∙ ap (λ xs. is_encoding_first (map own_field (unsigned xs))) c.as_slice-headers.ensures.value in
    let lines = subst (λ xs. WritesPieces {U = Unit {0}} (g.W.Write.contents c.write_own_front.new.out) (g.W.Write.contents c.write_unsigned_headers.new.out) (map field_piece (map own_field (unsigned xs))) (Ok tt)) c.as_slice-headers.ensures.value c.in_ok-write_unsigned_headers.ensures in
    let message = as_piece _ _ (message_piece _) (message_piece commit.message) r (ap message_piece c.as_bstr.ensures) c.write_message.ensures in
    all_written headers commit _ _ _ _ r (c.in_ok-write_own_front.ensures (map own_field headers) first) lines message

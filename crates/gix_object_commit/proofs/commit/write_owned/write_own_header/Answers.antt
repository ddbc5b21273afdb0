use Rattle.std.proofs.Common.{refl, Err}
use Rattle.std.proofs.lemmas.Result.{err_from_is_err_and}
use Rattle.gix_object_commit.specs.Commit.{folded}
use Rattle.gix_object_commit.specs.OwnedText.{own_field}
use Rattle.gix_object_commit.specs.Writing.{field_piece}
use Rattle.gix_object_commit.proofs.OwnPieces.{as_piece, front_stops, text_stops, line_ends}
use Rattle.gix_object_commit.proofs.OwnTexts.{header_piece_is}
use Rattle.gix_object_commit.proofs.commit.write_owned.write_own_header.Goals as goal

pub returns-in_err-write_piece : goal.returns-in_err-write_piece
returns-in_err-write_piece g c =
    let p = err_from_is_err_and c.from_residual.result c.from_residual.ensures.1 in
    let header = c.args.header.now in
    let name = c.as_bytes-name.result.now in
    let e = c.in_err-write_piece.field-0.0 in
    let is = header_piece_is header name header.value c.is_name.result c.unless.result c.as_bytes-name.ensures refl c.unless.ensures c.is_name.ensures in
    rw (p.1, p.2) (as_piece _ _ _ (field_piece (own_field header)) (Err e) is
    (front_stops name (folded header.value) c.unless.result _ _ e c.in_err-write_piece.ensures))

pub returns-in_err-write_folded : goal.returns-in_err-write_folded
returns-in_err-write_folded g c =
    let p = err_from_is_err_and c.from_residual-in_err-write_folded.result c.from_residual-in_err-write_folded.ensures.1 in
    let header = c.args.header.now in
    let name = c.as_bytes-name.result.now in
    let value = c.as_bytes.result.now in
    let e = c.in_err-write_folded.field-0.0 in
    let is = header_piece_is header name value c.is_name.result c.unless.result c.as_bytes-name.ensures c.as_bytes.ensures c.unless.ensures c.is_name.ensures in
    rw (p.1, p.2) (as_piece _ _ _ (field_piece (own_field header)) (Err e) is
    (text_stops name (folded value) c.unless.result _ _ _ e c.in_ok-write_piece.ensures c.in_err-write_folded.ensures))

pub returns : goal.returns
returns g c =
    let header = c.args.header.now in
    let name = c.as_bytes-name.result.now in
    let value = c.as_bytes.result.now in
    let r = c.write_piece-2.result in
    let is = header_piece_is header name value c.is_name.result c.unless.result c.as_bytes-name.ensures c.as_bytes.ensures c.unless.ensures c.is_name.ensures in
    as_piece _ _ _ (field_piece (own_field header)) r is
    (line_ends name (folded value) c.unless.result _ _ _ _ r c.in_ok-write_piece.ensures c.in_ok-write_folded.ensures c.write_piece-2.ensures)

use Rattle.std.proofs.Common.{ap, Ok, Err, [], ◌<◌, length, arith}
use Rattle.std.proofs.lemmas.Result.{err_from_is_err_and}
use Rattle.gix_object_commit.specs.OwnedText.{own_field}
use Rattle.gix_object_commit.specs.Writing.{field_piece}
use Rattle.gix_object_lines.proofs.Pieces.{loop_stop, loop_more}
use Rattle.gix_object_commit.proofs.OwnPieces.{as_piece}
use Rattle.gix_object_commit.proofs.commit.write_owned.write_own_header_lines.Goals as goal

pub returns-in_err-write_own_header : goal.returns-in_err-write_own_header
returns-in_err-write_own_header g c =
    let p = err_from_is_err_and c.from_residual.result c.from_residual.ensures.1 in
    let below : c.loop-header.header-index < length c.args.headers.now = omega arith in
    let header = c.header-item.result in
    let e = c.in_err-write_own_header.field-0.0 in
    let here = as_piece _ _ (field_piece (own_field header)) _ (Err e) (ap (λ h. field_piece (own_field h)) c.header-item.is) c.in_err-write_own_header.ensures in
    rw (p.1, p.2) (loop_stop [] field_piece own_field c.args.headers.now c.loop-header.header-index header below _ _ _ e c.loop-header.invariant here)

pub loop-header-preserved : goal.loop-header-preserved
loop-header-preserved g c =
    let below : c.loop-header.header-index < length c.args.headers.now = omega arith in
    let header = c.header-item.result in
    let here = as_piece _ _ (field_piece (own_field header)) _ (Ok tt) (ap (λ h. field_piece (own_field h)) c.header-item.is) c.in_ok-write_own_header.ensures in
    loop_more [] field_piece own_field c.args.headers.now c.loop-header.header-index header below _ _ _ c.loop-header.invariant here

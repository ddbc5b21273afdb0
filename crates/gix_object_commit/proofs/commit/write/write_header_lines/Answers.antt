use Rattle.std.proofs.Common.{[], ◌<◌, length, arith}
use Rattle.std.proofs.lemmas.Result.{err_from_is_err_and}
use Rattle.gix_object_commit.specs.LineViews.{field_of}
use Rattle.gix_object_commit.specs.Writing.{field_piece}
use Rattle.gix_object_lines.proofs.Pieces.{loop_stop, loop_more}
use Rattle.gix_object_commit.proofs.commit.write.write_header_lines.Goals as goal

pub returns-in_err-write_header : goal.returns-in_err-write_header
returns-in_err-write_header g c =
    let p = err_from_is_err_and c.from_residual.result c.from_residual.ensures.1 in
    let below : c.loop-header.header-index < length c.args.headers.now = omega arith in
    rw (p.1, p.2) (loop_stop [] field_piece field_of c.args.headers.now c.loop-header.header-index _ below _ _ _ c.in_err-write_header.field-0.0 c.loop-header.invariant c.in_err-write_header.ensures)

pub loop-header-preserved : goal.loop-header-preserved
loop-header-preserved g c =
    let below : c.loop-header.header-index < length c.args.headers.now = omega arith in
    loop_more [] field_piece field_of c.args.headers.now c.loop-header.header-index _ below _ _ _ c.loop-header.invariant c.in_ok-write_header.ensures

use Rattle.std.proofs.Common.{[], ◌<◌, length, arith}
use Rattle.bstr.specs.declared.bstr.BStr.{BStr}
use Rattle.gix_object_commit.specs.declared.header.HeaderRef.{HeaderRef}
use Rattle.gix_object_commit.specs.LineViews.{field_of}
use Rattle.gix_object_commit.specs.Writing.{field_piece}
use Rattle.gix_object_lines.proofs.Pieces.{loop_less}
use Rattle.gix_object_commit.proofs.commit.write.add_header_lines.Goals as goal

pub returns-in_err-total : goal.returns-in_err-total
returns-in_err-total c =
    let below : c.loop-header.header-index < length c.args.headers.now = omega arith in
    let text : BStr = record { bytes = record { ref_ptr = (0, 0); now = [] } } in
    let none : HeaderRef = record { name = text; value = text } in
    rw c.from_residual.ensures (omega (arith, loop_less [] field_piece field_of c.args.headers.now c.loop-header.header-index none below, c.loop-header.invariant, c.in_err-total.ensures))

use Rattle.std.proofs.Common.{ap, [], ◌<◌, length, arith}
use Rattle.gix_object_commit.specs.Commit.{field_text}
use Rattle.gix_object_commit.specs.OwnedText.{own_field}
use Rattle.gix_object_commit.specs.Writing.{field_piece}
use Rattle.gix_object_lines.proofs.Pieces.{loop_less}
use Rattle.gix_object_commit.proofs.commit.write_owned.add_own_header_lines.Goals as goal

pub returns-in_err-total : goal.returns-in_err-total
returns-in_err-total c =
    let below : c.loop-header.header-index < length c.args.headers.now = omega arith in
    let header = c.header-item.result in
    let here = ap (λ h. length (field_text (own_field h))) c.header-item.is in
    rw c.from_residual.ensures (omega (arith, loop_less [] field_piece own_field c.args.headers.now c.loop-header.header-index header below, c.loop-header.invariant, c.in_err-total.ensures, here))

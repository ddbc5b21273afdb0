use Rattle.std.proofs.Common.{Ok, Err, [], ◌∷◌, ◌<◌, length, subst, arith}
use Rattle.std.proofs.lemmas.Result.{err_from_is_err_and}
use Rattle.gix_object_lines.specs.Pieces.{WritesPieces}
use Rattle.gix_object_commit.proofs.UnsignedLines.{unsigned_lines, unsigned_stop, unsigned_more}
use Rattle.gix_object_commit.proofs.commit.unsigned.write_unsigned_headers.Goals as goal

pub returns-in_err-write_unless_signature : goal.returns-in_err-write_unless_signature
returns-in_err-write_unless_signature g c =
    let p = err_from_is_err_and c.from_residual.result c.from_residual.ensures.1 in
    let below : c.loop-header.header-index < length c.args.headers.now = omega arith in
    let e = c.in_err-write_unless_signature.field-0.0 in
    let here = subst (λ h. WritesPieces {U = Unit {0}} (g.W.Write.contents c.loop-header.out) (g.W.Write.contents c.write_unless_signature.new.out) (unsigned_lines (h ∷ [])) (Err e)) c.header-item.is c.in_err-write_unless_signature.ensures in
    rw (p.1, p.2) (unsigned_stop c.args.headers.now c.loop-header.header-index c.header-item.result below _ _ _ e c.loop-header.invariant here)

pub loop-header-preserved : goal.loop-header-preserved
loop-header-preserved g c =
    let below : c.loop-header.header-index < length c.args.headers.now = omega arith in
    let here = subst (λ h. WritesPieces {U = Unit {0}} (g.W.Write.contents c.loop-header.out) (g.W.Write.contents c.write_unless_signature.new.out) (unsigned_lines (h ∷ [])) (Ok tt)) c.header-item.is c.in_ok-write_unless_signature.ensures in
    unsigned_more c.args.headers.now c.loop-header.header-index c.header-item.result below _ _ _ c.loop-header.invariant here

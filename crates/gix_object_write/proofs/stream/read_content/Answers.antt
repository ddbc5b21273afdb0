use Rattle.std.proofs.Common.{◌∙◌, ap, sym, subst, zero-add, ◌+◌, ◌++◌, [], length, length-append, arith}
use Rattle.std.proofs.lemmas.Result.{err_from_is_err_and}
use Rattle.std.specs.Io.KnownBytes.{Consumes}
use Rattle.std.proofs.KnownBytes.{Consumes-nil, Consumes-trans}
use Rattle.gix_object_write.proofs.stream.read_content.Goals as goal

pub pieces-init : goal.pieces-init
pieces-init g c =
    let items = c.new-content.ensures.items in
    let left = g.R.Read.remaining c.args.from.now in record {
      count = ap (λ xs. length xs + c.args.size) items ∙ zero-add c.args.size;
      read = subst (λ xs. Consumes left left xs) (sym items) (Consumes-nil left);
    }

pub pieces-preserved : goal.pieces-preserved
pieces-preserved g c =
    let items = c.in_ok-extend_from_slice.ensures.items in
    let before = g.R.Read.remaining c.args.from.now in
    let after = g.R.Read.remaining c.read_piece.new.from in
    let some = c.in_ok-bytes.ensures.some in record {
      count = omega (arith, ap length {y = c.pieces.content.items ++ c.in_ok-bytes.bytes.now} items, length-append c.pieces.content.items c.in_ok-bytes.bytes.now, c.pieces.invariant.count, some.1, c.min-wanted.ensures);
      read = subst (λ xs. Consumes before after xs) {x = c.pieces.content.items ++ c.in_ok-bytes.bytes.now} (sym items) (Consumes-trans before _ after _ _ c.pieces.invariant.read some.2);
    }

pub returns-in_err-bytes-clause-refused : goal.returns-in_err-bytes-clause-refused
returns-in_err-bytes-clause-refused g c =
    let p = err_from_is_err_and c.from_residual.result c.from_residual.ensures.1 in
    let none = c.in_err-bytes.ensures.none in
    let content = c.pieces.content.items in
    rw (p.1, p.2, none.0) (content ++ [], omega (arith, length-append content [], c.pieces.invariant.count), Consumes-trans _ _ _ _ _ c.pieces.invariant.read none.1)

pub returns-in_err-extend_from_slice-clause-refused : goal.returns-in_err-extend_from_slice-clause-refused
returns-in_err-extend_from_slice-clause-refused g c =
    let p = err_from_is_err_and c.from_residual-in_err-extend_from_slice.result c.from_residual-in_err-extend_from_slice.ensures.1 in
    let some = c.in_ok-bytes.ensures.some in
    let content = c.pieces.content.items in
    let bytes = c.in_ok-bytes.bytes.now in
    rw (p.1, p.2) (
      content ++ bytes,
      omega (arith, length-append content bytes, c.pieces.invariant.count, some.1, c.min-wanted.ensures),
      Consumes-trans _ _ _ _ _ c.pieces.invariant.read some.2,
    )

pub returns-clause-read : goal.returns-clause-read
returns-clause-read g c = record { count = omega (arith, c.pieces.invariant.count); read = c.pieces.invariant.read }

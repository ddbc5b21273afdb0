use Rattle.std.proofs.Common.{arith}
use Rattle.gix_ref_file.specs.Tree.{bytes_at}
use Rattle.history_model.specs.Places.{file_at, packed_place}
use Rattle.history_check_names.proofs.LongLines.{front_bad, long_lines, no_longer, none_long}
use Rattle.history_check_names.proofs.Sizes.{size_told}
use Rattle.history_check_names.proofs.packed_pieces.test_long_packed.Goals as goal

pub lines_end-requires : goal.lines_end-requires
lines_end-requires g c = λ honest. size_told (file_at (g.F.Files.history c.args.files.now).tree packed_place) c.in-Some.len (rw c.in-Some.is at (c.in_ok-len.ensures.found honest))

pub returns-in_default-clause-tested : goal.returns-in_default-clause-tested
returns-in_default-clause-tested g c = λ honest. none_long c.args.kind (file_at (g.F.Files.history c.args.files.now).tree packed_place) (rw c.in_default.is at (c.in_ok-len.ensures.found honest))

pub returns-then-len-le-MAX_PIECE-clause-tested : goal.returns-then-len-le-MAX_PIECE-clause-tested
returns-then-len-le-MAX_PIECE-clause-tested g c = λ honest.
    let tree = (g.F.Files.history c.args.files.now).tree in
    no_longer c.args.kind (bytes_at tree packed_place) c.in-Some.len (size_told (file_at tree packed_place) c.in-Some.len (rw c.in-Some.is at (c.in_ok-len.ensures.found honest))) c.if-len-le-MAX_PIECE.true

pub returns-then-end-len-clause-tested : goal.returns-then-end-len-clause-tested
returns-then-end-len-clause-tested g c = λ honest.
    let tree = (g.F.Files.history c.args.files.now).tree in
    long_lines c.args.kind (bytes_at tree packed_place) c.in-Some.len c.in_ok-end.end _ (size_told (file_at tree packed_place) c.in-Some.len (rw c.in-Some.is at (c.in_ok-len.ensures.found honest)))
    c.if-end-len.true (c.in_ok-next_number.ensures.good honest) (c.in_ok-end.ensures.found honest)

pub returns-clause-wrong : goal.returns-clause-wrong
returns-clause-wrong g c = λ honest.
    let tree = (g.F.Files.history c.args.files.now).tree in
    front_bad c.args.kind (bytes_at tree packed_place) c.in-Some.len c.in_ok-end.end c.in_ok-number.number (size_told (file_at tree packed_place) c.in-Some.len (rw c.in-Some.is at (c.in_ok-len.ensures.found honest)))
    (c.in_ok-end.ensures.found honest) (λ same. absurd (omega (arith, same, c.if-end-len.false))) (c.in_ok-number.ensures.good honest)

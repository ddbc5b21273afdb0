use Rattle.std.proofs.Common.{◌≡◌, ◌+◌, ◌^◌, ◌≤◌, subst, length, arith}
use Rattle.std.specs.Prelude.{MatchOption}
use Rattle.gix_object_commit.specs.Commit.{commit_text}
use Rattle.gix_object_commit.specs.Writing.{message_pieces}
use Rattle.gix_object_lines.specs.Pieces.{pieces_text}
use Rattle.gix_object_commit.specs.Views.{parts_of}
use Rattle.gix_object_commit.proofs.Commits.{length_is}
use Rattle.gix_object_commit.proofs.commit.write.CommitRefWriteTo.size.Goals as goal

pub returns-in_err-total : goal.returns-in_err-total
returns-in_err-total c = rw c.from_residual.ensures (omega (arith, length_is (parts_of c.args.self.now), c.in_err-total.ensures))

pub returns-in_err-total-2 : goal.returns-in_err-total-2
returns-in_err-total-2 c = rw c.from_residual-in_err-total-2.ensures (omega (arith, length_is (parts_of c.args.self.now), c.in_ok-total.ensures, c.in_err-total-2.ensures))

pub returns-in_err-total-3 : goal.returns-in_err-total-3
returns-in_err-total-3 c = rw c.from_residual-in_err-total-3.ensures (omega (arith, length_is (parts_of c.args.self.now), c.in_ok-total.ensures, c.in_ok-total-2.ensures, c.in_err-total-3.ensures))

pub returns-in_err-total-4 : goal.returns-in_err-total-4
returns-in_err-total-4 c = rw c.from_residual-in_err-total-4.ensures (omega (arith, length_is (parts_of c.args.self.now), c.in_ok-total.ensures, c.in_ok-total-2.ensures, c.in_ok-total-3.ensures, c.in_err-total-4.ensures))

pub returns-in_err-total-5 : goal.returns-in_err-total-5
returns-in_err-total-5 c = rw c.from_residual-in_err-total-5.ensures (omega (arith, length_is (parts_of c.args.self.now), c.in_ok-total.ensures, c.in_ok-total-2.ensures, c.in_ok-total-3.ensures, c.in_ok-total-4.ensures, c.in_err-total-5.ensures))

pub returns : goal.returns
returns c =
    let parts = parts_of c.args.self.now in
    let sum : c.in_ok-total-5.total + length (pieces_text (message_pieces parts)) ≡ length (commit_text parts) =
    omega (arith, length_is parts, c.in_ok-total.ensures, c.in_ok-total-2.ensures, c.in_ok-total-3.ensures, c.in_ok-total-4.ensures, c.in_ok-total-5.ensures) in
    subst (λ n. MatchOption c.add_message.result (2 ^ 64 ≤ n) (λ total. total ≡ n)) sum c.add_message.ensures

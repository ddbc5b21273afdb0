use Rattle.std.proofs.Common.{◌≡◌, ◌∙◌, sym, ap, take, arith}
use Rattle.gix_ref_way.proofs.Above.{above_slash}
use Rattle.gix_ref_way.proofs.FilesBelow.{one_passed, all_passed, no_file_at}
use Rattle.gix_ref_way.proofs.files.has_file_above.Goals as goal
use Rattle.gix_ref_way.proofs.files.has_file_above.Goals.{then-byte-eq47+in_ok-is_file+else-branch, else-byte-eq47}

pub loop-end-init : goal.loop-end-init
loop-end-init g c = λ honest place above below. absurd (omega (arith, below))

pub returns-then-branch-clause-found : goal.returns-then-branch-clause-found
returns-then-branch-clause-found g c = λ honest.
    let path = c.args.path.now in
    let end = c.loop-end.end in
    (take end path, above_slash path end c.loop-end-test.true c.if-byte-eq47.true, sym (c.in_ok-is_file.ensures.found honest) ∙ c.if-branch.true)

pub loop-end-preserved : goal.loop-end-preserved
loop-end-preserved g c = λ honest.
    let tree = (g.F.Files.history c.args.files.now).tree in
    one_passed c.loop-end.end c.args.path.now tree (c.loop-end.invariant honest) (λ slash. elim c.if-byte-eq47.branch [
      | then-byte-eq47+in_ok-is_file+else-branch w ↦ no_file_at tree (take c.loop-end.end c.args.path.now) (sym w.if-branch.false ∙ w.in_ok-is_file.ensures.found honest)
      | else-byte-eq47 w ↦ absurd (w.if-byte-eq47.false slash)
    ])

pub returns-clause-found : goal.returns-clause-found
returns-clause-found g c = λ honest. all_passed c.loop-end.end c.args.path.now (g.F.Files.history c.args.files.now).tree (omega (arith, c.loop-end-test.false)) (c.loop-end.invariant honest)

use Rattle.std.proofs.Common.{◌≡◌, ◌∙◌, arith, false, sym, take}
use Rattle.history_check_names.specs.Packed.{has_name}
use Rattle.gix_ref_way.proofs.Above.{above_slash}
use Rattle.history_check_names.proofs.Folders.{all_passed, is_below_it, one_passed}
use Rattle.history_check_names.proofs.Told.{collision_of}
use Rattle.history_check_names.proofs.file.test_apart.Goals as goal
use Rattle.history_check_names.proofs.file.test_apart.Goals.{then-byte-eq47+in_ok-name_exists+else-branch, else-byte-eq47}

pub loop-end-init : goal.loop-end-init
loop-end-init g c = λ kind honest reads place above below. absurd (omega (arith, below))

pub returns-clause-apart : goal.returns-clause-apart
returns-clause-apart g c = λ kind honest reads. all_passed (λ place. has_name kind (g.F.Files.history c.args.files.now).tree place ≡ false) c.loop-end.end c.args.name.now (omega (arith, c.loop-end-test.false)) (c.loop-end.invariant kind honest reads)

pub returns-then-branch-clause-collides : goal.returns-then-branch-clause-collides
returns-then-branch-clause-collides g c = λ kind honest reads.
    let place = take c.loop-end.end c.args.name.now in
    collision_of g.F.Files.reading_may_fail kind (g.F.Files.history c.args.files.now).tree place c.args.name.now c.collision.result c.collision.ensures
    (is_below_it place c.args.name.now (above_slash c.args.name.now c.loop-end.end c.loop-end-test.true c.if-byte-eq47.true))
    (sym (c.in_ok-name_exists.ensures.found kind honest reads) ∙ c.if-branch.true)

pub loop-end-preserved : goal.loop-end-preserved
loop-end-preserved g c = λ kind honest reads.
    one_passed (λ place. has_name kind (g.F.Files.history c.args.files.now).tree place ≡ false) c.loop-end.end c.args.name.now (c.loop-end.invariant kind honest reads) (λ slash. elim c.if-byte-eq47.branch [
      | then-byte-eq47+in_ok-name_exists+else-branch w ↦ sym (w.in_ok-name_exists.ensures.found kind honest reads) ∙ w.if-branch.false
      | else-byte-eq47 w ↦ absurd (w.if-byte-eq47.false slash)
    ])

use Rattle.std.proofs.Common.{◌∙◌, ap, map, sym}
use Rattle.gix_ref_transaction.specs.Paths.{bytes_of}
use Rattle.gix_ref_transaction.proofs.Twice.{comes_again, first_kept, first_put, none_kept, one_put, was_kept, was_new}
use Rattle.gix_ref_transaction.proofs.once.have_twice.Goals as goal

pub paths-init : goal.paths-init
paths-init c = none_kept c.new-seen.result.keys (map bytes_of c.args.paths.now) c.new-seen.ensures.empty

pub returns-then-not-branch : goal.returns-then-not-branch
returns-then-not-branch c =
    sym (c.paths.invariant ∙ ap (λ l. comes_again c.paths.seen.keys (map bytes_of l)) c.in-Some.ensures.cases.0
    ∙ first_kept c.paths.seen.keys (bytes_of c.in-Some.path.now) (map bytes_of c.in-Some.others.now)
    (was_kept c.paths.seen.keys c.as_slice.result (bytes_of c.in-Some.path.now) c.in_ok-insert.field-0 c.as_slice.ensures.value c.in_ok-insert.ensures.added c.if-not-branch.true))

pub paths-preserved : goal.paths-preserved
paths-preserved c =
    c.paths.invariant ∙ ap (λ l. comes_again c.paths.seen.keys (map bytes_of l)) c.in-Some.ensures.cases.0
    ∙ first_put c.paths.seen.keys c.insert.new.self.keys (bytes_of c.in-Some.path.now) (map bytes_of c.in-Some.others.now)
    (was_new c.paths.seen.keys c.as_slice.result (bytes_of c.in-Some.path.now) c.in_ok-insert.field-0 c.as_slice.ensures.value c.in_ok-insert.ensures.added c.if-not-branch.false)
    (one_put c.paths.seen.keys c.insert.new.self.keys c.as_slice.result (bytes_of c.in-Some.path.now) c.as_slice.ensures.value c.in_ok-insert.ensures.updates.0)

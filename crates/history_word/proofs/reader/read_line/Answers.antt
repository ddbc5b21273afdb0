use Rattle.std.proofs.Common.{◌≤◌, [], length, refl, subst, arith, ap, sym, inl, inr}
use Rattle.std.proofs.lemmas.List.{take_all}
use Rattle.std.proofs.lemmas.Result.{err_from_is_err_and}
use Rattle.history_word.specs.Buffer.{unread}
use Rattle.history_word.specs.Held.{IsUnbroken}
use Rattle.history_word.proofs.UnbrokenLemmas.{stands_already, unbroken_old}
use Rattle.history_word.proofs.TakingLemmas.{came_unread, took_same, took_kept, took_none, unread_failed}
use Rattle.history_word.proofs.reader.read_line.Goals as goal

pub returns-in-Some : goal.returns-in-Some
returns-in-Some g c =
    let line = c.line.ensures in
    let took = took_same g.R.Source.left g.R.Source.readings _ _ _ _ _ _ [] c.loop-length.invariant.0 (took_kept g.R.Source.left g.R.Source.readings _ _ _ line.same line.readings line.work) in
    ([], took, (refl, c.in-Some.ensures.found, stands_already c.args.source.now c.loop-length.source (unread c.args.buffer.now) (unread c.line.new.self) took.more c.in-Some.length took.same c.in-Some.ensures.found c.loop-length.invariant.1))

pub returns-then-unread-gt-MAX_LINE : goal.returns-then-unread-gt-MAX_LINE
returns-then-unread-gt-MAX_LINE g c =
    let line = c.line.ensures in
    let took = took_same g.R.Source.left g.R.Source.readings _ _ _ _ _ _ [] c.loop-length.invariant.0 (took_kept g.R.Source.left g.R.Source.readings _ _ _ line.same line.readings line.work) in
    (unread c.line.new.self, came_unread g.R.Source.left g.R.Source.readings _ _ _ _ [] took refl, (omega (arith, ap length c.unread.ensures), c.in_default.ensures.none), λ e. absurd cc)

pub returns-in_err-fill : goal.returns-in_err-fill
returns-in_err-fill g c =
    let line = c.line.ensures in
    let p = err_from_is_err_and c.from_residual.result c.from_residual.ensures.1 in
    let took = took_same g.R.Source.left g.R.Source.readings _ _ _ _ _ _ [] c.loop-length.invariant.0 (took_kept g.R.Source.left g.R.Source.readings _ _ _ line.same line.readings line.work) in
    let after = took_same g.R.Source.left g.R.Source.readings _ _ _ _ _ _ [] took c.fill.ensures.took in
    let short : length (unread c.line.new.self) ≤ 4096 = omega (arith, ap length c.unread.ensures) in
    let whole : IsUnbroken (unread c.line.new.self) = subst IsUnbroken (take_all 4097 (unread c.line.new.self) (omega arith)) c.in_default.ensures.none in
    rw (p.1, p.2) (unread c.fill.new.self, came_unread g.R.Source.left g.R.Source.readings _ _ _ _ [] after refl, unread_failed _ _ (unread c.line.new.self) (unread c.fill.new.self) (λ bytes. IsUnbroken bytes × (length bytes ≤ 4096)) (whole, short) c.in_err-fill.ensures.err)

pub returns-then-not-branch : goal.returns-then-not-branch
returns-then-not-branch g c =
    let line = c.line.ensures in
    let end = rw c.if-not-branch.true at c.in_ok-fill.ensures.ok in
    let took = took_same g.R.Source.left g.R.Source.readings _ _ _ _ _ _ [] c.loop-length.invariant.0 (took_kept g.R.Source.left g.R.Source.readings _ _ _ line.same line.readings line.work) in
    let after = took_same g.R.Source.left g.R.Source.readings _ _ _ _ _ _ [] took c.fill.ensures.took in
    let short : length (unread c.line.new.self) ≤ 4096 = omega (arith, ap length c.unread.ensures) in
    let whole : IsUnbroken (unread c.line.new.self) = subst IsUnbroken (take_all 4097 (unread c.line.new.self) (omega arith)) c.in_default.ensures.none in
    (unread c.fill.new.self, came_unread g.R.Source.left g.R.Source.readings _ _ _ _ [] after refl, (subst IsUnbroken (sym end.1) whole, rw end.1 short), λ _. end.0)

pub loop-length-preserved : goal.loop-length-preserved
loop-length-preserved g c =
    let line = c.line.ensures in
    let took = took_same g.R.Source.left g.R.Source.readings _ _ _ _ _ _ [] c.loop-length.invariant.0 (took_kept g.R.Source.left g.R.Source.readings _ _ _ line.same line.readings line.work) in
    (took_same g.R.Source.left g.R.Source.readings _ _ _ _ _ _ [] took c.fill.ensures.took, inr (unbroken_old (unread c.args.buffer.now) (unread c.line.new.self) took.more took.same c.in_default.ensures.none))

pub loop-length-init : goal.loop-length-init
loop-length-init g c = (took_none g.R.Source.left g.R.Source.readings c.args.source.now c.args.buffer.now, inl refl)

use Rattle.std.proofs.Common.{refl, subst}
use Rattle.history_check_names.specs.Logs.{SpellsEntry}
use Rattle.history_check_names.proofs.log.test_line.Goals as goal

pub returns-then-line-ge-MAX_LOG_LINE : goal.returns-then-line-ge-MAX_LOG_LINE
returns-then-line-ge-MAX_LOG_LINE c = (refl, c.if-line-ge-MAX_LOG_LINE.true)

pub returns-then-not-branch : goal.returns-then-not-branch
returns-then-not-branch c = (refl, subst (SpellsEntry c.args.kind c.args.line.now) c.if-not-branch.true c.in_ok-is_entry.ensures)

pub returns : goal.returns
returns c = subst (SpellsEntry c.args.kind c.args.line.now) c.if-not-branch.false c.in_ok-is_entry.ensures

use Rattle.std.proofs.Common.{◌∙◌, ap, sym}
use Rattle.std.specs.Prelude.{◌&&◌}
use Rattle.gix_object_commit.specs.Writing.{is_folded}
use Rattle.gix_object_commit.proofs.FoldedTests.{folded_behind, folded_line, spaced_further, unspaced_not}
use Rattle.gix_object_commit.proofs.commit.spelling.is_folded.Goals as goal

pub lines-preserved : goal.lines-preserved
lines-preserved c = c.lines.invariant ∙ ap is_folded c.in-Some.ensures.0 ∙ folded_behind c.in-Some._line.now c.in-Some.after.now c.in-Some.ensures.1 ∙ spaced_further c.in-Some.after.now c.in-Some-strip_prefix.further.now c.in-Some-strip_prefix.ensures

pub returns-in-None : goal.returns-in-None
returns-in-None c = sym (c.lines.invariant ∙ ap is_folded c.in-Some.ensures.0 ∙ folded_behind c.in-Some._line.now c.in-Some.after.now c.in-Some.ensures.1 ∙ ap (λ t. t && is_folded c.in-Some.after.now) (unspaced_not c.in-Some.after.now c.in-None.ensures))

pub returns : goal.returns
returns c = sym (c.lines.invariant ∙ folded_line c.lines.rest.now c.in_default.ensures)

use Rattle.gix_ref_format.proofs.LineLemmas.{lines_split, lines_rest}
use Rattle.gix_ref_format.proofs.lines.split_line.Goals as goal

pub returns-in-Some-clause-lines : goal.returns-in-Some-clause-lines
returns-in-Some-clause-lines c =
    lines_split c.args.text.now c.in-Some.line.now c.in-Some.field-0-1.now c.split_at.result.0.now c.split_at.result.1.now c.in-Some.ensures.0 c.in-Some.ensures.1 c.split_at.ensures.front c.split_at.ensures.back

pub returns-in-None-clause-lines : goal.returns-in-None-clause-lines
returns-in-None-clause-lines c = lines_rest c.args.text.now c.in-None.ensures c.requires

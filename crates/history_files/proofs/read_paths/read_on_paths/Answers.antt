use Rattle.history_files.proofs.read_paths.read_on_paths.Goals as goal

pub reading-init : goal.reading-init
reading-init g c = λ honest kept. kept

pub reading-preserved : goal.reading-preserved
reading-preserved g c = λ honest kept. c.in_ok-read.ensures.kept honest (c.reading.invariant honest kept)

pub returns-in_default-clause-kept : goal.returns-in_default-clause-kept
returns-in_default-clause-kept g c = c.reading.invariant

pub returns-clause-kept : goal.returns-clause-kept
returns-clause-kept g c = c.reading.invariant

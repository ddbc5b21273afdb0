use Rattle.history_files.proofs.kept.files_by_trees.Goals as goal

pub returns-clause-files : goal.returns-clause-files
returns-clause-files g c = λ honest kind files is.
    c.files.ensures.files (honest, c.in_ok-read_below.ensures.kept honest (c.new-read.ensures (g.S.Lookup.table c.args.store.now))) kind files is

pub returns-clause-refused : goal.returns-clause-refused
returns-clause-refused g c = λ honest kind files is.
    c.files.ensures.refused (honest, c.in_ok-read_below.ensures.kept honest (c.new-read.ensures (g.S.Lookup.table c.args.store.now))) kind files is

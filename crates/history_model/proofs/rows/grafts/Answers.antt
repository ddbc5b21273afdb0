use Rattle.history_model.proofs.GraftRowLemmas.{folder_row, file_row, whole_row, nothing_row, same_row, line_row}
use Rattle.history_model.proofs.rows.grafts.Goals as goal

pub returns-clause-folder : goal.returns-clause-folder
returns-clause-folder c = folder_row

pub returns-clause-file : goal.returns-clause-file
returns-clause-file c = file_row

pub returns-clause-whole : goal.returns-clause-whole
returns-clause-whole c = whole_row

pub returns-clause-nothing : goal.returns-clause-nothing
returns-clause-nothing c = nothing_row

pub returns-clause-same : goal.returns-clause-same
returns-clause-same c = same_row

pub returns-clause-line : goal.returns-clause-line
returns-clause-line c = line_row

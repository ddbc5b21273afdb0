use Rattle.history_model.specs.laws.Rows.{first_stream, first_output}
use Rattle.history.proofs.Answering.{row_meant}
use Rattle.history.proofs.in_memory.rows.first_commit.Goals as goal

pub returns-clause-meant : goal.returns-clause-meant
returns-clause-meant c = c.answer_stream.ensures.meant first_output (row_meant first_stream first_output c.first_commit.ensures)

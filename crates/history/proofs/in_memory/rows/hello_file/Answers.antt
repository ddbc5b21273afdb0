use Rattle.history_model.specs.laws.Rows.{hello_stream, hello_output}
use Rattle.history.proofs.Answering.{row_meant}
use Rattle.history.proofs.in_memory.rows.hello_file.Goals as goal

pub returns-clause-meant : goal.returns-clause-meant
returns-clause-meant c = c.answer_stream.ensures.meant hello_output (row_meant hello_stream hello_output c.hello_file.ensures)

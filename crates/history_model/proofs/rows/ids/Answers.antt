use Rattle.history_model.proofs.RowLemmas.{blob_text_hello, empty_blob, hello_blob, empty_tree_computed, empty_blob_sha256, hello_blob_sha256, empty_tree_sha256, first_length, first_id, three_tree}
use Rattle.history_model.proofs.rows.ids.Goals as goal

pub returns-clause-hello : goal.returns-clause-hello
returns-clause-hello c = blob_text_hello

pub returns-clause-blob : goal.returns-clause-blob
returns-clause-blob c = empty_blob

pub returns-clause-hello_blob : goal.returns-clause-hello_blob
returns-clause-hello_blob c = hello_blob

pub returns-clause-empty_tree : goal.returns-clause-empty_tree
returns-clause-empty_tree c = empty_tree_computed

pub returns-clause-commit_len : goal.returns-clause-commit_len
returns-clause-commit_len c = first_length

pub returns-clause-commit_id : goal.returns-clause-commit_id
returns-clause-commit_id c = first_id

pub returns-clause-tree : goal.returns-clause-tree
returns-clause-tree c = three_tree

pub returns-clause-blob_sha256 : goal.returns-clause-blob_sha256
returns-clause-blob_sha256 c = empty_blob_sha256

pub returns-clause-hello_blob_sha256 : goal.returns-clause-hello_blob_sha256
returns-clause-hello_blob_sha256 c = hello_blob_sha256

pub returns-clause-empty_tree_sha256 : goal.returns-clause-empty_tree_sha256
returns-clause-empty_tree_sha256 c = empty_tree_sha256

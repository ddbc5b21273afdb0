use Rattle.std.proofs.Common.{sym, subst}
use Rattle.gix_object_any.specs.Views.{value_of}
use Rattle.gix_object_any.proofs.ReadBack.{IsReadBack, blob_back, tree_back, commit_back, tag_back}
use Rattle.gix_object_any.proofs.laws.written_object_is_read_back.Goals as goal

pub returns-in-Blob : goal.returns-in-Blob
returns-in-Blob c = subst (λ o. IsReadBack c.args.hash_kind (value_of o)) (sym c.in-Blob.is) (blob_back c.args.hash_kind _)

pub returns-in-Tree : goal.returns-in-Tree
returns-in-Tree c = subst (λ o. IsReadBack c.args.hash_kind (value_of o)) (sym c.in-Tree.is) (tree_back c.args.hash_kind _ c.written_tree_is_read_back.ensures)

pub returns-in-Commit : goal.returns-in-Commit
returns-in-Commit c = subst (λ o. IsReadBack c.args.hash_kind (value_of o)) (sym c.in-Commit.is) (commit_back c.args.hash_kind _ (c.written_is_read.ensures _))

pub returns-in-Tag : goal.returns-in-Tag
returns-in-Tag c = subst (λ o. IsReadBack c.args.hash_kind (value_of o)) (sym c.in-Tag.is) (tag_back c.args.hash_kind _ (c.written_is_read-in-Tag.ensures _))

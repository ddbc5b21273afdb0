use Rattle.std.proofs.Common.{sym, subst}
use Rattle.gix_object_any.proofs.ReadBack.{IsOwnReadBack, blob_back, own_tree_back, own_commit_back, own_tag_back}
use Rattle.gix_object_any.proofs.laws.owned.owned_written_object_is_read_back.Goals as goal

pub returns-in-Blob : goal.returns-in-Blob
returns-in-Blob c = subst (IsOwnReadBack c.args._hash_kind) (sym c.in-Blob.is) (blob_back c.args._hash_kind _)

pub returns-in-Tree : goal.returns-in-Tree
returns-in-Tree c = subst (IsOwnReadBack c.args._hash_kind) (sym c.in-Tree.is) (own_tree_back c.args._hash_kind c.in-Tree.tree c.owned_written_tree_is_read_back.ensures)

pub returns-in-Commit : goal.returns-in-Commit
returns-in-Commit c = subst (IsOwnReadBack c.args._hash_kind) (sym c.in-Commit.is) (own_commit_back c.args._hash_kind c.in-Commit.commit c.owned_written_is_read.ensures)

pub returns-in-Tag : goal.returns-in-Tag
returns-in-Tag c = subst (IsOwnReadBack c.args._hash_kind) (sym c.in-Tag.is) (own_tag_back c.args._hash_kind c.in-Tag.tag c.owned_written_is_read-in-Tag.ensures)

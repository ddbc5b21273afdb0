-- Token readers that begin.
use Rattle.std.specs.Prelude.{ℕ, ◌≡◌, List}
use Rattle.gix_hash.specs.declared.kind.Kind as hash
use Rattle.gix_object_commit.specs.Tokens as commit
use Rattle.gix_object_commit.specs.declared.ref_iter.CommitRefIter.{CommitRefIter}
use Rattle.gix_object_tree.specs.Reading as tree
use Rattle.gix_object_tree.specs.declared.tree.ref_iter.TreeRefIter.{TreeRefIter}
use Rattle.gix_object_tag.specs.Tokens as tag
use Rattle.gix_object_tag.specs.declared.tag.ref_iter.TagRefIter.{TagRefIter}

-- it reads this content from its start, its ids of this hash function
abbrev pub ReadsCommit : hash.Kind → List ℕ → CommitRefIter → Type 0
ReadsCommit ids content reader = commit.place_of reader ≡ commit.start ids content

abbrev pub ReadsTag : hash.Kind → List ℕ → TagRefIter → Type 0
ReadsTag ids content reader = tag.place_of reader ≡ tag.start ids content

abbrev pub ReadsTree : hash.Kind → List ℕ → TreeRefIter → Type 0
ReadsTree ids content reader = tree.place_of reader ≡ tree.start ids content

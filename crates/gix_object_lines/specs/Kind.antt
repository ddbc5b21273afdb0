-- The kinds of objects and the words that name them (Git's gitglossary, "object type";
-- git-hash-object, `-t <type>`).
use Rattle.std.specs.Prelude.{ℕ, List, codes, ◌≢◌}
use Rattle.gix_object_lines.specs.declared.kind.Kind.{Kind}
use Rattle.gix_object_lines.specs.declared.kind.Kind.TheVariants.{Tree, Blob, Commit, Tag}

abbrev pub kind_word : Kind → List ℕ
kind_word Tree = codes "tree"
kind_word Blob = codes "blob"
kind_word Commit = codes "commit"
kind_word Tag = codes "tag"

-- the word names no kind
abbrev pub IsNoKind : List ℕ → Type 0
IsNoKind word = (kind : Kind) → word ≢ kind_word kind

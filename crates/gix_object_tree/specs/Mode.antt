-- Modes of a tree's entries (Git's git-fast-import and git-ls-tree name the five that Git writes),
-- and their octal texts.
use Rattle.std.specs.Prelude.{ℕ, ◌≡◌, ◌<◌, ◌≤◌, ◌⊎◌, ◌/◌, ◌%◌, ◌==◌, Bool, List, codes, if◌then◌else◌}
use Rattle.gix_object_tree.specs.declared.tree.mode.EntryKind.{EntryKind}
use Rattle.gix_object_tree.specs.declared.tree.mode.EntryKind.TheVariants as kinds

abbrev pub kind_value : EntryKind → ℕ
kind_value kinds.Tree = 16384
kind_value kinds.Blob = 33188
kind_value kinds.BlobExecutable = 33261
kind_value kinds.Link = 40960
kind_value kinds.Commit = 57344

-- the octal digits of the five
abbrev pub kind_word : EntryKind → List ℕ
kind_word kinds.Tree = codes "40000"
kind_word kinds.Blob = codes "100644"
kind_word kinds.BlobExecutable = codes "100755"
kind_word kinds.Link = codes "120000"
kind_word kinds.Commit = codes "160000"

abbrev pub kind_name : EntryKind → List ℕ
kind_name kinds.Tree = codes "tree"
kind_name kinds.Blob = codes "blob"
kind_name kinds.BlobExecutable = codes "exe"
kind_name kinds.Link = codes "link"
kind_name kinds.Commit = codes "commit"

-- a file is executable if the owner's bit for it is set
abbrev pub file_kind : ℕ → EntryKind
file_kind value = if value / 64 % 2 == 1 then kinds.BlobExecutable else kinds.Blob

-- whether the number's first bits are a tree's
abbrev pub is_tree_value : ℕ → Bool
is_tree_value value = value / 4096 == 4

-- the kind that the number's first bits name
abbrev pub kind_of : ℕ → EntryKind
kind_of value =
    if is_tree_value value then kinds.Tree
    else if value / 4096 == 8 then file_kind value
    else if value / 4096 == 10 then kinds.Link
    else kinds.Commit

-- numbers that are a mode's: a tree's, and all from the files' on
abbrev pub IsEntryMode : ℕ → Type 0
IsEntryMode number = (number ≡ 16384) ⊎ ((32768 ≤ number) × (number < 65536))

-- What an object's file says about the value that is stored.
use Rattle.std.specs.Prelude.{◌≡◌, ◌∷◌, ◌++◌, length, decimal, Some, IsTrue, IsFalse}
use Rattle.std.specs.FinMap.{get}
use Rattle.gix_ref_file.specs.Tree.{Tree}
use Rattle.history_model.specs.Bytes.{Bytes, has_byte}
use Rattle.history_model.specs.FileMap.{FileMap}
use Rattle.history_model.specs.Objects.{CommitValue, Value, StoredCommit, StoredBytes, StoredFolder, object_text, object_kind, content_of, commit_content, root}
use Rattle.gix_hash.specs.Id.{Id}
use Rattle.history_model.specs.Forms.{is_id}
use Rattle.history_model.specs.Places.{file_at, object_place}
use Rattle.history_layout.specs.TreeHalves.{HoldsValues}
use Rattle.history_model.specs.Repository.{Values, HaveOwnIds}
use Rattle.gix_hash.specs.declared.kind.Kind.{Kind}
use Rattle.gix_object_lines.specs.Kind.{kind_word}
use Rattle.gix_object_lines.specs.declared.kind.Kind.{Kind as ObjectKind}
use Rattle.gix_object_lines.specs.declared.kind.Kind.TheVariants as objects

-- an object of this kind and content is at the id's place
pub record HasObject (kind : Kind) (tree : Tree) (id : Id) (object : ObjectKind)
    (content : Bytes) : Type 0 where
  pub formed : IsTrue (is_id kind id)
  pub stands : file_at tree (object_place id) ≡ Some (object_text object content)

-- If a word without a space, a content's length and the content are there, a value of that kind and
-- content is stored under the id: so the word is a kind's.
abbrev pub ObjectsTellValues : Type 0
ObjectsTellValues =
    (kind : Kind) (tree : Tree) (values : Values) (id : Id) (word content : Bytes)
    → HoldsValues kind tree values → HaveOwnIds kind values
    → IsTrue (is_id kind id) → IsFalse (has_byte 32 word)
    → file_at tree (object_place id) ≡ Some (word ++ 32 ∷ decimal (length content) ++ 0 ∷ content)
    → (value : Value) × (get values id ≡ Some value) × (kind_word (object_kind value) ≡ word)
    × (content_of kind value ≡ content)

abbrev pub CommitsAreRead : Type 0
CommitsAreRead =
    (kind : Kind) (tree : Tree) (values : Values) (id : Id) (content : Bytes)
    → HoldsValues kind tree values → HaveOwnIds kind values
    → HasObject kind tree id objects.Commit content
    → (commit : CommitValue) × (get values id ≡ Some (StoredCommit commit))
    × (commit_content kind commit ≡ content)

abbrev pub FoldersAreRead : Type 0
FoldersAreRead =
    (kind : Kind) (tree : Tree) (values : Values) (id : Id) (content : Bytes)
    → HoldsValues kind tree values → HaveOwnIds kind values
    → HasObject kind tree id objects.Tree content
    → (files : FileMap) × (get values id ≡ Some (StoredFolder files))
    × (root kind files ≡ content)

abbrev pub BytesAreRead : Type 0
BytesAreRead =
    (kind : Kind) (tree : Tree) (values : Values) (id : Id) (content : Bytes)
    → HoldsValues kind tree values → HaveOwnIds kind values
    → HasObject kind tree id objects.Blob content → get values id ≡ Some (StoredBytes content)

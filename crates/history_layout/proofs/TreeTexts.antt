-- Which value is stored, by the text of its object's file.
use Rattle.std.proofs.Common.{◌≡◌, true, false, refl, sym, ◌∙◌, ap, ◌∷◌, ◌++◌, length, decimal, Option, Some, None, option_map, codes, bytes_eq}
use Rattle.std.specs.FinMap.{get}
use Rattle.history_model.specs.Bytes.{Bytes}
use Rattle.history_model.specs.FileMap.{FileMap}
use Rattle.history_layout.specs.TreeHalves.{HoldsValues}
use Rattle.history_model.specs.Repository.{Values, HaveOwnIds}
use Rattle.gix_ref_file.specs.Tree.{Tree}
use Rattle.gix_hash.specs.Id.{Id}
use Rattle.gix_hash.specs.declared.kind.Kind.{Kind}
use Rattle.gix_object_lines.proofs.Headers.{word_lacks_space}
use Rattle.history_model.specs.Objects.{CommitValue, Value, StoredCommit, StoredTag, StoredBytes, StoredFolder, object_kind, content_of, value_text, commit_content, root}
use Rattle.gix_object_lines.specs.Kind.{kind_word}
use Rattle.gix_object_lines.specs.declared.kind.Kind.{Kind as ObjectKind}
use Rattle.gix_object_lines.specs.declared.kind.Kind.TheVariants as objects
use Rattle.history_layout.specs.TreeReads.{HasObject, ObjectsTellValues, CommitsAreRead, FoldersAreRead, BytesAreRead}
use Rattle.history_model.proofs.WholeTexts.{object_cut, word_same}
use Rattle.history_layout.proofs.TreePuts.{places_tell_values}

pub objects_tell_values : ObjectsTellValues
objects_tell_values kind tree values id word content h own formed plain stands = go (get values id) refl (sym (places_tell_values kind tree values h own id formed) ∙ stands)
  where
    inside : {a b : Bytes} → Some a ≡ Some b → a ≡ b
    inside e = cc

    go : (found : Option Value) → get values id ≡ found → option_map (value_text kind) found ≡ Some (word ++ 32 ∷ decimal (length content) ++ 0 ∷ content)
        → (value : Value) × (get values id ≡ Some value) × (kind_word (object_kind value) ≡ word) × (content_of kind value ≡ content)
    go None e f = cc
    go (Some value) e f =
        let told = word_same (kind_word (object_kind value)) word (content_of kind value) content (word_lacks_space (object_kind value)) plain (sym (object_cut (object_kind value) (content_of kind value)) ∙ inside f) in
        (value, e, told.0, told.1)

-- of an object's kind
object_told : (kind : Kind) (tree : Tree) (values : Values) (id : Id) (object : ObjectKind) (content : Bytes) → HoldsValues kind tree values → HaveOwnIds kind values → HasObject kind tree id object content
    → (value : Value) × (get values id ≡ Some value) × (kind_word (object_kind value) ≡ kind_word object) × (content_of kind value ≡ content)
object_told kind tree values id object content h own has =
    objects_tell_values kind tree values id (kind_word object) content h own has.formed (word_lacks_space object) (has.stands ∙ ap Some (object_cut object content))

other_word : {A : Type 0} (v w : Bytes) → bytes_eq v w ≡ false → bytes_eq w w ≡ true → v ≡ w → A
other_word v w differ same e = absurd (cc (sym differ ∙ ap (λ t. bytes_eq t w) e ∙ same))

pub commits_are_read : CommitsAreRead
commits_are_read kind tree values id content h own object =
    let told = object_told kind tree values id objects.Commit content h own object in go told.0 told.1 told.2 told.3
  where
    go : (value : Value) → get values id ≡ Some value → kind_word (object_kind value) ≡ codes "commit" → content_of kind value ≡ content
        → (commit : CommitValue) × (get values id ≡ Some (StoredCommit commit)) × (commit_content kind commit ≡ content)
    go (StoredCommit c) at is same = (c, at, same)
    go (StoredTag t) at is same = other_word (codes "tag") (codes "commit") refl refl is
    go (StoredBytes b) at is same = other_word (codes "blob") (codes "commit") refl refl is
    go (StoredFolder f) at is same = other_word (codes "tree") (codes "commit") refl refl is

pub folders_are_read : FoldersAreRead
folders_are_read kind tree values id content h own object =
    let told = object_told kind tree values id objects.Tree content h own object in go told.0 told.1 told.2 told.3
  where
    go : (value : Value) → get values id ≡ Some value → kind_word (object_kind value) ≡ codes "tree" → content_of kind value ≡ content
        → (files : FileMap) × (get values id ≡ Some (StoredFolder files)) × (root kind files ≡ content)
    go (StoredFolder f) at is same = (f, at, same)
    go (StoredTag t) at is same = other_word (codes "tag") (codes "tree") refl refl is
    go (StoredBytes b) at is same = other_word (codes "blob") (codes "tree") refl refl is
    go (StoredCommit c) at is same = other_word (codes "commit") (codes "tree") refl refl is

pub bytes_are_read : BytesAreRead
bytes_are_read kind tree values id content h own object =
    let told = object_told kind tree values id objects.Blob content h own object in go told.0 told.1 told.2 told.3
  where
    go : (value : Value) → get values id ≡ Some value → kind_word (object_kind value) ≡ codes "blob" → content_of kind value ≡ content → get values id ≡ Some (StoredBytes content)
    go (StoredBytes b) at is same = at ∙ ap (λ t. Some (StoredBytes t)) same
    go (StoredTag t) at is same = other_word (codes "tag") (codes "blob") refl refl is
    go (StoredFolder f) at is same = other_word (codes "tree") (codes "blob") refl refl is
    go (StoredCommit c) at is same = other_word (codes "commit") (codes "blob") refl refl is

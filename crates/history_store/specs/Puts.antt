-- When a content is put as an object, and why it isn't.
use Rattle.std.specs.Prelude.{◌≡◌, ⊤, ◌<◌, ◌≤◌, Bool, true, false, List, ◌∷◌, ◌++◌, length, Some}
use Rattle.std.specs.List.{All}
use Rattle.gix_hash.specs.Id.{Id, id_of}
use Rattle.gix_hash.specs.declared.kind.Kind.{Kind}
use Rattle.gix_ref_file.specs.Tree.{Tree}
use Rattle.gix_object_lines.specs.declared.kind.Kind.{Kind as ObjectKind}
use Rattle.gix_object_lookup.specs.Table.{Table, kind_at}
use Rattle.gix_object_lookup.specs.declared.find.Error as find
use Rattle.gix_object_lookup.specs.declared.find.Error.TheVariants as found
use Rattle.history_model.specs.Bytes.{Bytes}
use Rattle.history_model.specs.Forms.{max_content}
use Rattle.history_texts.specs.ObjectTexts.{object_id}
use Rattle.history_store.specs.Stores.{IsIdTaken}
use Rattle.history_texts.specs.Written.{IsMalformed, NamesObjects, Naming}
use Rattle.history_store.specs.declared.objects.PutMadeError.{PutMadeError}
use Rattle.history_store.specs.declared.objects.PutMadeError.TheVariants as made
use Rattle.history_store.specs.declared.put.PutError.{PutError}
use Rattle.history_store.specs.declared.put.PutError.TheVariants.{TooLarge, Malformed, Missing, IdTaken, File, Memory}

-- an object of this id is stored in the table, and is of this kind
abbrev pub IsStoredAs : Table → Naming → Type 0
IsStoredAs table naming = kind_at table naming.0 ≡ Some naming.1

-- the content is within the limit and in written form, and each object that it names is stored in
-- the right kind
pub record Fits (digests : Kind) (table : Table) (kind : ObjectKind)
    (content : Bytes) : Type 0 where
  pub within : length content ≤ max_content
  pub named : List Naming
  pub names : NamesObjects digests kind content named
  pub stored : All (IsStoredAs table) named

-- the first of these that isn't stored in the right kind is an object of this id
pub record IsFirstMissing (table : Table) (named : List Naming) (id : Id) : Type 0 where
  pub before : List Naming
  pub kind : ObjectKind
  pub behind : List Naming
  pub named_are : named ≡ before ++ (id, kind) ∷ behind
  pub stored : All (IsStoredAs table) before
  pub missing : ¬ IsStoredAs table (id, kind)

-- why some named objects are refused: one is missing, or reading failed
abbrev pub IsGap : Table → List Naming → PutError → Type 0
IsGap table named TooLarge = ⊥
IsGap table named Malformed = ⊥
IsGap table named (Missing id) = IsFirstMissing table named (id_of id)
IsGap table named (IdTaken id) = ⊥
IsGap table named File = ⊤
IsGap table named Memory = ⊤

-- the content is within the limit and in written form, and this is the first object that it names
-- and that isn't stored in the right kind
pub record NamesMissing (digests : Kind) (table : Table) (kind : ObjectKind) (content : Bytes)
    (id : Id) : Type 0 where
  pub within : length content ≤ max_content
  pub named : List Naming
  pub names : NamesObjects digests kind content named
  pub lacks : IsFirstMissing table named id

-- Why the content isn't put: the first cause that holds, in this order, or a fault.
abbrev pub IsRefusal : Kind → Table → Tree → ObjectKind → Bytes → PutError → Type 0
IsRefusal digests table tree kind content TooLarge = max_content < length content
IsRefusal digests table tree kind content Malformed =
    (length content ≤ max_content) × IsMalformed digests kind content
IsRefusal digests table tree kind content (Missing id) =
    NamesMissing digests table kind content (id_of id)
IsRefusal digests table tree kind content (IdTaken id) =
    Fits digests table kind content × (id_of id ≡ object_id digests kind content)
    × IsIdTaken (id_of id) kind content tree
IsRefusal digests table tree kind content File = ⊤
IsRefusal digests table tree kind content Memory = ⊤

-- a fault may leave the object's file, its folder or an unfinished one
abbrev pub is_fault : PutError → Bool
is_fault TooLarge = false
is_fault Malformed = false
is_fault (Missing id) = false
is_fault (IdTaken id) = false
is_fault File = true
is_fault Memory = true

abbrev pub of_made : PutMadeError → PutError
of_made (made.IdTaken id) = IdTaken id
of_made made.File = File
of_made made.Memory = Memory

abbrev pub of_find : find.Error → PutError
of_find found.Failed = File
of_find found.Memory = Memory

-- What references point to.
use Rattle.std.specs.Prelude.{ℕ, ◌≡◌, List, ◌++◌, codes, encode_utf8_all, Option, Some, None}
use Rattle.bstr.specs.Utf8.{lossy_chars}
use Rattle.gix_hash.specs.Id.{Id, id_of, null_id}
use Rattle.gix_hash.specs.Views.{viewed_id}
use Rattle.gix_hash.specs.Spelling.{hex_text}
use Rattle.gix_ref_name.specs.Names.{name_of}
use Rattle.gix_ref_name.specs.declared.target.Kind.{Kind}
use Rattle.gix_ref_name.specs.declared.target.Kind.TheVariants as kinds
use Rattle.gix_ref_name.specs.declared.target.Target.{Target}
use Rattle.gix_ref_name.specs.declared.target.Target.TheVariants as owned
use Rattle.gix_ref_name.specs.declared.target.TargetRef.{TargetRef}
use Rattle.gix_ref_name.specs.declared.target.TargetRef.TheVariants as lent

-- an object's id, or another reference's name
pub data Points : Type 0 where
  ToObject : Id → Points
  ToName : List ℕ → Points

abbrev pub target_view : Target → Points
target_view (owned.Object id) = ToObject (id_of id)
target_view (owned.Symbolic name) = ToName name

abbrev pub target_ref_view : TargetRef → Points
target_ref_view (lent.Object id) = ToObject (viewed_id id)
target_ref_view (lent.Symbolic name) = ToName (name_of name)

abbrev pub kind_of : Points → Kind
kind_of (ToObject id) = kinds.Object
kind_of (ToName name) = kinds.Symbolic

abbrev pub id_in : Points → Option Id
id_in (ToObject id) = Some id
id_in (ToName name) = None

abbrev pub name_in : Points → Option (List ℕ)
name_in (ToObject id) = None
name_in (ToName name) = Some name

-- the text of a loose file without its line feed
abbrev pub target_text : Points → List ℕ
target_text (ToObject id) = hex_text id.digits
target_text (ToName name) = codes "ref: " ++ encode_utf8_all (lossy_chars name)

-- the null id of its hash function
abbrev pub IsNull : Points → Type 0
IsNull (ToObject id) = id ≡ null_id id.kind
IsNull (ToName name) = ⊥

abbrev pub IsObject : Points → Type 0
IsObject (ToObject id) = Unit {0}
IsObject (ToName name) = ⊥

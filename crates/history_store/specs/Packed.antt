-- What packing of all names wants (git-pack-refs(1)).
use Rattle.std.specs.Prelude.{◌≡◌, List, map, bytes_eq, option_map, IsFalse}
use Rattle.gix_hash.specs.Id.{id_of}
use Rattle.gix_object_lookup.specs.Table.{Table}
use Rattle.gix_ref_file.specs.History.{History}
use Rattle.gix_ref_edit.specs.declared.change.RefEdit.{RefEdit}
use Rattle.gix_ref_format.specs.Packed.{Record}
use Rattle.gix_ref_format.specs.PackedBuffer.{hit}
use Rattle.gix_ref_format.specs.PackedKept.{kept}
use Rattle.history_model.specs.Bytes.{Bytes, has_twice}
use Rattle.history_model.specs.Repository.{Repository}
use Rattle.history_model.specs.laws.Wholeness.{IsSound}
use Rattle.history_layout.specs.PackSteps.{record_for}
use Rattle.history_edits.specs.PackPlans.{AsksAll, IsTableOf, record_name}
use Rattle.history_store.specs.Changing.{HoldNamesOf}
use Rattle.history_store.specs.declared.names.Names.{Names}
use Rattle.history_store.specs.declared.packs.PackedName.{PackedName}

-- the record of a name that is to be packed
abbrev pub record_of_name : PackedName → Record
record_of_name n =
    record { name = n.name; target = id_of n.id; peeled = option_map id_of n.peeled }

abbrev pub records_of : List PackedName → List Record
records_of names = map record_of_name names

-- Files and objects are those of this repository, whose names are these, each once. `Honest` says
-- that the objects are honest.
pub record MayPack {F : Type 0} (IsHonest : F → Type 0) (history : F → History) (names : Names F)
    (r : Repository) (Honest : Type 0) (table : Table) (listed : List PackedName) : Type 0 where
  pub whole : HoldNamesOf IsHonest history names r
  pub sound : IsSound r
  pub objects : Honest
  pub stored : IsTableOf r table
  pub each : (name : Bytes) → hit (records_of listed) name ≡ record_for r name
  pub once : IsFalse (has_twice bytes_eq (map record_name (records_of listed)))

-- The same, and these are the edits that pack what isn't packed.
pub record AsksPacks {F : Type 0} (IsHonest : F → Type 0) (history : F → History)
    (names : Names F) (r : Repository) (Honest : Type 0) (table : Table) (wanted : List Record)
    (edits : List RefEdit) : Type 0 where
  pub whole : HoldNamesOf IsHonest history names r
  pub objects : Honest
  pub stored : IsTableOf r table
  pub asks : AsksAll r (history names.store.files).tree (option_map kept names.packed) wanted
      edits

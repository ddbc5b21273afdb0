-- What a `pack` is to write.
use Rattle.std.specs.Prelude.{◌≡◌, List, None, Some, IsTrue, if◌then◌else◌, map}
use Rattle.std.specs.List.{AllByRecursion}
use Rattle.gix_hash.specs.Order.{id_eq}
use Rattle.gix_object_lines.specs.NameTest.{is_full_name}
use Rattle.gix_ref_format.specs.Packed.{Record}
use Rattle.history_model.specs.Answers.{names_shown}
use Rattle.history_model.specs.Replies.{NameLine}
use Rattle.history_files.specs.Laws.{table_of}
use Rattle.history_store.specs.Packed.{records_of}
use Rattle.history_store.specs.declared.packs.PackedName.{PackedName}
use Rattle.history_repository.specs.declared.shown.Shown.{Shown}
use Rattle.history_repository.specs.HeldObjects.{AreOf}
use Rattle.history_plans.specs.declared.packing.Packing.{Packing}
use Rattle.history_model.specs.Repository as plain

-- the record of a name that is shown so: its id, and, if that isn't the commit that it peels to,
-- this too
abbrev pub line_record : NameLine → Record
line_record line = record {
  name = line.name;
  target = line.id;
  peeled = if id_eq line.id line.commit then None else Some line.commit;
}

-- The records are those of all existing names, as `names` shows them.
abbrev pub AreAllNames : plain.Repository → List PackedName → Type 0
AreAllNames r names = records_of names ≡ map line_record (names_shown r None)

-- All names are to be packed, and what is held of objects is as the repository has it.
pub record IsPacking (r : plain.Repository) (packing : Packing) : Type 0 where
  pub names : AreAllNames r packing.names.items
  pub held : AreOf (table_of r) packing.held

abbrev pub AreFull : List Shown → Type 0
AreFull shown = AllByRecursion (λ (one : Shown). IsTrue (is_full_name one.name.items)) shown

-- What is kept of `packed-refs` (git-pack-refs(1)), and what names read as by it.
use Rattle.std.specs.Prelude.{◌≡◌, Option, Some, None, option_map, if◌then◌else◌}
use Rattle.gix_ref_file.specs.Tree.{Tree}
use Rattle.gix_hash.specs.Id.{Id, id_of}
use Rattle.gix_hash.specs.declared.kind.Kind.{Kind}
use Rattle.gix_hash.specs.declared.object_id.ObjectId.{ObjectId}
use Rattle.gix_ref_name.specs.Targets.{id_in}
use Rattle.gix_ref_format.specs.Lookup.{packed_hit}
use Rattle.gix_ref_format.specs.Packed.{Record}
use Rattle.gix_ref_format.specs.PackedBuffer.{KeepsFile}
use Rattle.gix_ref_format.specs.PackedKept.{kept}
use Rattle.gix_ref_format.specs.declared.packed.buffer.Buffer.{Buffer}
use Rattle.gix_ref_store.specs.RefStates.{RefState, Stands, Absent, Faulty, ref_state}
use Rattle.history_model.specs.Bytes.{Bytes}
use Rattle.history_model.specs.Forms.{is_name}
use Rattle.history_model.specs.Places.{file_at, packed_place}
use Rattle.history_edits.specs.Bridges.{root_base}
use Rattle.history_store.specs.declared.names.Names.{Names}

-- the records that are kept are those of the file, and there are none if there is no file
abbrev pub KeepsRecords : {F : Type 0} → Names F → Tree → Type 0
KeepsRecords names tree =
    KeepsFile names.kind (file_at tree packed_place) (option_map kept names.packed)

-- the record of a name among those that are kept
abbrev pub kept_hit : Option Buffer → Bytes → Option Record
kept_hit None name = None
kept_hit (Some buffer) name = packed_hit (kept buffer) name

-- ---- what names read as

-- the id of the object that a reference points to, if it points to one
abbrev pub told_id : RefState → Option Id
told_id (Stands points peeled) = id_in points
told_id Absent = None
told_id (Faulty why) = None

-- the id that a name reads as, by its own file or else its record, if a repository may hold the name
abbrev pub id_read : Kind → Tree → Bytes → Option Id
id_read kind tree name = if is_name name then told_id (ref_state (root_base kind) tree name) else None

-- the name reads as this id, or as none
abbrev pub NameReads : Kind → Tree → Bytes → Option ObjectId → Type 0
NameReads kind tree name id = option_map id_of id ≡ id_read kind tree name

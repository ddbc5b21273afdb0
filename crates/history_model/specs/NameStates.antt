-- What names read as: a loose file, else a record of `packed-refs` (gitrepository-layout(5)).
use Rattle.std.specs.Prelude.{Bool, true, false, ◌&&◌, drop, find, if◌then◌else◌, option_map, unwrap_or, bytes_eq, codes}
use Rattle.gix_ref_file.specs.Tree.{Tree}
use Rattle.history_model.specs.Bytes.{Bytes, begins}
use Rattle.gix_hash.specs.Id.{Id}
use Rattle.history_model.specs.Forms.{is_name, is_private}
use Rattle.history_model.specs.Places.{file_at, packed_place}
use Rattle.history_model.specs.PackedNames.{PackedFile, packed_file, id_from_hex, whole_line}
use Rattle.gix_hash.specs.declared.kind.Kind.{Kind}

pub data NameState : Type 0 where
  Holds : Id → NameState
  Symbolic : Bytes → NameState
  Absent : NameState
  Faulty : NameState

-- `<hex>` or `ref: <name>`
abbrev pub loose_line : Kind → Bytes → NameState
loose_line kind text =
    if begins (codes "ref: ") text && is_name (drop 5 text) then Symbolic (drop 5 text)
    else unwrap_or (option_map Holds (id_from_hex kind text)) Faulty

-- a loose file is one line, with its line feed
abbrev pub loose_state : Kind → Bytes → NameState
loose_state kind text = unwrap_or (option_map (loose_line kind) (whole_line text)) Faulty

-- what the records say of a name; private names have none
abbrev pub packed_state : Bytes → PackedFile → NameState
packed_state name packed =
    if is_private name then Absent
    else unwrap_or
    (option_map (λ found. Holds found.target)
    (find (λ found. bytes_eq found.name name) packed.records)) Absent

abbrev pub packed_text_state : Kind → Bytes → Bytes → NameState
packed_text_state kind name text =
    unwrap_or (option_map (packed_state name) (packed_file kind text)) Faulty

-- A loose file takes precedence over a record. What isn't a name reads as absent.
abbrev pub name_state : Kind → Tree → Bytes → NameState
name_state kind tree name =
    let packed =
    unwrap_or (option_map (packed_text_state kind name) (file_at tree packed_place)) Absent in
    if is_name name then unwrap_or (option_map (loose_state kind) (file_at tree name)) packed
    else Absent

abbrev pub is_absent : NameState → Bool
is_absent Absent = true
is_absent _ = false

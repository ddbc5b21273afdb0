-- What a deletion makes of the packed records.
use Rattle.std.specs.Prelude.{◌≡◌, Option, Some, None, MatchOption, bytes_eq, if◌then◌else◌, IsTrue}
use Rattle.gix_ref_file.specs.Tree.{Tree}
use Rattle.gix_ref_format.specs.PackedBuffer.{hit}
use Rattle.gix_hash.specs.declared.kind.Kind.{Kind}
use Rattle.history_model.specs.Bytes.{Bytes}
use Rattle.history_model.specs.PackedNames.{PackedFile, packed_file, is_packed_form}
use Rattle.history_model.specs.Places.{file_at, packed_place}

-- The new file has no record of the name, and of each other name the record that the old one has.
pub record LacksName (name : Bytes) (old new : PackedFile) : Type 0 where
  pub formed : IsTrue (is_packed_form new)
  pub each : (other : Bytes)
      → hit new.records other
      ≡ (if bytes_eq other name then None else hit old.records other)

-- These two texts of `packed-refs` are so; without an old one there is no new one.
abbrev pub LacksRecord : Kind → Bytes → Option Bytes → Option Bytes → Type 0
LacksRecord kind name None new = new ≡ None
LacksRecord kind name (Some text) None = ⊥
LacksRecord kind name (Some text) (Some new) =
    MatchOption (packed_file kind text) ⊥
    (λ old. MatchOption (packed_file kind new) ⊥ (LacksName name old))

-- `packed-refs` has no record of the name then.
abbrev pub TakesRecord : Kind → Bytes → Tree → Tree → Type 0
TakesRecord kind name old new =
    LacksRecord kind name (file_at old packed_place) (file_at new packed_place)

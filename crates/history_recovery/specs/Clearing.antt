-- The words of private contracts: what clearing and cutting make of the names part.
use Rattle.std.specs.Prelude.{◌≡◌, ◌⊎◌, ℕ, suc, Bool, true, false, ◌&&◌, ◌||◌, ◌∷◌, ◌++◌, [], None, option_map, unwrap_or, is_none, IsSome, IsTrue, codes}
use Rattle.std.specs.FinMap.{get}
use Rattle.gix_ref_file.specs.Tree.{Tree}
use Rattle.gix_ref_format.specs.Lookup.{packed_hit}
use Rattle.gix_ref_format.specs.PackedKept.{kept}
use Rattle.history_model.specs.Bytes.{Bytes, begins}
use Rattle.history_model.specs.Forms.{is_name}
use Rattle.history_model.specs.Places.{file_at, packed_place, is_log_place, log_name, is_lock_file}
use Rattle.history_model.specs.NameStates.{NameState, Absent, is_absent, name_state, packed_text_state}
use Rattle.history_model.specs.Recovery.{recovered_names, recovered_node}
use Rattle.gix_hash.specs.declared.kind.Kind.{Kind}
use Rattle.gix_ref_way.specs.Ways.{above}
use Rattle.history_recovery.specs.Recovering.{NamesAlike}
use Rattle.history_recovery.specs.declared.packed.Packed.{Packed}
use Rattle.history_recovery.specs.declared.packed.Packed.TheVariants as says

-- ---- what packed-refs says

-- what a name without a file of its own reads as
abbrev pub packed_reading : Kind → Tree → Bytes → NameState
packed_reading kind tree name =
    unwrap_or (option_map (packed_text_state kind name) (file_at tree packed_place)) Absent

-- whether there is no record of the name, in a file that is readable or missing
abbrev pub lacks : Packed → Bytes → Bool
lacks says.Absent name = true
lacks (says.Records records) name = is_none (packed_hit (kept records) name)
lacks says.Faulty name = false

-- it says what the tree's file says
abbrev pub Tells : Kind → Tree → Packed → Type 0
Tells kind tree packed =
    (name : Bytes) → IsTrue (is_name name)
    → lacks packed name ≡ is_absent (packed_reading kind tree name)

-- whether a file at the path is left over
abbrev pub is_over : Kind → Tree → Bytes → Bool
is_over kind tree path =
    is_lock_file path || (is_log_place path && is_absent (name_state kind tree (log_name path)))

-- ---- what is cleared

-- recovery keeps what is at the path
abbrev pub IsKept : Kind → Tree → Bytes → Type 0
IsKept kind tree path = IsSome (get tree path) → IsSome (get (recovered_names kind tree) path)

abbrev pub AreKeptBelow : Kind → Bytes → Tree → Type 0
AreKeptBelow kind place tree =
    (n : ℕ) (path : Bytes) → above (suc n) path ≡ place → IsKept kind tree path

abbrev pub AreAllKept : Kind → Tree → Type 0
AreAllKept kind tree = (path : Bytes) → IsKept kind tree path

-- The tree recovers as the old one does, and has at each path what was there, or nothing.
pub record Clears (kind : Kind) (old tree : Tree) : Type 0 where
  pub alike : NamesAlike kind old tree
  pub goes : (path : Bytes) → (get tree path ≡ get old path) ⊎ (get tree path ≡ None)

-- ---- what is cut

-- below `logs`, or that folder
abbrev pub IsLogFolder : Bytes → Type 0
IsLogFolder place = IsTrue (begins (codes "logs/") (place ++ 47 ∷ []))

-- a log at the path has only whole lines
abbrev pub IsCut : Tree → Bytes → Type 0
IsCut tree path = option_map (recovered_node path) (get tree path) ≡ get tree path

abbrev pub AreCutBelow : Bytes → Tree → Type 0
AreCutBelow place tree = (n : ℕ) (path : Bytes) → above (suc n) path ≡ place → IsCut tree path

-- at each path is what was there, or of a log its whole lines
abbrev pub Cuts : Tree → Tree → Type 0
Cuts old new =
    (path : Bytes) → (get new path ≡ get old path)
    ⊎ (get new path ≡ option_map (recovered_node path) (get old path))

-- the most bytes of a file that are read at once
abbrev pub max_piece : ℕ
max_piece = 65_536

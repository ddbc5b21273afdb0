-- What may be at each path of a repository's names part (gitrepository-layout(5)).
use Rattle.std.specs.Prelude.{◌≡◌, ◌⊎◌, ⊤, ℕ, suc, Bool, ◌&&◌, [], Option, Some, None, Result, OnOk, drop, codes, IsTrue, IsFalse}
use Rattle.std.specs.List.{AllByRecursion}
use Rattle.std.specs.FinMap.{get}
use Rattle.gix_hash.specs.Id.{Id, id_of}
use Rattle.gix_hash.specs.declared.kind.Kind.{Kind}
use Rattle.gix_ref_file.specs.Changes.{is_file_at}
use Rattle.gix_ref_file.specs.Tree.{Tree, Node, file, folder, bytes_at}
use Rattle.gix_ref_format.specs.Packed.{Record}
use Rattle.history_model.specs.Bytes.{Bytes, begins}
use Rattle.history_model.specs.FileMap.{is_below}
use Rattle.history_model.specs.Forms.{is_name, is_private}
use Rattle.history_model.specs.NameStates as states
use Rattle.history_model.specs.NameStates.{loose_state}
use Rattle.history_model.specs.Places.{file_at, head_place, packed_place, is_log_place, log_name, is_name_folder}
use Rattle.gix_ref_way.specs.Ways.{above}
use Rattle.history_check_names.specs.Logs.{SpellsLog}
use Rattle.history_check_names.specs.Packed.{has_name, is_packed_text, records_at}
use Rattle.history_check_names.specs.Stored.{is_well_peeled, may_be_held}
use Rattle.history_check_objects.specs.Stored.{Facts, kind_in}
use Rattle.history_check_names.specs.declared.loose.Loose.{Loose}
use Rattle.history_check_names.specs.declared.loose.Loose.TheVariants.{Holds, Symbolic, Faulty}

-- ---- the text of a name's file

abbrev pub is_symbolic_line : Bytes → Bool
is_symbolic_line text = begins (codes "ref: ") text && is_name (drop 5 text)

abbrev pub ReadsAs : Kind → Bytes → Loose → Type 0
ReadsAs kind text (Holds id) = loose_state kind text ≡ states.Holds (id_of id)
ReadsAs kind text Symbolic = (target : Bytes) × (loose_state kind text ≡ states.Symbolic target)
ReadsAs kind text Faulty = loose_state kind text ≡ states.Faulty

-- ---- files

-- no existing name is a folder of this one
abbrev pub IsApart : Kind → Tree → Bytes → Type 0
IsApart kind tree name =
    (other : Bytes) → IsTrue (is_below other name) → IsFalse (has_name kind tree other)

-- a name's file: it holds a stored commit or tag
pub record IsNameFile (kind : Kind) (facts : Facts) (tree : Tree) (name text : Bytes) : Type 0 where
  pub named : IsTrue (is_name name)
  pub common : IsFalse (is_private name)
  pub apart : IsApart kind tree name
  pub id : Id
  pub holds : loose_state kind text ≡ states.Holds id
  pub held : IsTrue (may_be_held (kind_in facts id))

-- the log of such a name
pub record IsLogFile (kind : Kind) (tree : Tree) (path text : Bytes) : Type 0 where
  pub place : IsTrue (is_log_place path)
  pub of_name : IsTrue (has_name kind tree (log_name path))
  pub log : SpellsLog kind text

-- a file that a repository has at this path; HEAD and `packed-refs` hold anything here
abbrev pub IsSoundFile : Kind → Facts → Tree → Bytes → Bytes → Type 0
IsSoundFile kind facts tree path text =
    (path ≡ head_place) ⊎ (path ≡ packed_place) ⊎ IsNameFile kind facts tree path text
    ⊎ IsLogFile kind tree path text

abbrev pub IsSoundAt : Kind → Facts → Tree → Bytes → Option Node → Type 0
IsSoundAt kind facts tree path None = ⊤
IsSoundAt kind facts tree path (Some (file text)) = IsSoundFile kind facts tree path text
IsSoundAt kind facts tree path (Some folder) = IsTrue (is_name_folder path)

-- ---- records

-- a record of a repository; its id counts only if the name has no file
pub record IsSoundRecord (kind : Kind) (facts : Facts) (tree : Tree) (entry : Record)
    : Type 0 where
  pub common : IsFalse (is_private entry.name)
  pub apart : IsApart kind tree entry.name
  pub held : IsFalse (is_file_at tree entry.name)
      → IsTrue (may_be_held (kind_in facts entry.target))
  pub peeled : IsTrue (is_well_peeled facts entry)

abbrev pub AreSoundRecords : Kind → Facts → Tree → Type 0
AreSoundRecords kind facts tree =
    AllByRecursion (IsSoundRecord kind facts tree) (records_at kind tree)

-- ---- calls

-- if the call succeeds, the file at the path is sound
abbrev pub Sounds : {T E : Type 0} → Kind → Facts → Bytes → Result T E → Tree → Type 0
Sounds kind facts path result tree =
    (text : Bytes) → file_at tree path ≡ Some text
    → OnOk result (IsSoundFile kind facts tree path text)

-- everything below a folder is sound
abbrev pub IsSoundBelow : Kind → Facts → Bytes → Tree → Type 0
IsSoundBelow kind facts place tree =
    (n : ℕ) (path : Bytes) → above (suc n) path ≡ place
    → IsSoundAt kind facts tree path (get tree path)

-- everything is sound
pub record IsSound (kind : Kind) (facts : Facts) (tree : Tree) : Type 0 where
  pub below : IsSoundBelow kind facts [] tree
  pub packed : IsTrue (is_packed_text kind (bytes_at tree packed_place))
  pub records : AreSoundRecords kind facts tree

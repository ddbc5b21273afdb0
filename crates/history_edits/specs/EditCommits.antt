-- The moments of a commit of edits, as the law on a command's edits has them.
use Rattle.std.specs.Prelude.{◌≡◌, ◌≢◌, ℕ, ⊤, List, [], ◌∷◌, Option, Some, None, Vec, IsTrue}
use Rattle.std.specs.List.{AllByRecursion}
use Rattle.std.specs.FinMap.{get}
use Rattle.std.specs.declared.alloc.Global.{Global}
use Rattle.gix_hash.specs.declared.kind.Kind.{Kind}
use Rattle.gix_ref_file.specs.Tree.{Tree, folder}
use Rattle.gix_ref_name.specs.Targets.{ToObject}
use Rattle.gix_ref_format.specs.Loose.{loose_text}
use Rattle.gix_ref_lock.specs.PackedEdits as packed
use Rattle.gix_ref_lock.specs.declared.packed.Transaction.{Transaction}
use Rattle.gix_ref_lock.specs.Committing.{OnTheWay, IsCommitted}
use Rattle.gix_ref_lock.specs.Contents.{place_of, lock_path_of, log_path_of}
use Rattle.gix_ref_lock.specs.Moments.{SameButLocks}
use Rattle.gix_ref_lock.specs.declared.act.Act.TheVariants.{Put, Remove}
use Rattle.gix_ref_lock.specs.declared.act.Move.{Move}
use Rattle.history_model.specs.Bytes.{Bytes}
use Rattle.history_model.specs.Forms.{is_name}
use Rattle.history_model.specs.Logs.{log_line}
use Rattle.history_model.specs.Places.{file_at, packed_place, log_place, is_lock_file, is_name_folder}
use Rattle.history_layout.specs.EditSteps.{MovedName, EditsOnTheWay, EditsMade, edited_names}
use Rattle.history_layout.specs.TakeSteps.{LacksRecord}
use Rattle.history_edits.specs.Bridges.{records_end}

-- the line is the entry's if the entry's two ids differ; otherwise there is none
abbrev pub IsLineFor : MovedName → Option (Vec ℕ Global) → Type 0
IsLineFor m None = m.entry.before ≡ m.entry.after
IsLineFor m (Some line) = (m.entry.before ≢ m.entry.after) × (line.items ≡ log_line m.entry)

-- The move replaces the name's file by the lock, which has the id after.
pub record PutsName (m : MovedName) (locked : Tree) (made : Move) : Type 0 where
  pub line : Option (Vec ℕ Global)
  pub act : made.act ≡ Put line
  pub place : place_of made ≡ m.name
  pub log : log_path_of made ≡ log_place m.name
  pub text : file_at locked (lock_path_of made) ≡ Some (loose_text (ToObject m.entry.after))
  pub told : IsLineFor m line

-- The move removes the name's file and its log.
pub record RemovesName (name : Bytes) (made : Move) : Type 0 where
  pub act : made.act ≡ Remove
  pub place : place_of made ≡ name
  pub log : log_path_of made ≡ log_place name

-- the moves are those of the names, in their order, and after them that of the deleted one
abbrev pub AreMovesOf : List MovedName → Option Bytes → Tree → List Move → Type 0
AreMovesOf [] None locked moves = moves ≡ []
AreMovesOf [] (Some name) locked [] = ⊥
AreMovesOf [] (Some name) locked (made ∷ moves) = RemovesName name made × (moves ≡ [])
AreMovesOf (m ∷ moved) taken locked [] = ⊥
AreMovesOf (m ∷ moved) taken locked (made ∷ moves) =
    PutsName m locked made × AreMovesOf moved taken locked moves

abbrev pub IsOfRecords : Option Transaction → Type 0
IsOfRecords None = ⊤
IsOfRecords (Some t) = packed.place_of t ≡ packed_place

-- packed records change only if a name is deleted, and are without its record in the end
abbrev pub RecordsGo : Kind → Option Bytes → Tree → Tree → Option Transaction → Type 0
RecordsGo kind None old locked t = t ≡ None
RecordsGo kind (Some name) old locked t =
    LacksRecord kind name (file_at old packed_place) (records_end old locked t)

-- What is ready to be committed: of the tree before, at most locks have changed.
pub record IsReady (kind : Kind) (moved : List MovedName) (taken : Option Bytes)
    (old locked : Tree) (t : Option Transaction) (moves : List Move) : Type 0 where
  pub named : AllByRecursion (λ name. IsTrue (is_name name)) (edited_names moved taken)
  pub moves_are : AreMovesOf moved taken locked moves
  pub at_records : IsOfRecords t
  pub records : RecordsGo kind taken old locked t
  pub locks : SameButLocks old locked

-- no folders exist but those of names and logs
abbrev pub HasNameFolders : Tree → Type 0
HasNameFolders tree =
    (path : Bytes) → get tree path ≡ Some folder → IsTrue (is_name_folder path)

-- While edits are made ready, no name moves.
abbrev pub ReadyingPasses : Type 0
ReadyingPasses =
    (kind : Kind) (moved : List MovedName) (taken : Option Bytes) (old tree : Tree)
    → AllByRecursion (λ name. IsTrue (is_name name)) (edited_names moved taken)
    → SameButLocks old tree → HasNameFolders tree → EditsOnTheWay kind moved taken old tree

-- While they are committed, the names are on the way.
abbrev pub CommitPasses : Type 0
CommitPasses =
    (kind : Kind) (moved : List MovedName) (taken : Option Bytes) (old locked tree : Tree)
    (t : Option Transaction) (moves : List Move)
    → IsReady kind moved taken old locked t moves → OnTheWay t moves locked tree
    → HasNameFolders tree → EditsOnTheWay kind moved taken old tree

-- no lock was made, and none was removed
abbrev pub LocksAsBefore : Tree → Tree → Type 0
LocksAsBefore old new =
    (path : Bytes) → IsTrue (is_lock_file path) → file_at new path ≡ file_at old path

-- After it the moves are made.
abbrev pub CommitMakes : Type 0
CommitMakes =
    (kind : Kind) (moved : List MovedName) (taken : Option Bytes) (old locked new : Tree)
    (t : Option Transaction) (moves : List Move)
    → IsReady kind moved taken old locked t moves → IsCommitted t moves locked new
    → LocksAsBefore old new → HasNameFolders new → EditsMade kind moved taken old new

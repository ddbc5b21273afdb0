-- An editor of a file map's files over existing trees, and why it isn't opened or an edit isn't
-- made.
use Rattle.std.specs.Prelude.{⊤, List, Contains, IsTrue, IsFalse}
use Rattle.std.specs.List.{AllByRecursion}
use Rattle.std.specs.FinMap.{keys}
use Rattle.gix_hash.specs.Id.{id_of}
use Rattle.gix_hash.specs.declared.kind.Kind.{Kind}
use Rattle.gix_object_editor.specs.Editor.{EachEntryHas, files_of}
use Rattle.gix_object_editor.specs.Stored.{HasStored}
use Rattle.gix_object_nodes.specs.Files.{Trees}
use Rattle.gix_object_editor.specs.declared.tree.editor.state.Editor.{Editor}
use Rattle.gix_object_lookup.specs.Table.{Table}
use Rattle.history_model.specs.Bytes.{is_empty}
use Rattle.history_model.specs.FileMap as model
use Rattle.history_model.specs.FileMap.{FileMap, IsFileMap, some_refused}
use Rattle.history_files.specs.Entries.{names_only, own_folders}
use Rattle.history_files.specs.Reading.{HasNoGoodTree}
use Rattle.history_files.specs.Unfolding.{HasTrees, IsUnfolded}
use Rattle.history_files.specs.declared.edits.EditError.{EditError}
use Rattle.history_files.specs.declared.edits.EditError.TheVariants.{BadPath, IsFolder, NullId, EmptyTree, Failed, Broken, Memory}

-- Folders whose trees are in the table. Each has a file, and the folders in it are among them.
pub record AreStanding (table : Table) (kind : Kind) (stands : List FileMap) : Type 0 where
  pub maps : AllByRecursion IsFileMap stands
  pub trees : AllByRecursion (HasTrees table kind) stands
  pub some : AllByRecursion (λ folder. IsFalse (is_empty (keys folder))) stands
  pub closed :
      AllByRecursion (λ folder. AllByRecursion (Contains stands) (own_folders folder)) stands

-- The editor has the files. Each entry of its opened trees names a file or one of these folders.
pub record EditsFiles {S : Type 0} (table : Table) (kind : Kind) (stands : List FileMap)
    (files : FileMap) (editor : Editor S) : Type 0 where
  pub standing : AreStanding table kind stands
  pub unfolds : (trees : Trees) → HasStored table trees
      → IsUnfolded kind files (files_of trees editor)
  pub each : EachEntryHas (names_only kind stands) editor

-- the tree whose id an error has can't be read or isn't well-formed, if the store is honest
abbrev pub TellsBroken : Type 0 → Table → EditError → Type 0
TellsBroken honest table BadPath = ⊤
TellsBroken honest table IsFolder = ⊤
TellsBroken honest table NullId = ⊤
TellsBroken honest table EmptyTree = ⊤
TellsBroken honest table Failed = ⊤
TellsBroken honest table (Broken oid) = honest → HasNoGoodTree table (id_of oid)
TellsBroken honest table Memory = ⊤

-- why the editor isn't opened
abbrev pub OpenFault : Type 0 → EditError → Type 0
OpenFault may_fail BadPath = ⊥
OpenFault may_fail IsFolder = ⊥
OpenFault may_fail NullId = ⊥
OpenFault may_fail EmptyTree = ⊥
OpenFault may_fail Failed = may_fail
OpenFault may_fail (Broken oid) = ⊥
OpenFault may_fail Memory = ⊤

-- why edits at paths aren't made
abbrev pub MakingFault : Type 0 → FileMap → List model.Edit → EditError → Type 0
MakingFault may_fail files made BadPath = ⊥
MakingFault may_fail files made IsFolder = IsTrue (some_refused files made)
MakingFault may_fail files made NullId = ⊥
MakingFault may_fail files made EmptyTree = ⊥
MakingFault may_fail files made Failed = may_fail
MakingFault may_fail files made (Broken oid) = ⊥
MakingFault may_fail files made Memory = ⊤

use Rattle.std.proofs.Common.{◌≡◌, ◌≤◌, ◌<◌, ◌+◌, ◌^◌, List, [], drop, take}
use Rattle.std.specs.List.{AllByRecursion}
use Rattle.gix_hash.specs.declared.kind.Kind.{Kind}
use Rattle.gix_object_nodes.specs.Files.{Trees}
use Rattle.gix_object_editor.specs.Stored.{HasStored}
use Rattle.gix_object_editor.specs.Editor.{EachEntryHas, IsAsRead, asked_by, files_of}
use Rattle.gix_object_editor.specs.Entries.{PassesDown, Property}
use Rattle.history_files.specs.Editing.{HavePaths}
use Rattle.history_files.specs.Entries.{GraftsStand, MayBeMade}
use Rattle.history_files.specs.Lookups.{RisesBy}
use Rattle.history_files.specs.Opening.{EditsFiles}
use Rattle.history_files.proofs.Leftover.{IsLeftOver}
use Rattle.history_model.specs.FileMap as model
use Rattle.history_model.specs.FileMap.{FileMap}
use Rattle.history_files.specs.Unfolding.{IsUnfolded}
use Rattle.history_files.specs.Edits.{AreEdits, name_count}
use Rattle.history_files.proofs.Changes.{IsLeft}
use Rattle.history_files.proofs.edits.make_edits.Given as goal

abbrev pub invariant-loop-edit : goal.invariant-loop-edit
invariant-loop-edit g l =
    (l.editor.store ≡ l.fn.editor.store)
    × (l.editor.lookups + name_count (drop l.edit-index l.edits) ≤ l.fn.editor.lookups + name_count l.edits)
    × (g.S.Lookup.is_honest l.fn.editor.store → (trees : Trees) (kind : Kind) (files : FileMap) (made : List model.Edit)
    → HasStored (g.S.Lookup.table l.fn.editor.store) trees → AreEdits (g.S.Lookup.table l.fn.editor.store) kind l.edits made → IsUnfolded kind files (files_of trees l.fn.editor)
    → IsLeft (g.S.Lookup.table l.fn.editor.store) kind files made (drop l.edit-index l.edits) (files_of trees l.editor))
    × (g.S.Lookup.is_honest l.fn.editor.store → (trees : Trees) → HasStored (g.S.Lookup.table l.fn.editor.store) trees → IsAsRead trees l.fn.editor → IsAsRead trees l.editor)
    × (g.S.Lookup.is_honest l.fn.editor.store → (has : Property) → PassesDown (g.S.Lookup.table l.fn.editor.store) has → MayBeMade has l.edits
    → EachEntryHas has l.fn.editor → EachEntryHas has l.editor × MayBeMade has (drop l.edit-index l.edits))
    × (g.S.Lookup.is_honest l.fn.editor.store → (kind : Kind) (stands : List FileMap) (files : FileMap) (made : List model.Edit) → EditsFiles (g.S.Lookup.table l.fn.editor.store) kind stands files l.fn.editor
    → HavePaths made → AreEdits (g.S.Lookup.table l.fn.editor.store) kind l.edits made → AllByRecursion (GraftsStand stands) made → IsLeftOver (g.S.Lookup.table l.fn.editor.store) kind stands files made (drop l.edit-index l.edits) l.editor)
    × (g.S.Lookup.is_honest l.fn.editor.store → (trees : Trees) → HasStored (g.S.Lookup.table l.fn.editor.store) trees → l.fn.editor.lookups + name_count l.edits < 2 ^ 64
    → RisesBy (λ names. asked_by l.fn.editor names trees) (take l.edit-index l.edits) l.fn.editor.lookups l.editor.lookups × (take l.edit-index l.edits ≡ [] → l.editor ≡ l.fn.editor))

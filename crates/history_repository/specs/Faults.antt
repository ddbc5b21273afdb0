-- Why a command isn't done.
use Rattle.std.specs.Prelude.{⊤}
use Rattle.gix_ref_file.specs.declared.files.FileError.{FileError}
use Rattle.gix_traverse_graph.specs.declared.rows.RowsError.{RowsError}
use Rattle.history_model.specs.declared.Fault.{Fault}
use Rattle.history_model.specs.declared.Fault.TheVariants.{Memory, File, IdTaken}
use Rattle.history_files.specs.declared.error.ReadError.{ReadError}
use Rattle.history_store.specs.declared.objects.PutMadeError.{PutMadeError}
use Rattle.history_walks.specs.declared.error.WalkError.{WalkError}
use Rattle.history_repository.specs.declared.stopped.Stopped.{Stopped}
use Rattle.gix_ref_file.specs.declared.files.FileError.TheVariants as file
use Rattle.gix_object_lookup.specs.declared.find.Error as find
use Rattle.gix_object_lookup.specs.declared.find.Error.TheVariants as found
use Rattle.gix_traverse_graph.specs.declared.rows.RowsError.TheVariants as rows
use Rattle.history_files.specs.declared.error.ReadError.TheVariants as read
use Rattle.history_store.specs.declared.objects.PutMadeError.TheVariants as put
use Rattle.history_walks.specs.declared.error.WalkError.TheVariants as walk
use Rattle.history_repository.specs.declared.stopped.Stopped.TheVariants as stopped

abbrev pub file_fault : FileError → Fault
file_fault file.Failed = File
file_fault file.Memory = Memory

-- In a whole store each tree that is read exists.
abbrev pub read_fault : ReadError → Fault
read_fault read.Failed = File
read_fault (read.Broken oid) = File
read_fault read.Memory = Memory

-- In a whole store each commit that a walk comes to exists.
abbrev pub walk_fault : WalkError → Fault
walk_fault walk.Failed = File
walk_fault walk.Broken = File
walk_fault walk.Memory = Memory

-- The rows of a whole repository make a graph.
abbrev pub rows_fault : RowsError → Fault
rows_fault rows.Memory = Memory
rows_fault (rows.Twice id) = File
rows_fault (rows.MissingParent id parent) = File
rows_fault (rows.BadGeneration id) = File

abbrev pub find_fault : find.Error → Fault
find_fault found.Failed = File
find_fault found.Memory = Memory

abbrev pub fault_of_put : PutMadeError → Fault
fault_of_put (put.IdTaken id) = IdTaken
fault_of_put put.File = File
fault_of_put put.Memory = Memory

abbrev pub IsFault : Stopped → Type 0
IsFault (stopped.Fault fault) = ⊤
IsFault (stopped.Refused cause) = ⊥

abbrev pub IsRefusal : Stopped → Type 0
IsRefusal (stopped.Fault fault) = ⊥
IsRefusal (stopped.Refused cause) = ⊤

-- Edits that are tested in place of others: whatever they put has one id, which isn't null.
use Rattle.std.specs.Prelude.{Bool, false}
use Rattle.gix_hash.specs.Id.{id_of}
use Rattle.gix_hash.specs.declared.object_id.ObjectId.{ObjectId}
use Rattle.gix_object_nodes.specs.Files.{is_null}
use Rattle.history_files.specs.declared.edits.Change.{Change}
use Rattle.history_files.specs.declared.edits.Change.TheVariants.{Put, Remove, RemoveFile, Graft}
use Rattle.history_files.specs.declared.edits.Edit.{Edit}

abbrev pub change_with : ObjectId → Change → Change
change_with blank (Put kind id) = Put kind blank
change_with blank Remove = Remove
change_with blank RemoveFile = RemoveFile
change_with blank (Graft found) = Graft found

abbrev pub stand_in : ObjectId → Edit → Edit
stand_in blank edit = record { path = edit.path; change = change_with blank edit.change }

-- whether the change puts what has the null id
abbrev pub puts_null : Change → Bool
puts_null (Put kind id) = is_null (id_of id)
puts_null Remove = false
puts_null RemoveFile = false
puts_null (Graft found) = false

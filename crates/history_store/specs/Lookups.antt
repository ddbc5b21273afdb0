-- Why a lookup gave up.
use Rattle.gix_ref_file.specs.declared.files.FileError.{FileError}
use Rattle.gix_ref_file.specs.declared.files.FileError.TheVariants as files
use Rattle.gix_object_lookup.specs.declared.find.Error as find
use Rattle.gix_object_lookup.specs.declared.find.Error.TheVariants as found

abbrev pub find_fault : FileError → find.Error
find_fault files.Failed = found.Failed
find_fault files.Memory = found.Memory

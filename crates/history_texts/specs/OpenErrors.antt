-- How a failed call of the files is reported when a folder is opened.
use Rattle.gix_ref_file.specs.declared.files.FileError.{FileError}
use Rattle.gix_ref_file.specs.declared.files.FileError.TheVariants as files
use Rattle.history_texts.specs.declared.open_error.OpenError.{OpenError}
use Rattle.history_texts.specs.declared.open_error.OpenError.TheVariants.{File, Memory}

abbrev pub file_error : FileError → OpenError
file_error files.Failed = File
file_error files.Memory = Memory

-- What files return, as a system returns it.
use Rattle.std.specs.Prelude.{◌≡◌, Result, Ok, Err}
use Rattle.std.specs.IoError.{error_kind}
use Rattle.std.specs.declared.io.Error.{Error}
use Rattle.std.specs.declared.io.ErrorKind.{ErrorKind}
use Rattle.std.specs.declared.io.ErrorKind.TheVariants.{OutOfMemory, Other}
use Rattle.gix_ref_file.specs.declared.files.FileError.{FileError}
use Rattle.gix_ref_file.specs.declared.files.FileError.TheVariants.{Failed, Memory}

-- the kind of an error, which says nothing of what exists
abbrev pub kind_for : FileError → ErrorKind
kind_for Memory = OutOfMemory
kind_for Failed = Other

-- a call's value, or an error for its error
abbrev pub IsReport : {T : Type 0} → Result T FileError → Result T Error → Type 0
IsReport done (Ok value) = done ≡ Ok value
IsReport done (Err error) =
    (why : FileError) × (done ≡ Err why) × (error_kind error ≡ kind_for why)

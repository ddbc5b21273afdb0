-- Errors of the system: what they mean, and what is kept of the last one.
use Rattle.std.specs.Prelude.{◌≡◌, ◌⊎◌, ℕ, Bool, true, false, List, [], Option, Some, None, option_map, Result, Ok, Err, IfOk, IsSomeAnd}
use Rattle.std.specs.IoError.{error_kind}
use Rattle.std.specs.declared.io.Error.{Error}
use Rattle.std.specs.declared.io.ErrorKind.{ErrorKind}
use Rattle.std.specs.declared.io.ErrorKind.TheVariants.{AlreadyExists, NotFound, NotADirectory, InvalidFilename, OutOfMemory}
use Rattle.gix_ref_file.specs.declared.files.FileError.{FileError}
use Rattle.gix_ref_file.specs.declared.files.FileError.TheVariants.{Failed, Memory}
use Rattle.gix_ref_folder.specs.declared.failure.Failure.{Failure}
use Rattle.gix_ref_folder.specs.declared.failures.FailedChanges.{FailedChanges}
use Rattle.gix_ref_folder.specs.declared.failures.Failures.{Failures}

-- what a call returns
abbrev pub fault_of : ErrorKind → FileError
fault_of OutOfMemory = Memory
fault_of _ = Failed

-- whether nothing exists at the path: none does at one that is too long for the system, and a
-- refused permission says nothing of it
abbrev pub means_absent : ErrorKind → Bool
means_absent NotFound = true
means_absent NotADirectory = true
means_absent InvalidFilename = true
means_absent _ = false

-- whether a file was made, or something is there already
abbrev pub IsNew : Result (Unit {0}) Error → Result Bool Error → Type 0
IsNew (Ok _) told = IfOk told (λ new. new ≡ true)
IsNew (Err error) told = IfOk told (λ new. (new ≡ false) × (error_kind error ≡ AlreadyExists))

-- the path of a call that failed, and the system's error
abbrev pub failed_path : Failure → List ℕ
failed_path failure = failure.path.items

abbrev pub failed_error : Failure → Error
failed_error failure = failure.error

-- a failed call of this path and with this error; the path is empty if memory for it was refused
abbrev pub IsFailureOf : List ℕ → Error → Failure → Type 0
IsFailureOf path error failure =
    ((failure.path.items ≡ path) ⊎ (failure.path.items ≡ [])) × (failure.error ≡ error)

-- how many changes failed
abbrev pub failed_count : Option FailedChanges → ℕ
failed_count (Some changes) = changes.count
failed_count None = 0

abbrev pub count_of : Failures → ℕ
count_of failures = failed_count failures.changes

-- the last change that failed
abbrev pub last_of : Failures → Option Failure
last_of failures = option_map (λ changes. changes.last) failures.changes

-- a change failed, and the last that did is of this path and with this error
abbrev pub IsLast : List ℕ → Error → Failures → Type 0
IsLast path error failures = IsSomeAnd (last_of failures) (IsFailureOf path error)

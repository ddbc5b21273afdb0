-- Why a way isn't made.
use Rattle.std.specs.Prelude.{◌≡◌, ℕ, Result, Ok, Err}
use Rattle.gix_ref_file.specs.declared.files.FileError.{FileError}
use Rattle.gix_ref_file.specs.declared.files.FileError.TheVariants as file_case
use Rattle.gix_ref_way.specs.declared.error.Halt.{Halt}
use Rattle.gix_ref_way.specs.declared.error.Halt.TheVariants as halt

-- an error of a change of files, as that of a way
abbrev pub halt_of : FileError → Halt
halt_of file_case.Failed = halt.Failed
halt_of file_case.Memory = halt.Memory

-- no failure was counted, unless a change failed
abbrev pub IsQuiet : {T : Type 0} → Result T Halt → ℕ → ℕ → Type 0
IsQuiet (Err halt.Failed) before now = Unit {0}
IsQuiet result before now = now ≡ before

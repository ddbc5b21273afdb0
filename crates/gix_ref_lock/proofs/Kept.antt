-- What calls keep together, one after another.
use Rattle.std.proofs.Common.{◌∙◌, ap, arith}
use Rattle.std.specs.Prelude.{Result, Ok, Err, OnOk, IsErrOf}
use Rattle.gix_ref_file.specs.declared.files.FileError.{FileError}
use Rattle.gix_ref_file.specs.declared.files.FileError.TheVariants.{Memory}
use Rattle.gix_ref_file.specs.declared.files.Files.{Ghosts}
use Rattle.gix_ref_lock.specs.Calls.{IsForMemory, EndsQuietly, KeepsFolders, StaysHonest}
use Rattle.gix_ref_lock.proofs.LockLemmas.{folders_joined}

-- what holds of a success and of want of memory holds of a quiet outcome
pub quiet_of : {T P : Type 0} (r : Result T FileError) → OnOk r P → (IsErrOf r Memory → P) → EndsQuietly IsForMemory r → P
quiet_of (Ok x) done memory quiet = done
quiet_of (Err e) done memory quiet = memory (ap Err quiet)

pub quiet_more : {T E : Type 0} {V W : E → Type 0} (r : Result T E) → ((error : E) → V error → W error) → EndsQuietly V r → EndsQuietly W r
quiet_more (Ok x) more quiet = tt
quiet_more (Err e) more quiet = more e quiet

pub honest_joined : {F A B C : Type 0} (files : Ghosts F) (old mid new : F) → StaysHonest files A old mid → StaysHonest files B mid new → (C → A × B) → StaysHonest files C old new
honest_joined files old mid new first second both = record {
  honest = λ honest. second.honest (first.honest honest);
  later = omega (arith, first.later, second.later);
  quiet = λ quiet. second.quiet (both quiet).1 ∙ first.quiet (both quiet).0;
}

pub kept_joined : {F A B C : Type 0} (files : Ghosts F) (old mid new : F) → KeepsFolders files A old mid → KeepsFolders files B mid new → (C → A × B) → KeepsFolders files C old new
kept_joined files old mid new first second both = record {
  honest = λ honest. second.honest (first.honest honest);
  later = omega (arith, first.later, second.later);
  quiet = λ quiet. second.quiet (both quiet).1 ∙ first.quiet (both quiet).0;
  folders = λ honest. folders_joined (files.history old) (files.history mid) (files.history new) (first.folders honest) (second.folders (first.honest honest));
}

-- without its folders
pub honest_of : {F A : Type 0} (files : Ghosts F) (old new : F) → KeepsFolders files A old new → StaysHonest files A old new
honest_of files old new kept = record { honest = kept.honest; later = kept.later; quiet = kept.quiet }

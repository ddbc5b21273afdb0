-- If names don't move, a fault was met.
use Rattle.std.proofs.Common.{◌≡◌, refl, sym, subst}
use Rattle.std.specs.Prelude.{OnOk, Result, Ok, Err}
use Rattle.gix_ref_file.specs.declared.files.FileError.{FileError}
use Rattle.history_model.specs.declared.Fault.{Fault}
use Rattle.history_model.specs.declared.Fault.TheVariants.{Memory, File, IdTaken}
use Rattle.history_repository.specs.Faults.{file_fault}
use Rattle.history.specs.Moving.{LeavesMoved}
use Rattle.gix_ref_file.specs.declared.files.FileError.TheVariants as files

-- the fault is that of a change of the files
pub met_fault : (C M : Type 0) (error : FileError) (fault : Fault) → fault ≡ file_fault error → (error ≡ files.Failed → C) → LeavesMoved C M (Err fault)
met_fault C M files.Failed fault is failed = subst (λ f. LeavesMoved C M (Err f)) (sym is) (failed refl)
met_fault C M files.Memory fault is failed = subst (λ f. LeavesMoved C M (Err f)) (sym is) tt

-- what follows if all have moved
pub leaves_so : (C D M N X : Type 0) (result : Result (Unit {0}) Fault) → (C → D) → OnOk result X → (M → X → N) → LeavesMoved C M result → LeavesMoved D N result
leaves_so C D M N X (Ok done) keep x so m = so m x
leaves_so C D M N X (Err Memory) keep x so m = tt
leaves_so C D M N X (Err File) keep x so m = keep m
leaves_so C D M N X (Err IdTaken) keep x so m = absurd m

pub leaves_more : (C M N : Type 0) (result : Result (Unit {0}) Fault) → (M → N) → LeavesMoved C M result → LeavesMoved C N result
leaves_more C M N (Ok done) so m = so m
leaves_more C M N (Err Memory) so m = tt
leaves_more C M N (Err File) so m = m
leaves_more C M N (Err IdTaken) so m = absurd m

-- what all of them leave, if no fault was met
pub where_moved : (C M : Type 0) (result : Result (Unit {0}) Fault) → LeavesMoved C M result → OnOk result M
where_moved C M (Ok done) m = m
where_moved C M (Err fault) m = tt

pub ok_more : {T E P Q : Type 0} (result : Result T E) → (P → Q) → OnOk result P → OnOk result Q
ok_more (Ok done) more p = more p
ok_more (Err fault) more p = tt

-- A fault marks a repository as failed: what is said of a fault is said of no repository that is
-- whole.
use Rattle.std.proofs.Common.{true, Err}
use Rattle.gix_ref_file.specs.declared.files.Files.{Ghosts}
use Rattle.history_model.specs.Commands.{Command}
use Rattle.history_model.specs.declared.Fault.TheVariants.{Memory, File, IdTaken}
use Rattle.history_repository.specs.declared.repository.Repository.{Repository}
use Rattle.history_repository.specs.declared.stopped.Stopped.TheVariants.{Fault}
use Rattle.history.specs.Calls.{MovesAsAsked, StoresAsAsked}
use Rattle.history_model.specs.Repository as plain
use Rattle.history_model.specs.declared.Fault as faults

module _ {F : Type 0} (files : Ghosts F) (r : plain.Repository) (sent : Command) (old new : Repository F) where
  pub fault_stores : (fault : faults.Fault) → StoresAsAsked files r sent old new (Err (Fault fault)) → StoresAsAsked files r sent old (record new { has_failed = true }) (Err (Fault fault))
  fault_stores Memory h = record { ends = tt; passes = h.passes }
  fault_stores File h = record { ends = h.ends; passes = h.passes }
  fault_stores IdTaken h = record { ends = h.ends; passes = h.passes }

  pub fault_moves : (fault : faults.Fault) → MovesAsAsked files r sent old new (Err fault) → MovesAsAsked files r sent old (record new { has_failed = true }) (Err fault)
  fault_moves Memory h = record { ends = tt; passes = h.passes; leaves = tt }
  fault_moves File h = record { ends = h.ends; passes = h.passes; leaves = tt }
  fault_moves IdTaken h = absurd h.ends

-- What a call keeps that changes files.
use Rattle.std.specs.Prelude.{◌≡◌, ◌≤◌, Result, OnOk, IsErrOf}
use Rattle.gix_ref_file.specs.declared.files.Files.{Ghosts}

-- Honest files stay honest. The count of their failed calls only rises, and not at all at a success
-- or if a growth was refused.
pub record ChangesHonestly {F T E : Type 0} (files : Ghosts F) (refused : E) (old new : F)
    (result : Result T E) : Type 0 where
  pub honest : files.is_honest old → files.is_honest new
  pub later : files.failures old ≤ files.failures new
  pub unfailed : OnOk result (files.failures new ≡ files.failures old)
  pub memory : IsErrOf result refused → files.failures new ≡ files.failures old

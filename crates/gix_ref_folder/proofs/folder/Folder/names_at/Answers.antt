use Rattle.std.proofs.Common.{◌∙◌, sym}
use Rattle.gix_ref_folder.proofs.Reported.{no_names}
use Rattle.gix_ref_folder.proofs.folder.Folder.names_at.Goals as goal

pub returns-in-Ok : goal.returns-in-Ok
returns-in-Ok g c root part path honest place = rw c.in-Ok.is at (c.list.ensures.names root part path honest place)

pub returns-in-Err : goal.returns-in-Err
returns-in-Err g c root part path honest place = no_names _ _ _ c.new.ensures.items (rw c.in-Err.is at (c.list.ensures.missing root part path honest place) (sym c.is_missing.ensures ∙ c.if-is_missing.true))

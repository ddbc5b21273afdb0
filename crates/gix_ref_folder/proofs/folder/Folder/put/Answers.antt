use Rattle.gix_ref_folder.proofs.Made.{at_place}
use Rattle.gix_ref_folder.proofs.Written.{written_there, written_kept}
use Rattle.gix_ref_folder.proofs.folder.Folder.put.Goals as goal

pub returns-clause-change : goal.returns-clause-change
returns-clause-change g c honest =
    let text = c.as_str.ensures.value in
    let does = c.write-done.ensures.change _ _ _ honest.0 (at_place _ _ _ _ _ text c.in_ok-place.ensures) in (
      (
        does.0,
        written_kept _ _ _ _ _ c.write-done.result c.if_written.ensures
            (λ path placed. written_there path _ _ _ c.write-done.result _ placed.1 (c.write-done.ensures.change _ _ path honest.0 (at_place _ _ _ _ _ text placed)).1.made),
      ),
      does.1,
    )

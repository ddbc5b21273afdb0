use Rattle.std.proofs.Common.{◌∙◌, sym}
use Rattle.gix_ref_folder.proofs.Made.{at_place, root_already, root_there, new_made, new_there}
use Rattle.gix_ref_folder.proofs.Written.{created_there, written_kept}
use Rattle.gix_ref_folder.proofs.folder.Folder.make_new.Goals as goal

pub returns-then-is_empty-clause-change : goal.returns-then-is_empty-clause-change
returns-then-is_empty-clause-change g c honest = (honest, root_already _ _ _ _ (sym c.is_empty.ensures ∙ c.if-is_empty.true))

pub returns-then-is_empty-clause-is_new : goal.returns-then-is_empty-clause-is_new
returns-then-is_empty-clause-is_new g c honest = root_there _ _ (sym c.is_empty.ensures ∙ c.if-is_empty.true)

pub returns-clause-change : goal.returns-clause-change
returns-clause-change g c honest =
    let text = c.as_str.ensures.value in
    let place = at_place _ _ _ _ _ text c.in_ok-place.ensures in
    let does = c.create_new-made.ensures.change _ _ _ honest.0 place in (
      (
        does.0,
        written_kept _ _ _ _ _ c.create_new-made.result c.if_written.ensures
            (λ path placed. created_there path _ _ _ c.create_new-made.result _ placed.1 (c.create_new-made.ensures.free _ _ path honest.0 (at_place _ _ _ _ _ text placed))
            (c.create_new-made.ensures.change _ _ path honest.0 (at_place _ _ _ _ _ text placed)).1.made),
      ),
      new_made _ _ _ _ _ _ c.is_new.ensures does.1 (c.create_new-made.ensures.taken _ _ _ honest.0 place),
    )

pub returns-clause-is_new : goal.returns-clause-is_new
returns-clause-is_new g c honest =
    let place = at_place _ _ _ _ _ c.as_str.ensures.value c.in_ok-place.ensures in
    new_there _ _ _ _ c.is_new.ensures (c.create_new-made.ensures.free _ _ _ honest.0 place) (c.create_new-made.ensures.taken _ _ _ honest.0 place)

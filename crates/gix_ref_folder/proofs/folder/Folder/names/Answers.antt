use Rattle.std.proofs.Common.{◌∙◌, sym, subst}
use Rattle.std.specs.Prelude.{IfOk}
use Rattle.gix_ref_folder.specs.Folders.{history_in}
use Rattle.gix_ref_folder.specs.Systems.{AreNames}
use Rattle.gix_ref_folder.proofs.Made.{at_place}
use Rattle.gix_ref_folder.proofs.Reported.{empty_path, no_names, nothing_outside, absent_no_folder}
use Rattle.gix_ref_folder.proofs.folder.Folder.names.Goals as goal

pub returns-then-is_empty : goal.returns-then-is_empty
returns-then-is_empty g c honest =
    subst (λ folder. IfOk c.root_names.result (λ names. AreNames (history_in g.S.System.history c.args.self.now).tree folder names.items)) (empty_path _ (sym c.is_empty.ensures ∙ c.if-is_empty.true)) (c.root_names.ensures honest)

pub returns-in-Some : goal.returns-in-Some
returns-in-Some g c honest = c.names_at.ensures _ _ _ honest.0 (at_place _ _ _ _ _ c.as_str.ensures.value (rw c.in-Some.is at c.in_ok-place.ensures))

pub returns-in-None : goal.returns-in-None
returns-in-None g c honest =
    no_names _ _ _ c.new.ensures.items (absent_no_folder _ (nothing_outside _ _ _ (sym c.is_empty.ensures ∙ c.if-is_empty.false)
    (g.met.S.System.shown _ _ _ honest.0) (rw c.in-None.is at c.in_ok-place.ensures)))

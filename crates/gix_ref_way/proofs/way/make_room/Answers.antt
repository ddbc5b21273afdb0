use Rattle.std.proofs.Common.{◌≡◌, refl, sym, ◌∙◌, Option, Some, None, false}
use Rattle.std.proofs.lemmas.Result.{on_ok_weaker}
use Rattle.gix_ref_file.specs.Tree.{Node, file, folder, node_at, is_folder, place_of}
use Rattle.gix_ref_file.specs.declared.files.Place.TheVariants as places
use Rattle.gix_ref_file.proofs.Histories.{adds_weaker}
use Rattle.gix_ref_way.proofs.Above.{now_above}
use Rattle.gix_ref_way.proofs.Blocked.{blocked_above}
use Rattle.gix_ref_way.proofs.FilesBelow.{folder_no_file}
use Rattle.gix_ref_way.proofs.FoldersKept.{while_nothing}
use Rattle.gix_ref_way.proofs.FoldersMade.{may_hold, none_there}
use Rattle.gix_ref_way.proofs.way.make_room.Goals as goal

absent_no_folder : (o : Option Node) → place_of o ≡ places.Absent → is_folder o ≡ false
absent_no_folder None e = refl
absent_no_folder (Some (file bytes)) e = cc
absent_no_folder (Some folder) e = cc

pub returns-in-Ok-Absent-clause-stay : goal.returns-in-Ok-Absent-clause-stay
returns-in-Ok-Absent-clause-stay g c = λ honest.
    let old = g.F.Files.history c.args.files.now in
    adds_weaker old (g.F.Files.history c.make_missing.new.files) (c.make_missing.ensures.stay honest) (λ x keeps. while_nothing c.args.path.now old.tree x keeps)

pub returns-in-Ok-Absent-clause-room : goal.returns-in-Ok-Absent-clause-room
returns-in-Ok-Absent-clause-room g c = λ honest whole.
    let path = c.args.path.now in
    let old = g.F.Files.history c.args.files.now in
    let new = g.F.Files.history c.make_missing.new.files in
    on_ok_weaker c.make_missing.result
    (λ made. may_hold new.tree path whole made (none_there path old.tree new.tree (now_above path old new (c.make_missing.ensures.folders honest))
    (absent_no_folder (node_at old.tree path) (sym (c.in-Ok-Absent.ensures.place honest) ∙ c.in-Ok-Absent.field-0-is))))
    (c.make_missing.ensures.made honest)

pub returns-in-Ok-Absent-clause-blocked : goal.returns-in-Ok-Absent-clause-blocked
returns-in-Ok-Absent-clause-blocked g c = λ honest blocked. blocked_above c.args.path.now (g.F.Files.history c.args.files.now).tree (c.make_missing.ensures.blocked honest blocked)

pub returns-in-Ok-Folder-clause-blocked : goal.returns-in-Ok-Folder-clause-blocked
returns-in-Ok-Folder-clause-blocked g c = λ honest blocked.
    c.replace_folder.ensures.blocked honest blocked
    (sym (folder_no_file (g.F.Files.history c.args.files.now).tree c.args.path.now (sym (c.in-Ok-Folder.ensures.place honest) ∙ c.in-Ok-Folder.field-0-is)))

use Rattle.std.proofs.Common.{◌≡◌, ◌≢◌, ◌∙◌, [], Some, None, arith, rules, sym, subst}
use Rattle.std.specs.Prelude.{IsTrue}
use Rattle.std.specs.FinMap.{get}
use Rattle.std.proofs.lemmas.Result.{on_ok_weaker}
use Rattle.gix_ref_file.specs.Tree.{folder, is_path}
use Rattle.gix_ref_file.proofs.Histories.{adds_weaker}
use Rattle.gix_ref_file.proofs.Listings.{root_is_no_path}
use Rattle.gix_ref_way.proofs.Stored.{same_joined}
use Rattle.gix_ref_way.proofs.Above.{now_above}
use Rattle.gix_ref_way.proofs.Blocked.{above_before, blocked_above, blocked_below}
use Rattle.gix_ref_way.proofs.FoldersKept.{clear_stay, way_stay}
use Rattle.gix_ref_way.proofs.FoldersMade.{risen_later}
use Rattle.gix_ref_way.proofs.Clearings.{way_now, cleared_above, room_made}
use Rattle.gix_ref_way.proofs.way.replace_folder.Goals as goal

pub returns-clause-moments : goal.returns-clause-moments
returns-clause-moments g c = λ honest.
    same_joined (g.F.Files.history c.args.files.now) (g.F.Files.history c.clear_way.new.files) (g.F.Files.history c.make_missing.new.files) (adds_weaker (g.F.Files.history c.args.files.now) (g.F.Files.history c.clear_way.new.files) (c.clear_way.ensures.moments honest) (λ x clears. clears.files)) (c.make_missing.ensures.moments (c.clear_way.ensures.honest honest))

pub returns-clause-folders : goal.returns-clause-folders
returns-clause-folders g c = λ honest.
    cleared_above c.args.path.now (g.F.Files.history c.args.files.now) (g.F.Files.history c.clear_way.new.files) (g.F.Files.history c.make_missing.new.files) (c.clear_way.ensures.moments honest) (c.make_missing.ensures.folders (c.clear_way.ensures.honest honest))

pub returns-clause-room : goal.returns-clause-room
returns-clause-room g c = λ honest whole.
    let path = c.args.path.now in
    let mid = g.F.Files.history c.clear_way.new.files in
    let new = g.F.Files.history c.make_missing.new.files in
    let still = c.clear_way.ensures.honest honest in
    let some : path ≢ [] = λ root. root_is_no_path (subst (λ p. IsTrue (is_path p)) root whole) in
    let none : get mid.tree path ≡ None = c.in_ok-clear_way.ensures.gone honest some in
    let gone : get mid.tree path ≢ Some folder = λ there. let wrong : None ≡ Some folder = sym none ∙ there in cc wrong in
    on_ok_weaker c.make_missing.result (room_made path mid.tree new.tree whole gone (now_above path mid new (c.make_missing.ensures.folders still))) (c.make_missing.ensures.made still)

pub returns-clause-blocked : goal.returns-clause-blocked
returns-clause-blocked g c = λ honest blocked none.
    let path = c.args.path.now in
    let old = g.F.Files.history c.args.files.now in
    let mid = g.F.Files.history c.clear_way.new.files in
    blocked_above path old.tree (above_before path old.tree mid.tree (way_now path old mid (c.clear_way.ensures.moments honest)).files (c.make_missing.ensures.blocked (c.clear_way.ensures.honest honest) blocked))

pub returns-in_err-clear_way-clause-blocked : goal.returns-in_err-clear_way-clause-blocked
returns-in_err-clear_way-clause-blocked g c = λ honest blocked none.
    blocked_below c.args.path.now (g.F.Files.history c.args.files.now).tree (c.clear_way.ensures.blocked honest (search rules)) none

pub returns-clause-failed : goal.returns-clause-failed
returns-clause-failed g c = λ honest whole failed.
    risen_later _ _ _ _ c.clear_way.ensures.later (c.make_missing.ensures.failed (c.clear_way.ensures.honest honest) whole failed) (omega arith)

pub returns-in_err-clear_way-clause-stay : goal.returns-in_err-clear_way-clause-stay
returns-in_err-clear_way-clause-stay g c = λ honest.
    clear_stay c.args.path.now (g.F.Files.history c.args.files.now) (g.F.Files.history c.clear_way.new.files) (c.clear_way.ensures.moments honest)

pub returns-clause-stay : goal.returns-clause-stay
returns-clause-stay g c = λ honest.
    way_stay c.args.path.now (g.F.Files.history c.args.files.now) (g.F.Files.history c.clear_way.new.files) (g.F.Files.history c.make_missing.new.files) (c.clear_way.ensures.moments honest) (c.make_missing.ensures.stay (c.clear_way.ensures.honest honest))

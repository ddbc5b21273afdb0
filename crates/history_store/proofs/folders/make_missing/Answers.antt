use Rattle.std.proofs.Common.{◌≡◌, ◌⊎◌, ◌≤◌, ◌∙◌, ℕ, Bool, true, false, inl, inr, ap, sym, arith}
use Rattle.std.specs.Prelude.{IsTrue, Result, Err}
use Rattle.std.proofs.lemmas.Result.{err_from_is_err_and, on_ok_weaker}
use Rattle.gix_ref_file.specs.History.{HasCause, HasRisen}
use Rattle.gix_ref_file.specs.Tree.{Tree, IsRooted, is_folder, node_at, parent}
use Rattle.gix_ref_file.specs.declared.files.FileError.{FileError}
use Rattle.gix_ref_file.specs.declared.files.FileError.TheVariants.{Failed}
use Rattle.gix_ref_file.proofs.Histories.{adds_weaker}
use Rattle.gix_ref_way.specs.Ways.{Bytes}
use Rattle.gix_ref_way.proofs.FoldersKept.{keeps_joined, while_folder_made}
use Rattle.gix_ref_way.proofs.FoldersMade.{risen_later}
use Rattle.gix_ref_way.proofs.Stored.{same_joined, while_made}
use Rattle.gix_ref_way.proofs.Upward.{all_above}
use Rattle.history_store.specs.Seen.{seen_at}
use Rattle.history_store.specs.declared.folders.Seen.{Seen}
use Rattle.history_store.specs.declared.folders.Seen.TheVariants as seen_case
use Rattle.history_store.proofs.ObjectParts.{object_place_is_path, outer_in_root}
use Rattle.history_store.proofs.OwnFolders.{above_joined, may_make_inner, may_make_own, outer_folder, own_folder, own_made, own_there}
use Rattle.history_store.proofs.Seen.{folder_of_file, folder_there, no_top, top_alone}
use Rattle.history_store.proofs.folders.make_missing.Goals as goal

-- a change that the tree allows fails only with a failure that is counted
risen : {T : Type 0} (allowed : Bool) (first before now : ℕ) (r : Result T FileError) → HasCause allowed before now r → allowed ≡ true → r ≡ Err Failed → first ≤ before → HasRisen first now
risen allowed first before now r cause may failed later = by_case (cause failed)
  where
    by_case : HasRisen before now ⊎ (allowed ≡ false) → HasRisen first now
    by_case (inl rose) = risen_later first before now now later rose (omega arith)
    by_case (inr refused) = absurd (cc (sym may ∙ refused))

-- ---- the folder of all objects is missing too

pub returns-in_err-make_folder-in-Nothing-clause-moments : goal.returns-in_err-make_folder-in-Nothing-clause-moments
returns-in_err-make_folder-in-Nothing-clause-moments g c = λ honest.
    adds_weaker _ _ (c.make_folder.ensures.change honest).moments (λ x left. while_made c.parent.result.now _ x left)

pub returns-in_err-make_folder-in-Nothing-clause-folders : goal.returns-in_err-make_folder-in-Nothing-clause-folders
returns-in_err-make_folder-in-Nothing-clause-folders g c = λ honest.
    own_made c.args.path.now _ (outer_folder _ _ _ c.parent-folder.ensures c.parent.ensures) _ _ (c.make_folder.ensures.change honest).moments

pub returns-in_err-make_folder-in-Nothing-clause-stay : goal.returns-in_err-make_folder-in-Nothing-clause-stay
returns-in_err-make_folder-in-Nothing-clause-stay g c = λ honest.
    adds_weaker _ _ (c.make_folder.ensures.change honest).moments (λ x left. while_folder_made c.parent.result.now _ x left)

pub returns-in_err-make_folder-in-Nothing-clause-failed : goal.returns-in_err-make_folder-in-Nothing-clause-failed
returns-in_err-make_folder-in-Nothing-clause-failed g c = λ honest none told placed failed.
    let path = c.args.path.now in
    let old = (g.F.Files.history c.args.files.now).tree in
    let missing = no_top old path (sym c.in-Nothing.is ∙ told) ∙ ap (λ p. is_folder (node_at old p)) (sym (c.parent.ensures ∙ ap parent c.parent-folder.ensures)) in
    let inside = ap (λ p. is_folder (node_at old p)) (outer_in_root path _ _ placed c.parent-folder.ensures c.parent.ensures) in
    let may = may_make_own path _ (outer_folder _ _ _ c.parent-folder.ensures c.parent.ensures) old missing (object_place_is_path path placed) none inside in
    let error = err_from_is_err_and c.from_residual.result c.from_residual.ensures.1 in
    let same : c.make_folder.result ≡ Err Failed = cc (error.1, error.2) in
    risen _ _ _ _ c.make_folder.result (c.make_folder.ensures.cause honest) may same (omega arith)

pub returns-in_ok-make_folder-in-Nothing-clause-moments : goal.returns-in_ok-make_folder-in-Nothing-clause-moments
returns-in_ok-make_folder-in-Nothing-clause-moments g c = λ honest.
    let outer = c.make_folder.ensures.change honest in
    let inner = c.make_folder-in-Nothing.ensures.change (c.make_folder.ensures.honest honest) in
    same_joined _ _ _ (adds_weaker _ _ outer.moments (λ x left. while_made c.parent.result.now _ x left))
    (adds_weaker _ _ inner.moments (λ x left. while_made c.parent-folder.result.now _ x left))

pub returns-in_ok-make_folder-in-Nothing-clause-folders : goal.returns-in_ok-make_folder-in-Nothing-clause-folders
returns-in_ok-make_folder-in-Nothing-clause-folders g c = λ honest.
    let path = c.args.path.now in
    let outer = c.make_folder.ensures.change honest in
    let inner = c.make_folder-in-Nothing.ensures.change (c.make_folder.ensures.honest honest) in
    above_joined path _ _ _ (own_made path _ (outer_folder _ _ _ c.parent-folder.ensures c.parent.ensures) _ _ outer.moments)
    (own_made path _ (own_folder _ _ c.parent-folder.ensures) _ _ inner.moments)

pub returns-in_ok-make_folder-in-Nothing-clause-stay : goal.returns-in_ok-make_folder-in-Nothing-clause-stay
returns-in_ok-make_folder-in-Nothing-clause-stay g c = λ honest.
    let outer = c.make_folder.ensures.change honest in
    let inner = c.make_folder-in-Nothing.ensures.change (c.make_folder.ensures.honest honest) in
    keeps_joined _ _ _ (adds_weaker _ _ outer.moments (λ x left. while_folder_made c.parent.result.now _ x left))
    (adds_weaker _ _ inner.moments (λ x left. while_folder_made c.parent-folder.result.now _ x left))

pub returns-in_ok-make_folder-in-Nothing-clause-made : goal.returns-in_ok-make_folder-in-Nothing-clause-made
returns-in_ok-make_folder-in-Nothing-clause-made g c = λ honest told.
    let honest_1 = c.make_folder.ensures.honest honest in
    let rooted = g.met.F.Files.rooted c.make_folder-in-Nothing.new.self (c.make_folder-in-Nothing.ensures.honest honest_1) in
    on_ok_weaker c.make_folder-in-Nothing.result (λ made. own_there c.args.path.now _ c.parent-folder.ensures _ _ made rooted) (c.make_folder-in-Nothing.ensures.change honest_1).made

pub returns-in_ok-make_folder-in-Nothing-clause-failed : goal.returns-in_ok-make_folder-in-Nothing-clause-failed
returns-in_ok-make_folder-in-Nothing-clause-failed g c = λ honest none told placed failed.
    let path = c.args.path.now in
    let old = (g.F.Files.history c.args.files.now).tree in
    let missing = no_top old path (sym c.in-Nothing.is ∙ told) ∙ ap (λ p. is_folder (node_at old p)) (sym (c.parent.ensures ∙ ap parent c.parent-folder.ensures)) in
    let outer = c.in_ok-make_folder-in-Nothing.ensures.change honest in
    let may = may_make_inner path _ _ old _ c.parent-folder.ensures c.parent.ensures (g.met.F.Files.rooted c.args.files.now honest) missing (object_place_is_path path placed) none outer.allowed outer.made in
    risen _ _ _ _ c.make_folder-in-Nothing.result (c.make_folder-in-Nothing.ensures.cause (c.make_folder.ensures.honest honest)) may failed c.make_folder.ensures.later

-- ---- the object's own is missing

pub returns-in-Top-clause-moments : goal.returns-in-Top-clause-moments
returns-in-Top-clause-moments g c = λ honest.
    adds_weaker _ _ (c.make_folder-in-Top.ensures.change honest).moments (λ x left. while_made c.parent-folder.result.now _ x left)

pub returns-in-Top-clause-folders : goal.returns-in-Top-clause-folders
returns-in-Top-clause-folders g c = λ honest.
    own_made c.args.path.now _ (own_folder _ _ c.parent-folder.ensures) _ _ (c.make_folder-in-Top.ensures.change honest).moments

pub returns-in-Top-clause-stay : goal.returns-in-Top-clause-stay
returns-in-Top-clause-stay g c = λ honest.
    adds_weaker _ _ (c.make_folder-in-Top.ensures.change honest).moments (λ x left. while_folder_made c.parent-folder.result.now _ x left)

pub returns-in-Top-clause-made : goal.returns-in-Top-clause-made
returns-in-Top-clause-made g c = λ honest told.
    let rooted = g.met.F.Files.rooted c.make_folder-in-Top.new.self (c.make_folder-in-Top.ensures.honest honest) in
    on_ok_weaker c.make_folder-in-Top.result (λ made. own_there c.args.path.now _ c.parent-folder.ensures _ _ made rooted) (c.make_folder-in-Top.ensures.change honest).made

pub returns-in-Top-clause-failed : goal.returns-in-Top-clause-failed
returns-in-Top-clause-failed g c = λ honest none told placed failed.
    let path = c.args.path.now in
    let old = (g.F.Files.history c.args.files.now).tree in
    let alone = top_alone old path (sym c.in-Top.is ∙ told) in
    let missing = alone.0 ∙ ap (λ p. is_folder (node_at old p)) (sym c.parent-folder.ensures) in
    let inside = ap (λ p. is_folder (node_at old (parent p))) c.parent-folder.ensures ∙ alone.1 in
    let may = may_make_own path _ (own_folder _ _ c.parent-folder.ensures) old missing (object_place_is_path path placed) none inside in
    risen _ _ _ _ c.make_folder-in-Top.result (c.make_folder-in-Top.ensures.cause honest) may failed (omega arith)

-- ---- both exist

in_folder : (tree : Tree) (place : Bytes) (seen : Seen) → IsRooted tree → (seen ≡ seen_case.Folder) ⊎ (seen ≡ seen_case.File) → seen ≡ seen_at tree place → IsTrue (is_folder (node_at tree (parent place)))
in_folder tree place seen rooted (inl is) told = folder_there tree place (sym is ∙ told)
in_folder tree place seen rooted (inr is) told = folder_of_file tree place rooted (sym is ∙ told)

pub returns-in-Folder-clause-made : goal.returns-in-Folder-clause-made
returns-in-Folder-clause-made g c = λ honest told.
    let rooted = g.met.F.Files.rooted c.args.files.now honest in
    all_above _ c.args.path.now rooted (in_folder _ c.args.path.now _ rooted c.in-Folder.is told)

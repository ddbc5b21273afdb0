use Rattle.std.proofs.Common.{◌∙◌, ap}
use Rattle.gix_ref_file.specs.Tree.{is_folder, node_at, parent}
use Rattle.gix_ref_way.proofs.Walked.{parent_of_folder}
use Rattle.history_store.proofs.folders.note_folders.Goals as goal

pub returns-in_err-note_folder : goal.returns-in_err-note_folder
returns-in_err-note_folder c = λ tree rooted own has.
    c.note_folder.ensures tree (ap (λ p. is_folder (node_at tree p)) (c.parent.ensures ∙ ap parent c.parent-folder.ensures) ∙ parent_of_folder tree (parent c.args.place.now) rooted own) has

pub returns : goal.returns
returns c = λ tree rooted own has.
    c.note_folder-2.ensures tree (ap (λ p. is_folder (node_at tree p)) c.parent-folder.ensures ∙ own)
    (c.note_folder.ensures tree (ap (λ p. is_folder (node_at tree p)) (c.parent.ensures ∙ ap parent c.parent-folder.ensures) ∙ parent_of_folder tree (parent c.args.place.now) rooted own) has)

use Rattle.std.proofs.Common.{◌≡◌, ◌∙◌, ap, rules}
use Rattle.gix_ref_file.specs.Tree.{is_folder, node_at}
use Rattle.history_check_objects.proofs.SeenFolders.{one_known}
use Rattle.history_store.proofs.KnownFolders.{same_folders}
use Rattle.history_store.proofs.folders.note_folder.Goals as goal

pub returns-in_err-insert : goal.returns-in_err-insert
returns-in_err-insert c = λ tree is has. same_folders tree _ _ c.in_err-insert.ensures.err has

pub returns-in_ok-insert : goal.returns-in_ok-insert
returns-in_ok-insert c = λ tree is has.
    let path_is : c.in_ok-to_vec.field-0.items ≡ c.args.folder.now = search rules in
    one_known tree _ _ c.in_ok-to_vec.field-0 _ c.in_ok-insert.ensures.keys (ap (λ p. is_folder (node_at tree p)) path_is ∙ is) has

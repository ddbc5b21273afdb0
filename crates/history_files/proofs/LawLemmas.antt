-- The laws.
use Rattle.std.proofs.Common.{◌≡◌, sym, ◌∙◌, refl, Bool, true, false}
use Rattle.gix_object_nodes.specs.Files.{HasNoneBelow}
use Rattle.history_model.specs.FileMap.{components, has_below}
use Rattle.history_model.proofs.WholeLists.{none_is_some}
use Rattle.history_files.specs.Laws.{TreesUnfold, WholeStoresHaveTrees, PutsAgree, GraftsAgree, RemovalsAgree, FoldersAgree, UnfoldingsTellRoots}
use Rattle.history_files.proofs.Unfolded.{id_unfolds}
use Rattle.history_files.proofs.Edited.{put_unfolds, removed_unfolds, none_below, some_below}
use Rattle.history_files.specs.Entries.{found_leaf}
use Rattle.history_files.proofs.Grafted.{graft_put}
use Rattle.history_files.proofs.OneRoot.{one_root}
use Rattle.history_files.proofs.Sources.{leaf_has}
use Rattle.history_files.proofs.Stores.{has_trees}

pub trees_unfold : TreesUnfold
trees_unfold table trees kind files stored map has = id_unfolds kind table trees stored files map has

pub whole_stores_have_trees : WholeStoresHaveTrees
whole_stores_have_trees r id files whole at = has_trees r whole id files at

pub puts_agree : PutsAgree
puts_agree kind files there path content trees is isnt_null = put_unfolds kind files there is path content isnt_null trees

pub grafts_agree : GraftsAgree
grafts_agree table trees kind files other there path source found stored is from =
    graft_put kind files there is path source other from.map trees (found_leaf found) (leaf_has table kind trees stored source other found from)

pub removals_agree : RemovalsAgree
removals_agree kind files there path is = removed_unfolds kind files there is path

pub folders_agree : FoldersAgree
folders_agree kind files there path is = (none_below kind files there is path, λ none. go none (has_below files path) refl)
  where
    go : HasNoneBelow (components path) there → (b : Bool) → has_below files path ≡ b → b ≡ false
    go none false e = refl
    go none true e = let some = some_below kind files there is path e in none_is_some some.2 (sym (none some.0 some.1) ∙ some.3)

pub unfoldings_tell_roots : UnfoldingsTellRoots
unfoldings_tell_roots kind a b there other ia ib same = one_root kind a b there other ia ib same

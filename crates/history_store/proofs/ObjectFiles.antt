-- What the files of a part of objects allow a put.
use Rattle.std.proofs.Common.{◌≡◌, refl, ◌∙◌, ap, true, ◌&&◌, arith}
use Rattle.std.specs.Prelude.{IsTrue, is_some}
use Rattle.gix_ref_file.specs.Tree.{Tree, file, bytes_of}
use Rattle.gix_ref_file.specs.Changes.{to_write, to_rename, allows, after, may_hold_file, is_file_at}
use Rattle.gix_ref_file.specs.History.{History, Adds}
use Rattle.gix_ref_file.proofs.Trees.{get_inserted, room_after_insert}
use Rattle.history_model.specs.Bytes.{Bytes}
use Rattle.history_model.specs.Places.{unfinished_place}
use Rattle.gix_ref_way.specs.Ways.{FoldersAbove, HasFoldersAbove}
use Rattle.history_store.specs.Stores.{IsObjectPlace, IsObjectPart}
use Rattle.gix_ref_way.proofs.Above.{now_above}
use Rattle.gix_ref_way.proofs.FoldersMade.{may_hold}
use Rattle.history_store.proofs.ObjectParts.{folders_after, no_deep_folder, object_place_length, object_place_is_path, unfinished_above}

module _ (place : Bytes) (old made : History) (part : IsObjectPart old.tree) (placed : IsObjectPlace place) (above : Adds (FoldersAbove place old.tree) old made) (folders : HasFoldersAbove place made.tree) where
  -- no folder is where the files are
  pub unfinished_fits : IsTrue (may_hold_file made.tree unfinished_place)
  unfinished_fits = may_hold made.tree unfinished_place refl (unfinished_above made.tree place placed folders)
      (no_deep_folder made.tree (folders_after old.tree made.tree place part placed (now_above place old made above)) unfinished_place (omega arith))

  pub object_fits : IsTrue (may_hold_file made.tree place)
  object_fits = may_hold made.tree place (object_place_is_path place placed) folders
      (no_deep_folder made.tree (folders_after old.tree made.tree place part placed (now_above place old made above)) place (object_place_length place placed).0)

  module _ (text : Bytes) (written : Tree) (is_written : written ≡ after (to_write unfinished_place text) made.tree) where
    stands : is_file_at written unfinished_place ≡ true
    stands = ap (λ t. is_file_at t unfinished_place) is_written ∙ ap (λ o. is_some (bytes_of o)) (get_inserted made.tree unfinished_place (file text))

    fits : IsTrue (may_hold_file written place)
    fits = ap (λ t. may_hold_file t place) is_written ∙ room_after_insert made.tree unfinished_place text unfinished_fits place ∙ object_fits

    pub may_rename : allows written (to_rename unfinished_place place) ≡ true
    may_rename = λ i. stands i && fits i

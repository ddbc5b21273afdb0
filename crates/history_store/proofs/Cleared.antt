-- What the files of a clear part allow.
use Rattle.std.proofs.Common.{◌≡◌, ◌≢◌, refl, sym, ◌∙◌, ap, true, not, ◌&&◌}
use Rattle.std.specs.Prelude.{IsTrue, IsFalse, Option, Some, None, is_some}
use Rattle.std.specs.FinMap.{get}
use Rattle.gix_ref_file.specs.Tree.{Tree, Node, file, folder, node_at, place_of, bytes_of, is_folder}
use Rattle.gix_ref_file.specs.Changes.{to_write, to_rename, to_remove_file, allows, after, may_hold_file, is_file_at}
use Rattle.gix_ref_file.specs.declared.files.Place.TheVariants.{Absent}
use Rattle.gix_ref_file.proofs.Trees.{get_inserted, room_after_insert}
use Rattle.history_model.specs.Bytes.{Bytes}
use Rattle.history_model.specs.Places.{head_place, unfinished_place}
use Rattle.history_store.specs.References.{head_lock}
use Rattle.history_texts.specs.Parts.{may_hold_folder, IsClearAt, IsClear}
use Rattle.history_texts.specs.declared.parts.Part.{Part}
use Rattle.history_texts.specs.declared.parts.Part.TheVariants.{Objects, Names}

-- what is at the leftover's place is a file
pub may_remove : (tree : Tree) → IsClear Objects unfinished_place tree → place_of (node_at tree unfinished_place) ≢ Absent → allows tree (to_remove_file unfinished_place) ≡ true
may_remove tree clear there = by_case (get tree unfinished_place) (clear unfinished_place) there
  where
    by_case : (o : Option Node) → IsClearAt Objects unfinished_place unfinished_place o → place_of o ≢ Absent → is_some (bytes_of o) ≡ true
    by_case None is there = absurd (there refl)
    by_case (Some (file bytes)) is there = refl
    by_case (Some folder) is there = cc

no_folder : (part : Part) (permitted : Bytes) (tree : Tree) → IsClear part permitted tree → (path : Bytes) → IsFalse (may_hold_folder part path) → IsFalse (is_folder (get tree path))
no_folder part permitted tree clear path none = by_case (get tree path) (clear path)
  where
    by_case : (o : Option Node) → IsClearAt part permitted path o → IsFalse (is_folder o)
    by_case None is = refl
    by_case (Some (file bytes)) is = refl
    by_case (Some folder) is = absurd (cc (sym none ∙ is))

-- no folder is at the place of HEAD or of its leftover, and the root is above both
pub lock_fits : (tree : Tree) → IsClear Names head_lock tree → IsTrue (may_hold_file tree head_lock)
lock_fits tree clear = ap not (no_folder Names head_lock tree clear head_lock refl)

head_fits : (tree : Tree) → IsClear Names head_lock tree → IsTrue (may_hold_file tree head_place)
head_fits tree clear = ap not (no_folder Names head_lock tree clear head_place refl)

pub head_may_follow : (text : Bytes) (old mid : Tree) → IsClear Names head_lock old → mid ≡ after (to_write head_lock text) old → allows mid (to_rename head_lock head_place) ≡ true
head_may_follow text old mid clear is = λ i. stands i && fits i
  where
    stands : is_file_at mid head_lock ≡ true
    stands = ap (λ t. is_file_at t head_lock) is ∙ ap (λ o. is_some (bytes_of o)) (get_inserted old head_lock (file text))

    fits : may_hold_file mid head_place ≡ true
    fits = ap (λ t. may_hold_file t head_place) is ∙ room_after_insert old head_lock text (lock_fits old clear) head_place ∙ head_fits old clear

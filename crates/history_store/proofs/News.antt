-- What a new repository's parts hold.
use Rattle.std.proofs.Common.{◌≡◌, ◌≢◌, Bool, true, false, [], ◌∷◌, Option, Some, None, refl, sym, ◌∙◌, ap}
use Rattle.std.specs.Prelude.{IsTrue}
use Rattle.std.specs.FinMap.{get}
use Rattle.gix_ref_file.specs.Tree.{Tree, Node, file, folder, same_path, bytes_of, is_folder}
use Rattle.gix_ref_file.proofs.Trees.{one_path, same_path_itself}
use Rattle.history_model.specs.Bytes.{Bytes}
use Rattle.history_model.specs.Places.{file_at, head_place, unfinished_place}
use Rattle.history_store.specs.Creation.{HasHead, IsCleared, IsNew}
use Rattle.gix_ref_way.specs.Ways.{SameFolders}
use Rattle.history_store.specs.References.{head_lock}
use Rattle.history_texts.specs.Parts.{may_hold_folder, IsClearAt, IsClear}
use Rattle.history_texts.specs.declared.parts.Part.{Part}
use Rattle.history_texts.specs.declared.parts.Part.TheVariants.{Objects, Names}

apart : (p q : Bytes) → same_path p q ≡ false → p ≢ q
apart p q is same = cc (sym is ∙ ap (λ x. same_path x q) same ∙ same_path_itself q)

-- ---- a clear part
clear_none : (part : Part) (permitted : Bytes) (tree : Tree) → IsClear part permitted tree → (path : Bytes) → path ≢ permitted → file_at tree path ≡ None
clear_none part permitted tree clear [] other = refl
clear_none part permitted tree clear (b ∷ path) other = by_case (get tree (b ∷ path)) (clear (b ∷ path))
  where
    by_case : (o : Option Node) → IsClearAt part permitted (b ∷ path) o → bytes_of o ≡ None
    by_case None is = refl
    by_case (Some (file bytes)) is = absurd (other is)
    by_case (Some folder) is = refl

clear_may : (part : Part) (permitted : Bytes) (tree : Tree) → IsClear part permitted tree → (path : Bytes) → IsTrue (is_folder (get tree path)) → IsTrue (may_hold_folder part path)
clear_may part permitted tree clear path is = by_case (get tree path) is (clear path)
  where
    by_case : (o : Option Node) → IsTrue (is_folder o) → IsClearAt part permitted path o → IsTrue (may_hold_folder part path)
    by_case None h is = cc
    by_case (Some (file bytes)) h is = cc
    by_case (Some folder) h is = is

-- ---- the two parts
no_object : (old new : Tree) → IsClear Objects unfinished_place old → IsCleared old new → (path : Bytes) → file_at new path ≡ None
no_object old new clear cleared path = by_case (same_path path unfinished_place) refl
  where
    by_case : (b : Bool) → same_path path unfinished_place ≡ b → file_at new path ≡ None
    by_case true same = ap (file_at new) (one_path path unfinished_place same) ∙ cleared.gone
    by_case false other = cleared.others path (apart path unfinished_place other) ∙ clear_none Objects unfinished_place old clear path (apart path unfinished_place other)

no_other : (old new : Tree) → IsClear Names head_lock old → HasHead old new → (path : Bytes) → path ≢ head_place → file_at new path ≡ None
no_other old new clear has path not_head = by_case (same_path path head_lock) refl
  where
    by_case : (b : Bool) → same_path path head_lock ≡ b → file_at new path ≡ None
    by_case true same = ap (file_at new) (one_path path head_lock same) ∙ has.lock
    by_case false other = has.others path not_head (apart path head_lock other) ∙ clear_none Names head_lock old clear path (apart path head_lock other)

pub new_parts : (objects names objects_after names_after : Tree) → IsClear Objects unfinished_place objects → IsClear Names head_lock names
    → IsCleared objects objects_after → SameFolders objects objects_after → HasHead names names_after → SameFolders names names_after → IsNew objects_after names_after
new_parts objects names objects_after names_after clear_objects clear_names cleared object_folders has name_folders = record {
  no_object = no_object objects objects_after clear_objects cleared;
  object_folders = λ path is. clear_may Objects unfinished_place objects clear_objects path (sym (object_folders path) ∙ is);
  head = has.head;
  no_other = no_other names names_after clear_names has;
  name_folders = λ path is. clear_may Names head_lock names clear_names path (sym (name_folders path) ∙ is);
}

-- The trees while a repository is made.
use Rattle.std.proofs.Common.{◌≡◌, ◌⊎◌, inl, inr, ◌∙◌, ap}
use Rattle.std.specs.Prelude.{IsTrue}
use Rattle.std.specs.FinMap.{get}
use Rattle.gix_ref_file.specs.Tree.{Tree, file, is_folder}
use Rattle.gix_ref_file.specs.Changes.{to_write, to_rename, to_remove_file, allows, after, MayLeave}
use Rattle.gix_ref_file.specs.History.{History, Adds}
use Rattle.gix_ref_file.proofs.Histories.{adds_weaker, adds_joined}
use Rattle.gix_ref_file.proofs.Rooted.{adds_now}
use Rattle.history_model.specs.Bytes.{Bytes}
use Rattle.history_model.specs.Repository.{first_branch}
use Rattle.history_model.specs.StandsFor.{head_text}
use Rattle.history_model.specs.Places.{file_at, head_place, unfinished_place}
use Rattle.history_store.specs.References.{head_lock}
use Rattle.history_store.specs.Creation.{HasHead, IsCleared, IsNew, LeftoverMayGo, HeadMayStand}
use Rattle.gix_ref_way.specs.Ways.{ChangesOneFile, SameFolders}
use Rattle.history_texts.specs.Parts.{IsClear}
use Rattle.history_texts.specs.declared.parts.Part.TheVariants.{Objects, Names}
use Rattle.history_store.proofs.Made.{head_written}
use Rattle.history_store.proofs.News.{new_parts}
use Rattle.gix_ref_way.proofs.FoldersStay.{written_folders, removed_folders, renamed_folders, same_twice}
use Rattle.gix_ref_way.proofs.OneFile.{one_files, one_folders}
use Rattle.gix_ref_way.proofs.Stored.{apart_from_inserted, apart_from_removed}

while_locked : (t x : Tree) → ChangesOneFile head_lock t x → HeadMayStand t x
while_locked t x one = record {
  head = inl (one_files head_lock t x one head_place (λ same. cc));
  others = λ path apart other. one_files head_lock t x one path other;
  folders = one_folders head_lock t x one;
}

while_renamed : (text : Bytes) (t locked x : Tree) → text ≡ head_text first_branch → IsTrue (allows t (to_write head_lock text)) → locked ≡ after (to_write head_lock text) t
    → MayLeave (to_rename head_lock head_place) locked x → HeadMayStand t x
while_renamed text t locked x is_text may is_locked (inl same) = record {
  head = inl (ap (λ y. file_at y head_place) (same ∙ is_locked) ∙ apart_from_inserted t head_lock (file text) head_place (λ here. cc));
  others = λ path apart other. ap (λ y. file_at y path) (same ∙ is_locked) ∙ apart_from_inserted t head_lock (file text) path other;
  folders = written_folders t x head_lock text may (same ∙ is_locked);
}
while_renamed text t locked x is_text may is_locked (inr (n, may_move, made)) =
    let has : HasHead t x = head_written text t locked x is_text is_locked made in
    record {
      head = inr has;
      others = has.others;
      folders = same_twice t locked x (written_folders t locked head_lock text may is_locked) (renamed_folders locked x head_lock head_place may_move made);
    }

-- HEAD is written beside, and then renamed
pub lock_moments : (old locked : History) → Adds (ChangesOneFile head_lock old.tree) old locked → Adds (HeadMayStand old.tree) old locked
lock_moments old locked adds = adds_weaker old locked adds (λ x one. while_locked old.tree x one)

pub head_moments : (text : Bytes) (old locked new : History) → text ≡ head_text first_branch → IsTrue (allows old.tree (to_write head_lock text)) → locked.tree ≡ after (to_write head_lock text) old.tree
    → Adds (ChangesOneFile head_lock old.tree) old locked → Adds (MayLeave (to_rename head_lock head_place) locked.tree) locked new → Adds (HeadMayStand old.tree) old new
head_moments text old locked new is_text may is_locked first second =
    adds_joined old locked new (lock_moments old locked first)
    (adds_weaker locked new second (λ x left. while_renamed text old.tree locked.tree x is_text may is_locked left))

-- so if HEAD isn't as before, the repository is made
pub head_is_last : (objects cleared : Tree) (old new : History) → IsClear Objects unfinished_place objects → IsClear Names head_lock old.tree → IsCleared objects cleared → SameFolders objects cleared
    → Adds (HeadMayStand old.tree) old new → (file_at new.tree head_place ≡ file_at old.tree head_place) ⊎ IsNew cleared new.tree
head_is_last objects cleared old new clear_objects clear_names is_cleared folders adds = from_now (adds_now _ old new adds)
  where
    from_now : (new.tree ≡ old.tree) ⊎ HeadMayStand old.tree new.tree → (file_at new.tree head_place ≡ file_at old.tree head_place) ⊎ IsNew cleared new.tree
    from_now (inl same) = inl (ap (λ y. file_at y head_place) same)
    from_now (inr may) = from_head may.head
      where
        from_head : (file_at new.tree head_place ≡ file_at old.tree head_place) ⊎ HasHead old.tree new.tree → (file_at new.tree head_place ≡ file_at old.tree head_place) ⊎ IsNew cleared new.tree
        from_head (inl same) = inl same
        from_head (inr made) = inr (new_parts objects old.tree cleared new.tree clear_objects clear_names is_cleared folders made may.folders)

-- ---- the leftover of a put
while_removed : (t x : Tree) → MayLeave (to_remove_file unfinished_place) t x → LeftoverMayGo t x
while_removed t x (inl same) = ((λ path apart. ap (λ y. file_at y path) same), (λ path. ap (λ y. is_folder (get y path)) same))
while_removed t x (inr (n, may, is)) = ((λ path apart. ap (λ y. file_at y path) is ∙ apart_from_removed t unfinished_place path apart), removed_folders t x unfinished_place may is)

pub leftover_moments : (old new : History) → Adds (MayLeave (to_remove_file unfinished_place) old.tree) old new → Adds (LeftoverMayGo old.tree) old new
leftover_moments old new adds = adds_weaker old new adds (λ x left. while_removed old.tree x left)

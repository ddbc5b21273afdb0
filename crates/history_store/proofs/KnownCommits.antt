-- What is known of folders, objects and commits, after an object was handed over.
use Rattle.std.proofs.Common.{◌≡◌, ◌∙◌, ◌||◌, arith, refl, sym, ap, subst, Bool, true, false, Option, Some, None, length, ◌<◌, ◌^◌}
use Rattle.std.specs.Prelude.{IsTrue, option_map, if◌then◌else◌}
use Rattle.std.specs.FinMap.{contains_key}
use Rattle.gix_hash.specs.Id.{Id, id_of}
use Rattle.gix_hash.specs.Order.{id_eq}
use Rattle.gix_hash.specs.declared.kind.Kind.{Kind}
use Rattle.gix_object_lines.specs.declared.kind.Kind.{Kind as ObjectKind}
use Rattle.gix_object_lookup.specs.Table.{Object, Table}
use Rattle.gix_object_write.specs.Keeping.{Puts}
use Rattle.gix_ref_file.specs.History.{History, Adds}
use Rattle.gix_ref_file.specs.Tree.{Tree}
use Rattle.history_model.specs.Bytes.{Bytes}
use Rattle.history_model.specs.Places.{file_at}
use Rattle.history_model.proofs.IdLemmas.{id_itself, one_id}
use Rattle.history_check_objects.specs.Folders.{HasFolders}
use Rattle.history_texts.specs.ObjectTexts.{object_id}
use Rattle.history_texts.specs.declared.object.NewObject.{NewObject}
use Rattle.history_store.specs.Ids.{IdSet, with_id, with_id_if}
use Rattle.history_store.specs.KeptIds.{kept}
use Rattle.history_store.specs.KnownObjects.{HasKnown, is_commit, object_at}
use Rattle.history_store.specs.Stores.{HoldsFile, IsTaken, MayHold, place_of, text_of}
use Rattle.history_store.specs.declared.objects.Objects.{Objects}
use Rattle.history_store.proofs.Contents.{IsObject, gains, gains_known, had, keeps, keeps_known}
use Rattle.history_store.proofs.IdSets.{has_with}
use Rattle.history_store.proofs.Maps.{Knows, table_in}

-- whether it is a commit
abbrev is_one : Option Object → Bool
is_one found = is_commit (option_map (λ object. object.kind) found)

-- these are the ids of the commits
abbrev pub AreCommits : IdSet → Table → Type 0
AreCommits commits table = (id : Id) → contains_key commits id ≡ is_one (table id)

-- ---- if the same is known

pub same_known : {F : Type 0} (tree : Tree) (old new : Objects F) → new.folders ≡ old.folders → kept new.ids ≡ kept old.ids → kept new.commits ≡ kept old.commits → HasKnown tree old → HasKnown tree new
same_known tree old new folders ids commits has = record {
  folders = subst (HasFolders tree) (sym folders) has.folders;
  stored = subst (λ (s : IdSet). Knows s tree) (sym ids) has.stored;
  commits = subst (λ (s : IdSet). AreCommits s (table_in (kept new.ids) tree)) (sym commits) (subst (λ (s : IdSet). AreCommits (kept old.commits) (table_in s tree)) (sym ids) has.commits);
}

-- ---- if an object came

module _ (ids commits : IdSet) (old new : Tree) (id : Id) (kind : ObjectKind) (content : Bytes) (are : AreCommits commits (table_in ids old)) where
  abbrev object : Object
  object = record { kind = kind; content = content }

  abbrev is : Bool
  is = is_commit (Some kind)

  abbrev more : IdSet
  more = with_id_if is commits id

  other_in : (b : Bool) (x : Id) → id_eq x id ≡ false → contains_key (with_id_if b commits id) x ≡ contains_key commits x
  other_in true x unlike = has_with commits id x ∙ ap (λ c. c || contains_key commits x) unlike
  other_in false x unlike = refl

  own_in : ((known : IsTrue (contains_key ids id)) → object_at old id ≡ Some object) → (b : Bool) → is ≡ b → contains_key (with_id_if b commits id) id ≡ b
  own_in same true one = has_with commits id id ∙ ap (λ c. c || contains_key commits id) (id_itself id)
  own_in same false none = are id ∙ by_known (contains_key ids id) refl
    where
      by_known : (b : Bool) → contains_key ids id ≡ b → is_one (if◌then◌else◌ {A = Option Object} b (object_at old id) None) ≡ false
      by_known true known = ap is_one (same known) ∙ none
      by_known false unknown = refl

  pub more_commits : Puts (table_in ids old) (table_in (with_id ids id) new) id object → ((known : IsTrue (contains_key ids id)) → object_at old id ≡ Some object) → AreCommits more (table_in (with_id ids id) new)
  more_commits puts same x = by_test (id_eq x id) refl
    where
      by_test : (b : Bool) → id_eq x id ≡ b → contains_key more x ≡ is_one (table_in (with_id ids id) new x)
      by_test true equal =
          subst (λ (i : Id). contains_key more i ≡ is_one (table_in (with_id ids id) new i)) (sym (one_id x id equal)) (own_in same is refl ∙ sym (ap is_one puts.stands))
      by_test false unlike =
          other_in is x unlike ∙ are x ∙ sym (ap is_one (puts.others x (λ same. absurd (cc (sym unlike ∙ ap (λ (i : Id). id_eq i id) same ∙ id_itself id)))))

module _ {F : Type 0} (before now : Objects F) (object : NewObject) (named : id_of object.id ≡ object_id (id_of object.id).kind object.kind object.content.items) where
  is_own : IsObject (id_of object.id).kind object.kind object.content.items object
  is_own = record { id = named; of_kind = refl; bytes = refl }

  fits : length object.content.items < 2 ^ 64
  fits = let a = object.content.ok in let b = object.content.small in omega arith

  -- it was put
  pub put_known : (old new : Tree) → HasKnown old before → HoldsFile (place_of object) (text_of object) old new → ¬ IsTaken object old
      → kept now.ids ≡ with_id (kept before.ids) (id_of object.id) → kept now.commits ≡ with_id_if (is_commit (Some object.kind)) (kept before.commits) (id_of object.id) → HasFolders new now.folders → HasKnown new now
  put_known old new has stored free ids commits folders =
      let digests = (id_of object.id).kind in
      let own : Id = object_id digests object.kind object.content.items in
      let ids_are : kept now.ids ≡ with_id (kept before.ids) own = ids ∙ ap (with_id (kept before.ids)) named in
      let commits_are : kept now.commits ≡ with_id_if (is_commit (Some object.kind)) (kept before.commits) own = commits ∙ ap (with_id_if (is_commit (Some object.kind)) (kept before.commits)) named in
      let puts = gains digests object.kind object.content.items object is_own old new (kept before.ids) has.stored stored free fits in
      record {
        folders = folders;
        stored = subst (λ (s : IdSet). Knows s new) (sym ids_are) (gains_known digests object.kind object.content.items object is_own old new (kept before.ids) has.stored stored free fits);
        commits = subst (λ (s : IdSet). AreCommits s (table_in (kept now.ids) new)) (sym commits_are) (subst (λ (s : IdSet). AreCommits (with_id_if (is_commit (Some object.kind)) (kept before.commits) own) (table_in s new)) (sym ids_are)
            (more_commits (kept before.ids) (kept before.commits) old new own object.kind object.content.items has.commits puts (had digests object.kind object.content.items object is_own old new (kept before.ids) has.stored stored free fits)));
      }

  -- it wasn't
  pub still_known : (old new : History) → HasKnown old.tree before → Adds (MayHold (place_of object) (text_of object) old.tree) old new → (file_at old.tree (place_of object) ≡ Some (text_of object) → new.tree ≡ old.tree) → (IsTaken object old.tree → new.tree ≡ old.tree)
      → kept now.ids ≡ kept before.ids → kept now.commits ≡ kept before.commits → HasFolders new.tree now.folders → HasKnown new.tree now
  still_known old new has moments once untouched ids commits folders =
      let digests = (id_of object.id).kind in
      let as_before = keeps digests object.kind object.content.items object is_own old new (kept before.ids) has.stored moments once untouched in
      record {
        folders = folders;
        stored = subst (λ (s : IdSet). Knows s new.tree) (sym ids) (keeps_known digests object.kind object.content.items object is_own old new (kept before.ids) has.stored moments once untouched);
        commits = subst (λ (s : IdSet). AreCommits s (table_in (kept now.ids) new.tree)) (sym commits) (subst (λ (s : IdSet). AreCommits (kept before.commits) (table_in s new.tree)) (sym ids)
            (λ id. has.commits id ∙ sym (ap is_one (as_before id))));
      }

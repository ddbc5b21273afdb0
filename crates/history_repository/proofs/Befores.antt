-- The files of a commit that is stored.
use Rattle.std.proofs.Common.{◌≡◌, refl, sym, ◌∙◌, ap, subst, arith, List, [], ◌∷◌, length, Bor}
use Rattle.std.specs.Prelude.{Option, Some, None, option_map, option_and_then, option_copied, slice_get, unwrap_or, IsSome, Result, Err}
use Rattle.std.specs.FinMap.{get, empty, entries, len-entries, len-empty}
use Rattle.history_model.specs.Bytes.{Bytes, by_bytes}
use Rattle.history_model.specs.FileMap.{Content}
use Rattle.history_model.specs.Objects.{Value, CommitValue, StoredCommit, StoredTag, StoredBytes, StoredFolder, folder_id}
use Rattle.gix_hash.specs.Id.{Id, id_of}
use Rattle.history_model.specs.Meaning.{files_at}
use Rattle.history_model.specs.Repository.{HoldsCommit, IsWholeStore, as_commit, peeled}
use Rattle.history_model.specs.Words.{ReadsAs}
use Rattle.history_model.proofs.WholeReads.{read_holds}
use Rattle.gix_hash.specs.declared.object_id.ObjectId.{ObjectId}
use Rattle.history_repository.specs.Reads.{IsReadingFault, GivesMeant}
use Rattle.history_repository.specs.declared.stopped.Stopped.{Stopped}
use Rattle.history_model.specs.Repository as plain

-- no files have no entries
no_entries : (files : List (Bytes × Content)) → length files ≡ 0 → files ≡ []
no_entries [] none = refl
no_entries (file ∷ files) none = absurd (omega arith)

pub entries-empty : entries (empty {X = Content} {R = by_bytes}) ≡ []
entries-empty = no_entries (entries (empty {X = Content} {R = by_bytes})) (sym (len-entries (empty {X = Content} {R = by_bytes})) ∙ len-empty by_bytes Content)

-- a stop is returned as it is
pub gives_stopped : {A B : Type 0} (MayFail : Type 0) (P : A → Type 0) (Q : B → Type 0) (result : Result A Stopped) (ends : Result B Stopped) (stopped : Stopped) → result ≡ Err stopped → ends ≡ Err stopped
    → GivesMeant MayFail P result → GivesMeant MayFail Q ends
gives_stopped {A} {B} MayFail P Q result ends stopped was is_end gives =
    let fault : IsReadingFault MayFail stopped = subst (λ (r : Result A Stopped). GivesMeant MayFail P r) was gives in
    subst (λ (r : Result B Stopped). GivesMeant MayFail Q r) (sym is_end) fault

-- what the call for a list's first element returns
pub first_of : {X : Type 0} (xs : List X) (found : Option (Bor X)) (x : Bor X) → found ≡ Some x → option_copied found ≡ slice_get xs 0 → (rest : List X) × (xs ≡ x.now ∷ rest)
first_of {X} xs found x is first = go xs (sym (ap option_copied is) ∙ first)
  where
    go : (xs : List X) → Some x.now ≡ slice_get xs 0 → (rest : List X) × (xs ≡ x.now ∷ rest)
    go [] e = cc
    go (y ∷ ys) e = (ys, cc)

pub none_of : {X : Type 0} (xs : List X) (found : Option (Bor X)) → found ≡ None → option_copied found ≡ slice_get xs 0 → xs ≡ []
none_of {X} xs found is first = go xs (sym (ap option_copied is) ∙ first)
  where
    go : (xs : List X) → None ≡ slice_get xs 0 → xs ≡ []
    go [] e = refl
    go (y ∷ ys) e = cc

-- a stored commit has its files, whose folder is stored
module _ (r : plain.Repository) (store : IsWholeStore r) (id : Id) (holds : HoldsCommit r id) where
  pub held_commit : (commit : CommitValue) × (get r.objects id ≡ Some (StoredCommit commit))
  held_commit = of_value (get r.objects id) refl holds
    where
      of_value : (o : Option Value) → get r.objects id ≡ o → IsSome (option_and_then as_commit o) → (commit : CommitValue) × (get r.objects id ≡ Some (StoredCommit commit))
      of_value None e h = absurd cc
      of_value (Some (StoredCommit commit)) e h = (commit, e)
      of_value (Some (StoredTag tag)) e h = absurd cc
      of_value (Some (StoredBytes bytes)) e h = absurd cc
      of_value (Some (StoredFolder files)) e h = absurd cc

  pub held_files : files_at r id ≡ (held_commit.0).files
  held_files = ap (λ (found : Option Value). unwrap_or (option_map (λ (commit : CommitValue). commit.files) (option_and_then as_commit found)) empty) held_commit.1

  pub held_root : (root : ObjectId) → id_of root ≡ folder_id r.kind (held_commit.0).files → get r.objects (id_of root) ≡ Some (StoredFolder (held_commit.0).files)
  held_root root is = ap (get r.objects) is ∙ (store.closed id (StoredCommit held_commit.0) held_commit.1).1

-- the commit that an id peels to is stored
pub peels_to_commit : (r : plain.Repository) → IsWholeStore r → (id commit : Id) → peeled r id ≡ Some commit → (value : CommitValue) × (get r.objects commit ≡ Some (StoredCommit value))
peels_to_commit r store id commit is = held_commit r store commit (read_holds r store (ReadsAs id) commit is)

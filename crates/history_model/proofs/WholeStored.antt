-- What a command stores is stored after it, each value under its own id.
use Rattle.std.proofs.Common.{◌≡◌, false, refl, sym, ◌∙◌, ap, inl, inr, Some, None}
use Rattle.std.specs.FinMap.{get}
use Rattle.history_model.specs.FileMap.{FileMap}
use Rattle.history_model.specs.Objects.{Value, CommitValue, StoredCommit, StoredTag, StoredBytes, StoredFolder, value_text, id_of}
use Rattle.history_model.specs.Repository.{Repository, IsStored}
use Rattle.history_model.specs.Commands.{Command}
use Rattle.history_model.specs.Meaning.{after, stored_by, takes_id, names_after, branch_after}
use Rattle.history_model.specs.Causes.{first_cause}
use Rattle.history_model.specs.laws.Wholeness.{IsSound, AcceptedStoreExactly}
use Rattle.history_model.proofs.WholeLists.{In, texts_differ}
use Rattle.history_model.proofs.WholeTexts.{text_same}
use Rattle.history_model.proofs.WholeStores.{Near, all_keep, all_near, all_from, bytes_stored}
use Rattle.history_model.proofs.WholeGrowth.{come_folder, made_folder}
use Rattle.history_model.proofs.WholeReads.{plain_written}
use Rattle.history_model.proofs.WholeCommands.{all_fits}
use Rattle.history_model.proofs.WholeNames.{after_whole}
use Rattle.history_model.proofs.WholeForms.{after_written, stored_formed}
use Rattle.history_model.proofs.WholeSteps.{contains_in, in_contains}
use Rattle.history_model.proofs.OnePairLines.{commit_same, tag_same}

module _ (r : Repository) (sound : IsSound r) (command : Command) (none : first_cause r command ≡ None) (free : takes_id r command ≡ false) where
  abbrev new : Repository
  new = after r command

  pub sound_after : IsSound (after r command)
  sound_after = record { whole = after_whole r sound.whole sound.written command none free; written = after_written r sound.whole sound.written command none }

  folder_there : (m : FileMap) → In (StoredFolder m) (stored_by r command) → IsStored new (StoredFolder m)
  folder_there m i =
      (made_folder r (sound.whole).store (λ q n at. plain_written n (((sound.written).values q (StoredFolder n) at).0)) (stored_by r command) free (all_fits r (sound.whole).store sound.written command none)
      (names_after r command) (branch_after r command) m i).itself

  files_there : (c : CommitValue) → In (StoredCommit c) (stored_by r command) → IsStored new (StoredFolder c.files)
  files_there c i =
      let named = all_fits r (sound.whole).store sound.written command none (StoredCommit c) i in
      (come_folder r (sound.whole).store (λ q n at. plain_written n (((sound.written).values q (StoredFolder n) at).0)) (stored_by r command) free (all_fits r (sound.whole).store sound.written command none)
      (names_after r command) (branch_after r command) c.files named.1 named.2).itself

  folders_one : {m n : FileMap} → Some (StoredFolder m) ≡ Some (StoredFolder n) → m ≡ n
  folders_one e = cc

  commit_there : (c d : CommitValue) → In (StoredCommit c) (stored_by r command) → get new.objects (id_of r.kind (StoredCommit c)) ≡ Some (StoredCommit d) → value_text r.kind (StoredCommit d) ≡ value_text r.kind (StoredCommit c) → d ≡ c
  commit_there c d i at same =
      let parts = commit_same r.kind d c (((sound_after.written).values (id_of r.kind (StoredCommit c)) (StoredCommit d) at).0).0 ((stored_formed r sound.whole sound.written command none (StoredCommit c) i).0).0
      (text_same r.kind (StoredCommit d) (StoredCommit c) same).1 in
      let tree : IsStored new (StoredFolder d.files) = (((sound_after.whole).store).closed (id_of r.kind (StoredCommit c)) (StoredCommit d) at).1 in
      let files = folders_one (sym tree ∙ ap (get new.objects) parts.0 ∙ files_there c i) in
      λ j. record { parents = parts.1 j; author = parts.2 j; committer = parts.3 j; message = parts.4 j; files = files j }

  near_there : (v : Value) → In v (stored_by r command) → Near r.kind new.objects v → IsStored new v
  near_there (StoredFolder m) i near = folder_there m i
  near_there (StoredBytes b) i near = bytes_stored r.kind new.objects b near
  near_there (StoredCommit c) i (StoredCommit d, at, same) = at ∙ ap (λ v. Some (StoredCommit v)) (commit_there c d i at same)
  near_there (StoredCommit c) i (StoredTag x, at, same) = texts_differ _ _ refl (text_same r.kind (StoredTag x) (StoredCommit c) same).0
  near_there (StoredCommit c) i (StoredBytes x, at, same) = texts_differ _ _ refl (text_same r.kind (StoredBytes x) (StoredCommit c) same).0
  near_there (StoredCommit c) i (StoredFolder x, at, same) = texts_differ _ _ refl (text_same r.kind (StoredFolder x) (StoredCommit c) same).0
  near_there (StoredTag c) i (StoredTag d, at, same) =
      at ∙ ap (λ v. Some (StoredTag v)) (tag_same r.kind d c (((sound_after.written).values (id_of r.kind (StoredTag c)) (StoredTag d) at).0) ((stored_formed r sound.whole sound.written command none (StoredTag c) i).0)
      (text_same r.kind (StoredTag d) (StoredTag c) same).1)
  near_there (StoredTag c) i (StoredCommit x, at, same) = texts_differ _ _ refl (text_same r.kind (StoredCommit x) (StoredTag c) same).0
  near_there (StoredTag c) i (StoredBytes x, at, same) = texts_differ _ _ refl (text_same r.kind (StoredBytes x) (StoredTag c) same).0
  near_there (StoredTag c) i (StoredFolder x, at, same) = texts_differ _ _ refl (text_same r.kind (StoredFolder x) (StoredTag c) same).0

  -- each value that the command stores is stored under its own id
  pub stored_there : (v : Value) → In v (stored_by r command) → IsStored (after r command) v
  stored_there v i = near_there v i (all_near r.kind r.objects (stored_by r command) free v i)

pub accepted_store_exactly : AcceptedStoreExactly
accepted_store_exactly old command sound none free = record {
  between = record {
    keeps = λ id value at. all_keep old.kind old.objects (stored_by old command) id value at;
    no_more = λ id value at. elim (all_from old.kind old.objects (stored_by old command) id value at) [ inl a ↦ inl a | inr b ↦ inr (in_contains (stored_by old command) value b.0) ];
  };
  stored = λ value h. stored_there old sound command none free value (contains_in (stored_by old command) value h);
}

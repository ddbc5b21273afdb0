-- What names and ids mean in a whole repository.
use Rattle.std.proofs.Common.{◌≡◌, true, false, not, refl, sym, ◌∙◌, ap, subst, Option, Some, None, is_some, option_map, option_and_then, unwrap_or}
use Rattle.std.specs.FinMap.{get}
use Rattle.std.proofs.lemmas.Option.{same_Some}
use Rattle.history_model.specs.Objects.{Value, TagValue, StoredCommit, StoredTag, StoredBytes, StoredFolder}
use Rattle.gix_hash.specs.Id.{Id}
use Rattle.gix_hash.specs.Order.{id_eq}
use Rattle.history_model.specs.Repository.{Repository, IsWholeStore, HoldsCommit, as_commit, is_tag_value, peeled, peeled_value}
use Rattle.history_model.specs.Meaning.{parents_of}
use Rattle.history_layout.specs.OfferedWords.{NamesStandForCommits, TagsStandForOthers, ParentsAreCommits}
use Rattle.history_model.proofs.IdLemmas.{id_itself, ids_apart}
use Rattle.history_model.proofs.WholeLists.{In, in_all}
use Rattle.history_model.proofs.WholeReads.{parents_hold, peeled_holds}

-- ---- names

pub names_stand_for_commits : NamesStandForCommits
names_stand_for_commits r name id store w at = go (peeled r id) refl (w.held name id at)
  where
    go : (found : Option Id) → peeled r id ≡ found → is_some found ≡ true → (commit : Id) × (option_and_then (peeled r) (Rattle.history_model.specs.Repository.id_at r name) ≡ Some commit) × HoldsCommit r commit
    go None e h = cc
    go (Some commit) e h = (commit, ap (option_and_then (peeled r)) at ∙ e, peeled_holds r store id commit e)

-- ---- tags

module _ (r : Repository) (store : IsWholeStore r) where
  -- what a tag is of isn't the tag
  apart : (id : Id) (tag : TagValue) → get r.objects id ≡ Some (StoredTag tag) → id ≡ tag.target → ⊥
  apart id tag at same =
      let there : is_some (option_and_then as_commit (get r.objects id)) ≡ true = subst (HoldsCommit r) (sym same) (store.closed id (StoredTag tag) at) in
      cc (sym there ∙ ap (λ o. is_some (option_and_then as_commit o)) at)

  told : (id commit : Id) (found : Option Value) → get r.objects id ≡ found → option_and_then (peeled_value id) found ≡ Some commit
      → unwrap_or (option_map is_tag_value found) false ≡ not (id_eq id commit)
  told id commit None at e = cc
  told id commit (Some (StoredCommit c)) at e = sym (ap (λ i. not (id_eq id i)) (sym (same_Some id commit e)) ∙ ap not (id_itself id))
  told id commit (Some (StoredTag t)) at e = sym (ap (λ i. not (id_eq id i)) (sym (same_Some t.target commit e)) ∙ ap not (ids_apart id t.target (apart id t at)))
  told id commit (Some (StoredBytes b)) at e = cc
  told id commit (Some (StoredFolder f)) at e = cc

pub tags_stand_for_others : TagsStandForOthers
tags_stand_for_others r id commit store e = told r store id commit (get r.objects id) refl e

-- ---- parents

pub parents_are_commits : ParentsAreCommits
parents_are_commits r c store = in_all (HoldsCommit r) (parents_of r c) (λ id i. parents_hold r store c id i)

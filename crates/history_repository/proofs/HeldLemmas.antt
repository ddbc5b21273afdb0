-- What a name holds, and the commit that it peels to.
use Rattle.std.proofs.Common.{◌≡◌, true, false, not, unwrap_or, refl, sym, ◌∙◌, ap, Option, Some, None, is_some, option_map, option_and_then}
use Rattle.std.specs.FinMap.{get}
use Rattle.gix_hash.specs.Id.{Id, id_of}
use Rattle.gix_hash.specs.Order.{id_eq}
use Rattle.gix_hash.specs.declared.object_id.ObjectId.{ObjectId}
use Rattle.history_model.specs.Bytes.{Bytes}
use Rattle.history_model.specs.Objects.{TagValue, Value, StoredBytes, StoredCommit, StoredFolder, StoredTag, object_kind}
use Rattle.history_model.specs.Repository.{Repository, HasWholeNames, IsWholeStore, id_at, is_tag, peeled, peeled_value, stands}
use Rattle.history_layout.proofs.OfferedReads.{tags_stand_for_others}
use Rattle.history_repository.specs.Held.{IsHeld, held_commit, held_id}
use Rattle.history_repository.specs.Meant.{HasRoot, peeled_id}
use Rattle.history_repository.specs.declared.held.Held.{Held}
use Rattle.history_repository.specs.declared.stored.PeeledCommit.{PeeledCommit}
use Rattle.history_repository.proofs.WordReads.{stands_so}
use Rattle.gix_object_lines.specs.declared.kind.Kind.TheVariants as kinds

-- ---- what is stored under the id that a name holds

-- an id that peels to a commit is stored
pub peeled_stored : (r : Repository) (id : Id) → is_some (peeled r id) ≡ true → (value : Value) × (get r.objects id ≡ Some value)
peeled_stored r id some = go (get r.objects id) refl some
  where
    go : (found : Option Value) → get r.objects id ≡ found → is_some (option_and_then (peeled_value id) found) ≡ true → (value : Value) × (get r.objects id ≡ Some value)
    go None e h = cc
    go (Some value) e h = (value, e)

pub held_stored : (r : Repository) → HasWholeNames r → (name : Bytes) (id : Id) → id_at r name ≡ Some id → (value : Value) × (get r.objects id ≡ Some value)
held_stored r w name id at = peeled_stored r id (w.held name id at)

-- and it peels to one if a name holds it
pub never_unpeeled : (r : Repository) → HasWholeNames r → (name : Bytes) (id : Id) → id_at r name ≡ Some id → peeled r id ≡ None → ⊥
never_unpeeled r w name id at none = cc (sym (w.held name id at) ∙ ap is_some none)

-- ---- what was read of it

same_there : (held : Option Held) → is_some (option_map held_id held) ≡ is_some held
same_there None = refl
same_there (Some held) = refl

same_commit : (held : Option Held) → is_some held ≡ is_some (option_map held_commit held)
same_commit None = refl
same_commit (Some held) = refl

pub held_stands : (r : Repository) (name : Bytes) (held : Option Held) → IsHeld r name held → stands r name ≡ is_some held
held_stands r name held is = stands_so r name (option_map held_id held) (sym is.id) ∙ same_there held

pub commit_stands : (r : Repository) (name : Bytes) (held : Option Held) → IsHeld r name held → stands r name ≡ is_some (option_map held_commit held)
commit_stands r name held is = held_stands r name held is ∙ same_commit held

-- a missing name holds nothing
pub none_held : (r : Repository) (name : Bytes) → None ≡ id_at r name → IsHeld r name None
none_held r name none = record { id = none; commit = ap (option_and_then (peeled r)) none; rooted = tt }

pub some_held : (r : Repository) (name : Bytes) (id : ObjectId) (commit : PeeledCommit) → Some (id_of id) ≡ id_at r name → Some (peeled_id commit) ≡ peeled r (id_of id) → HasRoot r commit → IsHeld r name (Some (record { id = id; commit = commit }))
some_held r name id commit at is rooted = record { id = at; commit = is ∙ ap (option_and_then (peeled r)) at; rooted = rooted }

-- ---- tags

-- a name holds a tag if its id peels to another one
pub tag_told : (r : Repository) → IsWholeStore r → (name : Bytes) (held : Held) → IsHeld r name (Some held) → unwrap_or (option_map (is_tag r) (id_at r name)) false ≡ not (id_eq (held_id held) (held_commit held))
tag_told r store name held is =
    ap (λ o. unwrap_or (option_map (is_tag r) o) false) (sym is.id)
    ∙ tags_stand_for_others r (held_id held) (held_commit held) store (ap (option_and_then (peeled r)) is.id ∙ sym is.commit)

-- and none if it is missing
pub untagged : (r : Repository) (name : Bytes) → IsHeld r name None → unwrap_or (option_map (is_tag r) (id_at r name)) false ≡ false
untagged r name is = ap (λ o. unwrap_or (option_map (is_tag r) o) false) (sym is.id)

-- ---- what a stored object peels to

module _ (r : Repository) (id : Id) (value : Value) (at : get r.objects id ≡ Some value) where
  peels_to : peeled r id ≡ peeled_value id value
  peels_to = ap (option_and_then (peeled_value id)) at

  pub peeled_commit : object_kind value ≡ kinds.Commit → peeled r id ≡ Some id
  peeled_commit is = peels_to ∙ go value is
    where
      go : (value : Value) → object_kind value ≡ kinds.Commit → peeled_value id value ≡ Some id
      go (StoredCommit c) e = refl
      go (StoredTag t) e = cc
      go (StoredBytes b) e = cc
      go (StoredFolder f) e = cc

  pub peeled_tag : object_kind value ≡ kinds.Tag → (tag : TagValue) × (value ≡ StoredTag tag) × (peeled r id ≡ Some tag.target)
  peeled_tag is =
      let tag = go value is in
      (tag.0, tag.1, peels_to ∙ ap (peeled_value id) tag.1)
    where
      go : (value : Value) → object_kind value ≡ kinds.Tag → (tag : TagValue) × (value ≡ StoredTag tag)
      go (StoredCommit c) e = absurd cc
      go (StoredTag t) e = (t, refl)
      go (StoredBytes b) e = absurd cc
      go (StoredFolder f) e = absurd cc

  pub peeled_tree : object_kind value ≡ kinds.Tree → peeled r id ≡ None
  peeled_tree is = peels_to ∙ go value is
    where
      go : (value : Value) → object_kind value ≡ kinds.Tree → peeled_value id value ≡ None
      go (StoredCommit c) e = cc
      go (StoredTag t) e = cc
      go (StoredBytes b) e = cc
      go (StoredFolder f) e = refl

  pub peeled_blob : object_kind value ≡ kinds.Blob → peeled r id ≡ None
  peeled_blob is = peels_to ∙ go value is
    where
      go : (value : Value) → object_kind value ≡ kinds.Blob → peeled_value id value ≡ None
      go (StoredCommit c) e = cc
      go (StoredTag t) e = cc
      go (StoredBytes b) e = refl
      go (StoredFolder f) e = cc

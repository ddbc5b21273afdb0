-- A value is put or stored already; and the names that commits and tags move.
use Rattle.std.proofs.Common.{◌≡◌, ◌⊎◌, inl, inr, false, refl, sym, subst, Some}
use Rattle.gix_ref_file.specs.Tree.{Tree}
use Rattle.history_model.specs.Objects.{Value, StoredCommit, StoredTag, value_text, id_of}
use Rattle.history_model.specs.Repository.{Values, HaveOwnIds}
use Rattle.history_model.specs.Meaning.{new_commit, new_tag, store_one, is_taken, after}
use Rattle.history_model.specs.Places.{file_at, object_place}
use Rattle.history_layout.specs.TreeHalves.{HoldsValues}
use Rattle.history_layout.specs.TreeSteps.{PutsValue}
use Rattle.history_layout.specs.OneNameSteps.{CommitsMoveOneName, TagsMoveOneName}
use Rattle.gix_hash.specs.declared.kind.Kind.{Kind}
use Rattle.history_layout.proofs.TreePuts.{puts_store, standing_is_stored}
use Rattle.history_model.proofs.IdLemmas.{digest_is_id}

-- a value is put, or its text is stored already and nothing changes
pub one_held : (kind : Kind) (old mid : Tree) (values : Values) (value : Value) → HaveOwnIds kind values → is_taken kind values value ≡ false → HoldsValues kind old values
    → PutsValue kind value old mid ⊎ ((file_at old (object_place (id_of kind value)) ≡ Some (value_text kind value)) × (mid ≡ old)) → HoldsValues kind mid (store_one kind values value)
one_held kind old mid values value own free h (inl puts) = puts_store kind old mid values value own free h puts
one_held kind old mid values value own free h (inr stood) =
    subst (HoldsValues kind mid) (sym (standing_is_stored kind old values value own h stood.0)) (subst (λ tree. HoldsValues kind tree values) (sym stood.1) h)

-- ---- commits and tags

pub commits_move_one_name : CommitsMoveOneName
commits_move_one_name r c = record { names = refl; branch = refl; formed = digest_is_id r.kind (value_text r.kind (StoredCommit (new_commit r c))); not_lost = λ x. tt }

pub tags_move_one_name : TagsMoveOneName
tags_move_one_name r c = record { names = refl; branch = refl; formed = digest_is_id r.kind (value_text r.kind (StoredTag (new_tag r c))); not_lost = λ x. tt }

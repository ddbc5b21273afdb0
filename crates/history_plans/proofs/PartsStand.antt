-- What is true of each of the two parts of a repository.
use Rattle.std.proofs.Common.{◌≡◌, false, ◌≢◌, sym, ◌∙◌, ap, subst, true}
use Rattle.std.specs.Prelude.{Some, IsSome, option_and_then}
use Rattle.gix_hash.specs.Id.{Id, null_id}
use Rattle.gix_ref_file.specs.History.{History}
use Rattle.history_model.specs.Bytes.{Bytes}
use Rattle.history_model.specs.Repository.{HaveOwnIds, IsWhole, id_at, peeled_value}
use Rattle.history_layout.specs.TreeHalves.{HoldsValues, HoldsNames}
use Rattle.history_layout.proofs.TreePuts.{halves_stand}
use Rattle.history_store.specs.Packing.{KeepsRecords}
use Rattle.history_repository.specs.Face.{KeepsAllButObjects}
use Rattle.history_plans.specs.Halves.{objects_tree, ObjectsStand, NamesStand}
use Rattle.history_repository.specs.Stands.{pair_of, Stands}
use Rattle.history_repository.specs.declared.repository.Repository.{Repository}
use Rattle.history_model.specs.Repository as plain

-- no name of a whole repository holds the null id
pub names_set : (r : plain.Repository) → IsWhole r → (name : Bytes) → id_at r name ≢ Some (null_id r.kind)
names_set r whole name holds =
    let wrong : false ≡ true = subst (λ value. IsSome (option_and_then (peeled_value (null_id r.kind)) value)) whole.store.null (whole.names.held name (null_id r.kind) holds) in absurd (cc wrong)

module _ {F : Type 0} (IsHonest : F → Type 0) (history : F → History) where
  -- each part of a repository represents its half of what the whole represents
  pub objects_stand : (repository : Repository F) (r : plain.Repository) → Stands IsHonest history repository r → ObjectsStand IsHonest history repository r.objects
  objects_stand repository r h =
      let same = sym h.objects_kind in record {
        honest = h.honest_objects;
        holds = subst (λ kind. HoldsValues kind (objects_tree history repository) r.objects) same ((halves_stand r.kind (pair_of history repository) r).0 h.whole.stands).1;
        own_ids = subst (λ kind. HaveOwnIds kind r.objects) same (h.whole.whole.store).own_ids;
        exist = h.exist;
      }

  pub names_stand : (old mid : Repository F) (r : plain.Repository) → Stands IsHonest history old r → KeepsAllButObjects old mid → NamesStand IsHonest history mid r
  names_stand old mid r h kept =
      let same = sym kept.names in record {
        honest = subst (λ names. IsHonest names.store.files) same h.honest_names;
        holds = subst (λ names. HoldsNames (history names.store.files).tree r) same ((halves_stand r.kind (pair_of history old) r).0 (h.whole).stands).2;
        apart = h.whole.whole.names.apart;
        set = names_set r h.whole.whole;
        kind = ap (λ names. names.kind) kept.names ∙ h.names_kind;
        records = subst (λ names. KeepsRecords names (history names.store.files).tree) same h.records;
      }

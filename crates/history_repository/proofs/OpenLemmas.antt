-- What an opened repository represents.
use Rattle.std.proofs.Common.{◌≡◌, sym, ap, subst, ◌∙◌, List, Option, None}
use Rattle.std.specs.FinMap.{contains_key}
use Rattle.gix_hash.specs.declared.kind.Kind.{Kind}
use Rattle.gix_ref_file.specs.History.{History}
use Rattle.gix_traverse_commit_known.specs.Told.{rows_of}
use Rattle.gix_traverse_graph.specs.declared.rows.Row.{Row}
use Rattle.history_model.specs.Places.{Pair}
use Rattle.history_model.specs.StandsFor.{StandsWhole}
use Rattle.history_repository.specs.Opened.{IsOpenedAs, trees_of}
use Rattle.history_repository.specs.declared.folder.OpenedFolder.{OpenedFolder}
use Rattle.history_store.specs.KnownObjects.{HasKnown}
use Rattle.history_store.specs.NamesFace.{files_of_names, kind_of_names}
use Rattle.history_store.specs.ObjectsFace.{files_of_objects, ids_of_objects, kind_of_objects}
use Rattle.history_store.specs.Packing.{KeepsRecords}
use Rattle.history_store.specs.declared.names.Names.{Names}
use Rattle.history_store.specs.declared.objects.Objects.{Objects}
use Rattle.history_repository.specs.declared.repository.Repository.{Repository}
use Rattle.history_repository.specs.Face.{names_part, rows_in}
use Rattle.history_repository.specs.KeptRows.{AgreeRows}
use Rattle.history_repository.specs.Stands.{Stands, pair_of}
use Rattle.history_repository.proofs.RowsAgree.{none_agree}
use Rattle.history_model.specs.Repository as plain

-- a repository that is made of an opened folder
module _ {F : Type 0} (IsHonest : F → Type 0) (history : F → History) (opened : OpenedFolder F) (kind : Kind) (objects names : F) (repository : Repository F)
    (objects_are : repository.objects ≡ opened.objects) (names_are : repository.names ≡ opened.names) (branch_is : repository.branch ≡ opened.branch) (unrowed : rows_in repository ≡ None)
    (objects_files : files_of_objects opened.objects ≡ objects) (names_files : files_of_names opened.names ≡ names)
    (objects_kind : kind_of_objects opened.objects ≡ kind) (names_kind : kind_of_names opened.names ≡ kind) where
  own_objects : files_of_objects repository.objects ≡ objects
  own_objects = ap files_of_objects objects_are ∙ objects_files

  own_names : files_of_names repository.names ≡ names
  own_names = ap files_of_names names_are ∙ names_files

  same_pair : trees_of history objects names ≡ pair_of history repository
  same_pair = λ i. record { objects = (history (sym own_objects i)).tree; names = (history (sym own_names i)).tree }

  -- the opened repository represents the one that the folders hold
  pub opened_stands : IsHonest objects → IsHonest names → (r : plain.Repository) → IsOpenedAs kind (trees_of history objects names) opened r → Stands IsHonest history repository r
  opened_stands honest_objects honest_names r is = record {
    honest_objects = subst IsHonest (sym own_objects) honest_objects;
    honest_names = subst IsHonest (sym own_names) honest_names;
    whole = subst (λ (pair : Pair). StandsWhole r.kind pair r) same_pair (subst (λ (own : Kind). StandsWhole own (trees_of history objects names) r) (sym of_kind) is.stands);
    objects_kind = ap kind_of_objects objects_are ∙ objects_kind ∙ sym of_kind;
    names_kind = ap kind_of_names names_are ∙ names_kind ∙ sym of_kind;
    branch = ap (λ branch. branch.items) branch_is ∙ is.branch;
    records = subst (λ (own : Names F). KeepsRecords own (history (names_part repository)).tree) (sym names_are)
        (subst (λ (files : F). KeepsRecords opened.names (history files).tree) (sym own_names) is.records);
    known = λ id. ap (λ (own : Objects F). contains_key (ids_of_objects own) id) objects_are ∙ is.known id;
    exist = subst (λ (pair : Pair). HasKnown pair.objects repository.objects) same_pair (subst (λ (own : Objects F). HasKnown (history objects).tree own) (sym objects_are) is.exist);
    rows = subst (λ (rows : Option (List Row)). AgreeRows r.kind r.objects (rows_of rows)) (sym unrowed) (none_agree r.kind r.objects);
  }
    where
      of_kind : r.kind ≡ kind
      of_kind = (is.stands).stands.of_kind

-- What holds after a command's objects are stored, and of what its names then leave.
use Rattle.std.proofs.Common.{◌≡◌, List, refl, sym, ◌∙◌, ap, subst, Option}
use Rattle.std.specs.FinMap.{contains_key}
use Rattle.gix_ref_file.specs.History.{History}
use Rattle.gix_traverse_commit_known.specs.Told.{rows_of}
use Rattle.gix_traverse_graph.specs.declared.rows.Row.{Row}
use Rattle.history_model.specs.Commands.{Command}
use Rattle.history_model.specs.Meaning.{after, stored_by}
use Rattle.history_model.specs.laws.Wholeness.{IsSound}
use Rattle.history_model.proofs.WholeStores.{all_keep}
use Rattle.history_layout.specs.TreeHalves.{HoldsValues}
use Rattle.history_layout.proofs.TreePuts.{halves_stand}
use Rattle.history_store.specs.KnownObjects.{HasKnown}
use Rattle.history_store.specs.ObjectsFace.{ids_of_objects}
use Rattle.history_repository.specs.Face.{KeepsAllButNames, rows_in}
use Rattle.history_repository.specs.KeptRows.{AgreeRows}
use Rattle.history_repository.specs.Stands.{Stands, pair_of}
use Rattle.history_repository.specs.declared.repository.Repository.{Repository}
use Rattle.history_repository.proofs.RowsAgree.{agree_grown}
use Rattle.history_plans.specs.Halves.{NamesStand, objects_tree}
use Rattle.history_plans.proofs.PartsStand.{names_stand}
use Rattle.history.specs.Storing.{HasStored}
use Rattle.history_model.specs.Repository as plain

module _ {F : Type 0} (IsHonest : F → Type 0) (history : F → History) (now : Repository F) where
  -- if nothing was to be stored, all is as before
  pub stored_nothing : (r : plain.Repository) (sent : Command) → (after r sent).objects ≡ r.objects → Stands IsHonest history now r → HasStored IsHonest history now r sent
  stored_nothing r sent same h = record {
    before = now;
    stood = h;
    kept = record { names = refl; branch = refl; rows = refl; failed = refl };
    honest = h.honest_objects;
    kind = h.objects_kind;
    holds = subst (λ (values : plain.Values). HoldsValues r.kind (objects_tree history now) values) (sym same) ((halves_stand r.kind (pair_of history now) r).0 h.whole.stands).1;
    known = λ id. h.known id ∙ ap (λ (values : plain.Values). contains_key values id) (sym same);
    exist = h.exist;
  }

  module _ (r : plain.Repository) (sent : Command) (s : HasStored IsHonest history now r sent) where
    -- the names are as before
    pub stand_still : NamesStand IsHonest history now r
    stand_still = names_stand IsHonest history s.before now r s.stood s.kept

    -- and so is all, if nothing was to be stored
    pub all_still : (after r sent).objects ≡ r.objects → Stands IsHonest history now r
    all_still same = record {
      honest_objects = s.honest;
      honest_names = stand_still.honest;
      whole = record {
        stands = (halves_stand r.kind (pair_of history now) r).1 (
          refl,
          subst (λ (values : plain.Values). HoldsValues r.kind (objects_tree history now) values) same s.holds,
          stand_still.holds,
        );
        written = s.stood.whole.written;
        whole = s.stood.whole.whole;
      };
      objects_kind = s.kind;
      names_kind = stand_still.kind;
      branch = ap (λ branch. branch.items) s.kept.branch ∙ s.stood.branch;
      known = λ id. s.known id ∙ ap (λ (values : plain.Values). contains_key values id) same;
      exist = s.exist;
      records = stand_still.records;
      rows = subst (λ (rows : Option (List Row)). AgreeRows r.kind r.objects (rows_of rows)) (sym s.kept.rows) s.stood.rows;
    }

    -- the repository before was sound
    pub sound_before : IsSound r
    sound_before = record { whole = s.stood.whole.whole; written = s.stood.whole.written }

    -- once its names are those after the command, so is the repository
    module _ (new : Repository F) (kept : KeepsAllButNames now new) (branch : (after r sent).branch ≡ r.branch) (sound : IsSound (after r sent)) where
      values_new : HoldsValues r.kind (objects_tree history new) (after r sent).objects
      values_new = subst (λ objects. HoldsValues r.kind (history objects.files).tree (after r sent).objects) (sym kept.objects) s.holds

      pub stands_then : NamesStand IsHonest history new (after r sent) → Stands IsHonest history new (after r sent)
      stands_then stand = record {
        honest_objects = subst (λ objects. IsHonest objects.files) (sym kept.objects) s.honest;
        honest_names = stand.honest;
        whole = record {
          stands = (halves_stand r.kind (pair_of history new) (after r sent)).1 (refl, values_new, stand.holds);
          written = sound.written;
          whole = sound.whole;
        };
        objects_kind = ap (λ objects. objects.kind) kept.objects ∙ s.kind;
        names_kind = stand.kind;
        branch = ap (λ branch. branch.items) (kept.branch ∙ s.kept.branch) ∙ s.stood.branch ∙ sym branch;
        known = λ id. ap (λ objects. contains_key (ids_of_objects objects) id) kept.objects ∙ s.known id;
        exist = subst (λ objects. HasKnown (history objects.files).tree objects) (sym kept.objects) s.exist;
        records = stand.records;
        rows = subst (λ (rows : Option (List Row)). AgreeRows r.kind (after r sent).objects (rows_of rows)) (sym (kept.rows ∙ s.kept.rows))
            (agree_grown r.kind r.objects (after r sent).objects (rows_of (rows_in s.before)) (λ id value at. all_keep r.kind r.objects (stored_by r sent) id value at) s.stood.rows);
      }

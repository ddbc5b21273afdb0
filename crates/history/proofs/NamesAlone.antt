-- Commands that change names alone: what they leave.
use Rattle.std.proofs.Common.{◌≡◌, true, false, List, sym, ◌∙◌, ap, subst, Option}
use Rattle.std.specs.FinMap.{contains_key}
use Rattle.gix_ref_file.specs.History.{History}
use Rattle.history_model.specs.Commands.{Command}
use Rattle.history_model.specs.Meaning.{after, takes_id}
use Rattle.history_model.specs.Replies.{Reply}
use Rattle.history_model.specs.Stage.{is_spoken}
use Rattle.history_model.specs.Steps.{Accepts, Step}
use Rattle.history_model.specs.Stops.{is_changing}
use Rattle.history_model.specs.StandsFor.{StandsFor}
use Rattle.history_model.specs.laws.Wholeness.{IsSound}
use Rattle.history_model.proofs.WholeSteps.{steps_keep_sound}
use Rattle.history_store.specs.KnownObjects.{HasKnown}
use Rattle.history_store.specs.ObjectsFace.{ids_of_objects}
use Rattle.history_store.specs.Packing.{KeepsRecords}
use Rattle.gix_traverse_commit_known.specs.Told.{rows_of}
use Rattle.gix_traverse_graph.specs.declared.rows.Row.{Row}
use Rattle.history_repository.specs.Face.{names_part, rows_in, KeepsAllButNames}
use Rattle.history_repository.specs.KeptRows.{AgreeRows}
use Rattle.history_plans.specs.Halves.{names_tree}
use Rattle.history_repository.specs.Stands.{Stands, pair_of}
use Rattle.history_repository.specs.declared.repository.Repository.{Repository}
use Rattle.history_model.specs.Repository as plain

-- The command stores nothing, and leaves HEAD's branch: it is accepted with this reply.
pub record ChangesNames (r : plain.Repository) (sent : Command) (reply : Reply) : Type 0 where
  pub changes : is_changing sent ≡ true
  pub spoken : is_spoken sent ≡ true
  pub free : takes_id r sent ≡ false
  pub values : (after r sent).objects ≡ r.objects
  pub branch : (after r sent).branch ≡ r.branch
  pub accepts : Accepts r sent reply (after r sent)
  pub steps : Step r sent reply (after r sent)

module _ {F : Type 0} (IsHonest : F → Type 0) (history : F → History) (old new : Repository F) (r : plain.Repository) (sent : Command) (reply : Reply)
    (h : Stands IsHonest history old r) (c : ChangesNames r sent reply) (kept : KeepsAllButNames old new) where
  sound : IsSound r
  sound = record { whole = h.whole.whole; written = h.whole.written }

  sound_after : IsSound (after r sent)
  sound_after = steps_keep_sound r (after r sent) sent reply c.steps sound

  -- the repository represents what the new names represent
  pub names_serve : IsHonest (names_part new) → StandsFor r.kind (pair_of history new) (after r sent) → KeepsRecords new.names (names_tree history new) → new.names.kind ≡ old.names.kind → Stands IsHonest history new (after r sent)
  names_serve honest stands records kind = record {
    honest_objects = subst (λ objects. IsHonest objects.files) (sym kept.objects) h.honest_objects;
    honest_names = honest;
    whole = record { stands = stands; written = sound_after.written; whole = sound_after.whole };
    objects_kind = ap (λ objects. objects.kind) kept.objects ∙ h.objects_kind;
    names_kind = kind ∙ h.names_kind;
    branch = ap (λ branch. branch.items) kept.branch ∙ h.branch ∙ sym c.branch;
    rows = subst (λ (kept_rows : Option (List Row)). AgreeRows r.kind (after r sent).objects (rows_of kept_rows)) (sym kept.rows) (subst (λ (values : plain.Values). AgreeRows r.kind values (rows_of (rows_in old))) (sym c.values) h.rows);
    records = records;
    exist = subst (λ objects. HasKnown (history objects.files).tree objects) (sym kept.objects) h.exist;
    known = λ id. ap (λ objects. contains_key (ids_of_objects objects) id) kept.objects ∙ h.known id ∙ ap (λ (values : plain.Values). contains_key values id) (sym c.values);
  }

-- HEAD on its way to another branch, and what it leaves.
use Rattle.std.proofs.Common.{◌≡◌, List, refl, sym, ◌∙◌, ap, subst, Option, None}
use Rattle.std.specs.FinMap.{contains_key}
use Rattle.std.proofs.lemmas.Bool.{and_parts}
use Rattle.gix_ref_file.specs.Tree.{Tree}
use Rattle.gix_ref_file.specs.History.{History, Adds}
use Rattle.gix_ref_file.proofs.Histories.{adds_weaker}
use Rattle.history_model.specs.Bytes.{Bytes, begins}
use Rattle.history_model.specs.Commands.{Switch}
use Rattle.history_model.specs.Meaning.{after}
use Rattle.history_model.specs.Causes.{first_cause}
use Rattle.history_model.specs.Replies.{Switched}
use Rattle.history_model.specs.Steps.{Accepts}
use Rattle.history_model.specs.Forms.{heads_front, is_branch, is_name}
use Rattle.history_model.specs.laws.Wholeness.{IsSound}
use Rattle.history_model.proofs.WholeSteps.{steps_keep_sound}
use Rattle.history_layout.specs.Passing.{HoldsBetween}
use Rattle.history_layout.specs.SwitchSteps.{HeadOnTheWay, NamesBranch}
use Rattle.history_layout.specs.TreeHalves.{HoldsNames, HoldsValues}
use Rattle.history_layout.proofs.HeadSwitched.{switches_pass, switches_stand}
use Rattle.history_layout.proofs.TreePuts.{halves_stand}
use Rattle.history_store.specs.KnownObjects.{HasKnown}
use Rattle.history_store.specs.ObjectsFace.{ids_of_objects}
use Rattle.history_store.specs.Changing.{MaySwitch}
use Rattle.history_store.specs.Packing.{KeepsRecords}
use Rattle.gix_traverse_commit_known.specs.Told.{rows_of}
use Rattle.gix_traverse_graph.specs.declared.rows.Row.{Row}
use Rattle.history_repository.specs.Face.{names_part, rows_in}
use Rattle.history_repository.specs.KeptRows.{AgreeRows}
use Rattle.history_plans.specs.Halves.{names_tree, objects_tree}
use Rattle.history_repository.specs.Stands.{Stands, pair_of}
use Rattle.history_repository.specs.declared.repository.Repository.{Repository}
use Rattle.history.specs.NameFiles.{ChangesHeadAlone}
use Rattle.history_plans.proofs.PartsStand.{names_set}
use Rattle.history_model.specs.Repository as plain

-- ---- an accepted switch

accepted : (r : plain.Repository) (name : Bytes) → first_cause r (Switch name) ≡ None → Accepts r (Switch name) Switched (after r (Switch name))
accepted r name none = record { no_cause = none; not_taken = refl; answer = refl; result = refl }

sound_after : (r : plain.Repository) (name : Bytes) → IsSound r → first_cause r (Switch name) ≡ None → IsSound (after r (Switch name))
sound_after r name sound none = steps_keep_sound r (after r (Switch name)) (Switch name) Switched (accepted r name none) sound

module _ {F : Type 0} (IsHonest : F → Type 0) (history : F → History) (old : Repository F) (r : plain.Repository) (h : Stands IsHonest history old r) where
  sound : IsSound r
  sound = record { whole = h.whole.whole; written = h.whole.written }

  holds : HoldsNames (names_tree history old) r
  holds = ((halves_stand r.kind (pair_of history old) r).0 h.whole.stands).2

  values_old : HoldsValues r.kind (objects_tree history old) r.objects
  values_old = ((halves_stand r.kind (pair_of history old) r).0 h.whole.stands).1

  -- HEAD can name the other branch
  may_switch : (name : Bytes) → first_cause r (Switch name) ≡ None → MaySwitch IsHonest history old.names r old.branch.items name
  may_switch name none = record {
    whole = record {
      honest = h.honest_names;
      holds = holds;
      apart = h.whole.whole.names.apart;
      set = names_set r h.whole.whole;
      kind = h.names_kind;
      records = h.records;
    };
    branch = sym h.branch;
    named = (and_parts (is_name old.branch.items) (begins heads_front old.branch.items) (ap is_branch h.branch ∙ h.whole.written.branch)).0;
    names_to = (and_parts (is_name name) (begins heads_front name) (sound_after r name sound none).written.branch).0;
  }

  -- the same of texts that are these
  pub may_switch_so : (from to name : Bytes) → from ≡ old.branch.items → to ≡ name → first_cause r (Switch name) ≡ None → MaySwitch IsHonest history old.names r from to
  may_switch_so from to name is_from is_to none = subst (λ f. MaySwitch IsHonest history old.names r f to) (sym is_from) (subst (MaySwitch IsHonest history old.names r old.branch.items) (sym is_to) (may_switch name none))

  module _ (new : Repository F) (name : Bytes) (none : first_cause r (Switch name) ≡ None) (objects : new.objects ≡ old.objects) where
    values_new : HoldsValues r.kind (objects_tree history new) r.objects
    values_new = subst (λ o. HoldsValues r.kind (history o.files).tree r.objects) (sym objects) values_old

    -- once recovered HEAD names the branch before or after
    pub switch_passes : Adds (HeadOnTheWay name (names_tree history old)) (history (names_part old)) (history (names_part new)) → Adds (HoldsBetween r (Switch name)) (history (names_part old)) (history (names_part new))
    switch_passes moments = adds_weaker (history (names_part old)) (history (names_part new)) moments (λ tree way. switches_pass (pair_of history old) tree r name sound h.whole.stands none way)

    -- ---- at the end

    pub switch_serves : IsHonest (names_part new) → new.names.kind ≡ old.names.kind → KeepsRecords new.names (names_tree history new) → new.branch.items ≡ name → rows_in new ≡ rows_in old → NamesBranch name (names_tree history old) (names_tree history new)
        → Stands IsHonest history new (after r (Switch name))
    switch_serves honest kind records branch same_rows named = record {
      honest_objects = subst (λ o. IsHonest o.files) (sym objects) h.honest_objects;
      honest_names = honest;
      whole = record {
        stands = (halves_stand r.kind (pair_of history new) (after r (Switch name))).1 (
          refl,
          values_new,
          switches_stand (names_tree history old) (names_tree history new) r name holds named,
        );
        written = (sound_after r name sound none).written;
        whole = (sound_after r name sound none).whole;
      };
      objects_kind = ap (λ o. o.kind) objects ∙ h.objects_kind;
      names_kind = kind ∙ h.names_kind;
      branch = branch;
      known = λ id. ap (λ o. contains_key (ids_of_objects o) id) objects ∙ h.known id;
      exist = subst (λ o. HasKnown (history o.files).tree o) (sym objects) h.exist;
      records = records;
      rows = subst (λ (rows : Option (List Row)). AgreeRows r.kind r.objects (rows_of rows)) (sym same_rows) h.rows;
    }

-- HEAD's file alone changes
pub head_alone : (name : Bytes) (old new : Tree) → NamesBranch name old new → ChangesHeadAlone old new
head_alone name old new named path away unlocked = named.others path away

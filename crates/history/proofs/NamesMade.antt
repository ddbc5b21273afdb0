-- The names of a command move, by the kind of its moves.
use Rattle.std.proofs.Common.{◌≡◌, List, ℕ, refl, sym, ◌∙◌, ap, subst, Option, None}
use Rattle.std.specs.Prelude.{OnOk, Result, Vec, option_map}
use Rattle.std.specs.Borrow.{Bor}
use Rattle.std.specs.declared.alloc.Global.{Global}
use Rattle.gix_ref_file.specs.declared.files.Files.{Ghosts}
use Rattle.history_model.specs.Causes.{first_cause}
use Rattle.history_model.specs.Commands.{Command, Pack, Switch}
use Rattle.history_model.specs.Meaning.{after}
use Rattle.history_model.specs.Replies.{Packed}
use Rattle.history_model.specs.declared.Fault.{Fault}
use Rattle.history_layout.specs.EditSteps.{EditsMade}
use Rattle.history_layout.specs.PackSteps.{PacksNames}
use Rattle.history_store.specs.Packing.{KeepsRecords}
use Rattle.history_store.specs.declared.changing.MovedName.{MovedName}
use Rattle.history_repository.specs.Face.{KeepsAllButNames}
use Rattle.history_repository.specs.Stands.{Stands}
use Rattle.history_repository.specs.declared.repository.Repository.{Repository}
use Rattle.history_plans.specs.Halves.{NamesStand, names_tree}
use Rattle.history_plans.specs.Packing.{IsPacking}
use Rattle.history_plans.specs.declared.packing.Packing.{Packing}
use Rattle.history.specs.Runs.{CountsFailure}
use Rattle.history.specs.Calls.{EditsAsAsked, MovesAlone, MovesAsAsked, PacksAll}
use Rattle.history.specs.Moving.{AskedEdits, edits_of, gone_of}
use Rattle.history.specs.Storing.{AreMovesOf, HasStored}
use Rattle.history.specs.declared.moves.Done.{Done}
use Rattle.history.proofs.AfterStoring.{all_still, stands_then}
use Rattle.history.proofs.MoveFaults.{leaves_more, leaves_so, ok_more, where_moved}
use Rattle.history.proofs.NamesAlone.{names_serve}
use Rattle.history.proofs.NamesChanged.{edits_alone, edits_asked}
use Rattle.history.specs.declared.moves.Moves.TheVariants as move
use Rattle.history_model.specs.Repository as plain
use Rattle.history.proofs.PackLemmas as packs

module _ {F : Type 0} (files : Ghosts F) (now new : Repository F) (result : Result (Unit {0}) Fault) where
  abbrev C : Type 0
  C = CountsFailure files.failures files.reading_may_fail now new

  -- the objects stay, and so does the branch
  kept_so : (R : Type 0) → MovesAlone files R now new → new.branch ≡ now.branch → KeepsAllButNames now new
  kept_so R alone branch = record { objects = alone.kept.objects; branch = branch; rows = alone.kept.rows; failed = alone.kept.failed }

  -- ---- a change of names

  module _ (made : Done) (moved : Vec MovedName Global) (taken : Option (Vec ℕ Global)) (given : List MovedName) (gone : Option (Bor (List ℕ))) (same : given ≡ moved.items) (goes : gone_of gone ≡ option_map (λ name. name.items) taken)
      (r : plain.Repository) (sent : Command) (s : HasStored files.is_honest files.history now r sent) (are : AreMovesOf r sent (move.Change made moved taken)) where
    -- it was requested
    asked : AskedEdits files.is_honest files.history now r sent given gone
    asked = edits_asked files.is_honest files.history now r sent s are.none are.free made are.told.is given gone (ap edits_of same ∙ are.told.moves) (goes ∙ are.told.takes)

    pub change_moves : (R : Type 0) → MovesAlone files R now new → new.branch ≡ now.branch
        → ((r : plain.Repository) (sent : Command) → AskedEdits files.is_honest files.history now r sent given gone → EditsAsAsked files r sent (edits_of given) (gone_of gone) now new result)
        → MovesAsAsked files r sent now new result
    change_moves R alone branch edits =
        let done = edits r sent asked in
        record {
          ends = leaves_more C (NamesStand files.is_honest files.history new (after r sent)) (Stands files.is_honest files.history new (after r sent)) result
              (stands_then files.is_honest files.history now r sent s new (kept_so R alone branch) asked.are.branch asked.sound) done.ends;
          passes = done.passes;
          leaves = ok_more result (λ (made_so : EditsMade r.kind (edits_of given) (gone_of gone) (names_tree files.history now) (names_tree files.history new)).
              edits_alone r sent made are.told.is (edits_of given) (gone_of gone) (ap edits_of same ∙ are.told.moves) (goes ∙ are.told.takes) (names_tree files.history now) (names_tree files.history new) made_so) done.made;
        }

  -- ---- a switch, of which no cause holds

  pub switch_moves : (branch : Vec ℕ Global)
      → ((r : plain.Repository) → Stands files.is_honest files.history now r → first_cause r (Switch branch.items) ≡ None → MovesAsAsked files r (Switch branch.items) now new result)
      → (r : plain.Repository) (sent : Command) → HasStored files.is_honest files.history now r sent → AreMovesOf r sent (move.Switch branch) → MovesAsAsked files r sent now new result
  switch_moves branch moves r (Switch name) s are =
      subst (λ n. MovesAsAsked files r (Switch n) now new result) are.told
      (moves r (all_still files.is_honest files.history now r (Switch name) s refl) (subst (λ n. first_cause r (Switch n) ≡ None) (sym are.told) are.none))
  switch_moves branch moves r sent s are = absurd are.told

  -- ---- a pack

  pub pack_moves : (packing : Packing) (R : Type 0) → MovesAlone files R now new → new.branch ≡ now.branch
      → ((r : plain.Repository) → Stands files.is_honest files.history now r → IsPacking r packing → PacksAll files r now new result)
      → ((r : plain.Repository) → Stands files.is_honest files.history now r → IsPacking r packing → OnOk result (KeepsRecords new.names (names_tree files.history new)))
      → (r : plain.Repository) (sent : Command) → HasStored files.is_honest files.history now r sent → AreMovesOf r sent (move.Pack packing) → MovesAsAsked files r sent now new result
  pack_moves packing R alone branch packed records r Pack s are =
      let h = all_still files.is_honest files.history now r Pack s refl in
      let kept = kept_so R alone branch in
      let done = packed r h are.told in
      let Packs = PacksNames r (names_tree files.history now) (names_tree files.history new) in
      record {
        ends = leaves_so C C Packs (Stands files.is_honest files.history new (after r Pack)) (KeepsRecords new.names (names_tree files.history new)) result
            (λ failed. failed) (records r h are.told)
            (λ packs_all kept_records. names_serve files.is_honest files.history now new r Pack Packed h (packs.names_only r) kept (alone.names.honest h.honest_names)
            (packs.stands_after files.is_honest files.history now r h new kept packs_all) kept_records alone.kind)
            done.ends;
        passes = packs.passes_names files.is_honest files.history now r h new done.passes;
        leaves = where_moved C Packs result done.ends;
      }
  pack_moves packing R alone branch packed records r sent s are = absurd are.told

-- Nothing is done to names by a command that changes no file alone.
pub moves_something : {X : Type 0} (r : plain.Repository) (sent : Command) → AreMovesOf r sent move.Nothing → X
moves_something r Pack are = absurd are.told
moves_something r sent are = absurd are.told

-- HEAD reads as its branch, so its edit isn't refused.
use Rattle.std.proofs.Common.{◌≡◌, inl, true, List, sym, ◌∙◌, ap, subst, Option, Some, None, option_map}
use Rattle.std.specs.Prelude.{Ok, Err}
use Rattle.gix_hash.specs.Id.{Id, id_of}
use Rattle.gix_ref_file.specs.Tree.{Tree}
use Rattle.gix_ref_name.specs.Targets.{Points, ToName}
use Rattle.gix_ref_edit.specs.declared.change.Change.{Change}
use Rattle.gix_ref_edit.specs.declared.change.RefEdit.{RefEdit}
use Rattle.gix_ref_format.specs.Lookup.{packed_hit}
use Rattle.gix_ref_format.specs.Packed.{Record}
use Rattle.gix_ref_format.proofs.WrittenLemmas.{name_reads}
use Rattle.gix_ref_store.specs.Finds.{TellsState}
use Rattle.gix_ref_store.specs.RefStates.{RefState, Stands, loose_state, packed_state, read_by, state_among}
use Rattle.gix_ref_store.specs.declared.reference.Reference.{Reference}
use Rattle.gix_ref_store.specs.declared.store.file.find.Error.TheVariants as find
use Rattle.gix_ref_transaction.specs.Asked.{MeetsOf, points_of}
use Rattle.history_model.specs.Bytes.{Bytes}
use Rattle.history_model.specs.Forms.{is_name}
use Rattle.history_model.specs.Places.{head_place}
use Rattle.history_model.specs.Repository.{Repository}
use Rattle.history_model.specs.StandsFor.{head_text}
use Rattle.history_layout.specs.TreeHalves.{HoldsNames}
use Rattle.history_edits.specs.Bridges.{root_base}
use Rattle.history_edits.specs.SwitchPlans.{AsksHead}
use Rattle.history_layout.proofs.FullNames.{full_of}

module _ (r : Repository) (to : Bytes) (tree : Tree) (records : List Record) (edit : RefEdit) (h : HoldsNames tree r) (named : is_name r.branch ≡ true) (asks : AsksHead r.branch to edit) where
  abbrev state : RefState
  state = state_among (root_base r.kind) tree records edit.name

  pub reads : state ≡ Stands (ToName r.branch) None
  reads = ap (state_among (root_base r.kind) tree records) asks.name
      ∙ ap (λ file. read_by r.kind file (packed_state (packed_hit records head_place))) h.head
      ∙ ap (loose_state (head_text r.branch)) (name_reads r.kind r.branch (full_of r.branch named))

  found_there : (one : RefState) → one ≡ Stands (ToName r.branch) None → (found : Option Reference) → TellsState edit.name one (Ok found) → option_map points_of found ≡ Some (ToName r.branch)
  found_there one is None tells = cc (sym is ∙ tells)
  found_there one is (Some x) tells = of_state (points_of x) (option_map id_of x.peeled) (sym is ∙ tells.1)
    where
      of_state : (points : Points) (peeled : Option Id) → Stands (ToName r.branch) None ≡ Stands points peeled → Some points ≡ Some (ToName r.branch)
      of_state points peeled e = cc

  -- it is as the edit expects
  pub meets : (found : Option Reference) → TellsState edit.name state (Ok found) → MeetsOf edit.change (option_map points_of found)
  meets found tells = subst (λ points. MeetsOf edit.change points) (sym (found_there state reads found tells))
      (subst (λ (change : Change). MeetsOf change (Some (ToName r.branch))) (sym asks.change) (inl (sym asks.before)))

  -- and can be read
  pub readable : (error : Rattle.gix_ref_format.specs.declared.loose.Error.Error) → TellsState edit.name state (Err (find.ReferenceCreation error)) → ⊥
  readable error tells = cc (sym reads ∙ tells)

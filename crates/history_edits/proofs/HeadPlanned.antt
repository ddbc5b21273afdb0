-- What is made of the edit of a switch.
use Rattle.std.proofs.Common.{◌≡◌, false, List, [], ◌∷◌, ◌++◌, refl, sym, ◌∙◌, ap, subst, Option, Some, None, ℕ, Vec}
use Rattle.std.specs.Option.{option_to_list}
use Rattle.std.specs.declared.alloc.Global.{Global}
use Rattle.gix_ref_file.specs.Tree.{Tree}
use Rattle.gix_ref_name.specs.Targets.{target_view}
use Rattle.gix_ref_edit.specs.declared.change.PreviousValue.TheVariants.{MustExistAndMatch}
use Rattle.gix_ref_edit.specs.declared.change.RefEdit.{RefEdit}
use Rattle.gix_ref_format.specs.Loose.{loose_text}
use Rattle.gix_ref_format.specs.Edited.{Line}
use Rattle.gix_ref_lock.specs.Contents.{lock_path_of, log_path_of}
use Rattle.gix_ref_lock.specs.Moves.{IsNone}
use Rattle.gix_ref_lock.specs.declared.act.Act.TheVariants.{Put}
use Rattle.gix_ref_lock.specs.declared.act.Move.{Move}
use Rattle.gix_ref_transaction.specs.Repacking.{HoldsIf, SayOfRecords}
use Rattle.gix_ref_store.specs.Places as store
use Rattle.gix_ref_transaction.specs.LogLines.{AllLined, Logging, IsLineOf, IsUpdateLine, has_log, line_in}
use Rattle.gix_ref_transaction.specs.Plans.{AllHold, AllPlanned, HoldsText, IsActOf, IsPlanOf, IsPut, IsUpdateBy, is_packed_alone}
use Rattle.gix_ref_transaction.specs.Rollback.{SameFilesBut, all_locks}
use Rattle.history_model.specs.Bytes.{Bytes}
use Rattle.history_model.specs.Places.{head_place, log_place}
use Rattle.history_model.specs.Repository.{Repository}
use Rattle.history_edits.specs.Bridges.{root_base}
use Rattle.history_edits.specs.EditPlans.{logging_of}
use Rattle.history_edits.specs.SwitchPlans.{AsksHead, HeadIsReady, IsHeadReady, PutsHead}
use Rattle.history_edits.proofs.PlansMade.{put_line, update_says}
use Rattle.history_edits.proofs.RecordTaken.{none_said}

module _ (r : Repository) (from to : Bytes) (old locked : Tree) (l : Logging) (edit : RefEdit) (made : Move) (asks : AsksHead from to edit)
    (plan : IsPlanOf (root_base r.kind) false edit made) (holds : HoldsText edit.change made.act (lock_path_of made) locked) (lined : IsLineOf l (has_log (root_base r.kind) old edit.name) edit.name edit.change (line_in made.act)) where
  put : (line : Option (Vec ℕ Global)) × (made.act ≡ Put line)
  put = put_line (is_packed_alone false edit.name (target_view asks.new)) made.act (ap (is_packed_alone false edit.name) asks.after)
      (subst (λ mode. IsUpdateBy mode (is_packed_alone false edit.name (target_view asks.new)) made.act) asks.whole
      (subst (λ change. IsActOf false edit.name change made.act) asks.change plan.act))

  no_line : put.0 ≡ None
  no_line =
      subst (λ new. IsUpdateLine l (has_log (root_base r.kind) old edit.name) edit.name asks.log new put.0) asks.after
      (subst (λ act. IsUpdateLine l (has_log (root_base r.kind) old edit.name) edit.name asks.log (target_view asks.new) (line_in act)) put.1
      (subst (λ change. IsLineOf l (has_log (root_base r.kind) old edit.name) edit.name change (line_in made.act)) asks.change lined))

  puts : PutsHead to locked made
  puts = record {
    act = put.1 ∙ ap Put no_line;
    place = plan.file ∙ ap (store.place (root_base r.kind)) asks.name;
    text = subst (λ change. HoldsText change made.act (lock_path_of made) locked) asks.change holds (subst IsPut (sym put.1) tt) ∙ ap (λ new. Some (loose_text new)) asks.after;
  }

  logs : log_path_of made ≡ log_place head_place
  logs = plan.log ∙ ap (store.log_place (root_base r.kind)) asks.name

-- nothing is said of records
says_none : (from to : Bytes) (edit : RefEdit) (lines : List Line) → AsksHead from to edit → SayOfRecords None (edit ∷ []) lines → lines ≡ []
says_none from to edit lines asks (own, rest, says, more, is) =
    is ∙ ap (λ o. option_to_list o ++ rest) (update_says asks.log (MustExistAndMatch asks.expected) asks.new edit own asks.change says) ∙ more

pub head_is_ready : HeadIsReady
head_is_ready r from to kept committer edit old locked t moves h asks made = go moves made.plans made.hold made.lined made.files
  where
    l : Logging
    l = logging_of r.kind kept committer old

    unpacked : t ≡ None
    unpacked = none_said r old locked t h (subst (λ ls. HoldsIf (root_base r.kind) old locked ls t) (says_none from to edit made.repacked.0 asks made.repacked.1) made.repacked.2)

    go : (moves : List Move) → AllPlanned (root_base r.kind) false (edit ∷ []) moves → AllHold locked (edit ∷ []) moves → AllLined l (root_base r.kind) old (edit ∷ []) moves
        → SameFilesBut (all_locks t moves) old locked → IsHeadReady to old locked t moves
    go [] plans hold lined files = absurd plans
    go (one ∷ two ∷ moves) plans hold lined files = absurd plans.1
    go (one ∷ []) plans hold lined files = record {
      made = one;
      only = refl;
      unpacked = unpacked;
      puts = puts r from to old locked l edit one asks plans.0 hold.0 lined.0;
      log = logs r from to old locked l edit one asks plans.0 hold.0 lined.0;
      files = λ path apart. files path (subst (λ o. IsNone path (all_locks o (one ∷ []))) (sym unpacked) (apart, tt));
    }

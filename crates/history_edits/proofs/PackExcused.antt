-- The edits of a pack aren't refused.
use Rattle.std.proofs.Common.{◌≡◌, true, false, List, [], ◌∷◌, map, sym, ◌∙◌, subst, Option, Some, None, option_map}
use Rattle.std.specs.List.{AllByRecursion, AllZip}
use Rattle.gix_object_lines.specs.declared.lines.actor.ActorRef.{ActorRef}
use Rattle.gix_ref_file.specs.Tree.{Tree}
use Rattle.gix_ref_name.specs.Targets.{Points, target_view}
use Rattle.gix_ref_edit.specs.declared.change.Change.{Change}
use Rattle.gix_ref_edit.specs.declared.change.RefEdit.{RefEdit}
use Rattle.gix_ref_format.specs.Packed.{Record}
use Rattle.gix_ref_format.specs.PackedBuffer.{KeepsFile}
use Rattle.gix_ref_transaction.specs.Asked.{MeetsOf, points_of}
use Rattle.gix_ref_transaction.specs.Causes.{Unlined, UnlinedUpdate}
use Rattle.gix_ref_transaction.specs.LogLines.{Logging}
use Rattle.history_model.specs.Places.{file_at, packed_place}
use Rattle.history_model.specs.Repository.{Repository}
use Rattle.history_layout.specs.TreeHalves.{HoldsNames}
use Rattle.history_edits.specs.Bridges.{ReadsAs}
use Rattle.history_edits.specs.EditFaults.{Tests}
use Rattle.history_edits.specs.EditPlans.{logging_of}
use Rattle.history_edits.specs.PackPlans.{AsksPack, PacksAreExcused, still}
use Rattle.history_edits.proofs.EditTests.{IsFine, meets_some, readable}
use Rattle.history_edits.proofs.EditsExcused.{excused}
use Rattle.history_edits.proofs.PackPlanned.{IsAsked, each_asked, no_line, packs_fit}
use Rattle.history_edits.proofs.WholeReads.{reads_whole}

module _ (r : Repository) (kept : Option (List Record)) (committer : Option ActorRef) (tree : Tree) (holds : HoldsNames tree r) (keeps : KeepsFile r.kind (file_at tree packed_place) kept) where
  abbrev l : Logging
  l = logging_of r.kind kept committer tree

  one_fine : (e : Record) (edit : RefEdit) → IsAsked r e → AsksPack e edit → IsFine l edit
  one_fine e edit asked asks = record {
    meets = λ found tells. subst (λ (change : Change). MeetsOf change (option_map points_of found)) (sym asks.move.change)
        (meets_some edit.name (l.read edit.name) e.target asks.move.expected (Some (target_view asks.move.new)) reads_it (subst (Tests (Some e.target)) asks.move.change asks.tests) found tells);
    reads = readable edit.name (l.read edit.name) (Some e.target) reads_it;
    lines = λ logs error unlined.
        let adds = (subst (λ (new : Points). UnlinedUpdate l logs edit.name asks.move.log new error) asks.move.target (subst (λ (change : Change). Unlined l logs edit.name change error) asks.move.change unlined)).0 in
        let wrong : true ≡ false = sym adds ∙ no_line r tree kept committer holds keeps e edit asked.named asked.at asks logs in
        cc wrong;
  }
    where
      reads_it : ReadsAs (Some e.target) (l.read edit.name)
      reads_it = subst (λ name. ReadsAs (Some e.target) (l.read name)) (sym asks.move.name) (subst (λ o. ReadsAs o (l.read e.name)) asked.at (reads_whole r tree kept e.name holds keeps asked.named))

  all_fine : (es : List Record) (edits : List RefEdit) → AllByRecursion (IsAsked r) es → AllZip AsksPack es edits → AllByRecursion (IsFine l) edits
  all_fine [] [] asked asks = tt
  all_fine [] (edit ∷ edits) asked asks = absurd asks
  all_fine (e ∷ es) [] asked asks = absurd asks
  all_fine (e ∷ es) (edit ∷ edits) asked asks = (one_fine e edit asked.0 asks.0, all_fine es edits asked.1 asks.1)

pub packs_are_excused : (may_fail : Type 0) → PacksAreExcused may_fail
packs_are_excused may_fail r kept committer wanted edits tree error all given =
    let fit = packs_fit r tree kept wanted edits all in
    excused may_fail r kept committer (map still all.asks.asked) None edits tree all.holds all.sound.whole.names.apart fit.0 fit.1 fit.2
    (all_fine r kept committer tree all.holds all.keeps all.asks.asked edits (each_asked r tree kept wanted edits all) all.asks.asks) error given

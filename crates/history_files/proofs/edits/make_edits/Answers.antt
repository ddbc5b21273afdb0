use Rattle.std.proofs.Common.{◌≡◌, ◌≤◌, ◌∙◌, ◌+◌, ap, sym, subst, refl, drop, take, get_or, length, arith, Bor, List, ℕ, [], ◌∷◌}
use Rattle.gix_object_editor.specs.Stored.{HasStored}
use Rattle.gix_object_nodes.specs.Files.{Path}
use Rattle.gix_object_editor.specs.Editor.{asked_by, files_of}
use Rattle.gix_object_nodes.specs.Nodes.{slots_of}
use Rattle.gix_object_editor.specs.Entries.{PassesDown}
use Rattle.std.proofs.lemmas.Result.{err_from_is_err_and}
use Rattle.history_files.specs.Entries.{MayBeMade, names_only}
use Rattle.history_files.specs.Lookups.{RisesBy, edit_way}
use Rattle.history_files.specs.Opening.{EditsFiles, MakingFault, TellsBroken}
use Rattle.history_files.proofs.Counting.{one_more, some_taken, take_all, take_next, take_none, unopened_short, way_short}
use Rattle.history_files.proofs.Leftover.{IsLeftOver, left_fault, left_next}
use Rattle.history_files.proofs.Named.{may_put, passes_down}
use Rattle.history_files.proofs.Standing.{change_in, stands_deeper, stands_inner}
use Rattle.history_files.proofs.Parsed.{has_stored, trees_in}
use Rattle.history_model.specs.FileMap.{components}
use Rattle.history_files.specs.Edits.{IsEdit, name_count}
use Rattle.gix_hash.specs.declared.object_id.ObjectId.TheVariants.{Sha1}
use Rattle.history_model.specs.declared.FileKind.TheVariants.{File as PlainFile}
use Rattle.history_files.specs.declared.edits.Change.TheVariants.{Put}
use Rattle.history_files.specs.declared.edits.Edit.{Edit}
use Rattle.history_files.proofs.Changes.{IsLeft, at_first, at_last, one_done, cut_edit, none_left}
use Rattle.history_files.proofs.edits.make_edits.Goals as goal

pub loop-edit-preserved : goal.loop-edit-preserved
loop-edit-preserved g c =
    let edits = c.args.edits.now in
    let at = c.loop-edit.edit-index in
    let none : Bor (List ℕ) = record { ref_ptr = (0, 0); now = [] } in
    let other : Edit = record { path = none; change = Put PlainFile (Sha1 []) } in
    let edit = get_or edits at other in
    let cut = cut_edit edits at other c.loop-edit-test.true in
    let kept = c.loop-edit.invariant.0 in
    let count = ap name_count cut in
    let before = c.loop-edit.invariant.1 in
    let asked = c.make_edit.ensures.counted in (
      c.make_edit.ensures.store ∙ kept,
      omega arith,
      λ honest trees kind files made stored are is.
          let table = g.S.Lookup.table c.args.editor.now.store in
          let left = subst (λ es. IsLeft table kind files made es (files_of trees c.loop-edit.editor)) cut (c.loop-edit.invariant.2 honest trees kind files made stored are is) in
          let still = subst (λ s. g.S.Lookup.is_honest s) (sym kept) honest in
          let here = subst (λ s. HasStored (g.S.Lookup.table s) trees) (sym kept) stored in
          one_done table kind files made edit (drop (at + 1) edits) (files_of trees c.loop-edit.editor) (files_of trees c.make_edit.new.editor) left
          (λ now one is_edit unfolds. let same = subst (λ s. IsEdit (g.S.Lookup.table s) kind edit one) (sym kept) is_edit in
          (c.in_ok-make_edit.ensures.files still trees kind now one here same unfolds, c.in_ok-make_edit.ensures.accepted still trees kind now one here same unfolds)),
      λ honest trees stored read.
          c.make_edit.ensures.as_read (subst (λ s. g.S.Lookup.is_honest s) (sym kept) honest) trees (subst (λ s. HasStored (g.S.Lookup.table s) trees) (sym kept) stored) (c.loop-edit.invariant.3 honest trees stored read),
      λ honest has down may each.
          let before = c.loop-edit.invariant.4 honest has down may each in
          let here = subst (MayBeMade has) cut before.1 in
          (c.make_edit.ensures.each (subst (λ s. g.S.Lookup.is_honest s) (sym kept) honest) has (subst (λ s. PassesDown (g.S.Lookup.table s) has) (sym kept) down) here.0 before.0, here.1),
      λ honest kind stands files made can paths are stand.
          let table = g.S.Lookup.table c.args.editor.now.store in
          let left = subst (λ es. IsLeftOver table kind stands files made es c.loop-edit.editor) cut (c.loop-edit.invariant.5 honest kind stands files made can paths are stand) in
          let still = subst (λ s. g.S.Lookup.is_honest s) (sym kept) honest in
          let has = names_only kind stands in
          let down = passes_down kind stands table stands (stands_inner table kind stands can.standing) (stands_deeper table kind stands can.standing) in
          left_next table kind stands files made edit (drop (at + 1) edits) c.loop-edit.editor c.make_edit.new.editor left
          (λ now one there fine is_edit lies.
          let same = subst (λ s. IsEdit (g.S.Lookup.table s) kind edit one) (sym kept) is_edit in (
            λ trees stored. c.in_ok-make_edit.ensures.files still trees kind now one (subst (λ s. HasStored (g.S.Lookup.table s) trees) (sym kept) stored) same (there.unfolds trees stored),
            c.make_edit.ensures.each still has (subst (λ s. PassesDown (g.S.Lookup.table s) has) (sym kept) down) (may_put kind stands edit.path.now edit.change fine (change_in table kind stands edit.path.now edit.change one is_edit lies)) there.each,
            c.in_ok-make_edit.ensures.accepted still (trees_in table) kind now one (subst (λ s. HasStored (g.S.Lookup.table s) (trees_in table)) (sym kept) (has_stored table)) same (there.unfolds (trees_in table) (has_stored table)),
          )),
      λ honest trees stored fit.
          let still = subst (λ s. g.S.Lookup.is_honest s) (sym kept) honest in
          let here = subst (λ s. HasStored (g.S.Lookup.table s) trees) (sym kept) stored in
          let so = c.loop-edit.invariant.6 honest trees stored fit in
          let first = c.args.editor.now in
          let now = c.loop-edit.editor in
          let new = c.make_edit.new.editor in
          let into = λ (names : Path). asked_by first names trees in
          let ids = asked_by now (edit_way edit) trees in
          let short : length ids ≤ length (edit_way edit) = unopened_short trees (slots_of now.nodes.items) 0 (edit_way edit) in
          let way : length (edit_way edit) ≤ length (components edit.path.now) = way_short edit.path.now edit.change in
          let up : new.lookups ≡ now.lookups + length ids = c.in_ok-make_edit.ensures.asked still trees here (omega arith) in
          let taken = take_next edits at other c.loop-edit-test.true in (
            subst (λ done. RisesBy into done first.lookups new.lookups) (sym taken)
                (one_more into (take at edits) edit first.lookups now.lookups new.lookups (length ids) so.0 up (λ none. ap (λ e. length (asked_by e (edit_way edit) trees)) (so.1 none))),
            λ none. absurd (some_taken (take at edits) edit (sym taken ∙ none)),
          ),
    )

pub loop-edit-init : goal.loop-edit-init
loop-edit-init g c = (
  refl,
  omega arith,
  λ honest trees kind files made stored are is. at_first (g.S.Lookup.table c.args.editor.now.store) kind files made c.args.edits.now (files_of trees c.args.editor.now) are is,
  λ honest trees stored read. read,
  λ honest has down may each. (each, may),
  λ honest kind stands files made can paths are stand. record { now = files; more = made; can = can; paths = paths; edits_are = are; stand = stand; refused = refl },
  λ honest trees stored fit. (
    subst (λ done. RisesBy (λ names. asked_by c.args.editor.now names trees) done c.args.editor.now.lookups c.args.editor.now.lookups) (sym (take_none c.args.edits.now)) refl,
    λ none. refl,
  ),
)

pub returns-in_err-make_edit-clause-refused : goal.returns-in_err-make_edit-clause-refused
returns-in_err-make_edit-clause-refused g c = λ honest kind stands files made can paths are stand.
    let edits = c.args.edits.now in
    let at = c.loop-edit.edit-index in
    let none : Bor (List ℕ) = record { ref_ptr = (0, 0); now = [] } in
    let other : Edit = record { path = none; change = Put PlainFile (Sha1 []) } in
    let edit = get_or edits at other in
    let cut = cut_edit edits at other c.loop-edit-test.true in
    let kept = c.loop-edit.invariant.0 in
    let table = g.S.Lookup.table c.args.editor.now.store in
    let still = subst (λ s. g.S.Lookup.is_honest s) (sym kept) honest in
    let left = subst (λ es. IsLeftOver table kind stands files made es c.loop-edit.editor) cut (c.loop-edit.invariant.5 honest kind stands files made can paths are stand) in
    let p = err_from_is_err_and c.from_residual.result c.from_residual.ensures.1 in
    rw (p.1, p.2) (left_fault table kind stands files made edit (drop (at + 1) edits) c.loop-edit.editor (g.S.Lookup.may_fail c.args.editor.now.store) c.in_err-make_edit.field-0.0 left
    (λ now one there fine is_edit lies. subst (λ s. MakingFault (g.S.Lookup.may_fail s) now (one ∷ []) c.in_err-make_edit.field-0.0) kept
    (c.in_err-make_edit.ensures.refused still kind stands now one (subst (λ s. EditsFiles (g.S.Lookup.table s) kind stands now c.loop-edit.editor) (sym kept) there) fine
    (subst (λ s. IsEdit (g.S.Lookup.table s) kind edit one) (sym kept) is_edit) lies)))

pub returns-clause-files : goal.returns-clause-files
returns-clause-files g c = λ honest trees kind files made stored are is.
    let left = c.loop-edit.invariant.2 honest trees kind files made stored are is in
    let none = none_left c.args.edits.now c.loop-edit.edit-index c.loop-edit-test.false in
    (at_last (g.S.Lookup.table c.args.editor.now.store) kind files made (files_of trees c.loop-edit.editor) (subst (λ es. IsLeft (g.S.Lookup.table c.args.editor.now.store) kind files made es (files_of trees c.loop-edit.editor)) none left)).0

pub returns-clause-accepted : goal.returns-clause-accepted
returns-clause-accepted g c = λ honest trees kind files made stored are is.
    let left = c.loop-edit.invariant.2 honest trees kind files made stored are is in
    let none = none_left c.args.edits.now c.loop-edit.edit-index c.loop-edit-test.false in
    (at_last (g.S.Lookup.table c.args.editor.now.store) kind files made (files_of trees c.loop-edit.editor) (subst (λ es. IsLeft (g.S.Lookup.table c.args.editor.now.store) kind files made es (files_of trees c.loop-edit.editor)) none left)).1

pub returns-clause-each : goal.returns-clause-each
returns-clause-each g c = λ honest has down may each. (c.loop-edit.invariant.4 honest has down may each).0

pub returns-clause-as_read : goal.returns-clause-as_read
returns-clause-as_read g c = λ honest trees stored read. c.loop-edit.invariant.3 honest trees stored read

pub returns-in_err-make_edit-clause-each : goal.returns-in_err-make_edit-clause-each
returns-in_err-make_edit-clause-each g c = λ honest has down may each.
    let edits = c.args.edits.now in
    let at = c.loop-edit.edit-index in
    let none : Bor (List ℕ) = record { ref_ptr = (0, 0); now = [] } in
    let other : Edit = record { path = none; change = Put PlainFile (Sha1 []) } in
    let cut = cut_edit edits at other c.loop-edit-test.true in
    let kept = c.loop-edit.invariant.0 in
    let before = c.loop-edit.invariant.4 honest has down may each in
    let here = subst (MayBeMade has) cut before.1 in
    c.make_edit.ensures.each (subst (λ s. g.S.Lookup.is_honest s) (sym kept) honest) has (subst (λ s. PassesDown (g.S.Lookup.table s) has) (sym kept) down) here.0 before.0

pub returns-clause-asked : goal.returns-clause-asked
returns-clause-asked g c = λ honest trees stored fit.
    subst (λ done. RisesBy (λ names. asked_by c.args.editor.now names trees) done c.args.editor.now.lookups c.loop-edit.editor.lookups)
    (take_all c.args.edits.now c.loop-edit.edit-index c.loop-edit-test.false) (c.loop-edit.invariant.6 honest trees stored fit).0

pub returns-in_err-make_edit-clause-broken : goal.returns-in_err-make_edit-clause-broken
returns-in_err-make_edit-clause-broken g c =
    let p = err_from_is_err_and c.from_residual.result c.from_residual.ensures.1 in
    rw (p.1, p.2) (subst (λ s. TellsBroken (g.S.Lookup.is_honest s) (g.S.Lookup.table s) c.in_err-make_edit.field-0.0) c.loop-edit.invariant.0 c.in_err-make_edit.ensures.broken)

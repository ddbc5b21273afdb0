use Rattle.std.proofs.Common.{ℕ, List, ◌≡◌, ◌∙◌, ◌<◌, ap, sym, subst, arith, length, get_or, []}
use Rattle.std.specs.Borrow.{Bor}
use Rattle.std.proofs.lemmas.Result.{err_from_is_err_and}
use Rattle.std.proofs.lemmas.List.{get_or-map, length-take, with_items_is}
use Rattle.gix_object_nodes.specs.declared.node.Node.{Node}
use Rattle.gix_object_nodes.specs.Nodes.{slots_of}
use Rattle.gix_object_nodes.specs.Marks.{marks_of, KeepsRest}
use Rattle.gix_object_nodes.proofs.NodeMarks.{marks_taken}
use Rattle.gix_object_nodes.proofs.Slots.{cut_back}
use Rattle.gix_object_editor.specs.Grown.{IsSame}
use Rattle.gix_object_editor.specs.Laid.{IsLaid}
use Rattle.gix_object_editor.proofs.Edited.{given_back}
use Rattle.gix_object_editor.proofs.LoneName.{lone_laid}
use Rattle.gix_object_editor.proofs.Walked.{names}
use Rattle.gix_object_editor.proofs.tree.editor.lay.lay_entry.Goals as goal

pub returns-then-names-eq1-clause-laid : goal.returns-then-names-eq1-clause-laid
returns-then-names-eq1-clause-laid c =
    let path = c.args.names.now in
    let one : length path ≡ 1 = omega arith in
    let none : Bor (List ℕ) = record { ref_ptr = (0, 0); now = [] } in
    let name_is : get_or (names path) 0 [] ≡ (get_or path 0 none).now = get_or-map (λ (x : Bor (List ℕ)). x.now) path 0 none [] (omega (arith, one)) in
    let old = c.args.nodes.now.items in
    let new = c.put_at.new.nodes in
    let name = (get_or path 0 none).now in
    let rest = subst (λ ns. KeepsRest ns c.args.at.0 name new) c.as_mut_slice.ensures.value c.put_at.ensures.rest in
    let n : length new ≡ c.args.nodes.now.len = omega (arith, c.put_at.ensures.rest.len, c.as_mut_slice.ensures.len) in
    subst (λ ns. IsLaid old c.args.at.0 path c.args.slot c.args.changed ns c.args.at.0) (sym (with_items_is c.args.nodes.now new n))
    (lone_laid old new c.requires.tree.forest path one c.args.slot c.requires.unopened c.args.at.0 c.requires.tree.within name name_is c.in_ok-put_at.ensures.here rest c.args.changed)

pub returns-in_err-put_at-clause-same : goal.returns-in_err-put_at-clause-same
returns-in_err-put_at-clause-same c =
    let p = err_from_is_err_and c.from_residual.result c.from_residual.ensures.1 in
    let new = c.put_at.new.nodes in
    let n : length new ≡ c.args.nodes.now.len = omega (arith, c.put_at.ensures.rest.len, c.as_mut_slice.ensures.len) in
    let given : IsSame c.as_mut_slice.result.now new = record { len = c.put_at.ensures.rest.len; slots = c.in_err-put_at.ensures.err; marks = λ i lt. c.put_at.ensures.rest.marks i } in
    rw p.1 (given_back IsSame c.args.nodes.now new c.as_mut_slice.ensures.value n given)

pub returns-in-Err-clause-same : goal.returns-in-Err-clause-same
returns-in-Err-clause-same c =
    let old = c.args.nodes.now.items in
    let hung = c.put_below_folders.new.nodes.items in
    let front : c.len-before.result ≡ length old = omega arith in
    let kept = c.in-Err.ensures.front in
    record {
      len = omega (arith, front, kept.longer, ap length c.truncate.ensures.items, length-take c.len-before.result hung);
      slots = λ i m. ap (λ (ns : List Node). slots_of ns i m) c.truncate.ensures.items ∙ cut_back old hung c.len-before.result front kept.slots i m;
      marks = λ i lt.
          let less : i < c.len-before.result = omega (arith, front, lt) in
          ap (λ (ns : List Node). marks_of ns i) c.truncate.ensures.items ∙ marks_taken hung c.len-before.result i less ∙ kept.marks i lt;
    }

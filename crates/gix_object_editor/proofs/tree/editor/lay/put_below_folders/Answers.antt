use Rattle.std.proofs.Common.{ℕ, Some, None, rules, List, ◌≡◌, ◌∙◌, ◌<◌, ◌-◌, suc, ap, sym, subst, arith, length, drop, take, get_or, []}
use Rattle.std.specs.Borrow.{Bor}
use Rattle.std.proofs.lemmas.Result.{err_from_is_err_and}
use Rattle.std.proofs.lemmas.List.{get_or-map, length-drop, take_all, with_items_is}
use Rattle.gix_object_nodes.specs.Nodes.{child_or, slots_of}
use Rattle.gix_object_nodes.specs.Marks.{marks_of, KeepsRest}
use Rattle.gix_object_editor.specs.Grown.{KeepsFront}
use Rattle.gix_object_editor.specs.Laid.{IsLaid}
use Rattle.gix_object_editor.proofs.Ladder.{Hung, hung_laid}
use Rattle.gix_object_editor.proofs.tree.editor.lay.put_below_folders.Goals as goal

pub returns-clause-laid : goal.returns-clause-laid
returns-clause-laid c =
    let path = c.args.names.now in
    let some : 0 < length path = omega (arith, c.requires.named) in
    let last : suc (c.len-2.result - 1) ≡ length c.push_ladder.new.nodes.items = omega (arith, c.requires.tree.within, c.push_ladder.ensures.front.longer, c.len-2.ensures, c.push_ladder.new.nodes.ok.0) in
    let none : Bor (List ℕ) = record { ref_ptr = (0, 0); now = [] } in
    let new = c.put_at.new.nodes in
    let name = (get_or path 0 none).now in
    let n : length new ≡ c.push_ladder.new.nodes.len = omega (arith, c.put_at.ensures.rest.len, c.as_mut_slice.ensures.len) in
    let hung : Hung c.args.nodes.now.items c.push_ladder.new.nodes.items new path (take (length path - 1) (drop 1 path)) c.args.slot c.folder.result c.args.changed c.args.at.0 name = record {
      ok = c.requires.tree.forest;
      two = c.requires.named;
      tail_is = take_all (length path - 1) (drop 1 path) (omega (arith, length-drop 1 path));
      closed = c.requires.unopened;
      front = c.push_ladder.ensures.front;
      ladder = c.in_ok-push_ladder.ensures.ladder;
      name_is = get_or-map (λ (x : Bor (List ℕ)). x.now) path 0 none [] some;
      below = c.requires.tree.within;
      stands = c.in_ok-put_at.ensures.here;
      linked = ap (λ o. child_or o (λ d. Some d) None) c.folder.ensures.linked ∙ ap (λ k. Some k) (search rules);
      leaf = c.folder.ensures.leaf;
      rest = subst (λ ns. KeepsRest ns c.args.at.0 name new) c.as_mut_slice.ensures.value c.put_at.ensures.rest;
    } in
    subst (λ ns. IsLaid c.args.nodes.now.items c.args.at.0 path c.args.slot c.args.changed ns (c.len-2.result - 1)) (sym (with_items_is c.push_ladder.new.nodes new n))
    (hung_laid hung (c.len-2.result - 1) last c.requires.plain)

pub returns-in_err-put_at-clause-front : goal.returns-in_err-put_at-clause-front
returns-in_err-put_at-clause-front c =
    let p = err_from_is_err_and c.from_residual-in_err-put_at.result c.from_residual-in_err-put_at.ensures.1 in
    let front = c.push_ladder.ensures.front in
    let new = c.put_at.new.nodes in
    let rest = c.put_at.ensures.rest in
    let same = c.as_mut_slice.ensures.value in
    let n : length new ≡ c.push_ladder.new.nodes.len = omega (arith, rest.len, c.as_mut_slice.ensures.len) in
    rw p.1 (subst (KeepsFront c.args.nodes.now.items) (sym (with_items_is c.push_ladder.new.nodes new n)) (record {
      longer = omega (arith, front.longer, rest.len, ap length same);
      slots = λ i m lt. c.in_err-put_at.ensures.err i m ∙ ap (λ ns. slots_of ns i m) same ∙ front.slots i m lt;
      marks = λ i lt. rest.marks i ∙ ap (λ ns. marks_of ns i) same ∙ front.marks i lt;
    }))

pub put_at-requires : goal.put_at-requires
put_at-requires c = omega (arith, c.requires.tree.within, c.push_ladder.ensures.front.longer, ap length c.as_mut_slice.ensures.value)

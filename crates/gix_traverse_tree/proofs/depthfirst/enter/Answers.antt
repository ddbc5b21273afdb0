use Rattle.std.proofs.Common.{◌∙◌, sym, ap, refl, inr, ◌<◌, ◌^◌, List, length, arith}
use Rattle.std.specs.Prelude.{reverse}
use Rattle.std.specs.List.{list_any}
use Rattle.std.proofs.lemmas.Result.{err_from_is_err_and}
use Rattle.gix_hash.specs.Id.{id_of}
use Rattle.gix_hash.specs.Order.{id_eq}
use Rattle.gix_traverse_tree.specs.declared.depthfirst.Open.{Open}
use Rattle.gix_traverse_tree.proofs.Opening.{among_open, reverse_push}
use Rattle.gix_traverse_tree.proofs.Ways.{among_from_contains}
use Rattle.gix_traverse_tree.proofs.depthfirst.enter.Goals as goal

pub returns-then-is_open-clause-refused : goal.returns-then-is_open-clause-refused
returns-then-is_open-clause-refused g c =
    let id = id_of c.args.id in
    let test = among_open id c.args.trees.now.items ∙ sym (c.is_open.ensures ∙ ap (λ (ts : List Open). list_any (λ (tree : Open). id_eq id (id_of tree.id)) ts) c.as_slice.ensures.value) in
    inr (test ∙ c.if-is_open.true, refl)

pub returns-in_err-read_tree-clause-refused : goal.returns-in_err-read_tree-clause-refused
returns-in_err-read_tree-clause-refused g c =
    let id = id_of c.args.id in
    let test = among_open id c.args.trees.now.items ∙ sym (c.is_open.ensures ∙ ap (λ (ts : List Open). list_any (λ (tree : Open). id_eq id (id_of tree.id)) ts) c.as_slice.ensures.value) in
    let p = err_from_is_err_and c.from_residual.result c.from_residual.ensures.1 in
    rw (p.1, p.2) (inr ((test ∙ c.if-is_open.false, c.in_err-read_tree.ensures.refused), refl))

pub returns-clause-opened : goal.returns-clause-opened
returns-clause-opened g c =
    let id = id_of c.args.id in
    let test = among_open id c.args.trees.now.items ∙ sym (c.is_open.ensures ∙ ap (λ (ts : List Open). list_any (λ (tree : Open). id_eq id (id_of tree.id)) ts) c.as_slice.ensures.value) in
    let content = c.read_tree.new.buffer in
    let tree : Open = record { id = c.args.id; content = content; offset = 0 } in
    let small : length content.items < 2 ^ 64 = let a = content.ok in let b = content.small in omega arith in
    record {
      tree = tree;
      put = ap reverse c.in_ok-push.ensures.items ∙ reverse_push c.args.trees.now.items tree;
      named = refl;
      read = (test ∙ c.if-is_open.false, c.in_ok-read_tree.ensures.found);
      small = small;
      stored = among_from_contains (g.F.Lookup.ids c.args.objects.now) id c.in_ok-read_tree.ensures.listed;
      told = c.in_ok-pop_back_tracked_path_and_set_current.ensures;
    }

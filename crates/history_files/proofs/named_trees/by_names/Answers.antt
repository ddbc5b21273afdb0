use Rattle.std.proofs.Common.{Bor, List, ℕ, [], subst}
use Rattle.std.proofs.lemmas.List.{take_all}
use Rattle.history_files.proofs.NamesKept.{SoFar, nothing_yet, put_next, tells}
use Rattle.history_files.proofs.named_trees.by_names.Goals as goal

pub names-init : goal.names-init
names-init c = λ at are. nothing_yet at c.new-named.result c.new-named.ensures.empty

pub names-preserved : goal.names-preserved
names-preserved c = λ at are.
    let none : Bor (List ℕ) = record { ref_ptr = (0, 0); now = [] } in
    put_next at c.args.names.now c.args.found.now are c.names.place none c.names-test.true c.names.named c.put.new.named (c.names.invariant at are) c.found_in.result c.found_in.ensures c.in_ok-put.ensures

pub returns : goal.returns
returns c = λ at are. tells at c.args.names.now c.names.named (subst (λ some. SoFar at some c.names.named) (take_all c.names.place c.args.names.now c.names-test.false) (c.names.invariant at are))

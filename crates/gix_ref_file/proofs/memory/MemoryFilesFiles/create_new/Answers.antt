use Rattle.std.proofs.Common.{◌≡◌, ◌∙◌, ap, sym, cond, true, ◌||◌, rules}
use Rattle.std.specs.Prelude.{is_none}
use Rattle.std.specs.FinMap.{insert}
use Rattle.gix_ref_file.specs.Tree.{file, node_at}
use Rattle.gix_ref_file.specs.Changes.{may_hold_file}
use Rattle.gix_ref_file.proofs.Rooted.{rooted_made}
use Rattle.gix_ref_file.proofs.Histories.{makes, steps_to}
use Rattle.gix_ref_file.proofs.Places.{none_some}
use Rattle.gix_ref_file.proofs.memory.MemoryFilesFiles.create_new.Goals as goal

pub returns-clause-change : goal.returns-clause-change
returns-clause-change c honest =
    let tree = c.args.self.now.nodes in
    let path = c.args.path.now in
    let may : may_hold_file tree path ≡ true = search rules in
    let none : true ≡ is_none (node_at tree path) = search rules in
    let copied : c.in_ok-bytes.bytes.items ≡ c.args.bytes.now = search rules in
    let absent = none_some _ none in
    makes _ _ _ _ (ap (λ b. b || may_hold_file tree path) absent ∙ may)
    (steps_to _ _ _ _ c.in_ok-put.ensures.ok
    (ap (λ bs. insert tree path (file bs)) copied ∙ sym (ap (λ b. cond b tree (insert tree path (file c.args.bytes.now))) absent)))

pub returns-clause-honest : goal.returns-clause-honest
returns-clause-honest c honest = rooted_made _ _ _ _ (returns-clause-change c honest) honest

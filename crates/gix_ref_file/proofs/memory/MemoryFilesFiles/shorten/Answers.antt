use Rattle.std.proofs.Common.{◌≡◌, ◌∙◌, ◌&&◌, [], ap, sym, true, length, take, rules}
use Rattle.std.specs.Prelude.{Some, is_some, nat_le, unwrap_or}
use Rattle.std.specs.FinMap.{insert}
use Rattle.gix_ref_file.specs.Tree.{file, node_at, bytes_of}
use Rattle.gix_ref_file.proofs.Rooted.{rooted_made}
use Rattle.gix_ref_file.proofs.Histories.{makes, steps_to}
use Rattle.gix_ref_file.proofs.memory.MemoryFilesFiles.shorten.Goals as goal

pub returns-clause-change : goal.returns-clause-change
returns-clause-change c honest =
    let tree = c.args.self.now.nodes in
    let path = c.args.path.now in
    let stored = c.in-Some.bytes.now.items in
    let there : Some stored ≡ bytes_of (node_at tree path) = c.in-Some.ensures in
    let fits : nat_le c.args.length (length stored) ≡ true = search rules in
    let front : c.in_ok-front-in-Some.front.items ≡ take c.args.length stored = search rules in
    makes _ _ _ _ (sym (ap (λ o. is_some o && nat_le c.args.length (length (unwrap_or o []))) there) ∙ fits)
    (steps_to _ _ _ _ c.in_ok-put.ensures.ok
    (ap (λ bs. insert tree path (file bs)) (front ∙ ap (λ o. take c.args.length (unwrap_or o [])) there)))

pub returns-clause-honest : goal.returns-clause-honest
returns-clause-honest c honest = rooted_made _ _ _ _ (returns-clause-change c honest) honest

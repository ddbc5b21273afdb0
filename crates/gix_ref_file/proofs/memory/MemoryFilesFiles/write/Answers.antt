use Rattle.std.proofs.Common.{◌≡◌, ◌∙◌, ◌&&◌, sym, true, rules}
use Rattle.gix_ref_file.specs.Tree.{node_at, is_path, is_folder, parent}
use Rattle.gix_ref_file.proofs.Rooted.{rooted_made, room}
use Rattle.gix_ref_file.proofs.Histories.{makes}
use Rattle.gix_ref_file.proofs.memory.MemoryFilesFiles.write.Goals as goal

pub returns-clause-change : goal.returns-clause-change
returns-clause-change c honest =
    let path = c.args.path.now in
    let inside : (is_path path && is_folder (node_at c.args.self.now.nodes (parent path))) ≡ true = search rules in
    let free : c.in_ok-put_file.field-0 ≡ true = search rules in
    let may = room _ _ inside (sym c.in_ok-put_file.ensures.free ∙ free) in
    makes _ _ _ _ may (c.in_ok-put_file.ensures.put free)

pub returns-clause-honest : goal.returns-clause-honest
returns-clause-honest c honest = rooted_made _ _ _ _ (returns-clause-change c honest) honest

use Rattle.std.proofs.Common.{◌≡◌, ◌∙◌, ◌&&◌, sym, subst, true, rules}
use Rattle.std.specs.Prelude.{IsTrue}
use Rattle.gix_ref_file.specs.Tree.{same_path, node_at, is_path, is_folder, parent}
use Rattle.gix_ref_file.specs.Changes.{may_hold_file, is_file_at}
use Rattle.gix_ref_file.proofs.Rooted.{rooted_made, file_room, room}
use Rattle.gix_ref_file.proofs.Histories.{makes, makes_none}
use Rattle.gix_ref_file.proofs.Trees.{one_path}
use Rattle.gix_ref_file.proofs.Moved.{renamed_to_itself}
use Rattle.gix_ref_file.proofs.memory.MemoryFilesFiles.rename.Goals as goal

pub returns-then-eq-clause-change : goal.returns-then-eq-clause-change
returns-then-eq-clause-change c honest =
    let tree = c.args.self.now.nodes in
    let there : is_file_at tree c.args.from.now ≡ true = search rules in
    let same : same_path c.args.from.now c.args.to.now ≡ true = search rules in
    let one = one_path _ _ same in
    let may = subst (λ path. IsTrue (may_hold_file tree path)) one (file_room _ _ honest there) in
    makes_none _ _ _ (λ i. there i && may i) (renamed_to_itself tree _ _ one there)

pub returns-clause-change : goal.returns-clause-change
returns-clause-change c honest =
    let tree = c.args.self.now.nodes in
    let to = c.args.to.now in
    let there : is_file_at tree c.args.from.now ≡ true = search rules in
    let inside : (is_path to && is_folder (node_at tree (parent to))) ≡ true = search rules in
    let free : c.in_ok-move_file.field-0 ≡ true = search rules in
    let may = room _ _ inside (sym c.in_ok-move_file.ensures.free ∙ free) in
    makes _ _ _ _ (λ i. there i && may i) (c.in_ok-move_file.ensures.moved free)

pub returns-clause-honest : goal.returns-clause-honest
returns-clause-honest c honest = rooted_made _ _ _ _ (returns-clause-change c honest) honest

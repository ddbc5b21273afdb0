use Rattle.std.proofs.Common.{Bor, List, ℕ, []}
use Rattle.gix_traverse_tree.specs.AtPaths.{names_of}
use Rattle.gix_traverse_tree.proofs.Numbering.{along_more}
use Rattle.gix_traverse_tree.proofs.folders.number_path.Goals as goal

pub loop-name-preserved : goal.loop-name-preserved
loop-name-preserved c =
    let none : Bor (List ℕ) = record { ref_ptr = (0, 0); now = [] } in
    along_more (names_of c.args.path.now) c.as_slice-name-items.result.now c.loop-name.name-index c.loop-name.at c.in_ok-at.at none c.args.folders.now.items c.loop-name.folders.items c.number_name.new.folders.items c.loop-name-test.true c.loop-name.invariant c.in_ok-at.ensures

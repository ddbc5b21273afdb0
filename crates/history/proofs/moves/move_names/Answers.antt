use Rattle.std.proofs.Common.{refl, subst}
use Rattle.history.specs.Storing.{AreMovesOf}
use Rattle.history_store.proofs.Honesty.{same_honesty}
use Rattle.history.proofs.NamesMade.{change_moves, moves_something, pack_moves, switch_moves}
use Rattle.history.proofs.moves.move_names.Goals as goal

pub returns-in-Change-clause-moves : goal.returns-in-Change-clause-moves
returns-in-Change-clause-moves g c = λ r sent stored are.
    let arm = c.in-Change in
    change_moves g.F.Files c.args.repository.now c.change_names.new.repository c.change_names.result arm.done arm.moved arm.taken c.deref.result.now c.as_deref.result c.deref.ensures.value c.as_deref.ensures.value
    r sent stored (subst (AreMovesOf r sent) arm.is are) _ c.change_names.ensures.alone c.change_names.ensures.branch c.change_names.ensures.edits

pub returns-in-Switch-clause-moves : goal.returns-in-Switch-clause-moves
returns-in-Switch-clause-moves g c = λ r sent stored are.
    switch_moves g.F.Files c.args.repository.now c.switch_head.new.repository c.switch_head.result c.in-Switch.branch c.switch_head.ensures.moves r sent stored (subst (AreMovesOf r sent) c.in-Switch.is are)

pub returns-in-Pack-clause-moves : goal.returns-in-Pack-clause-moves
returns-in-Pack-clause-moves g c = λ r sent stored are.
    let pack = c.pack_names.ensures in
    pack_moves g.F.Files c.args.repository.now c.pack_names.new.repository c.pack_names.result c.in-Pack.packing
    _ pack.alone pack.branch pack.packs pack.records r sent stored (subst (AreMovesOf r sent) c.in-Pack.is are)

pub returns-in-Nothing-clause-moves : goal.returns-in-Nothing-clause-moves
returns-in-Nothing-clause-moves g c = λ r sent stored are. moves_something r sent (subst (AreMovesOf r sent) c.in-Nothing.is are)

pub returns-in-Nothing-clause-alone : goal.returns-in-Nothing-clause-alone
returns-in-Nothing-clause-alone g c = record {
  kept = record { objects = refl; rows = refl; failed = refl };
  kind = refl;
  names = same_honesty g.F.Files _ _ _ refl;
}

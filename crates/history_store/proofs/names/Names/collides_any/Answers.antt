use Rattle.std.proofs.Common.{subst}
use Rattle.history_store.specs.AllNames.{TellsHeldAbove}
use Rattle.history_store.proofs.Meetings.{above_meets, meeting_told}
use Rattle.history_store.proofs.names.Names.collides_any.Goals as goal

pub returns-then-branch-clause-found : goal.returns-then-branch-clause-found
returns-then-branch-clause-found g c = λ honest keeps.
    let kind = c.args.self.now.kind in
    let tree = (g.F.Files.history c.args.self.now.store.files).tree in
    above_meets kind c.args.name.now tree (subst (λ b. TellsHeldAbove kind c.args.name.now tree b) c.if-branch.true (c.in_ok-is_held_above.ensures.found honest keeps))

pub returns-clause-found : goal.returns-clause-found
returns-clause-found g c = λ honest keeps.
    let kind = c.args.self.now.kind in
    let name = c.args.name.now in
    let tree = (g.F.Files.history c.args.self.now.store.files).tree in
    meeting_told kind name tree c.is_held_below.result (subst (λ b. TellsHeldAbove kind name tree b) c.if-branch.false (c.in_ok-is_held_above.ensures.found honest keeps)) (c.is_held_below.ensures.found honest keeps)

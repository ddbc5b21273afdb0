use Rattle.std.proofs.Common.{◌∙◌, ◌==◌, ap, length, not}
use Rattle.history_store.proofs.Meetings.{listed_tells}
use Rattle.history_store.proofs.names.Names.is_held_below.Goals as goal

pub returns-clause-found : goal.returns-clause-found
returns-clause-found g c = λ honest keeps.
    listed_tells c.args.self.now.kind (g.F.Files.history c.args.self.now.store.files).tree c.args.name.now c.in_ok-below.below.items (not c.is_empty.result) (c.in_ok-below.ensures.found honest keeps)
    (ap not (c.is_empty.ensures ∙ ap (λ names. length names == 0) c.as_slice.ensures.value))

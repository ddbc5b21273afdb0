use Rattle.std.proofs.Common.{◌∙◌, ◌++◌, ◌∷◌, [], ap}
use Rattle.gix_ref_store.specs.Items.{left_in}
use Rattle.history_store.proofs.NamesRead.{lists_so}
use Rattle.history_store.proofs.names.Names.below.Goals as goal

pub returns-in-Ok-clause-listed : goal.returns-in-Ok-clause-listed
returns-in-Ok-clause-listed g c = λ honest keeps.
    let self = c.args.self.now in
    let tree = (g.F.Files.history self.store.files).tree in
    let front = c.deref.ensures.value ∙ c.in_ok-push.ensures.items ∙ ap (λ t. t ++ 47 ∷ []) c.in_ok-front.ensures.items in
    lists_so self tree c.as_ref.result c.as_ref.ensures.value keeps c.deref.result.now c.args.folder.now front (left_in tree c.in-Ok.items) (c.in-Ok.ensures.listed honest)

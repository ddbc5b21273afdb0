use Rattle.std.proofs.Common.{◌∙◌, sym}
use Rattle.history_store.proofs.KnownFolders.{known_is_folder}
use Rattle.history_store.proofs.objects.Objects.has_folder.Goals as goal

pub returns-then-contains-clause-found : goal.returns-then-contains-clause-found
returns-then-contains-clause-found g c = λ known.
    sym (known_is_folder (g.F.Files.history c.args.self.now.files).tree c.args.self.now.folders c.args.path.now (sym c.contains.ensures ∙ c.if-contains.true) known.1)

use Rattle.std.proofs.Common.{◌∙◌, sym, ap}
use Rattle.std.specs.FinMap.{contains_key}
use Rattle.history_store.specs.ObjectsFace.{ids_of_objects}
use Rattle.history_store.proofs.IdSets.{listed}
use Rattle.history_store.proofs.objects.lookups.ObjectsExists.exists.Goals as goal

pub returns-clause-listed : goal.returns-clause-listed
returns-clause-listed g c = λ has. listed (ids_of_objects c.args.self.now) _ (ap (contains_key (ids_of_objects c.args.self.now)) (sym c.from.ensures) ∙ sym c.contains.ensures ∙ has)

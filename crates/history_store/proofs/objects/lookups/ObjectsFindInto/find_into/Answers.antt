use Rattle.std.proofs.Common.{◌∙◌, sym, ap}
use Rattle.std.specs.FinMap.{contains_key}
use Rattle.history_store.specs.ObjectsFace.{ids_of_objects}
use Rattle.history_store.proofs.IdSets.{listed}
use Rattle.history_store.proofs.objects.lookups.ObjectsFindInto.find_into.Goals as goal

pub returns-in-Ok-clause-listed : goal.returns-in-Ok-clause-listed
returns-in-Ok-clause-listed g c = λ some. listed (ids_of_objects c.args.self.now) _ (ap (contains_key (ids_of_objects c.args.self.now)) (sym c.from-id.ensures) ∙ sym c.contains.ensures ∙ c.if-not-contains.false)

use Rattle.std.proofs.Common.{◌∙◌, sym}
use Rattle.gix_hash.specs.Views.{viewed_id}
use Rattle.case_words.proofs.Listed.{listed_by}
use Rattle.gix_object_cases.proofs.find.store.StoreExists.exists.Goals as goal

pub returns-clause-listed : goal.returns-clause-listed
returns-clause-listed c = λ yes. listed_by (viewed_id c.args.id) c.args.self.now.objects.items c.stored_at.result c.stored_at.ensures (sym c.is_some.ensures ∙ yes)

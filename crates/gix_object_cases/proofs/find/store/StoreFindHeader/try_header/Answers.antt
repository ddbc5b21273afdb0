use Rattle.std.proofs.Common.{◌∙◌, ap, sym}
use Rattle.std.specs.Option.{option_copied}
use Rattle.gix_hash.specs.Views.{viewed_id}
use Rattle.case_words.proofs.Listed.{listed}
use Rattle.gix_object_cases.proofs.find.store.StoreFindHeader.try_header.Goals as goal

pub returns-clause-listed : goal.returns-clause-listed
returns-clause-listed c = λ _. listed (viewed_id c.args.id) c.args.self.now.objects.items c.in-Some.stored.now (sym c.stored_at.ensures ∙ ap option_copied c.in-Some.is)

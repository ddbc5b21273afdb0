use Rattle.std.proofs.Common.{refl, true}
use Rattle.history_repository.proofs.KnownLemmas.{one_kept}
use Rattle.history_repository.proofs.read_objects.ReadObjects.keeping.Goals as goal

pub returns : goal.returns
returns c = λ r. let are = c.new-read.ensures r in one_kept r c.new-read.result (record c.new-read.result { keeps = true }) refl are.contents are

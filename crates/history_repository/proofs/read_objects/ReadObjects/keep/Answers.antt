use Rattle.std.proofs.Common.{◌∙◌, refl, subst, Option, Vec, ℕ, MatchOption}
use Rattle.std.specs.Prelude.{⊤}
use Rattle.std.specs.declared.alloc.Global.{Global}
use Rattle.gix_hash.specs.Id.{id_of}
use Rattle.history_files.specs.Laws.{table_of}
use Rattle.history_repository.specs.Meant.{IsContentOf}
use Rattle.history_repository.proofs.KnownLemmas.{content_there, one_kept}
use Rattle.history_repository.proofs.read_objects.ReadObjects.keep.Goals as goal

pub returns-in_ok-insert : goal.returns-in_ok-insert
returns-in_ok-insert c = λ r value are at has.
    let own = subst (λ (o : Option (Vec ℕ Global)). MatchOption o ⊤ (λ content. IsContentOf r (id_of c.args.meant.id) content.items)) c.in-Some.is has in
    one_kept r c.args.self.now (record c.args.self.now { contents = c.insert.new.self }) refl
    (c.in_ok-insert.ensures.others (table_of r) are.contents (content_there r (id_of c.args.meant.id) value c.in-Some.content.items at (own value at))) are

use Rattle.std.proofs.Common.{◌∙◌, ap, sym}
use Rattle.std.specs.BTreeMap.{get_by}
use Rattle.gix_hash.specs.Id.{id_of}
use Rattle.gix_hash.specs.Order.{id_cmp}
use Rattle.gix_hash.specs.Views.{viewed_id}
use Rattle.history_walks.proofs.Kept.{is_among}
use Rattle.history_walks.proofs.read_commits.ReadCommitsFindInto.find_into.Goals as goal

pub returns-clause-listed : goal.returns-clause-listed
returns-clause-listed c =
    let contents = c.args.self.now.contents in
    λ some. is_among contents (viewed_id c.args.id) c.in-Some.content.now (ap (λ id. get_by (λ key. id_cmp id (id_of key)) contents) (sym c.from.ensures) ∙ sym c.in-Some.ensures.value)

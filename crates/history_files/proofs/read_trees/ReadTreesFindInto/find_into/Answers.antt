use Rattle.std.proofs.Common.{◌∙◌, ap, sym}
use Rattle.gix_hash.specs.Views.{viewed_id}
use Rattle.history_files.specs.KeptTrees.{content_of}
use Rattle.history_files.proofs.TreesKept.{is_among}
use Rattle.history_files.proofs.read_trees.ReadTreesFindInto.find_into.Goals as goal

pub returns-clause-listed : goal.returns-clause-listed
returns-clause-listed c =
    let contents = c.args.self.now.contents in
    λ some. is_among contents (viewed_id c.args.id) c.in-Some.content.now (ap (content_of contents) (sym c.from.ensures) ∙ sym c.in-Some.ensures.value)

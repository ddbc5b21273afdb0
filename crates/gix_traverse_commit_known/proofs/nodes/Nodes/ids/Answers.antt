use Rattle.std.proofs.Common.{◌≡◌, ◌∙◌, ap}
use Rattle.gix_traverse_commit_known.specs.Nodes.{ids_of}
use Rattle.gix_traverse_commit_known.proofs.NodeLemmas.{ids_again}
use Rattle.gix_traverse_commit_known.proofs.Pending.{ok_more}
use Rattle.gix_traverse_commit_known.proofs.nodes.Nodes.ids.Goals as goal

pub returns : goal.returns
returns c = ok_more c.all_ids.result (λ all. all.items ≡ c.self.inside.ids.keys) (λ ids. ids.items ≡ ids_of c.args.self.now)
    (λ all e. e ∙ ids_again c.self.inside.ids.keys c.self.inside.flags.items c.self.invariant.as_many ∙ ap ids_of c.self.view_is) c.all_ids.ensures

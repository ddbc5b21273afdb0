use Rattle.std.proofs.Common.{ap, option_map}
use Rattle.history_walks.specs.ReadCommits.{commit_object}
use Rattle.history_walks.proofs.Kept.{one_more_of}
use Rattle.history_walks.proofs.read_commits.ReadCommits.insert.Goals as goal

pub returns-clause-kept : goal.returns-clause-kept
returns-clause-kept c = ap (option_map commit_object) c.in_ok-insert.ensures.updates.1

pub returns-clause-others : goal.returns-clause-others
returns-clause-others c = λ table are stands. one_more_of table c.args.self.now.contents c.insert.new.self c.args.id c.args.content c.in_ok-insert.ensures.updates stands are

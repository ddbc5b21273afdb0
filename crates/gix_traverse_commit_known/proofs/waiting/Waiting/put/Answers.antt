use Rattle.std.specs.BTreeMap.{keys}
use Rattle.std.specs.Map.{keys_of}
use Rattle.std.proofs.Common.{ap}
use Rattle.gix_traverse_commit_known.proofs.WaitingLemmas.{put_joins, put_once}
use Rattle.gix_traverse_commit_known.proofs.waiting.Waiting.put.Goals as goal

pub returns-clause-joins : goal.returns-clause-joins
returns-clause-joins c = put_joins c.args.pending c.len-place.result c.args.self.now.turns.entries (keys c.insert.new.self) (ap keys_of c.in_ok-insert.ensures.entries)

pub returns-clause-once : goal.returns-clause-once
returns-clause-once c = λ passes. put_once c.args.pending c.len-place.result passes c.args.self.now.turns.entries (keys c.insert.new.self) (ap keys_of c.in_ok-insert.ensures.entries)

use Rattle.history_check_names.specs.Logs.{parts_of}
use Rattle.history_check_names.proofs.LogTexts.{first_denied, both_told}
use Rattle.history_check_names.proofs.log.LineParts.has_ids.Goals as goal

pub returns-then-not-is_id : goal.returns-then-not-is_id
returns-then-not-is_id c = first_denied c.args.kind (parts_of c.args.self.now) c.is_id.result c.is_id.ensures c.if-not-is_id.true

pub returns : goal.returns
returns c = both_told c.args.kind (parts_of c.args.self.now) c.is_id.result c.is_id-2.result c.is_id.ensures c.if-not-is_id.false c.is_id-2.ensures

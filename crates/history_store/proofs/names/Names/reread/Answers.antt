use Rattle.std.proofs.Common.{◌∙◌, sym}
use Rattle.history_store.specs.Packing.{kept_hit}
use Rattle.history_store.proofs.ChangeSteps.{no_record}
use Rattle.history_store.proofs.names.Names.reread.Goals as goal

pub returns-then-not-has_record-clause-keeps : goal.returns-then-not-has_record-clause-keeps
returns-then-not-has_record-clause-keeps g c = λ honest none named. none (no_record (kept_hit c.args.self.now.packed c.args.name.now) (sym (c.has_record.ensures named) ∙ c.if-not-has_record.true))

pub returns-clause-keeps : goal.returns-clause-keeps
returns-clause-keeps g c = λ honest none named. c.read_anew.ensures.keeps honest

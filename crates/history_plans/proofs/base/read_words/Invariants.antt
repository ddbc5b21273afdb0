use Rattle.std.proofs.Common.{take}
use Rattle.history_model.specs.Repository as plain
use Rattle.history_repository.specs.Known.{AreMeant}
use Rattle.history_repository.specs.Stands.{Stands}
use Rattle.history_plans.specs.Bases.{AreWordsRead}
use Rattle.history_plans.proofs.base.read_words.Given as goal

-- what the words so far read as
abbrev pub invariant-loop-word : goal.invariant-loop-word
invariant-loop-word g l = (r : plain.Repository) → Stands g.F.Files.is_honest g.F.Files.history l.repository r → AreMeant r l.fn.read → AreWordsRead r (take l.word-index l.words) l.meanings.items × AreMeant r l.read

use Rattle.std.proofs.Common.{◌≡◌, List, false, take, true}
use Rattle.std.specs.List.{list_all, list_any}
use Rattle.history_model.specs.Commands.{To}
use Rattle.history_model.specs.Forms.{is_name}
use Rattle.history_model.specs.Repository as plain
use Rattle.history_plans.specs.Moving.{AreLines, bars}
use Rattle.history_repository.specs.Stands.{Stands}
use Rattle.history_plans.proofs.moving.have_barred.Given as goal

-- none of the lines so far is barred
abbrev pub invariant-loop-line : goal.invariant-loop-line
invariant-loop-line g l = (r : plain.Repository) (tos : List To) → Stands g.F.Files.is_honest g.F.Files.history l.repository r → AreLines r tos l.lines
    → list_all (λ (to : To). is_name to.name) tos ≡ true → list_any (bars r) (take l.line-index tos) ≡ false

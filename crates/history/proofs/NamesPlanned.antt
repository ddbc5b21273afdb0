-- The names that a command moves, as steps have them.
use Rattle.std.proofs.Common.{◌≡◌, List, [], ◌∷◌, map, ap, refl, ◌∙◌}
use Rattle.std.specs.List.{AllZip}
use Rattle.gix_hash.specs.Id.{id_of}
use Rattle.history_model.specs.Bytes.{Bytes}
use Rattle.history_model.specs.Commands.{MoveCommand, To}
use Rattle.history_layout.specs.CommandEdits.{moved_by, moved_on}
use Rattle.history_layout.specs.EditSteps.{renamed}
use Rattle.history_layout.specs.OneNameSteps.{NameMove}
use Rattle.history_store.specs.declared.changing.MovedName.{MovedName}
use Rattle.history_plans.specs.Moving.{IsLineMove}
use Rattle.history_plans.specs.Plans.{IsMove}
use Rattle.history_plans.specs.Renaming.{MakesName}
use Rattle.history.specs.Moving.{edits_of}
use Rattle.history_model.specs.Repository as plain

-- the one name of a commit or a tag, and its id after
pub one_moved : (r : plain.Repository) (to : NameMove) (one : MovedName) (all : List MovedName) → all ≡ one ∷ [] → IsMove r to one → edits_of all ≡ moved_by r to ∷ []
one_moved r to one all only is = ap edits_of only ∙ (λ i. record { name = is.name i; entry = is.entry i } ∷ [])

pub made_id : (r : plain.Repository) (to : NameMove) (one : MovedName) → IsMove r to one → id_of one.entry.after ≡ to.id
made_id r to one is = ap (λ entry. entry.after) is.entry

-- those of a move
pub lines_moved : (r : plain.Repository) (sent : MoveCommand) (lines : List To) (all : List MovedName) → AllZip (IsLineMove r sent) lines all → edits_of all ≡ map (moved_on r sent) lines
lines_moved r sent [] [] are = refl
lines_moved r sent (to ∷ lines) (one ∷ all) are = λ i. record { name = (are.0).name i; entry = (are.0).entry i } ∷ lines_moved r sent lines all are.1 i
lines_moved r sent [] (one ∷ all) are = absurd are
lines_moved r sent (to ∷ lines) [] are = absurd are

-- the new name of a rename
pub new_moved : (r : plain.Repository) (from to : Bytes) (one : MovedName) (all : List MovedName) → all ≡ one ∷ [] → MakesName r from to one → edits_of all ≡ renamed r from to ∷ []
new_moved r from to one all only makes = ap edits_of only ∙ (λ i. record { name = makes.name i; entry = makes.entry i } ∷ [])

-- What a name holds, as it was read.
use Rattle.std.specs.Prelude.{◌≡◌, ⊤, Option, Some, None, MatchOption, option_map, if◌then◌else◌}
use Rattle.gix_hash.specs.Id.{Id, id_of}
use Rattle.gix_hash.specs.Order.{id_eq}
use Rattle.history_model.specs.Bytes.{Bytes}
use Rattle.history_model.specs.Repository.{id_at}
use Rattle.history_model.specs.Meaning.{name_commit}
use Rattle.history_repository.specs.Meant.{HasRoot}
use Rattle.history_repository.specs.declared.held.Held.{Held}
use Rattle.history_repository.specs.declared.stored.PeeledCommit.{PeeledCommit}
use Rattle.history_model.specs.Repository as plain

abbrev pub held_id : Held → Id
held_id held = id_of held.id

abbrev pub held_commit : Held → Id
held_commit held = id_of held.commit.id

abbrev pub held_peeled : Held → PeeledCommit
held_peeled held = held.commit

-- the commit of the tag that is held; none if a commit is held
abbrev pub tagged_commit : Held → Option Id
tagged_commit held =
    if id_eq (held_id held) (held_commit held) then None else Some (held_commit held)

-- the id that the name holds, and the commit that it peels to, with its root, if that is known
pub record IsHeld (r : plain.Repository) (name : Bytes) (held : Option Held) : Type 0 where
  pub id : option_map held_id held ≡ id_at r name
  pub commit : option_map held_commit held ≡ name_commit r name
  pub rooted : MatchOption held ⊤ (λ held. HasRoot r (held_peeled held))

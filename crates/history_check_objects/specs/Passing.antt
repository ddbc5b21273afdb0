-- Going past a link that is done: what it makes of the object that has it.
use Rattle.std.specs.Prelude.{◌≡◌, ◌≢◌, ◌⊎◌, ◌<◌, ◌≤◌, ◌+◌, ℕ, max}
use Rattle.gix_object_lines.specs.declared.kind.Kind.TheVariants as kinds
use Rattle.history_model.specs.Forms.{max_path}
use Rattle.history_check_objects.specs.Links.{reach_of}
use Rattle.history_texts.specs.declared.open_error.OpenError.{OpenError}
use Rattle.history_texts.specs.declared.open_error.NamedBy.TheVariants.{Object}
use Rattle.history_texts.specs.declared.open_error.OpenError.TheVariants.{BadTree, WrongKind}
use Rattle.history_check_objects.specs.declared.stored.Done.{Done}
use Rattle.history_check_objects.specs.declared.order.Frame.{Frame}
use Rattle.history_check_objects.specs.declared.reading.Link.{Link}

-- the number is that length, or both are past the limit
abbrev pub IsReach : ℕ → ℕ → Type 0
IsReach length number = (number ≡ length) ⊎ ((max_path < length) × (max_path < number))

-- the same object
pub record IsSame (old new : Frame) : Type 0 where
  pub id : new.id ≡ old.id
  pub kind : new.kind ≡ old.kind
  pub links : new.links ≡ old.links

-- One link more is passed. In a tree the path that it makes counts too.
pub record IsPassed (old new : Frame) (link : Link) (done : Done) : Type 0 where
  pub same : IsSame old new
  pub next : new.next ≡ old.next + 1
  pub of_kind : done.kind ≡ link.kind
  pub short : old.kind ≡ kinds.Tree → reach_of link.name done.longest ≤ max_path
  pub longest : old.kind ≡ kinds.Tree
      → new.longest ≡ max old.longest (reach_of link.name done.longest)
  pub as_before : old.kind ≢ kinds.Tree → new.longest ≡ old.longest

-- what is wrong with a link that is done
abbrev pub IsRefusedLink : Frame → Link → Done → OpenError → Type 0
IsRefusedLink frame link done (WrongKind id (Object by)) =
    (id ≡ link.id) × (by ≡ frame.id) × (done.kind ≢ link.kind)
IsRefusedLink frame link done (BadTree id) = (id ≡ frame.id) × (frame.kind ≡ kinds.Tree)
    × (max_path < reach_of link.name done.longest)
IsRefusedLink frame link done _ = ⊥

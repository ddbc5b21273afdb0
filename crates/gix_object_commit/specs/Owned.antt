-- Commits that own their parts.
use Rattle.std.specs.Prelude.{ℕ, ◌≡◌, ◌⊎◌, List, Any}
use Rattle.std.specs.List.{AllZip}
use Rattle.gix_hash.specs.Id.{Id, id_of}
use Rattle.gix_hash.specs.Views.{IsHexOfId}
use Rattle.gix_hash.specs.declared.object_id.ObjectId.{ObjectId}
use Rattle.gix_object_lines.specs.Actor.{TellsTime}
use Rattle.gix_object_lines.specs.declared.decode.Error.{Error}
use Rattle.gix_object_lines.specs.declared.decode.Error.TheVariants.{FieldName, HexDigits, LineEnd, InvalidActor, InvalidTime, Memory}
use Rattle.gix_object_lines.specs.Person.{IsActorOf}
use Rattle.gix_object_commit.specs.Commit.{Field, Parts, folded, unfolded}
use Rattle.gix_object_commit.specs.declared.commit.owned.Commit.{Commit}
use Rattle.gix_object_commit.specs.declared.header.ExtraHeader.{ExtraHeader}

-- the id that the digits spell
abbrev pub IsOwnId : List ℕ → ObjectId → Type 0
IsOwnId digits id = IsHexOfId digits (id_of id)

-- the same name, and the value whose folded text the commit has
pub record IsHeaderOf (field : Field) (header : ExtraHeader) : Type 0 where
  pub name : header.name ≡ field.name
  pub value : (told : List ℕ) → field.value ≡ folded told → header.value ≡ told
  -- no byte is lost of a value that isn't folded, as in a commit that wasn't read
  pub whole : header.value ≡ unfolded field.value

pub record IsCommitOf (parts : Parts) (commit : Commit) : Type 0 where
  pub tree : IsOwnId parts.tree commit.tree
  pub parents : AllZip IsOwnId parts.parents commit.parents.items
  pub author : IsActorOf parts.author commit.author
  pub committer : IsActorOf parts.committer commit.committer
  pub encoding : commit.encoding ≡ parts.encoding
  pub headers : AllZip IsHeaderOf parts.headers commit.extra_headers.items
  pub message : commit.message ≡ parts.message

-- ---- why parts aren't owned

abbrev pub SpellsNoId : List ℕ → Type 0
SpellsNoId digits = (id : Id) → ¬ IsHexOfId digits id

-- each id's text spells one
abbrev pub SpellsIds : Parts → Type 0
SpellsIds parts = (¬ SpellsNoId parts.tree) × (¬ Any SpellsNoId parts.parents)

-- the first that fails: an id's text spells none, or they do and an actor has no time; or no memory
-- is left, after a tree whose id is given
abbrev pub OwningFault : Parts → Error → Type 0
OwningFault parts FieldName = ⊥
OwningFault parts HexDigits = SpellsNoId parts.tree ⊎ Any SpellsNoId parts.parents
OwningFault parts LineEnd = ⊥
OwningFault parts InvalidActor = ⊥
OwningFault parts InvalidTime =
    SpellsIds parts × ((¬ TellsTime parts.author.time) ⊎ (¬ TellsTime parts.committer.time))
OwningFault parts Memory = ¬ SpellsNoId parts.tree

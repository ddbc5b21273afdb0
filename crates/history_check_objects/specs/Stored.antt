-- What is known of the objects that are stored.
use Rattle.std.specs.Prelude.{◌≡◌, List, Option, Some, None, option_map, option_and_then}
use Rattle.std.specs.BTreeMap.{BTreeMap, get_by, keys}
use Rattle.std.specs.FinMap.{get}
use Rattle.gix_hash.specs.Id.{Id, id_of}
use Rattle.gix_hash.specs.Order.{id_cmp}
use Rattle.gix_hash.specs.declared.object_id.ObjectId.{ObjectId}
use Rattle.gix_object_lines.specs.declared.kind.Kind.{Kind as ObjectKind}
use Rattle.history_model.specs.Objects.{Value, StoredCommit, StoredTag, StoredBytes, StoredFolder, object_kind}
use Rattle.history_model.specs.Repository.{Values}
use Rattle.history_check_objects.specs.declared.stored.Done.{Done}
use Rattle.history_check_objects.specs.declared.stored.Stored.{Stored}

-- what is known of a stored object: its kind, and of a tag the id of what it is of
pub record Fact : Type 0 where
  pub kind : ObjectKind
  pub target : Option Id

-- what is known of the object under each id
abbrev pub Facts : Type 0
Facts = Id → Option Fact

abbrev pub kind_in : Facts → Id → Option ObjectKind
kind_in facts id = option_map (λ fact. fact.kind) (facts id)

abbrev pub target_in : Facts → Id → Option Id
target_in facts id = option_and_then (λ fact. fact.target) (facts id)

-- ---- of values

abbrev pub target_of : Value → Option Id
target_of (StoredTag tag) = Some tag.target
target_of (StoredCommit commit) = None
target_of (StoredBytes bytes) = None
target_of (StoredFolder files) = None

abbrev pub fact_of : Value → Fact
fact_of value = record { kind = object_kind value; target = target_of value }

-- these are the facts of these values
abbrev pub AreFactsOf : Facts → Values → Type 0
AreFactsOf facts values = (id : Id) → facts id ≡ option_map fact_of (get values id)

-- ---- of what is noted

-- what a map has at an id
abbrev pub at_id : {X : Type 0} → BTreeMap ObjectId X → Id → Option X
at_id map id = get_by (λ own. id_cmp id (id_of own)) map

abbrev pub fact_noted : Option ObjectId → Done → Fact
fact_noted commit done = record { kind = done.kind; target = option_map id_of commit }

-- the facts of the objects that are noted
abbrev pub facts_in : Stored → Facts
facts_in stored id = option_map (fact_noted (at_id stored.tags id)) (at_id stored.done id)

abbrev pub ids_in : Stored → List ObjectId
ids_in stored = keys stored.done

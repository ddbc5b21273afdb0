-- A survey, as its calls see it.
use Rattle.std.specs.Prelude.{◌≡◌, ◌≢◌, ◌⊎◌, ℕ, Bool, true, List, length, reverse, Option, IsFalse}
use Rattle.std.specs.FinMap.{contains_key}
use Rattle.std.specs.List.{list_any}
use Rattle.gix_hash.specs.Id.{Id, id_of}
use Rattle.gix_hash.specs.Order.{id_eq}
use Rattle.gix_hash.specs.declared.kind.Kind.{Kind}
use Rattle.gix_hash.specs.declared.object_id.ObjectId.{ObjectId}
use Rattle.gix_ref_file.specs.Tree.{Tree}
use Rattle.history_model.specs.Repository.{Values}
use Rattle.history_layout.specs.TreeHalves.{HoldsValues}
use Rattle.history_texts.specs.IdLists.{is_one_of}
use Rattle.history_check_objects.specs.Opened.{IsSoundStore}
use Rattle.history_check_objects.specs.Stored.{AreFactsOf, facts_in, ids_in}
use Rattle.history_check_objects.specs.Surveying.{Stands}
use Rattle.history_texts.specs.declared.open_error.OpenError.{OpenError}
use Rattle.history_texts.specs.declared.open_error.NamedBy.TheVariants.{Object}
use Rattle.history_texts.specs.declared.open_error.OpenError.TheVariants.{Cycle, Missing}
use Rattle.history_check_objects.specs.declared.order.Frame.{Frame}
use Rattle.history_check_objects.specs.declared.order.Survey.{Survey}
use Rattle.history_check_objects.specs.declared.stored.Stored.{Stored}

-- the survey has come so far, with these open objects, the last one first
abbrev pub StandsOver : Kind → Tree → List ObjectId → Survey → List Frame → Option ObjectId
    → Type 0
StandsOver kind tree ids survey frames due =
    Stands kind tree ids survey.unmet survey.stored frames due

abbrev pub StandsAt : Kind → Tree → List ObjectId → Survey → Option ObjectId → Type 0
StandsAt kind tree ids survey due =
    StandsOver kind tree ids survey (reverse survey.waiting.items) due

-- how many objects are to come
abbrev pub left_of : Survey → ℕ
left_of survey = length survey.unmet.keys

-- whether one of the open objects has this id
abbrev pub is_open : List Frame → Id → Bool
is_open frames id = list_any (λ (frame : Frame). id_eq id (id_of frame.id)) frames

-- what is wrong if an object names one that is neither done nor to come
abbrev pub IsLacking : List Frame → ObjectId → ObjectId → OpenError → Type 0
IsLacking frames by id (Cycle other) =
    (other ≡ id) × ((id_of by ≡ id_of id) ⊎ (is_open frames (id_of id) ≡ true))
IsLacking frames by id (Missing other (Object from)) = (other ≡ id) × (from ≡ by)
    × (id_of by ≢ id_of id) × IsFalse (is_open frames (id_of id))
IsLacking frames by id _ = ⊥

-- the tree holds the values of just the objects that are noted: a whole store in written form
pub record IsWholePart (kind : Kind) (tree : Tree) (stored : Stored) : Type 0 where
  pub values : Values
  pub holds : HoldsValues kind tree values
  pub sound : IsSoundStore kind values
  pub known : (id : Id) → contains_key values id ≡ is_one_of (ids_in stored) id
  pub told : AreFactsOf (facts_in stored) values

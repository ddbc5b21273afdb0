-- What a log's items read as, and the order of its walk.
use Rattle.std.specs.Prelude.{◌≡◌, ◌++◌, ◌&&◌, not, Bool, false, ℤ, pos, List, map, Option, Some, None, Result, if◌then◌else◌}
use Rattle.std.specs.List.{filter_map, list_any}
use Rattle.gix_hash.specs.Id.{Id}
use Rattle.gix_traverse_graph.specs.declared.parents.Parents.{Parents}
use Rattle.gix_traverse_graph.specs.declared.parents.Parents.TheVariants.{All, First}
use Rattle.history_model.specs.Answers.{tip_word, hidden_word}
use Rattle.history_model.specs.Bytes.{digits_value}
use Rattle.history_model.specs.Causes.{wants_all_parents}
use Rattle.history_model.specs.CommandParts.{since_words}
use Rattle.history_model.specs.Forms.{is_seconds}
use Rattle.history_model.specs.Repository.{Repository}
use Rattle.history_model.specs.declared.Cause.{Cause}
use Rattle.history_model.specs.declared.Cause.TheVariants.{BadTime, OrderWithParents}
use Rattle.history_repository.specs.Meanings.{commit_or_cause, meaning_of}
use Rattle.history_queries.specs.declared.logs.Ends.{Ends}
use Rattle.history_model.specs.Commands as model
use Rattle.history_walks.specs.declared.listing.Order as walks
use Rattle.history_walks.specs.declared.listing.Order.TheVariants as walk

-- what the words of tips mean, and then those of hidden commits
abbrev pub meanings_in : Ends → List (Result Id Cause)
meanings_in ends = map meaning_of ends.tips.items ++ map meaning_of ends.hidden.items

-- these are the meanings of the items' words
pub record AreEnds (r : Repository) (items : List model.LogItem) (ends : Ends) : Type 0 where
  pub tips : map meaning_of ends.tips.items
      ≡ map (commit_or_cause r) (filter_map tip_word items)
  pub hidden : map meaning_of ends.hidden.items
      ≡ map (commit_or_cause r) (filter_map hidden_word items)

-- why the words of an order give no cutoff
abbrev pub since_cause : model.Order → Option Cause
since_cause order =
    if list_any (λ word. not (is_seconds word)) (since_words order) then Some BadTime else None

-- why a walk isn't made in this order
abbrev pub order_cause : model.Order → Bool → Bool → Option Cause
order_cause order first hides =
    if list_any (λ word. not (is_seconds word)) (since_words order) then Some BadTime
    else if first && wants_all_parents order hides then Some OrderWithParents else None

-- the cutoff of an order, if it has one
abbrev pub IsSince : model.Order → Option ℤ → Type 0
IsSince (model.NewestSince word) since = since ≡ Some (pos (digits_value word))
IsSince (model.OldestSince word) since = since ≡ Some (pos (digits_value word))
IsSince _ since = since ≡ None

-- the parents that are followed
abbrev pub followed : Bool → Parents
followed first = if first then First else All

-- the walk goes in the order, along the parents that are followed
abbrev pub IsOrderOf : model.Order → Bool → walks.Order → Type 0
IsOrderOf model.Breadth first (walk.Breadth parents) = parents ≡ followed first
IsOrderOf model.Newest first (walk.Newest since) = (since ≡ None) × (first ≡ false)
IsOrderOf model.Oldest first (walk.Oldest since) = (since ≡ None) × (first ≡ false)
IsOrderOf (model.NewestSince word) first (walk.Newest since) =
    (since ≡ Some (pos (digits_value word))) × (first ≡ false)
IsOrderOf (model.OldestSince word) first (walk.Oldest since) =
    (since ≡ Some (pos (digits_value word))) × (first ≡ false)
IsOrderOf model.Date first (walk.Date parents) = parents ≡ followed first
IsOrderOf model.Topological first (walk.Topological parents) = parents ≡ followed first
IsOrderOf _ first _ = ⊥

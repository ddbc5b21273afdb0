-- Why a walk ends early whose commits each come after their children.
use Rattle.std.specs.Prelude.{◌≡◌, ◌⊎◌, List, Option, Some}
use Rattle.gix_hash.specs.declared.object_id.ObjectId.{ObjectId}
use Rattle.gix_traverse_graph.specs.Commits.{Commits, Listed}
use Rattle.gix_traverse_graph.specs.declared.parents.Parents.{Parents}
use Rattle.gix_traverse_topo.specs.Standing.{all_accepted, topo_request}
use Rattle.gix_traverse_topo.specs.declared.error.Error.{Error}
use Rattle.history_walks.specs.Faults.{as_sorted}
use Rattle.history_walks.specs.declared.error.WalkError.{WalkError}
use Rattle.history_walks.specs.declared.error.WalkError.TheVariants.{Memory}

-- a commit of the walk has this fault; or no memory is left
abbrev pub StopsSorted : (ObjectId → Option Error) → Commits ObjectId → List ObjectId → List ObjectId
    → Parents → WalkError → Type 0
StopsSorted faults g tips ends parents error = (error ≡ Memory)
    ⊎ ((x : ObjectId) × (cause : Error) × (faults x ≡ Some cause) × (error ≡ as_sorted cause)
    × Listed g (topo_request tips ends parents all_accepted) x)

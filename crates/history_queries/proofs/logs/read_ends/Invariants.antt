use Rattle.std.proofs.Common.{◌≡◌, map, take}
use Rattle.std.specs.List.{filter_map}
use Rattle.history_model.specs.Repository as plain
use Rattle.history_repository.specs.Known.{AreMeant}
use Rattle.history_repository.specs.Meanings.{commit_or_cause, meaning_of}
use Rattle.history_repository.specs.Stands.{Stands}
use Rattle.history_queries.proofs.LogItems.{hidden_in, tip_in}
use Rattle.history_queries.proofs.logs.read_ends.Given as goal

-- what the words of the items so far read as
abbrev pub invariant-loop-item : goal.invariant-loop-item
invariant-loop-item g l = (r : plain.Repository) → Stands g.F.Files.is_honest g.F.Files.history l.repository r → AreMeant r l.fn.read
    → (map meaning_of l.tips.items ≡ map (commit_or_cause r) (filter_map tip_in (take l.item-index l.items))) × (map meaning_of l.hidden.items ≡ map (commit_or_cause r) (filter_map hidden_in (take l.item-index l.items))) × AreMeant r l.read

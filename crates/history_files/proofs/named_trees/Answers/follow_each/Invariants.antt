use Rattle.std.proofs.Common.{◌≡◌, Bor, List, map, take}
use Rattle.std.specs.Prelude.{option_map}
use Rattle.gix_hash.specs.Id.{id_of}
use Rattle.gix_hash.specs.declared.kind.Kind.{Kind}
use Rattle.history_model.specs.Bytes.{Bytes}
use Rattle.history_model.specs.FileMap.{FileMap}
use Rattle.history_model.specs.Objects.{entry_at}
use Rattle.history_files.specs.NamedTrees.{AreAnswers, CanFollowEach}
use Rattle.history_files.specs.Reading.{IsRootOf, entry_of}
use Rattle.history_files.proofs.named_trees.Answers.follow_each.Given as goal

-- what is at the paths so far, and what is kept is right
abbrev pub invariant-loop-path : goal.invariant-loop-path
invariant-loop-path g l =
    (g.S.Lookup.is_honest l.store → AreAnswers (g.S.Lookup.table l.store) l.initial.self → AreAnswers (g.S.Lookup.table l.store) l.self)
    × (l.self.names.items ≡ l.initial.self.names.items)
    × ((given : List (Bor Bytes)) → CanFollowEach (g.S.Lookup.table l.store) given l.paths l.initial.self → g.S.Lookup.is_honest l.store → (kind : Kind) (files : FileMap) → IsRootOf (g.S.Lookup.table l.store) kind files (id_of l.root)
    → map (option_map entry_of) l.found.items ≡ map (λ path. entry_at kind files path.now) (take l.path-index given))

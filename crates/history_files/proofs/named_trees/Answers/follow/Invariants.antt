use Rattle.std.proofs.Common.{◌≡◌, drop}
use Rattle.gix_hash.specs.Id.{id_of}
use Rattle.gix_hash.specs.declared.kind.Kind.{Kind}
use Rattle.history_model.specs.Bytes.{Bytes}
use Rattle.history_model.specs.FileMap.{FileMap}
use Rattle.history_model.specs.Objects.{entry_at}
use Rattle.history_files.specs.NamedTrees.{AreAnswers, CanFollow, texts}
use Rattle.history_files.specs.Reading.{IsRootOf}
use Rattle.history_files.proofs.AtNames.{Leads}
use Rattle.history_files.proofs.named_trees.Answers.follow.Given as goal

-- what was found leads on, and what is kept is right
abbrev pub invariant-loop-name : goal.invariant-loop-name
invariant-loop-name g l =
    (g.S.Lookup.is_honest l.store → AreAnswers (g.S.Lookup.table l.store) l.initial.self → AreAnswers (g.S.Lookup.table l.store) l.self)
    × (l.self.names.items ≡ l.initial.self.names.items)
    × ((text : Bytes) → CanFollow (g.S.Lookup.table l.store) l.initial.self l.path text → g.S.Lookup.is_honest l.store → (kind : Kind) (files : FileMap) → IsRootOf (g.S.Lookup.table l.store) kind files (id_of l.root)
    → Leads (g.S.Lookup.table l.store) kind l.found (texts (drop l.name-index l.path)) (entry_at kind files text))

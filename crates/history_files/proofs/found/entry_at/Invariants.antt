use Rattle.std.proofs.Common.{drop}
use Rattle.gix_hash.specs.Id.{id_of}
use Rattle.gix_hash.specs.declared.kind.Kind.{Kind}
use Rattle.history_model.specs.FileMap.{FileMap}
use Rattle.history_model.specs.Objects.{entry_at}
use Rattle.history_files.specs.NamedTrees.{texts}
use Rattle.history_files.specs.Reading.{IsRootOf}
use Rattle.history_files.proofs.AtNames.{Leads}
use Rattle.history_files.proofs.found.entry_at.Given as goal

abbrev pub invariant-loop-name : goal.invariant-loop-name
invariant-loop-name g l =
    g.S.Lookup.is_honest l.store → (kind : Kind) (files : FileMap) → IsRootOf (g.S.Lookup.table l.store) kind files (id_of l.root)
    → Leads (g.S.Lookup.table l.store) kind l.found (texts (drop l.name-index l.name-items)) (entry_at kind files l.path)

use Rattle.std.proofs.Common.{length, map, option_map}
use Rattle.std.specs.Prelude.{IfSome}
use Rattle.gix_ref_lock.specs.RecordEdits.{line_in}
use Rattle.gix_ref_transaction.specs.Modes.{objects_in}
use Rattle.gix_ref_transaction.proofs.RecordLines.{SaidSoFar}
use Rattle.gix_ref_transaction.proofs.Unresolved.{IsSplit}
use Rattle.gix_ref_transaction.proofs.repacking.records.record_edits.Given as goal

-- what all edits but those left say
abbrev pub invariant-edits : goal.invariant-edits
invariant-edits g l =
    record {
      said : g.F.Files.is_honest l.store.files → IfSome (objects_in l.packed_refs) g.O.Lookup.is_honest → SaidSoFar (option_map g.O.Lookup.table (objects_in l.packed_refs)) l.edits l.rest (map line_in l.lines.items);
      split : IsSplit l.edits l.rest;
    }

abbrev pub decreases-edits : goal.decreases-edits
decreases-edits g l = length l.rest

use Rattle.std.proofs.Common.{◌⊎◌, List, ℕ}
use Rattle.std.specs.BTreeMap.{keys}
use Rattle.std.specs.Prelude.{IsTrue, IsSome}
use Rattle.gix_ref_format.specs.PackedBuffer.{hit}
use Rattle.gix_ref_format.specs.PackedKept.{records_left}
use Rattle.gix_ref_store.specs.Asks.{is_asked}
use Rattle.gix_ref_store.specs.Walks.{Keeps, BringsAsked, has}
use Rattle.gix_ref_store.specs.OwnFiles.{BringsMissing}
use Rattle.gix_ref_store.proofs.store.file.gather.put_packed.Given as goal

-- a record is still to come, or its name is there
abbrev pub invariant-loop-found : goal.invariant-loop-found
invariant-loop-found l =
    (goal.iterator-loop-found).can_next l.records × (goal.iterator-loop-found).is_finite l.records
    × Keeps (keys l.fn.names) (keys l.names) × BringsAsked (is_asked l.asked) (keys l.fn.names) (keys l.names)
    × ((name : List ℕ) → IsSome (hit (records_left l.initial.records) name) → IsTrue (is_asked l.asked name) → IsSome (hit (records_left l.records) name) ⊎ IsTrue (has (keys l.names) name))
    × BringsMissing l.fn.names.entries l.names.entries

use Rattle.std.proofs.Common.{◌≡◌, length, []}
use Rattle.std.specs.Prelude.{IsTrue}
use Rattle.std.specs.List.{AllByRecursion, list_all}
use Rattle.gix_ref_file.specs.Changes.{may_hold_file}
use Rattle.gix_ref_file.specs.Tree.{is_path}
use Rattle.gix_ref_way.specs.Ways.{FoldersOnlyOf}
use Rattle.gix_ref_lock.specs.Contents.{place_of}
use Rattle.gix_ref_lock.specs.Needs.{AreBeside}
use Rattle.gix_ref_lock.specs.Moves.{lock_paths}
use Rattle.gix_ref_transaction.specs.Calls.{AreTaken, KeepsStore}
use Rattle.gix_ref_transaction.specs.Paths.{name_paths, places_of}
use Rattle.gix_ref_file.specs.History.{Adds}
use Rattle.gix_ref_store.specs.Lookups.{reads_with}
use Rattle.gix_ref_store.specs.Stores.{base_of}
use Rattle.gix_ref_lock.specs.Moments.{SameButLocks}
use Rattle.gix_ref_transaction.specs.LogLines.{logging}
use Rattle.gix_ref_transaction.specs.Modes.{removes}
use Rattle.gix_ref_transaction.specs.Plans.{IsPlanOf, KeepsFiles}
use Rattle.gix_ref_transaction.specs.Rollback.{MoreFilesAt}
use Rattle.gix_ref_transaction.proofs.Plannings.{ZippedSoFar, TestedSoFar, LinedIn}
use Rattle.gix_ref_transaction.proofs.transaction.plan_all.Given as goal

-- only locks were made, of the edits that are planned
abbrev pub invariant-edits : goal.invariant-edits
invariant-edits g l =
    let history = g.F.Files.history in
    record {
      kept : KeepsStore g.F.Files (Unit {0}) l.fn.store l.store;
      moments : g.F.Files.is_honest l.fn.store.files → Adds (SameButLocks (history l.fn.store.files).tree) (history l.fn.store.files) (history l.store.files);
      locked : g.F.Files.is_honest l.fn.store.files → MoreFilesAt (lock_paths l.moves.items) (history l.fn.store.files).tree (history l.store.files).tree;
      folders : g.F.Files.is_honest l.fn.store.files → Adds (FoldersOnlyOf (places_of (base_of l.fn.store) l.edits) (history l.fn.store.files).tree) (history l.fn.store.files) (history l.store.files);
      taken : g.F.Files.is_honest l.fn.store.files → AreTaken l.moves.items (history l.fn.store.files).tree (history l.store.files).tree;
      room : g.F.Files.is_honest l.fn.store.files → AreBeside (name_paths (base_of l.fn.store) l.edits) → AllByRecursion (λ m. IsTrue (may_hold_file (history l.store.files).tree (place_of m))) l.moves.items;
      paths : IsTrue (list_all is_path (name_paths (base_of l.fn.store) l.rest));
      none : l.fn.moves.items ≡ [];
      planned : ZippedSoFar (IsPlanOf (base_of l.fn.store) (removes l.packed_refs)) l.edits l.rest l.fn.moves.items l.moves.items;
      stay : g.F.Files.is_honest l.fn.store.files → KeepsFiles (history l.fn.store.files).tree (history l.store.files).tree;
      lined : g.F.Files.is_honest l.fn.store.files → ZippedSoFar (LinedIn (logging l.fn.store.options (reads_with l.fn.store (history l.fn.store.files).tree l.packed) l.committer) (base_of l.fn.store) (history l.fn.store.files).tree) l.edits l.rest l.fn.moves.items l.moves.items;
      tested : g.F.Files.is_honest l.fn.store.files → TestedSoFar (reads_with l.fn.store (history l.fn.store.files).tree l.packed) l.edits l.rest l.fn.moves.items l.moves.items (history l.store.files).tree;
    }

abbrev pub decreases-edits : goal.decreases-edits
decreases-edits g l = length l.rest

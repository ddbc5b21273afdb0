use Rattle.std.proofs.Common.{◌≡◌, ◌++◌, drop, map}
use Rattle.gix_ref_store.specs.Stores.{base_of}
use Rattle.gix_ref_transaction.specs.Paths.{bytes_of, name_paths}
use Rattle.gix_ref_transaction.proofs.once.add_paths.Given as goal

-- the paths so far, and those of the edits left, are all
abbrev pub invariant-loop-edit : goal.invariant-loop-edit
invariant-loop-edit g l = map bytes_of l.paths.items ++ name_paths (base_of l.store) (drop l.edit-index l.edits) ≡ map bytes_of l.fn.paths.items ++ name_paths (base_of l.store) l.edits

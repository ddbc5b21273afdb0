-- Which changes of references also change the packed ones.
use Rattle.std.specs.Prelude.{Bool, true, false, Option, Some, None, option_map}
use Rattle.gix_object_lookup.specs.Table.{Table}
use Rattle.gix_object_lookup.specs.declared.traits.Lookup.{Ghosts}
use Rattle.gix_ref_transaction.specs.declared.repacking.packed_refs.PackedRefs.{PackedRefs}
use Rattle.gix_ref_transaction.specs.declared.repacking.packed_refs.PackedRefs.TheVariants.{DeletionsOnly, DeletionsAndNonSymbolicUpdates, DeletionsAndNonSymbolicUpdatesRemoveLooseSourceReference}

-- the objects that say what tags lead to, if updates are packed
abbrev pub objects_in : {O : Type 0} → PackedRefs O → Option O
objects_in DeletionsOnly = None
objects_in (DeletionsAndNonSymbolicUpdates objects) = Some objects.now
objects_in (DeletionsAndNonSymbolicUpdatesRemoveLooseSourceReference objects) = Some objects.now

-- what those objects are
abbrev pub packs_in : {O : Type 0} → Ghosts O → PackedRefs O → Option Table
packs_in objects mode = option_map objects.table (objects_in mode)

-- whether the own files of packed references are removed
abbrev pub removes : {O : Type 0} → PackedRefs O → Bool
removes DeletionsOnly = false
removes (DeletionsAndNonSymbolicUpdates objects) = false
removes (DeletionsAndNonSymbolicUpdatesRemoveLooseSourceReference objects) = true

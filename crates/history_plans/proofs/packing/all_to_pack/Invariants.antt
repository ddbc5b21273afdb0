use Rattle.std.proofs.Common.{◌≡◌, map}
use Rattle.history_store.specs.Packed.{records_of}
use Rattle.history_repository.specs.NamesShown.{shown_name}
use Rattle.history_plans.specs.Packing.{AreFull, line_record}
use Rattle.history_plans.proofs.packing.all_to_pack.Given as goal

-- the names so far have the records of what is shown
abbrev pub invariant-loop-one : goal.invariant-loop-one
invariant-loop-one l = AreFull l.yielded → records_of l.names.items ≡ map line_record (map shown_name l.yielded)

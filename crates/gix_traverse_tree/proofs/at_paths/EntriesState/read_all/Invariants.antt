use Rattle.std.proofs.Common.{◌≡◌, length}
use Rattle.gix_traverse_tree.specs.Known.{known, ReadsBelow}
use Rattle.gix_traverse_tree.proofs.at_paths.EntriesState.read_all.Given as goal

abbrev pub invariant-folders : goal.invariant-folders
invariant-folders g l = record {
  len : length l.self.found.items ≡ length l.initial.self.found.items;
  root : known l.self.found.items 0 ≡ known l.initial.self.found.items 0;
  reads : ReadsBelow (g.F.Lookup.is_honest l.objects) (g.F.Lookup.table l.objects) l.folders l.self.found.items l.self.asked l.number;
}

use Rattle.std.proofs.Common.{◌≡◌, ◌++◌, length, map, filter_map}
use Rattle.std.specs.List.{filter}
use Rattle.std.specs.Range.Bound.{IsForward}
use Rattle.std.specs.BTreeMap.Range.{IsLeBy, IsLtBy}
use Rattle.gix_ref_file.specs.Below.{IsEnd}
use Rattle.gix_ref_file.proofs.Entries.{key_cmp}
use Rattle.gix_ref_file.proofs.Below.{name_here, is_within}
use Rattle.gix_ref_file.proofs.nodes.Nodes.names.Given as goal

-- the names so far and those of what is left are all
abbrev pub invariant-loop-path : goal.invariant-loop-path
invariant-loop-path l =
    IsEnd l.folder l.end
    × IsForward (IsLeBy key_cmp) (IsLtBy key_cmp) l.start l.end
    × (map (λ name. name.items) l.found.items ++ filter_map (name_here l.folder) (filter (is_within l.start l.end) l.self-inside.entries.entries) ≡ filter_map (name_here l.folder) l.self-inside.entries.entries)

-- what is left
abbrev pub decreases-loop-path : goal.decreases-loop-path
decreases-loop-path l = length (filter (is_within l.start l.end) l.self-inside.entries.entries)

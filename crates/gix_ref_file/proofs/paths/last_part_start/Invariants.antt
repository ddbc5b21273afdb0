use Rattle.std.proofs.Common.{◌≡◌, ◌+◌, ◌≤◌, not, length, take}
use Rattle.std.specs.List.{suffix_len}
use Rattle.gix_ref_file.specs.Tree.{is_slash}
use Rattle.gix_ref_file.proofs.paths.last_part_start.Given as goal

abbrev pub invariant-loop-start : goal.invariant-loop-start
invariant-loop-start l = (l.start ≤ length l.path) × (l.start + suffix_len (λ byte. not (is_slash byte)) l.path ≡ length l.path + suffix_len (λ byte. not (is_slash byte)) (take l.start l.path))

abbrev pub decreases-loop-start : goal.decreases-loop-start
decreases-loop-start l = l.start

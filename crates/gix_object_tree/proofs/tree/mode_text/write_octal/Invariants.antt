use Rattle.std.proofs.Common.{◌≡◌, ◌<◌, ◌≤◌, ◌^◌, false, drop, ◌+◌, ◌-◌}
use Rattle.std.specs.Fmt.{digits, digits_onto}
use Rattle.gix_object_tree.proofs.tree.mode_text.write_octal.Given as goal

abbrev pub invariant-digits : goal.invariant-digits
invariant-digits l =
    (1 ≤ l.at) × (l.at ≤ 6) × (l.rest < 8 ^ l.at)
    × (digits_onto (58 + l.at) 8 false l.rest (drop l.at l.bytes) ≡ digits 8 false l.initial.number)

abbrev pub decreases-digits : goal.decreases-digits
decreases-digits l = l.at - 1

use Rattle.std.proofs.Common.{◌≡◌, ◌-◌, length, take, drop, map, replicate}
use Rattle.hex.specs.Hex.{hex_digit_value}
use Rattle.gix_hash.specs.ReverseSpelling.{reverse_digit_value}
use Rattle.gix_hash.proofs.change_id.spelling.hex_from_reverse.Given as goal

abbrev pub invariant-letters : goal.invariant-letters
invariant-letters l = record {
  room : length l.text ≡ 64;
  read : map hex_digit_value (take l.i l.text) ≡ map reverse_digit_value (take l.i l.letters);
  zeros : drop l.i l.text ≡ replicate (64 - l.i) 48;
}

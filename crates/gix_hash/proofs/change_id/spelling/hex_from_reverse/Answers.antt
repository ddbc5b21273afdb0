use Rattle.std.proofs.Common.{◌∙◌, sym, arith, length-set}
use Rattle.gix_hash.proofs.PrefixLemmas.{reverse_more_read, reverse_more_zeros}
use Rattle.gix_hash.proofs.change_id.spelling.hex_from_reverse.Goals as goal

pub letters-preserved : goal.letters-preserved
letters-preserved c =
    let invariant = c.letters.invariant in
    record {
      room = length-set _ _ _ ∙ invariant.room;
      read = reverse_more_read c.args.letters.now c.letters.text c.letters.i c.in_ok-text.field-0 (omega arith) (omega arith) (sym c.reverse_digit.ensures ∙ c.in_ok-text.was) invariant.read;
      zeros = reverse_more_zeros c.letters.text c.letters.i _ invariant.zeros;
    }

use Rattle.gix_hash.proofs.PieceLemmas.{sum-piece_lengths, sum-all_pieces}
use Rattle.gix_hash.proofs.laws.digests.told_amounts_add_up.Goals as goal

pub returns : goal.returns
returns c = record {
  pieces = sum-piece_lengths c.args.num_bytes c.args.pieces;
  all = sum-all_pieces c.args.num_bytes c.args.pieces;
}

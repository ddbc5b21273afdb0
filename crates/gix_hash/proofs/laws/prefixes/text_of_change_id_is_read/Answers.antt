use Rattle.gix_hash.proofs.PrefixesReadBack.{read_change_id}
use Rattle.gix_hash.proofs.laws.prefixes.text_of_change_id_is_read.Goals as goal

pub returns : goal.returns
returns c = read_change_id c.args.text.now c.args.id.now c.from_reverse_hex.result c.requires c.from_reverse_hex.ensures

use Rattle.gix_object_lines.proofs.HexDigits.{is_id_of_hex}
use Rattle.gix_object_tag.proofs.laws.ids_read_are_ids.Goals as goal

pub returns : goal.returns
returns c = λ parts is. is_id_of_hex c.args._hash_kind parts.target is.target.hex

use Rattle.gix_object_tag.proofs.ReadFormat.{read_in_format}
use Rattle.gix_object_tag.proofs.laws.read_is_in_format.Goals as goal

pub returns : goal.returns
returns c = read_in_format c.args._hash_kind c.args._input.now

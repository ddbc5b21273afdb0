use Rattle.gix_hash.specs.Id.{id_of}
use Rattle.history.proofs.ChangeLemmas.{id_told}
use Rattle.history.proofs.changing.id_text.Goals as goal

pub returns : goal.returns
returns c = id_told (id_of c.args.id.now) c.new-text.result.items c.line.new.text.items c.as_slice.result.now c.args.word.now c.hex_digits.result.now c.new-text.ensures.items c.as_slice.ensures c.hex_digits.ensures c.in_ok-line.ensures

use Rattle.gix_object_tag.proofs.SignedLemmas.{read_tells}
use Rattle.gix_object_tag.proofs.laws.signing.what_is_read_is_what_was_signed.Goals as goal

pub returns : goal.returns
returns c = λ tag text signature. read_tells c.args.hash_kind c.args.written.now c.signature.result tag text signature c.signature.ensures.every

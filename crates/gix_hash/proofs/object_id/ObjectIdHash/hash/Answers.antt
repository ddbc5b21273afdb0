use Rattle.std.proofs.Common.{ap, sym, ◌∙◌}
use Rattle.gix_hash.specs.Packed.{bytes_from-digits_of}
use Rattle.gix_hash.specs.Id.{bytes_from}
use Rattle.gix_hash.proofs.object_id.ObjectIdHash.hash.Goals as goal

pub returns : goal.returns
returns g c =
    let bytes = sym (bytes_from-digits_of c.as_slice.result.now) ∙ ap bytes_from c.as_slice.ensures.digits in
    rw bytes at c.write.ensures

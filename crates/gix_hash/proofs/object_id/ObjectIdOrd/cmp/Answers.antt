use Rattle.std.proofs.Common.{refl}
use Rattle.gix_hash.proofs.Compared.{bytes_cmp}
use Rattle.gix_hash.proofs.object_id.ObjectIdOrd.cmp.Goals as goal

pub returns : goal.returns
returns c =
    rw (c.then.ensures, c.cmp.ensures, c.cmp-2.ensures, c.number.ensures, c.number-2.ensures, c.kind.ensures, c.kind-2.ensures, bytes_cmp, c.as_slice.ensures.digits, c.as_slice-2.ensures.digits) refl

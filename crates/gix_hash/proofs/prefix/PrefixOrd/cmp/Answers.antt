use Rattle.gix_hash.proofs.PaddedOrder.{padded_cmp}
use Rattle.gix_hash.proofs.prefix.PrefixOrd.cmp.Goals as goal

pub returns : goal.returns
returns c =
    rw (c.then.ensures, c.cmp-padded.ensures, c.cmp.ensures, ← c.self.view_is, ← c.other.view_is)
    (padded_cmp c.self.inside.bytes c.other.inside.bytes c.self.inside.hex_len c.other.inside.hex_len c.self.invariant c.other.invariant)

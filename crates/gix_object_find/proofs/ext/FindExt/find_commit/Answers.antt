use Rattle.std.proofs.Common.{subst}
use Rattle.gix_hash.specs.Kind.{hex_len}
use Rattle.gix_object_commit.specs.Faults.{CommitFault}
use Rattle.gix_object_find.proofs.ext.FindExt.find_commit.Goals as goal

pub returns-in-Err-clause-refused : goal.returns-in-Err-clause-refused
returns-in-Err-clause-refused g c =
    let fault = subst (λ kind. CommitFault (hex_len kind) c.in_ok-content.content.now c.in-Err.source) c.kind.ensures c.in-Err.ensures.refused in
    (c.from.ensures, (c.in_ok-content.content.now, c.in_ok-content.ensures.found, fault))

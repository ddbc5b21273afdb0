use Rattle.std.proofs.Common.{subst}
use Rattle.gix_hash.specs.Views.{IsBytesOf, viewed_id}
use Rattle.gix_object_tree.proofs.Written.{raw_of}
use Rattle.gix_object_tree.proofs.laws.entry_is_told_again.Goals as goal

pub returns : goal.returns
returns c =
    let id = viewed_id c.args.entry.oid in
    record {
      mode = c.written_mode_is_read_back.ensures;
      id = subst (λ bytes. IsBytesOf bytes id) (raw_of c.as_bytes-id.result.now id c.as_bytes-id.ensures) c.as_bytes-id.ensures;
    }

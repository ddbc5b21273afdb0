use Rattle.std.proofs.Common.{refl}
use Rattle.std.proofs.lemmas.Result.{err_from_is_err_and}
use Rattle.gix_object_write.specs.Streams.{Handed, Unread}
use Rattle.gix_object_write.proofs.traits.Write.write_stream.Goals as goal

pub returns-in_err-content-clause-kept : goal.returns-in_err-content-clause-kept
returns-in_err-content-clause-kept g c =
    let p = err_from_is_err_and c.from_residual.result c.from_residual.ensures.1 in
    rw (p.1, p.2) (Unread c.in_err-content.field-0.0 refl c.in_err-content.ensures.refused (λ _ _. refl))

pub returns-clause-kept : goal.returns-clause-kept
returns-clause-kept g c = Handed c.in_ok-content.content.items c.in_ok-content.ensures.read (rw c.as_slice.ensures.value at c.write_buf.ensures.kept)

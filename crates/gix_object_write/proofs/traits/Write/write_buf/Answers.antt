use Rattle.gix_object_write.proofs.traits.Write.write_buf.Goals as goal

pub returns-clause-kept : goal.returns-clause-kept
returns-clause-kept g c = rw (c.compute_hash-id.ensures, c.object_hash.ensures) at c.write_buf_with_known_id.ensures.kept

use Rattle.bstr.specs.BStr.{bstr_bytes}
use Rattle.gix_hash.specs.Id.{id_of}
use Rattle.gix_hash.specs.Views.{IsHexOfId}
use Rattle.gix_object_lines.proofs.HexDigits.{id_is_read}
use Rattle.gix_ref_log.proofs.line.LineRef.previous_oid.Goals as goal

pub unwrap-requires : goal.unwrap-requires
unwrap-requires c = id_is_read (bstr_bytes c.args.self.now.previous_oid) c.from_hex.result (λ id. IsHexOfId (bstr_bytes c.args.self.now.previous_oid) (id_of id)) c.requires (rw c.as_bytes.ensures at c.from_hex.ensures)

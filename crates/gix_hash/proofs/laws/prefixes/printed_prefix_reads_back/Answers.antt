use Rattle.gix_hash.specs.Views.{viewed_id}
use Rattle.gix_hash.proofs.PrefixLawLemmas.{front-AreDigits, front_fits}
use Rattle.gix_hash.proofs.PrefixesReadBack.{read_digits, read_kind, read_itself}
use Rattle.gix_hash.proofs.laws.prefixes.printed_prefix_reads_back.Goals as goal

pub hex_to_buf-requires : goal.hex_to_buf-requires
hex_to_buf-requires c =
    front_fits c.args.prefix.now.digits _ (viewed_id c.as_oid.result) c.as_bytes.result.now c.as_oid.ensures.digits c.as_bytes.ensures

pub returns : goal.returns
returns c =
    let p = c.args.prefix.now in
    let fits = front_fits p.digits _ (viewed_id c.as_oid.result) c.as_bytes.result.now c.as_oid.ensures.digits c.as_bytes.ensures in
    let digits = front-AreDigits p.digits _ _ c.as_bytes.result.now c.as_oid.ensures.digits c.as_bytes.ensures.digits c.bytes_fit.ensures in
    let text = c.hex_to_buf.result.now in
    let read = c.from_hex_nonempty.result in
    record {
      digits = read_digits p text c.requires fits digits c.hex_to_buf.ensures read c.from_hex_nonempty.ensures;
      kind = read_kind p text c.requires fits digits c.hex_to_buf.ensures read c.from_hex_nonempty.ensures;
      itself = read_itself p text c.requires fits digits c.hex_to_buf.ensures read c.from_hex_nonempty.ensures;
    }

use Rattle.gix_hash.specs.Id.{id_of}
use Rattle.gix_ref_log.proofs.LogWriteLemmas.{digits_are_id, written_spells}
use Rattle.gix_ref_log.proofs.laws.written_line_is_read_back.Goals as goal

pub returns : goal.returns
returns c =
    let line = c.args.line.now in
    written_spells line
    (digits_are_id (id_of line.previous_oid) c.as_slice-previous.result.now c.as_slice-previous.ensures c.printed_id_reads_back.ensures)
    (digits_are_id (id_of line.new_oid) c.as_slice-new.result.now c.as_slice-new.ensures c.printed_id_reads_back-2.ensures)
    c.seconds_fit.ensures

use Rattle.history_recovery.proofs.Absences.{kept_records, kept_none, bad_line, bad_header}
use Rattle.gix_ref_format.specs.PackedKept.{kept}
use Rattle.history_recovery.proofs.packed.Packed.read.Goals as goal

pub returns-in-Ok-Some-clause-tells : goal.returns-in-Ok-Some-clause-tells
returns-in-Ok-Some-clause-tells g c = λ honest name named.
    kept_records c.args.kind (g.F.Files.history c.args.files.now).tree name (kept c.in-Ok-Some.records) named (rw c.in-Ok-Some.field-0-is at (c.in-Ok-Some.ensures.kept honest))

pub returns-in-Ok-None-clause-tells : goal.returns-in-Ok-None-clause-tells
returns-in-Ok-None-clause-tells g c = λ honest name named.
    kept_none c.args.kind (g.F.Files.history c.args.files.now).tree name (rw c.in-Ok-None.field-0-is at (c.in-Ok-None.ensures.kept honest))

pub returns-in-Err-Iter-clause-tells : goal.returns-in-Err-Iter-clause-tells
returns-in-Err-Iter-clause-tells g c = λ honest name named.
    bad_line c.args.kind (g.F.Files.history c.args.files.now).tree name c.in-Err-Iter.field-0-0 (rw c.in-Err-Iter.field-0-is at (c.in-Err-Iter.ensures.kept honest))

pub returns-in-Err-HeaderParsing-clause-tells : goal.returns-in-Err-HeaderParsing-clause-tells
returns-in-Err-HeaderParsing-clause-tells g c = λ honest name named.
    bad_header c.args.kind (g.F.Files.history c.args.files.now).tree name (rw c.in-Err-HeaderParsing.field-0-is at (c.in-Err-HeaderParsing.ensures.kept honest))

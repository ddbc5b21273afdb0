use Rattle.std.proofs.Common.{sym, ap, length}
use Rattle.std.specs.Prelude.{option_map}
use Rattle.gix_ref_file.specs.Tree.{part}
use Rattle.gix_ref_folder.proofs.Made.{at_place}
use Rattle.gix_ref_folder.proofs.Reported.{no_file_outside, none_read}
use Rattle.gix_ref_folder.proofs.folder.Folder.bytes_from.Goals as goal

pub returns-in-Some-clause-count : goal.returns-in-Some-clause-count
returns-in-Some-clause-count g c honest = c.read_at.ensures.count _ _ _ honest.0 (at_place _ _ _ _ _ c.as_str.ensures.value (rw c.in-Some.is at c.in_ok-place.ensures))

pub returns-in-Some-clause-bytes : goal.returns-in-Some-clause-bytes
returns-in-Some-clause-bytes g c honest = c.read_at.ensures.bytes _ _ _ honest.0 (at_place _ _ _ _ _ c.as_str.ensures.value (rw c.in-Some.is at c.in_ok-place.ensures))

pub returns-in-None-clause-count : goal.returns-in-None-clause-count
returns-in-None-clause-count g c honest =
    sym (ap (option_map (λ bytes. length (part bytes c.args.at (length c.args.buffer.now)))) (no_file_outside _ _ _ (g.met.S.System.shown _ _ _ honest.0) (rw c.in-None.is at c.in_ok-place.ensures)))

pub returns-in-None-clause-bytes : goal.returns-in-None-clause-bytes
returns-in-None-clause-bytes g c honest = none_read _ c.args.at c.args.buffer.now (no_file_outside _ _ _ (g.met.S.System.shown _ _ _ honest.0) (rw c.in-None.is at c.in_ok-place.ensures))

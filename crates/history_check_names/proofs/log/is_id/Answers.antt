use Rattle.std.proofs.Common.{sym}
use Rattle.gix_hash.specs.Id.{id_of}
use Rattle.std.proofs.lemmas.Bool.Decides.{Decides-eqb}
use Rattle.std.proofs.lemmas.Slice.Eq.{slice_eq-Decides}
use Rattle.history_check_names.proofs.LogTexts.{no_lower, lower_so}
use Rattle.history_check_names.proofs.log.is_id.Goals as goal

pub returns-in_default : goal.returns-in_default
returns-in_default c = no_lower c.args.kind c.args.digits.now (sym c.in_default.ensures)

pub returns : goal.returns
returns c = lower_so c.args.kind c.args.digits.now (id_of c.in-Some.id) c.hex_digits.result.now c.eq.result (sym c.in-Some.ensures) c.hex_digits.ensures (slice_eq-Decides Decides-eqb _ _ _ c.eq.ensures)

use Rattle.std.proofs.Common.{◌∙◌, sym}
use Rattle.gix_hash.specs.Id.{id_of}
use Rattle.history_check_names.proofs.LooseTexts.{endless_read, symbolic_read, id_read, none_read}
use Rattle.history_check_names.proofs.loose.read_loose.Goals as goal

pub returns-in_default : goal.returns-in_default
returns-in_default c = endless_read c.args.kind c.args.text.now c.in_default.ensures

pub returns-then-is_symbolic : goal.returns-then-is_symbolic
returns-then-is_symbolic c = symbolic_read c.args.kind c.args.text.now c.in-Some.line.now c.in-Some.ensures (sym c.is_symbolic.ensures ∙ c.if-is_symbolic.true)

pub returns-in-Some-parse_hex : goal.returns-in-Some-parse_hex
returns-in-Some-parse_hex c =
    id_read c.args.kind c.args.text.now c.in-Some.line.now (id_of c.in-Some-parse_hex.id) c.in-Some.ensures (sym c.is_symbolic.ensures ∙ c.if-is_symbolic.false) (sym c.in-Some-parse_hex.ensures)

pub returns-in-None : goal.returns-in-None
returns-in-None c = none_read c.args.kind c.args.text.now c.in-Some.line.now c.in-Some.ensures (sym c.is_symbolic.ensures ∙ c.if-is_symbolic.false) (sym c.in-None.ensures)

use Rattle.std.proofs.Common.{◌≡◌, Option, None, Some, arith}
use Rattle.std.specs.Option.{option_map}
use Rattle.std.proofs.lemmas.Grind.{common_steps}
use Rattle.gix_object_message.specs.Trailer.{trailer_of}
use Rattle.gix_object_message.specs.Views.{trailer_text}
use Rattle.gix_object_message.specs.declared.trailer.TrailerRef.{TrailerRef}
use Rattle.gix_object_message.proofs.TrailerLemmas.{spells_from}
use Rattle.gix_object_message.proofs.trailer.read_trailer.Goals as goal

pub returns-in_err-token-clause-spells : goal.returns-in_err-token-clause-spells
returns-in_err-token-clause-spells c =
    let same : option_map trailer_text c.from_residual.result ≡ trailer_of c.args.line.now = grind (arith, common_steps) in
    spells_from c.args.line.now c.from_residual.result same

pub returns-then-is_empty-clause-spells : goal.returns-then-is_empty-clause-spells
returns-then-is_empty-clause-spells c =
    let none : Option TrailerRef = None in
    let same : option_map trailer_text none ≡ trailer_of c.args.line.now = grind (arith, common_steps) in
    spells_from c.args.line.now none same

pub returns-in_err-value-clause-spells : goal.returns-in_err-value-clause-spells
returns-in_err-value-clause-spells c =
    let same : option_map trailer_text c.from_residual-in_err-value.result ≡ trailer_of c.args.line.now = grind (arith, common_steps) in
    spells_from c.args.line.now c.from_residual-in_err-value.result same

pub returns-clause-spells : goal.returns-clause-spells
returns-clause-spells c =
    let trailer : TrailerRef = record { token = c.new.result; value = c.new-2.result } in
    let same : option_map trailer_text (Some trailer) ≡ trailer_of c.args.line.now = grind (arith, common_steps) in
    spells_from c.args.line.now (Some trailer) same

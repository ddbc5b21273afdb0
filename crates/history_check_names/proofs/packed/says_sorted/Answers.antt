use Rattle.std.proofs.Common.{◌∙◌, ap, sym, Option, option_map, unwrap_or, false}
use Rattle.gix_ref_format.specs.declared.packed.Header.{Header}
use Rattle.history_check_names.proofs.packed.says_sorted.Goals as goal

pub returns-in-Some : goal.returns-in-Some
returns-in-Some c = ap (λ (o : Option Header). unwrap_or (option_map (λ (header : Header). header.sorted) o) false) (c.in-Some.ensures ∙ sym c.first_line.ensures)

pub returns-in-None : goal.returns-in-None
returns-in-None c = ap (λ (o : Option Header). unwrap_or (option_map (λ (header : Header). header.sorted) o) false) (c.in-None.ensures ∙ sym c.first_line.ensures)

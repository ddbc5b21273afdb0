use Rattle.std.proofs.Common.{◌∙◌, ap, sym, cond, Some, bytes_eq}
use Rattle.std.proofs.lemmas.Map.Text.{is_eq-slice_cmp}
use Rattle.history_files.specs.NamedTrees.{at_name, or_found}
use Rattle.history_files.proofs.named_trees.put.Goals as goal

pub returns-in_default : goal.returns-in_default
returns-in_default c = λ other. sym (ap (λ found. or_found (bytes_eq c.args.name.now other) found (at_name c.args.named.now other)) c.in_default.is)

pub returns : goal.returns
returns c = λ other.
    let before = at_name c.args.named.now other in
    c.in_ok-insert.ensures.updates.0 (record { ref_ptr = (0, 0); now = other })
    ∙ ap (λ same. cond same (Some c.in-Some.found) before) (is_eq-slice_cmp c.args.name.now other)
    ∙ sym (ap (λ found. or_found (bytes_eq c.args.name.now other) found before) c.in-Some.is)

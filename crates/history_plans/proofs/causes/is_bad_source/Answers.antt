use Rattle.std.proofs.Common.{◌≡◌, ◌∙◌, ap, false, not, sym}
use Rattle.std.specs.List.{list_any}
use Rattle.history_model.specs.Bytes.{is_empty}
use Rattle.history_model.specs.Causes.{is_bad_path}
use Rattle.history_model.specs.CommandParts.{source_paths}
use Rattle.history_model.specs.Forms.{max_path}
use Rattle.history_repository.proofs.FieldLemmas.{empty_kept, no_length, none_tested, not_empty, one_tested}
use Rattle.history_plans.proofs.causes.is_bad_source.Goals as goal

pub returns-then-not-is_empty : goal.returns-then-not-is_empty
returns-then-not-is_empty c = λ bytes keeps.
    let some = not_empty c.kept.result.now (sym c.is_empty.ensures ∙ c.if-not-is_empty.true) in
    c.is_bad_path.ensures bytes keeps ∙ one_tested bytes (sym (empty_kept max_path c.args.source.now bytes keeps) ∙ ap is_empty (sym c.kept.ensures) ∙ some)

pub returns-else-not-is_empty : goal.returns-else-not-is_empty
returns-else-not-is_empty c = λ bytes keeps.
    let none = no_length c.kept.result.now (sym c.is_empty.ensures ∙ c.if-not-is_empty.false) in
    let passed : list_any is_bad_path (source_paths bytes) ≡ false = none_tested bytes (sym (empty_kept max_path c.args.source.now bytes keeps) ∙ ap is_empty (sym c.kept.ensures) ∙ none) in
    let no : not c.is_empty.result ≡ false = ap not c.if-not-is_empty.false in
    cc

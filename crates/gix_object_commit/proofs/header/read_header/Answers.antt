use Rattle.std.proofs.Common.{◌∙◌, sym, ◌++◌, ◌∷◌}
use Rattle.gix_object_lines.proofs.Cuts.{cut_once}
use Rattle.gix_object_commit.proofs.Folds.{folded_once}
use Rattle.gix_object_commit.proofs.Lines.{line_shape, field_same}
use Rattle.gix_object_commit.proofs.header.read_header.Goals as goal

pub returns-in_err-value-clause-every : goal.returns-in_err-value-clause-every
returns-in_err-value-clause-every c = λ field rest is u whole.
    let name = rw c.in_ok-name.ensures.ok_part at c.read_name.ensures in
    let same = cut_once 32 _ _ field.name (field.value ++ 10 ∷ rest) name.2 is.name_one_word (sym name.0 ∙ whole ∙ line_shape field.name field.value rest) in
    let none = rw c.in_err-value.ensures.ok_part at c.split_value.ensures in
    absurd (none field.value rest is.value_folded u same.1)

pub returns-clause-every : goal.returns-clause-every
returns-clause-every c = λ field rest is u whole.
    let name = rw c.in_ok-name.ensures.ok_part at c.read_name.ensures in
    let same = cut_once 32 _ _ field.name (field.value ++ 10 ∷ rest) name.2 is.name_one_word (sym name.0 ∙ whole ∙ line_shape field.name field.value rest) in
    let value = rw c.in_ok-value.ensures.ok_part at c.split_value.ensures in
    let values = folded_once _ _ field.value rest value.1 is.value_folded value.2 u (sym value.0 ∙ same.1) in
    (field_same _ field (c.new.ensures ∙ same.0) (c.new-2.ensures ∙ values.0), values.1)

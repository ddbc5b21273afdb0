use Rattle.std.proofs.Common.{◌≡◌, ◌∙◌, sym, ℕ, List, Bool, true, false, Option, Some, None, refl}
use Rattle.std.specs.Prelude.{codes, if◌then◌else◌}
use Rattle.std.proofs.lemmas.Bool.Decides.{same_from_decides}
use Rattle.gix_object_lines.specs.declared.write.TagNameError.{TagNameError}
use Rattle.gix_object_lines.specs.declared.write.TagNameError.TheVariants.{StartsWithDash, InvalidRefName}
use Rattle.gix_object_lines.specs.NameTest.{begins, is_partial_name}
use Rattle.gix_object_tag.specs.NameTest.{name_fault}
use Rattle.gix_object_lines.proofs.NameTests.{is_partial_name-Decides}
use Rattle.gix_object_tag.proofs.tag.spelling.name_fault.Goals as goal

told : (name : List ℕ) (partial dashed : Bool) → is_partial_name name ≡ partial → begins (codes "-") name ≡ dashed
    → ◌≡◌ {A = Option TagNameError} (if partial then (if dashed then Some StartsWithDash else None) else Some InvalidRefName) (name_fault name)
told name partial dashed a b = sym (λ i. if a i then (if b i then Some StartsWithDash else None) else Some InvalidRefName)

pub returns-then-not-is_partial_name : goal.returns-then-not-is_partial_name
returns-then-not-is_partial_name c =
    let same = same_from_decides _ _ (is_partial_name-Decides c.args.name.now) c.is_partial_name.ensures.ruled in
    told c.args.name.now false (begins (codes "-") c.args.name.now) (same ∙ c.if-not-is_partial_name.true) refl

pub returns-then-begins_with_dash : goal.returns-then-begins_with_dash
returns-then-begins_with_dash c =
    let same = same_from_decides _ _ (is_partial_name-Decides c.args.name.now) c.is_partial_name.ensures.ruled in
    told c.args.name.now true true (same ∙ c.if-not-is_partial_name.false) (sym c.begins_with_dash.ensures ∙ c.if-begins_with_dash.true)

pub returns : goal.returns
returns c =
    let same = same_from_decides _ _ (is_partial_name-Decides c.args.name.now) c.is_partial_name.ensures.ruled in
    told c.args.name.now true false (same ∙ c.if-not-is_partial_name.false) (sym c.begins_with_dash.ensures ∙ c.if-begins_with_dash.false)

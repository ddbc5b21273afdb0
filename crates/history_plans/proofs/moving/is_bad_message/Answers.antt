use Rattle.std.proofs.Common.{◌≡◌, ◌∙◌, ◌||◌, ap, arith, rules, sym}
use Rattle.history_model.specs.Bytes.{has_byte}
use Rattle.history_model.specs.Causes.{is_bad_title}
use Rattle.history_model.specs.Forms.{max_content}
use Rattle.history_repository.specs.Fields.{kept_bytes}
use Rattle.history_plans.proofs.TitleLemmas.{bad_line_kept}
use Rattle.history_plans.proofs.moving.is_bad_message.Goals as goal

pub returns-then-is_bad_title : goal.returns-then-is_bad_title
returns-then-is_bad_title c = λ r sent keeps.
    let whole = bad_line_kept max_content c.args.message.now sent.message (omega arith) keeps in
    let bad = sym (c.is_bad_title.ensures ∙ ap is_bad_title c.kept-text.ensures) ∙ c.if-is_bad_title.true in
    c.if-is_bad_title.true ∙ sym (sym whole ∙ ap (λ b. b || has_byte 10 (kept_bytes c.args.message.now)) bad)

pub returns-else-is_bad_title : goal.returns-else-is_bad_title
returns-else-is_bad_title c = λ r sent keeps.
    let whole = bad_line_kept max_content c.args.message.now sent.message (omega arith) keeps in
    let bad = sym (c.is_bad_title.ensures ∙ ap is_bad_title c.kept-text.ensures) ∙ c.if-is_bad_title.false in
    let told : c.contains.result ≡ has_byte 10 c.kept-text.result.now = let h = c.contains.ensures.value in search rules in
    told ∙ ap (has_byte 10) c.kept-text.ensures ∙ sym (sym whole ∙ ap (λ b. b || has_byte 10 (kept_bytes c.args.message.now)) bad)

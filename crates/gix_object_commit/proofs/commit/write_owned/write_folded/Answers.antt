use Rattle.std.proofs.Common.{◌≡◌, ◌∙◌, ap, refl, sym, rules, ℕ, List, [], ◌∷◌, ◌++◌, append_assoc, append-nil, Ok}
use Rattle.std.proofs.lemmas.Result.{err_from_is_err_and}
use Rattle.gix_object_lines.specs.Bytes.{Lacks}
use Rattle.gix_object_commit.specs.Commit.{folded}
use Rattle.gix_object_commit.proofs.Folds.{folded_same, folded_more}
use Rattle.gix_object_commit.proofs.OwnPieces.{text_then, text_stop}
use Rattle.gix_object_commit.proofs.commit.write_owned.write_folded.Goals as goal

abbrev piece_of : List ℕ → List ℕ
piece_of line = line ++ (10 ∷ (32 ∷ []))

-- one line more, and its line feed with the space
line_more : (value done rest line after : List ℕ) → done ++ folded rest ≡ folded value → rest ≡ line ++ 10 ∷ after → Lacks 10 line → done ++ (piece_of line ++ folded after) ≡ folded value
line_more value done rest line after so_far cut lacks =
    ap (λ t. done ++ t)
    (append_assoc line (10 ∷ (32 ∷ [])) (folded after)
    ∙ ap (λ t. t ++ (10 ∷ (32 ∷ folded after))) (sym (folded_same line lacks))
    ∙ sym (folded_more line (10 ∷ after))
    ∙ sym (ap folded cut))
    ∙ so_far

pub lines-init : goal.lines-init
lines-init g c = ([], refl, search rules)

pub returns-in_err-write_piece : goal.returns-in_err-write_piece
returns-in_err-write_piece g c =
    let p = err_from_is_err_and c.from_residual.result c.from_residual.ensures.1 in
    let so_far = c.lines.invariant in
    let line = c.in-Some.line.now in
    let after = c.in-Some.after.now in
    let whole = line_more c.args.value.now so_far.0 c.lines.rest.now line after so_far.1 c.in-Some.ensures.0 c.in-Some.ensures.1 in
    rw (p.1, p.2) (text_stop _ _ _ so_far.0 (piece_of line) (folded after) _ c.in_err-write_piece.field-0.0 whole so_far.2 c.in_err-write_piece.ensures)

pub lines-preserved : goal.lines-preserved
lines-preserved g c =
    let so_far = c.lines.invariant in
    let line = c.in-Some.line.now in
    let after = c.in-Some.after.now in (
      so_far.0 ++ piece_of line,
      append_assoc so_far.0 (piece_of line) (folded after) ∙ line_more c.args.value.now so_far.0 c.lines.rest.now line after so_far.1 c.in-Some.ensures.0 c.in-Some.ensures.1,
      text_then _ _ _ so_far.0 (piece_of line) _ (Ok tt) refl so_far.2 c.in_ok-write_piece.ensures,
    )

pub returns : goal.returns
returns g c =
    let so_far = c.lines.invariant in
    let rest = c.lines.rest.now in
    let last : so_far.0 ++ (rest ++ []) ≡ folded c.args.value.now = ap (λ t. so_far.0 ++ t) (append-nil rest ∙ sym (folded_same rest c.in_default.ensures)) ∙ so_far.1 in
    text_then _ _ _ so_far.0 (rest ++ []) _ c.write_piece-2.result last so_far.2 c.write_piece-2.ensures

use Rattle.std.proofs.Common.{◌≡◌, ◌∙◌, ap, sym, ℕ, List, [], ◌∷◌, ◌++◌, append_assoc, true}
use Rattle.gix_object_lines.specs.Bytes.{Lacks}
use Rattle.gix_object_commit.specs.Commit.{unfolded, unfolded_behind}
use Rattle.gix_object_commit.proofs.Folds.{unfolded_line, unfolded_last, unfolded_unspaced}
use Rattle.gix_object_commit.proofs.header.unfold.Goals as goal

-- a line more was copied
one_more : (text old mid new rest line after later : List ℕ) → unfolded text ≡ old ++ unfolded rest → rest ≡ line ++ 10 ∷ after → Lacks 10 line
    → unfolded_behind true after ≡ unfolded later → mid ≡ old ++ line → new ≡ mid ++ 10 ∷ [] → unfolded text ≡ new ++ unfolded later
one_more text old mid new rest line after later a b l e c d =
    a ∙ ap (λ r. old ++ unfolded r) b ∙ ap (λ t. old ++ t) (unfolded_line line after l) ∙ ap (λ t. old ++ (line ++ 10 ∷ t)) e
    ∙ sym (append_assoc old line (10 ∷ unfolded later)) ∙ ap (λ m. m ++ 10 ∷ unfolded later) (sym c)
    ∙ sym (append_assoc mid (10 ∷ []) (unfolded later)) ∙ ap (λ n. n ++ unfolded later) (sym d)

pub lines-preserved-in-Some-strip_prefix : goal.lines-preserved-in-Some-strip_prefix
lines-preserved-in-Some-strip_prefix c =
    one_more c.args.text.now c.lines.value.items _ _ c.lines.rest.now c.in-Some.line.now c.in-Some.after.now c.in-Some-strip_prefix.further.now c.lines.invariant
    c.in-Some.ensures.0 c.in-Some.ensures.1 (ap (unfolded_behind true) c.in-Some-strip_prefix.ensures) c.in_ok-extend_from_slice.ensures.items c.in_ok-extend_from_slice-2.ensures.items

pub lines-preserved : goal.lines-preserved
lines-preserved c =
    one_more c.args.text.now c.lines.value.items _ _ c.lines.rest.now c.in-Some.line.now c.in-Some.after.now c.in-Some.after.now c.lines.invariant
    c.in-Some.ensures.0 c.in-Some.ensures.1 (unfolded_unspaced c.in-Some.after.now c.in-None.ensures) c.in_ok-extend_from_slice.ensures.items c.in_ok-extend_from_slice-2.ensures.items

pub returns : goal.returns
returns c =
    c.new.ensures ∙ c.in_ok-extend_from_slice-3.ensures.items ∙ ap (λ r. c.lines.value.items ++ r) (sym (unfolded_last c.lines.rest.now c.in_default.ensures)) ∙ sym c.lines.invariant

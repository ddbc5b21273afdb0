use Rattle.std.proofs.Common.{◌≡◌, ◌∙◌, ap, sym, refl, ℕ, suc, List, [], ◌∷◌, ◌++◌, ◌+◌, ◌-◌, length, take, append_assoc, length-append, arith}
use Rattle.std.proofs.Math.Seq.{take-append_seam}
use Rattle.gix_object_lines.specs.Bytes.{Lacks}
use Rattle.gix_object_lines.proofs.CutLemmas.{lacks_it}
use Rattle.gix_object_commit.specs.Commit.{folded}
use Rattle.gix_object_commit.proofs.Folds.{folded_same, folded_more, folded_align}
use Rattle.gix_object_commit.proofs.header.split_value.Goals as goal

-- one more line of the value
line_more : (input value rest line after further : List ℕ) → input ≡ folded value ++ rest → rest ≡ line ++ 10 ∷ after → Lacks 10 line → after ≡ 32 ∷ further → input ≡ folded (value ++ (line ++ 10 ∷ [])) ++ further
line_more input value rest line after further so_far cut lacks spaced =
    so_far ∙ ap (λ t. folded value ++ t) (cut ∙ ap (λ t. line ++ 10 ∷ t) spaced ∙ ap (λ t. t ++ 10 ∷ (32 ∷ further)) (sym (folded_same line lacks)) ∙ sym (append_assoc (folded line) (10 ∷ (32 ∷ [])) further) ∙ ap (λ t. t ++ further) (sym (folded_more line (10 ∷ []))))
    ∙ sym (append_assoc (folded value) (folded (line ++ 10 ∷ [])) further) ∙ ap (λ t. t ++ further) (sym (folded_more value (line ++ 10 ∷ [])))

-- the whole value, and the rest after it
value_whole : (input value rest line after : List ℕ) → input ≡ folded value ++ rest → rest ≡ line ++ 10 ∷ after → input ≡ (folded value ++ line) ++ 10 ∷ after
value_whole input value rest line after so_far cut = so_far ∙ ap (λ t. folded value ++ t) cut ∙ sym (append_assoc (folded value) line (10 ∷ after))

sizes : (input front after : List ℕ) → input ≡ front ++ 10 ∷ after → length input ≡ length front + (1 + length after)
sizes input front after is = ap length is ∙ length-append front (10 ∷ after) ∙ ap (λ n. length front + n) (let e : suc (length after) ≡ 1 + length after = omega arith in e)

front_is : (input front after : List ℕ) → input ≡ front ++ 10 ∷ after → take (length input - length after - 1) input ≡ front
front_is input front after is =
    let size : length input - length after - 1 ≡ length front = omega (arith, sizes input front after is) in
    ap (λ n. take n input) size ∙ ap (take (length front)) is ∙ take-append_seam front (10 ∷ after)

pub lines-init : goal.lines-init
lines-init c = ([], refl)

pub lines-smaller : goal.lines-smaller
lines-smaller c = omega (arith, sizes _ _ _ c.in-Some.ensures.0, ap length c.in-Some-strip_prefix.ensures)

pub lines-preserved : goal.lines-preserved
lines-preserved c = (c.lines.invariant.0 ++ (c.in-Some._line.now ++ 10 ∷ []), line_more _ c.lines.invariant.0 _ _ _ _ c.lines.invariant.1 c.in-Some.ensures.0 c.in-Some.ensures.1 c.in-Some-strip_prefix.ensures)

pub overflow_sub-result : goal.overflow_sub-result
overflow_sub-result c = omega (arith, sizes _ _ _ (value_whole _ c.lines.invariant.0 _ _ _ c.lines.invariant.1 c.in-Some.ensures.0))

pub slice_bounds-result-count : goal.slice_bounds-result-count
slice_bounds-result-count c = omega (arith, sizes _ _ _ (value_whole _ c.lines.invariant.0 _ _ _ c.lines.invariant.1 c.in-Some.ensures.0))

pub returns-in-None : goal.returns-in-None
returns-in-None c =
    let value = c.lines.invariant.0 in
    let line = c.in-Some._line.now in
    let whole = value_whole c.args.input.now value c.lines.rest.now line c.in-Some.after.now c.lines.invariant.1 c.in-Some.ensures.0 in
    let front = front_is c.args.input.now (folded value ++ line) c.in-Some.after.now whole in (
      whole ∙ ap (λ t. t ++ 10 ∷ c.in-Some.after.now) (sym front),
      (value ++ line, front ∙ ap (λ t. folded value ++ t) (sym (folded_same line c.in-Some.ensures.1)) ∙ sym (folded_more value line)),
      λ spaced. c.in-None.ensures spaced.0 spaced.1,
    )

pub returns : goal.returns
returns c = λ value rest f u is.
    let on = folded_align c.lines.invariant.0 _ f.0 rest u (sym c.lines.invariant.1 ∙ is ∙ ap (λ t. t ++ 10 ∷ rest) f.1) in
    lacks_it 10 _ (folded on.more) rest on.remaining c.in_default.ensures

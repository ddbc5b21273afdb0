use Rattle.std.proofs.Common.{◌≡◌, ◌∙◌, ◌<◌, ◌+◌, ◌++◌, ◌∷◌, [], ℕ, List, ap, get_or, sym, take}
use Rattle.std.specs.List.{flat_map}
use Rattle.std.proofs.lemmas.Grind.{flat_map-append}
use Rattle.std.proofs.lemmas.List.{append-nil, take_all, take_more}
use Rattle.std.specs.Prelude.{length}
use Rattle.history_plans.specs.Moving.{line_meanings}
use Rattle.history_plans.specs.declared.moving.Line.{Line}
use Rattle.history_plans.proofs.moving.meanings_in.Goals as goal

one_more : (lines : List Line) (i : ℕ) (line : Line) → i < length lines → line ≡ get_or lines i line → flat_map line_meanings (take (i + 1) lines) ≡ flat_map line_meanings (take i lines) ++ line_meanings line
one_more lines i line less is =
    ap (flat_map line_meanings) (take_more lines i line less ∙ ap (λ (x : Line). take i lines ++ x ∷ []) (sym is))
    ∙ flat_map-append line_meanings (take i lines) (line ∷ []) ∙ ap (λ rest. flat_map line_meanings (take i lines) ++ rest) (append-nil (line_meanings line))

pub loop-line-preserved : goal.loop-line-preserved
loop-line-preserved c =
    c.in_ok-add_meanings.ensures ∙ ap (λ front. front ++ line_meanings c.line-item.result) c.loop-line.invariant ∙ sym (one_more c.args.lines.now c.loop-line.line-index c.line-item.result c.loop-line-test.true c.line-item.is)

pub returns : goal.returns
returns c = c.loop-line.invariant ∙ ap (flat_map line_meanings) (take_all c.loop-line.line-index c.args.lines.now c.loop-line-test.false)

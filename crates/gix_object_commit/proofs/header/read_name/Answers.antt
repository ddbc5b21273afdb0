use Rattle.std.proofs.Common.{◌≡◌, ◌∙◌, ap, sym, subst, refl, true, List, ℕ, [], ◌∷◌, length, arith}
use Rattle.std.specs.Prelude.{◌==◌}
use Rattle.std.proofs.lemmas.Bool.{eqb-false, false≢true}
use Rattle.std.proofs.lemmas.Bool.Decides.{Decides-eqb}
use Rattle.gix_object_lines.specs.Bytes.{Lacks}
use Rattle.gix_object_lines.proofs.Cuts.{cut_once}
use Rattle.gix_object_commit.proofs.header.read_name.Goals as goal

empty_list : (text : List ℕ) → (length text == 0) ≡ true → text ≡ []
empty_list [] e = refl
empty_list (x ∷ text) e = absurd (let h = (Decides-eqb (length (x ∷ text)) 0).0 e in omega arith)

pub returns-then-is_empty : goal.returns-then-is_empty
returns-then-is_empty c = λ name rest some word in_line is.
    let same = cut_once 32 _ _ name rest c.in_ok-name.ensures.1 word (sym c.in_ok-name.ensures.0 ∙ is) in
    some (sym same.0 ∙ empty_list _ (sym c.is_empty.ensures ∙ c.if-is_empty.true))

pub returns-then-not-lacks : goal.returns-then-not-lacks
returns-then-not-lacks c = λ name rest some word in_line is.
    let same = cut_once 32 _ _ name rest c.in_ok-name.ensures.1 word (sym c.in_ok-name.ensures.0 ∙ is) in
    false≢true (sym c.if-not-lacks.true ∙ c.lacks.ensures.1 (subst (Lacks 10) (sym same.0) in_line))

pub returns : goal.returns
returns c = (c.in_ok-name.ensures.0, λ none. eqb-false (length c.in_ok-name.name.now) 0 (sym c.is_empty.ensures ∙ c.if-is_empty.false) (ap length none), c.in_ok-name.ensures.1, c.lacks.ensures.0 c.if-not-lacks.false)

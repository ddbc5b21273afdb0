-- Names without a category.
use Rattle.std.proofs.Common.{◌≡◌, ◌∙◌, ap, sym, subst, ℕ, false, List, ◌∷◌, ◌++◌, Option, Some, None}
use Rattle.std.specs.Prelude.{codes, MatchOption}
use Rattle.std.proofs.lemmas.Bool.{false≢true}
use Rattle.bstr.specs.BStr.{bstr_bytes}
use Rattle.bstr.specs.declared.bstr.BStr.{BStr}
use Rattle.gix_object_lines.specs.Bytes.{IsBeginningOf, Lacks}
use Rattle.gix_object_lines.specs.NameTest.{is_capitals}
use Rattle.gix_object_lines.proofs.Cuts.{cut_once}
use Rattle.gix_ref_name.specs.Categories.{Tells, HasNoCategory, IsOfWorktree}
use Rattle.gix_ref_name.specs.Kinds.{SharedNone, PrivateNone, MainNone, LinkedNone}
use Rattle.gix_ref_name.specs.declared.category.Category.{Category}
use Rattle.gix_ref_name.specs.declared.category.Category.TheVariants.{Tag, LocalBranch, RemoteBranch, Note, PseudoRef, MainPseudoRef, MainRef, LinkedPseudoRef, LinkedRef, Bisect, Rewritten, WorktreePrivate}

-- the name determines what follows the name of a worktree
short_of : (name rest worktree short other short' : List ℕ) → name ≡ codes "worktrees/" ++ rest → rest ≡ worktree ++ 47 ∷ short → Lacks 47 worktree → IsOfWorktree other name short' → short' ≡ short
short_of name rest worktree short other short' is cut lacks tells =
    let there = tells.0 in
    let rests : other ++ 47 ∷ short' ≡ rest = cc in
    (cut_once 47 other short' worktree short tells.1 lacks (rests ∙ cut)).1

pub linked_none : (name rest worktree short : List ℕ) → name ≡ codes "worktrees/" ++ rest → rest ≡ worktree ++ 47 ∷ short → Lacks 47 worktree → (IsBeginningOf (codes "refs/") short → ⊥) → is_capitals short ≡ false → LinkedNone name
linked_none name rest worktree short is cut lacks no_refs no_capitals = record {
  pseudo = λ w short' tells. false≢true (sym no_capitals ∙ ap is_capitals (sym (short_of name rest worktree short (bstr_bytes w) short' is cut lacks tells.0)) ∙ tells.1);
  refs = λ w short' tells. no_refs (subst (λ (t : List ℕ). IsBeginningOf (codes "refs/") t) (short_of name rest worktree short (bstr_bytes w) short' is cut lacks tells.0) tells.1);
}

pub category_none : (name : List ℕ) (r : Option (Category × BStr)) → SharedNone name → PrivateNone name → is_capitals name ≡ false → MainNone name
    → MatchOption r (LinkedNone name) (λ found. Tells name found.0 (bstr_bytes found.1)) → MatchOption r (HasNoCategory name) (λ found. Tells name found.0 (bstr_bytes found.1))
category_none name (Some found) shared own capitals main linked = linked
category_none name None shared own capitals main linked = none
  where
    none : HasNoCategory name
    none Tag short = shared.tag short
    none LocalBranch short = shared.local short
    none RemoteBranch short = shared.remote short
    none Note short = own.note short
    none Bisect short = own.bisect short
    none Rewritten short = own.rewritten short
    none WorktreePrivate short = own.worktree short
    none PseudoRef short = λ tells. false≢true (sym capitals ∙ ap is_capitals tells.0 ∙ tells.1)
    none MainPseudoRef short = main.pseudo short
    none MainRef short = main.refs short
    none (LinkedPseudoRef w) short = linked.pseudo w short
    none (LinkedRef w) short = linked.refs w short

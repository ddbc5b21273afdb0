use Rattle.std.proofs.Common.{◌≡◌, ◌∙◌, ap, sym, subst, ℕ, List, [], ◌∷◌, ◌++◌, ◌<◌, length, map, length-append, inl, inr, refl, true, Result, Ok, Err, arith}
use Rattle.std.specs.Prelude.{codes}
use Rattle.std.specs.Result.{is_err, IsOk}
use Rattle.std.proofs.lemmas.Bool.{false≢true, cases_lt}
use Rattle.std.proofs.lemmas.List.{map-append, length-map}
use Rattle.std.proofs.lemmas.Result.{err_from_is_err_and}
use Rattle.bstr.specs.BStr.{bstr_bytes}
use Rattle.gix_object_lines.specs.HexLine.{hex_line, IsHex}
use Rattle.gix_object_lines.specs.Bytes.{IsBeginningOf}
use Rattle.gix_object_commit.proofs.FaultLemmas.{next_parent, no_room_for_parent}
use Rattle.gix_object_commit.proofs.Results.{when_ok}
use Rattle.gix_object_commit.proofs.Progress.{Progress, progress_none, progress_one, progress_end, progress_stuck}
use Rattle.gix_object_commit.proofs.commit.decode.read_parents.Goals as goal

abbrev parent_line : List ℕ → List ℕ
parent_line = hex_line (codes "parent")

abbrev NoParent : List ℕ → Type 0
NoParent end = ¬ IsBeginningOf (codes "parent ") end

line_shorter : (rest parent after : List ℕ) → rest ≡ parent_line parent ++ after → length after < length rest
line_shorter rest parent after is = omega (arith, ap length is, length-append (parent_line parent) after, length-append (codes "parent" ++ 32 ∷ parent) (10 ∷ []))

pub parents-init : goal.parents-init
parents-init c = (subst (λ xs. Progress parent_line (IsHex c.args.digits) NoParent c.args.input.now (map bstr_bytes xs) c.args.input.now) (sym c.new-parents.ensures.items) (progress_none parent_line (IsHex c.args.digits) NoParent c.args.input.now), omega (arith, c.new-parents.ensures.capacity))

pub returns-in_err-parent-clause-every : goal.returns-in_err-parent-clause-every
returns-in_err-parent-clause-every c = λ parents rest hex none whole.
    let begins = c.starts_with.ensures.0 c.parents-test.true in
    absurd (progress_stuck parent_line (IsHex c.args.digits) NoParent _ _ _ c.parents.invariant.0
    (λ end ends is. ends (subst (IsBeginningOf (codes "parent ")) is begins))
    (λ y more end fit fits ends is. c.in_err-parent.ensures.back y _ fit is)
    parents rest hex none whole)

pub parents-smaller : goal.parents-smaller
parents-smaller c = line_shorter _ _ _ c.in_ok-parent.ensures.read.0

pub parents-preserved : goal.parents-preserved
parents-preserved c =
    let begins = c.starts_with.ensures.0 c.parents-test.true in
    let pushed = when_ok c.push.result (sym c.is_err.ensures.value ∙ c.if-is_err.false) c.push.ensures.ok in
    let step = progress_one parent_line (IsHex c.args.digits) NoParent _ _ _ c.in_ok-parent.parent.now c.in_ok-parent.after.now c.parents.invariant.0
    c.in_ok-parent.ensures.read.1 c.in_ok-parent.ensures.read.0
    (λ end ends is. ends (subst (IsBeginningOf (codes "parent ")) is begins))
    (λ y r more end fit fits ends same is. c.in_ok-parent.ensures.back y r fit is) in
    let kept = c.push.ensures.capacity in
    let had = c.parents.invariant.1 in
    (subst (λ xs. Progress parent_line (IsHex c.args.digits) NoParent c.args.input.now xs c.in_ok-parent.after.now) (sym (ap (map bstr_bytes) pushed ∙ map-append bstr_bytes c.parents.parents.items (c.new.result ∷ []) ∙ ap (λ b. map bstr_bytes c.parents.parents.items ++ b ∷ []) c.new.ensures)) step, omega arith)

pub returns-clause-read : goal.returns-clause-read
returns-clause-read c = (c.parents.invariant.0.spelled, c.parents.invariant.0.fit, λ begins. false≢true (sym c.parents-test.false ∙ c.starts_with.ensures.1 begins))

pub returns-in_err-parent-clause-refused : goal.returns-in_err-parent-clause-refused
returns-in_err-parent-clause-refused c =
    let p = err_from_is_err_and c.from_residual.result c.from_residual.ensures.1 in
    rw (p.1, p.2) (inl (next_parent c.args.digits c.args.input.now (map bstr_bytes c.parents.parents.items) c.parents.rest.now _ c.parents.invariant.0.fit c.parents.invariant.0.spelled (c.starts_with.ensures.0 c.parents-test.true) c.in_err-parent.ensures.refused))

pub returns-clause-every : goal.returns-clause-every
returns-clause-every c = λ parents rest hex none whole.
    progress_end parent_line (IsHex c.args.digits) NoParent _ _ _ c.parents.invariant.0
    (λ y r fit is. false≢true (sym c.parents-test.false ∙ c.starts_with.ensures.1 ((y ++ 10 ∷ []) ++ r, is)))
    parents rest hex none whole

not_ok : {A E : Type 0} (r : Result A E) → is_err r ≡ true → IsOk r → ⊥
not_ok (Ok x) failed ok = cc
not_ok (Err e) failed ok = cc

pub returns-then-is_err-clause-refused : goal.returns-then-is_err-clause-refused
returns-then-is_err-clause-refused c =
    let items = c.parents.parents.items in
    let room = c.parents.invariant.1 in
    let failed : is_err c.push.result ≡ true = sym c.is_err.ensures.value ∙ c.if-is_err.true in
    let some : 0 < length items = elim (cases_lt 0 (length items)) [
      | inl one ↦ one
      | inr none ↦ absurd (not_ok c.push.result failed (c.push.ensures.succeeds (omega arith)))
    ] in
    inr (
      refl,
      no_room_for_parent c.args.digits c.args.input.now (map bstr_bytes items) c.in_ok-parent.parent.now c.parents.rest.now c.in_ok-parent.after.now
          c.parents.invariant.0.fit c.in_ok-parent.ensures.read.1 c.parents.invariant.0.spelled c.in_ok-parent.ensures.read.0 (omega (arith, length-map items bstr_bytes, some)),
    )

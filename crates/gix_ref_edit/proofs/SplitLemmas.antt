-- Edits that are split, step by step.
use Rattle.std.proofs.Common.{◌≡◌, ◌≢◌, ◌∙◌, refl, sym, ap, ℕ, zero, suc, ◌+◌, ◌-◌, ◌<◌, Bool, false, List, [], ◌∷◌, ◌++◌, map, length, get_or, set, take, arith}
use Rattle.std.specs.Prelude.{min}
use Rattle.gix_ref_edit.specs.Splits.{Targets, Splits, SplitFault, hops, further, with_hops, behind, leads_on, settled, settled_as, settled_by, marked}
use Rattle.gix_ref_edit.specs.declared.splits.SplitError.{SplitError}
use Rattle.gix_ref_edit.specs.declared.splits.SplitError.TheVariants.{Find, Cycle, Memory}
use Rattle.gix_ref_edit.specs.declared.change.RefEdit.{RefEdit}

-- ---- rounds

pub behind_more : (read : Targets) (rounds : ℕ) (edits : List RefEdit) → rounds ≢ 0
    → behind read rounds edits ≡ behind read (rounds - 1) (hops read edits)
behind_more read zero edits some = absurd (some refl)
behind_more read (suc rounds) edits some =
    let less : rounds ≡ suc rounds - 1 = omega arith in
    ap (λ n. behind read n (hops read edits)) less

-- ---- marks

pub settled_more : (marks : List Bool) (edits : List RefEdit) (i : ℕ) (d : RefEdit) → i < length marks → i < length edits
    → settled_by (take (suc i) marks) edits ≡ set (settled_by (take i marks) edits) i (settled_as (get_or marks i false) (get_or (settled_by (take i marks) edits) i d))
settled_more [] edits i d inside within = absurd (omega (arith, inside))
settled_more (mark ∷ marks) [] i d inside within = absurd (omega (arith, within))
settled_more (mark ∷ marks) (edit ∷ edits) zero d inside within = refl
settled_more (mark ∷ marks) (edit ∷ edits) (suc i) d inside within =
    ap (λ l. settled_as mark edit ∷ l) (settled_more marks edits i d (omega (arith, inside)) (omega (arith, within)))

pub settled_whole : (marks : List Bool) (edits : List RefEdit) (n : ℕ) → n ≡ min (length marks) (length edits)
    → settled_by (take n marks) edits ≡ settled_by marks edits
settled_whole [] edits zero is = refl
settled_whole [] edits (suc n) is = refl
settled_whole (mark ∷ marks) [] zero is = refl
settled_whole (mark ∷ marks) [] (suc n) is = refl
settled_whole (mark ∷ marks) (edit ∷ edits) zero is = absurd (omega (arith, is))
settled_whole (mark ∷ marks) (edit ∷ edits) (suc n) is =
    ap (λ l. settled_as mark edit ∷ l) (settled_whole marks edits n (omega (arith, is)))

-- each edit with its own mark
pub settled_marks : (read : Targets) (edits : List RefEdit) → settled_by (map (leads_on read) edits) edits ≡ map (settled read) edits
settled_marks read [] = refl
settled_marks read (edit ∷ edits) = ap (λ l. settled read edit ∷ l) (settled_marks read edits)

-- what keeps the next round's edits from being split keeps these
pub fault_before : (honest may_fail : Type 0) (read : Targets) (rounds : ℕ) (edits next : List RefEdit) (error : SplitError) → rounds ≢ 0
    → (honest → next ≡ hops read edits) → SplitFault honest may_fail read (rounds - 1) next error → SplitFault honest may_fail read rounds edits error
fault_before honest may_fail read rounds edits next Find some is fault = fault
fault_before honest may_fail read rounds edits next Memory some is fault = tt
fault_before honest may_fail read rounds edits next Cycle some is fault = λ h none.
    fault h (ap (behind read (rounds - 1)) (is h) ∙ sym (behind_more read rounds edits some) ∙ none)

pub splits_whole : (read : Targets) (before after all added : List RefEdit) (marks : List Bool) (places : List ℕ)
    → added ≡ further read 4 before → all ≡ before ++ added → marks ≡ map (leads_on read) (before ++ further read 4 before)
    → behind read 4 before ≡ [] → after ≡ settled_by marks all → places ≡ marked 0 marks → Splits read before after places
splits_whole read before after all added marks places added_is all_is marks_is ends after_is places_is =
    let whole : all ≡ with_hops read before = all_is ∙ ap (λ l. before ++ l) added_is in
    record {
      edits = after_is ∙ (λ i. settled_by (marks_is i) (whole i)) ∙ settled_marks read (with_hops read before);
      ends = ends;
      split = places_is ∙ ap (marked 0) marks_is;
    }

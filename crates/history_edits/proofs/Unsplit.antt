-- Edits that don't follow symbolic references aren't split.
use Rattle.std.proofs.Common.{◌≡◌, ℕ, zero, suc, false, cond, List, [], ◌∷◌, ◌++◌, map, refl, sym, ◌∙◌, ap, None, is_some}
use Rattle.std.specs.List.{AllByRecursion, cons_option}
use Rattle.gix_ref_edit.specs.Splits.{Targets, further, hop, hop_to, hops, settled, settled_as}
use Rattle.gix_ref_edit.specs.declared.change.RefEdit.{RefEdit}
use Rattle.gix_ref_transaction.specs.Found.{points_at}
use Rattle.history_edits.specs.EditPlans.{UnsplitStay}

module _ (read : Targets) where
  no_hop : (edit : RefEdit) → edit.deref ≡ false → hop read edit ≡ None
  no_hop edit plain = ap (λ b. cond b (hop_to edit (read edit.name)) None) plain

  pub no_hops : (edits : List RefEdit) → AllByRecursion (λ (edit : RefEdit). edit.deref ≡ false) edits → hops read edits ≡ []
  no_hops [] plain = refl
  no_hops (edit ∷ edits) plain = λ i. cons_option (no_hop edit plain.0 i) (no_hops edits plain.1 i)

  none_further : (rounds : ℕ) (edits : List RefEdit) → AllByRecursion (λ (edit : RefEdit). edit.deref ≡ false) edits → further read rounds edits ≡ []
  none_further zero edits plain = refl
  none_further (suc rounds) edits plain = (λ i. no_hops edits plain i ++ further read rounds (no_hops edits plain i)) ∙ none_further rounds [] tt

  stays : (edit : RefEdit) → edit.deref ≡ false → settled read edit ≡ edit
  stays edit plain = ap (λ o. settled_as (is_some o) edit) (no_hop edit plain) ∙ (λ i. record edit { deref = sym plain i })

  all_stay : (edits : List RefEdit) → AllByRecursion (λ (edit : RefEdit). edit.deref ≡ false) edits → map (settled read) edits ≡ edits
  all_stay [] plain = refl
  all_stay (edit ∷ edits) plain = λ i. stays edit plain.0 i ∷ all_stay edits plain.1 i

  alone : (edits : List RefEdit) → edits ++ [] ≡ edits
  alone [] = refl
  alone (edit ∷ edits) = ap (λ rest. edit ∷ rest) (alone edits)

  unsplit : (edits : List RefEdit) → AllByRecursion (λ (edit : RefEdit). edit.deref ≡ false) edits → map (settled read) (edits ++ further read 4 edits) ≡ edits
  unsplit edits plain = ap (λ more. map (settled read) (edits ++ more)) (none_further 4 edits plain) ∙ ap (map (settled read)) (alone edits) ∙ all_stay edits plain

pub unsplit_stay : UnsplitStay
unsplit_stay read asked edits plain split = split.1.edits ∙ unsplit (λ name. points_at (read name)) asked plain

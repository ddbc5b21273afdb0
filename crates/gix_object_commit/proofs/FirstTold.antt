-- One value comes first.
use Rattle.std.proofs.Common.{◌≡◌, ◌∙◌, ap, refl, sym, subst, List, [], ◌∷◌, inl, inr, Option, Some, None, Result, Err}
use Rattle.std.specs.Prelude.{filter_map}
use Rattle.std.specs.List.{cons_option}
use Rattle.gix_object_lines.specs.declared.decode.Error.{Error}
use Rattle.gix_object_lines.specs.declared.decode.Error.TheVariants.{FieldName}
use Rattle.gix_object_commit.specs.declared.ref_iter.Token.{Token}
use Rattle.gix_object_commit.specs.Tokens.{Part, Place, GivesToken}
use Rattle.gix_object_commit.specs.ReadingOn.{Reads, Tells, TellsFirst, TellsNone, TellsNoMore, IsStop}
use Rattle.gix_object_commit.proofs.OnePart.{one_next}
use Rattle.gix_object_commit.proofs.NoMore.{none_at_end, none_at_fault, none_before}

module _ {X : Type 0} (told : Part → Option X) where
  pub first_once : (here there there' : Place) (value value' : X) (parts others : List Part) → Reads here parts there → Reads here others there' → filter_map told parts ≡ value ∷ [] → filter_map told others ≡ value' ∷ [] → value ≡ value'
  first_once here there there' value value' [] others reads other whole whole' = absurd cc
  first_once here there there' value value' (part ∷ parts) [] reads other whole whole' = absurd cc
  first_once here there there' value value' (part ∷ parts) (first ∷ others) reads other whole whole' =
      let same = one_next here part first reads.0 other.0 reads.1 other.1 in
      let behind = subst (λ p. Reads p others there') (sym same.1) other.2 in
      by (told part) refl (ap (λ o. cons_option o (filter_map told others)) (ap told same.0) ∙ whole')
      (λ a b. first_once reads.0 there there' value value' parts others reads.2 behind a b)
    where
      by : (o : Option X) → told part ≡ o → cons_option (told part) (filter_map told others) ≡ value' ∷ [] → (filter_map told parts ≡ value ∷ [] → filter_map told others ≡ value' ∷ [] → value ≡ value') → value ≡ value'
      by None silent whole' later = later (ap (λ o. cons_option o (filter_map told parts)) (sym silent) ∙ whole) (ap (λ o. cons_option o (filter_map told others)) (sym silent) ∙ whole')
      by (Some x) is whole' later =
          let here_first : x ∷ filter_map told parts ≡ value ∷ [] = ap (λ o. cons_option o (filter_map told parts)) (sym is) ∙ whole in
          let other_first : x ∷ filter_map told others ≡ value' ∷ [] = ap (λ o. cons_option o (filter_map told others)) (sym is) ∙ whole' in
          cc

  pub one_first : (here : Place) (value value' : X) → TellsFirst told here value → TellsFirst told here value' → value ≡ value'
  one_first here value value' a b = first_once here a.0 b.0 value value' a.1.0 b.1.0 a.1.1 b.1.1 a.1.2 b.1.2

  no_more_at_stop : (place : Place) (error : Error) → IsStop place error → TellsNoMore told place
  no_more_at_stop place error (inl end) = none_at_end told place end.0
  no_more_at_stop place error (inr gives) = none_at_fault told place gives.1.0

  -- if no value comes, none comes first
  pub none_first : (here : Place) (error : Error) (value : X) → TellsNone told here error → TellsFirst told here value → ⊥
  none_first here error value none first =
      let empty = none_before told here none.0 none.1.0 none.1.1 none.1.2 (no_more_at_stop none.0 error none.2) (value ∷ []) first.0 first.1 in cc

  pub stops_at_fault : (here mid after : Place) (given : Result Token Error) (error : Error) → Tells told here [] mid → GivesToken mid (Some given) after → given ≡ Err error → TellsNone told here error
  stops_at_fault here mid after given error so_far gives is = (mid, so_far, inr (after, subst (λ g. GivesToken mid (Some g) after) is gives))

  pub stops_at_end : (here mid after : Place) → Tells told here [] mid → GivesToken mid None after → TellsNone told here FieldName
  stops_at_end here mid after so_far gives = (mid, so_far, inl (gives.0, refl))

-- The values of a name.
use Rattle.std.proofs.Common.{◌≡◌, ◌∙◌, ap, refl, sym, ℕ, ◌+◌, Bool, true, false, List, [], ◌∷◌, drop, map, Option, Some, None}
use Rattle.std.specs.Prelude.{MatchOption, filter, cond, if◌then◌else◌}
use Rattle.std.specs.List.{slice_get}
use Rattle.std.specs.Option.{option_map}
use Rattle.std.proofs.lemmas.List.{at_drop_more, at_drop_all}
use Rattle.std.proofs.lemmas.Option.{slice_get_within, get_or_from_slice_get}
use Rattle.bstr.specs.BStr.{bstr_bytes}
use Rattle.bstr.specs.declared.bstr.BStr.{BStr}
use Rattle.gix_object_commit.specs.Commit.{Field}
use Rattle.gix_object_commit.specs.Headers.{is_named, first_value, values_named}
use Rattle.gix_object_commit.proofs.Positions.{none_within}

abbrev head_of : List (List ℕ) → Option (List ℕ)
head_of [] = None
head_of (value ∷ values) = Some value

head_named : (name : List ℕ) (fields : List Field) → first_value name fields ≡ head_of (values_named name fields)
head_named name [] = refl
head_named name (field ∷ fields) = by_test (is_named name field) (head_named name fields)
  where
    by_test : (t : Bool) → first_value name fields ≡ head_of (values_named name fields) → (if t then Some field.value else first_value name fields) ≡ head_of (map (λ (f : Field). f.value) (cond t (field ∷ filter (is_named name) fields) (filter (is_named name) fields)))
    by_test true later = refl
    by_test false later = later

pub first_named : (name : List ℕ) (fields : List Field) (found : Option BStr) (more : List (List ℕ)) (P : Type 0) → MatchOption found ((values_named name fields ≡ []) × P) (λ value. values_named name fields ≡ bstr_bytes value ∷ more)
    → option_map bstr_bytes found ≡ first_value name fields
first_named name fields None more P h = sym (head_named name fields ∙ ap head_of h.0)
first_named name fields (Some value) more P h = sym (head_named name fields ∙ ap head_of h)

-- ---- the values from a place on

module _ (name : List ℕ) (fields : List Field) where
  step : (place : ℕ) (field : Field) (named : Bool) → slice_get fields place ≡ Some field → is_named name field ≡ named
      → values_named name (drop place fields) ≡ map (λ (f : Field). f.value) (cond named (field ∷ filter (is_named name) (drop (place + 1) fields)) (filter (is_named name) (drop (place + 1) fields)))
  step place field named is test =
      let later = drop (place + 1) fields in
      at_drop_more (values_named name) fields place field (slice_get_within fields place field is)
      ∙ ap (λ f. values_named name (f ∷ later)) (get_or_from_slice_get fields place field field is)
      ∙ ap (λ t. map (λ (f : Field). f.value) (cond t (field ∷ filter (is_named name) later) (filter (is_named name) later))) test

  pub named_here : (place : ℕ) (field : Field) → slice_get fields place ≡ Some field → is_named name field ≡ true → values_named name (drop place fields) ≡ field.value ∷ values_named name (drop (place + 1) fields)
  named_here place field is test = step place field true is test

  pub named_later : (place : ℕ) (field : Field) → slice_get fields place ≡ Some field → is_named name field ≡ false → values_named name (drop place fields) ≡ values_named name (drop (place + 1) fields)
  named_later place field is test = step place field false is test

  pub named_nowhere : (place : ℕ) → slice_get fields place ≡ None → values_named name (drop place fields) ≡ []
  named_nowhere place none = at_drop_all (values_named name) fields place (none_within fields place none)

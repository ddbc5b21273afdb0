-- Parts that are read one after another, and what they hold.
use Rattle.std.proofs.Common.{◌≡◌, ◌∙◌, ap, refl, sym, subst, List, [], ◌∷◌, ◌++◌, inr, Option, Some, None, Result, Ok, Err}
use Rattle.std.specs.Prelude.{filter_map, IfErr}
use Rattle.std.proofs.lemmas.List.Elements.{filter_map-append}
use Rattle.bstr.specs.declared.bstr.BStr.{BStr}
use Rattle.gix_object_lines.specs.declared.decode.Error.{Error}
use Rattle.gix_object_lines.specs.declared.lines.actor.ActorRef.{ActorRef}
use Rattle.gix_object_commit.specs.declared.ref_iter.Token.{Token}
use Rattle.gix_object_commit.specs.declared.ref_iter.Token.TheVariants as token
use Rattle.gix_object_commit.specs.Tokens.{Part, Place, IsNext, GivesToken, part_of}
use Rattle.gix_object_commit.specs.ReadingOn.{Reads, Tells, TellsNone, author_told, committer_told, message_told}

pub reads_more : (here mid there : Place) (parts : List Part) (part : Part) → Reads here parts mid → IsNext mid part there → Reads here (parts ++ part ∷ []) there
reads_more here mid there [] part reads next = (there, subst (λ p. IsNext p part there) (sym reads) next, refl)
reads_more here mid there (first ∷ parts) part reads next = (reads.0, reads.1, reads_more reads.0 mid there parts part reads.2 next)

module _ {X : Type 0} (told : Part → Option X) where
  pub tells_start : (here : Place) → Tells told here [] here
  tells_start here = ([], refl, refl)

  -- a part without such a value is skipped
  pub tells_on : (here mid there : Place) (part : Part) → Tells told here [] mid → IsNext mid part there → told part ≡ None → Tells told here [] there
  tells_on here mid there part so_far next none = (so_far.0 ++ part ∷ [], reads_more here mid there so_far.0 part so_far.1 next, whole)
    where
      whole : filter_map told (so_far.0 ++ part ∷ []) ≡ []
      whole = filter_map-append told so_far.0 (part ∷ []) ∙ ap (λ t. t ++ filter_map told (part ∷ [])) so_far.2 ∙ rw none refl

  -- the first with such a value
  pub tells_one : (here mid there : Place) (part : Part) (value : X) → Tells told here [] mid → IsNext mid part there → told part ≡ Some value → Tells told here (value ∷ []) there
  tells_one here mid there part value so_far next some = (so_far.0 ++ part ∷ [], reads_more here mid there so_far.0 part so_far.1 next, whole)
    where
      whole : filter_map told (so_far.0 ++ part ∷ []) ≡ value ∷ []
      whole = filter_map-append told so_far.0 (part ∷ []) ∙ ap (λ t. t ++ filter_map told (part ∷ [])) so_far.2 ∙ rw some refl

  -- ---- what the reader gives

  pub given_on : (here mid there : Place) (given : Result Token Error) (token : Token) → Tells told here [] mid → GivesToken mid (Some given) there → given ≡ Ok token → told (part_of token) ≡ None → Tells told here [] there
  given_on here mid there given token so_far gives is none = tells_on here mid there (part_of token) so_far (subst (λ g. GivesToken mid (Some g) there) is gives) none

  pub given_one : (here mid there : Place) (given : Result Token Error) (token : Token) (value : X) → Tells told here [] mid → GivesToken mid (Some given) there → given ≡ Ok token → told (part_of token) ≡ Some value → Tells told here (value ∷ []) there
  given_one here mid there given token value so_far gives is some = tells_one here mid there (part_of token) value so_far (subst (λ g. GivesToken mid (Some g) there) is gives) some

  -- an error that is passed on
  pub given_fault : {R : Type 0} (here mid after : Place) (given : Result Token Error) (error passed : Error) (result : Result R Error) → Tells told here [] mid → GivesToken mid (Some given) after → given ≡ Err error → result ≡ Err passed → passed ≡ error
      → IfErr result (λ fault. TellsNone told here fault)
  given_fault {R} here mid after given error passed result so_far gives is answer same =
      subst (λ (r : Result R Error). IfErr r (λ fault. TellsNone told here fault)) (sym (answer ∙ ap (λ e. Err e) same))
      (mid, so_far, inr (after, subst (λ g. GivesToken mid (Some g) after) is gives))

-- ---- tokens without a value

pub no_author : (given : Token) → ((actor : ActorRef) → given ≡ token.Author actor → ⊥) → author_told (part_of given) ≡ None
no_author (token.Author actor) other = absurd (other actor refl)
no_author _ other = refl

pub no_committer : (given : Token) → ((actor : ActorRef) → given ≡ token.Committer actor → ⊥) → committer_told (part_of given) ≡ None
no_committer (token.Committer actor) other = absurd (other actor refl)
no_committer _ other = refl

pub no_message : (given : Token) → ((text : BStr) → given ≡ token.Message text → ⊥) → message_told (part_of given) ≡ None
no_message (token.Message text) other = absurd (other text refl)
no_message _ other = refl

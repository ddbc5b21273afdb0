-- Parts that are read one after another, and what they hold.
use Rattle.std.proofs.Common.{◌≡◌, ◌∙◌, ap, refl, sym, subst, List, [], ◌∷◌, ◌++◌, inl, inr, Option, Some, None, Result, Ok, Err}
use Rattle.std.specs.Prelude.{filter_map, IfErr}
use Rattle.std.proofs.lemmas.List.Elements.{filter_map-append}
use Rattle.gix_object_lines.specs.declared.decode.Error.{Error}
use Rattle.gix_object_lines.specs.declared.lines.actor.ActorRef.{ActorRef}
use Rattle.gix_object_tag.specs.ReadingOn.{Reads, Tells, TellsFirst, TellsNoTagger, tagger_told}
use Rattle.gix_object_tag.specs.Tokens.{Part, Place, IsNext, GivesToken, part_of}
use Rattle.gix_object_tag.specs.declared.tag.ref_iter.Token.{Token}
use Rattle.gix_object_tag.specs.declared.tag.ref_iter.Token.TheVariants as token

pub reads_more : (here mid there : Place) (parts : List Part) (part : Part) → Reads here parts mid → IsNext mid part there → Reads here (parts ++ part ∷ []) there
reads_more here mid there [] part reads next = (there, subst (λ p. IsNext p part there) (sym reads) next, refl)
reads_more here mid there (first ∷ parts) part reads next = (reads.0, reads.1, reads_more reads.0 mid there parts part reads.2 next)

module _ {X : Type 0} (told : Part → Option X) where
  -- a part without such a value is skipped
  pub tells_on : (here mid there : Place) (part : Part) → Tells told here [] mid → IsNext mid part there → told part ≡ None → Tells told here [] there
  tells_on here mid there part so_far next none = (so_far.0 ++ part ∷ [], reads_more here mid there so_far.0 part so_far.1 next, whole)
    where
      whole : filter_map told (so_far.0 ++ part ∷ []) ≡ []
      whole = filter_map-append told so_far.0 (part ∷ []) ∙ ap (λ t. t ++ filter_map told (part ∷ [])) so_far.2 ∙ rw none refl

  -- the first with such a value
  pub tells_one : (here mid there : Place) (part : Part) (value : X) → Tells told here [] mid → IsNext mid part there → told part ≡ Some value → TellsFirst told here value
  tells_one here mid there part value so_far next some = (there, (so_far.0 ++ part ∷ [], reads_more here mid there so_far.0 part so_far.1 next, whole))
    where
      whole : filter_map told (so_far.0 ++ part ∷ []) ≡ value ∷ []
      whole = filter_map-append told so_far.0 (part ∷ []) ∙ ap (λ t. t ++ filter_map told (part ∷ [])) so_far.2 ∙ rw some refl

-- a token that isn't the tagger's has none
pub no_tagger : (given : Token) → ((tagger : Option ActorRef) → given ≡ token.Tagger tagger → ⊥) → tagger_told (part_of given) ≡ None
no_tagger (token.Tagger tagger) other = absurd (other tagger refl)
no_tagger (token.Target id) other = refl
no_tagger (token.TargetKind kind) other = refl
no_tagger (token.Name name) other = refl
no_tagger (token.Body message signature) other = refl

-- an error is given only if the input isn't empty
pub no_tagger_at_fault : (here mid after : Place) (error : Error) → Tells tagger_told here [] mid → GivesToken mid (Some (Err error)) after → TellsNoTagger here error
no_tagger_at_fault here mid after error so_far gives = (mid, so_far, inr (after, gives), λ behind. gives.0.0 behind.1)

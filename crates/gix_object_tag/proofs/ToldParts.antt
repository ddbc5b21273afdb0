-- The tokens of a tag are the parts that they are read from.
use Rattle.std.proofs.Common.{◌≡◌, ◌≢◌, ◌∙◌, ap, refl, sym, subst, ℕ, true, false, List, [], ◌∷◌, ◌++◌, Option, Some, None}
use Rattle.std.specs.Prelude.{codes}
use Rattle.gix_hash.specs.Id.{Id}
use Rattle.gix_hash.specs.declared.kind.Kind as hash
use Rattle.gix_object_lines.specs.declared.kind.Kind.{Kind}
use Rattle.gix_object_lines.specs.Person.{Person}
use Rattle.gix_object_tag.specs.Tag.{Parts, SpellsKind, SpellsName, SpellsTagger, SpellsRest, Nothing, SpellsTag}
use Rattle.gix_object_tag.specs.ReadingOn.{Reads}
use Rattle.gix_object_tag.specs.Tokens.{Part, Target, TargetKind, Name, Tagger, Body, Place, IsPartAt, IsNext, stage_after, start}
use Rattle.gix_object_tag.specs.Whole.{TellsBody, NoBody, ABody, TellsLast, NoTagger, ATagger, TellsParts}
use Rattle.gix_object_tag.specs.declared.tag.ref_iter.Stage.{Stage}
use Rattle.gix_object_tag.specs.declared.tag.ref_iter.Stage.TheVariants as at
use Rattle.gix_object_tag.proofs.Left.{IsFromTarget, IsFrom, is_named, step_on, end_named}
use Rattle.gix_object_tag.proofs.OnePart.{at_target, at_kind, at_name, at_tagger, at_body}

-- the part that is at a place of this kind and stage
placed : (kind : hash.Kind) (stage : Stage) (here next : Place) (part : Part) → here.kind ≡ kind → here.stage ≡ stage → IsNext here part next → IsPartAt kind stage here.input part next.input
placed kind stage here next part same stood is =
    subst (λ s. IsPartAt kind s here.input part next.input) stood (subst (λ k. IsPartAt k here.stage here.input part next.input) same is.1)

-- a tag doesn't end before its name
early : (kind : hash.Kind) (stage : Stage) (input : List ℕ) → is_named stage ≡ false → IsFrom kind stage input → input ≡ [] → ⊥
early kind stage input unnamed from empty = clash (sym unnamed ∙ end_named kind stage (subst (IsFrom kind stage) empty from))
  where
    clash : false ≡ true → ⊥
    clash e = cc

nothing_more : (here there : Place) (parts : List Part) → here.input ≡ [] → Reads here parts there → parts ≡ []
nothing_more here there [] empty reads = refl
nothing_more here there (part ∷ parts) empty (next, is, reads) = absurd (is.0 empty)

-- ---- after the tagger

abbrev BodyTold : List ℕ → List Part → Type 0
BodyTold input parts = (message : List ℕ) × (signature : Option (List ℕ)) × SpellsRest input message signature × TellsBody message signature parts

told_body : (here there : Place) (parts : List Part) → here.stage ≡ at.Body → Reads here parts there → there.input ≡ [] → BodyTold here.input parts
told_body here there [] stood reads end = ([], None, Nothing (ap (λ (p : Place). p.input) reads ∙ end) refl refl, NoBody refl refl refl)
told_body here there (part ∷ more) stood (next, next_is, reads) end =
    let is = at_body here.kind here.input next.input part (placed here.kind at.Body here next part refl stood next_is) in
    let last = nothing_more next there more is.4 reads in
    (is.0, is.1, is.3, ABody (ap (λ ts. part ∷ ts) last ∙ ap (λ t. t ∷ []) is.2))

-- ---- after the name

abbrev TaggerTold : List ℕ → List Part → Type 0
TaggerTold input parts =
    (tagger : Option Person) × (message : List ℕ) × (signature : Option (List ℕ)) × (after : List ℕ)
    × SpellsTagger input tagger after × SpellsRest after message signature × TellsLast tagger message signature parts

no_tagger : (input rest : List ℕ) → input ≡ [] → input ≡ codes "tagger " ++ rest → ⊥
no_tagger input rest empty begins = let clash : ◌≡◌ {A = List ℕ} [] (codes "tagger " ++ rest) = sym empty ∙ begins in cc

told_tagger : (here there : Place) (parts : List Part) → here.stage ≡ at.Tagger → Reads here parts there → there.input ≡ [] → TaggerTold here.input parts
told_tagger here there [] stood reads end =
    let empty = ap (λ (p : Place). p.input) reads ∙ end in
    (None, [], None, here.input, (refl, λ begins. no_tagger here.input begins.0 empty begins.1), Nothing empty refl refl, NoTagger refl refl refl refl)
told_tagger here there (part ∷ more) stood (next, next_is, reads) end =
    let is = at_tagger here.kind here.input next.input part (placed here.kind at.Tagger here next part refl stood next_is) in
    let body = told_body next there more (next_is.2 ∙ ap stage_after is.1) reads end in
    (is.0, body.0, body.1, next.input, is.2, body.2, ATagger more (ap (λ t. t ∷ more) is.1) body.3)

-- ---- the lines before

abbrev NameTold : List ℕ → List Part → Type 0
NameTold input parts = (name : List ℕ) × (after : List ℕ) × (more : List Part) × SpellsName input name after × (parts ≡ Name name ∷ more) × TaggerTold after more

told_name : (kind : hash.Kind) (here there : Place) (parts : List Part) → here.stage ≡ at.Name → IsFrom kind at.Name here.input → Reads here parts there → there.input ≡ []
    → NameTold here.input parts
told_name kind here there [] stood from reads end = absurd (early kind at.Name here.input refl from (ap (λ (p : Place). p.input) reads ∙ end))
told_name kind here there (part ∷ more) stood from (next, next_is, reads) end =
    let is = at_name here.kind here.input next.input part (placed here.kind at.Name here next part refl stood next_is) in
    (is.0, next.input, more, is.2, ap (λ t. t ∷ more) is.1, told_tagger next there more (next_is.2 ∙ ap stage_after is.1) reads end)

abbrev KindTold : List ℕ → List Part → Type 0
KindTold input parts = (target : Kind) × (after : List ℕ) × (more : List Part) × SpellsKind input target after × (parts ≡ TargetKind target ∷ more) × NameTold after more

told_kind : (kind : hash.Kind) (here there : Place) (parts : List Part) → here.kind ≡ kind → here.stage ≡ at.TargetKind → IsFrom kind at.TargetKind here.input → Reads here parts there
    → there.input ≡ [] → KindTold here.input parts
told_kind kind here there [] same stood from reads end = absurd (early kind at.TargetKind here.input refl from (ap (λ (p : Place). p.input) reads ∙ end))
told_kind kind here there (part ∷ more) same stood from (next, next_is, reads) end =
    let placed_is = placed kind at.TargetKind here next part same stood next_is in
    let is = at_kind kind here.input next.input part placed_is in
    let left = subst (λ p. IsFrom kind (stage_after p) next.input) is.1 (step_on kind at.TargetKind here.input part next.input placed_is from) in
    (is.0, next.input, more, is.2, ap (λ t. t ∷ more) is.1, told_name kind next there more (next_is.2 ∙ ap stage_after is.1) left reads end)

pub told_parts : (kind : hash.Kind) (input : List ℕ) (there : Place) (parts : List Part) → IsFromTarget kind input → Reads (start kind input) parts there → there.input ≡ []
    → (told : Parts) × SpellsTag kind input told × TellsParts told parts
told_parts kind input there [] from reads end = absurd (early kind at.Target input refl from (ap (λ (p : Place). p.input) reads ∙ end))
told_parts kind input there (part ∷ parts) from (next, next_is, reads) end =
    let is = at_target kind input next.input part next_is.1 in
    let left = subst (λ p. IsFrom kind (stage_after p) next.input) is.1 (step_on kind at.Target input part next.input next_is.1 from) in
    let target = told_kind kind next there parts next_is.3 (next_is.2 ∙ ap stage_after is.1) left reads end in
    let name = target.5 in
    let tagger = name.5 in (
      record { target = is.2.0; target_kind = target.0; name = name.0; tagger = tagger.0; message = tagger.1; signature = tagger.2 },
      record {
        after_target = next.input;
        after_kind = target.1;
        after_name = name.1;
        after_tagger = tagger.3;
        target = is.2.1;
        target_kind = target.3;
        name = name.3;
        tagger = tagger.4;
        rest = tagger.5;
      },
      record {
        target = is.0;
        last = name.2;
        target_spelled = is.2.2;
        in_order = ap (λ t. t ∷ parts) is.1 ∙ ap (λ ts. Target is.0 ∷ ts) (target.4 ∙ ap (λ ts. TargetKind target.0 ∷ ts) name.4);
        last_told = tagger.6;
      },
    )

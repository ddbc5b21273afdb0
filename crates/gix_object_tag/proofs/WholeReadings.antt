-- Readings with a name that come to the end are those of tags.
use Rattle.std.proofs.Common.{◌≡◌, ◌∙◌, ap, refl, sym, subst, ℕ, Bool, true, false, ◌||◌, List, [], ◌∷◌}
use Rattle.std.specs.List.{list_any}
use Rattle.gix_hash.specs.declared.kind.Kind as hash
use Rattle.gix_object_tag.specs.ReadingOn.{Reads}
use Rattle.gix_object_tag.specs.Tokens.{Part, Place, IsPartAt, start}
use Rattle.gix_object_tag.specs.Whole.{IsTag, ReadsWithName, tells_name}
use Rattle.gix_object_tag.proofs.Left.{IsFrom, is_named, tag_from, step_back, end_named, named_end, named_on}

-- what holds of the end holds of the start
reads_back : (kind : hash.Kind) (here there : Place) (parts : List Part) → here.kind ≡ kind → Reads here parts there → IsFrom kind there.stage there.input → IsFrom kind here.stage here.input
reads_back kind here there [] same reads from = subst (λ (p : Place). IsFrom kind p.stage p.input) (sym reads) from
reads_back kind here there (part ∷ parts) same (next, is, reads) from =
    let later = reads_back kind next there parts (is.3 ∙ same) reads from in
    step_back kind here.stage here.input part next.input (subst (λ k. IsPartAt k here.stage here.input part next.input) same is.1) (subst (λ s. IsFrom kind s next.input) is.2 later)

or_assoc : (a b c : Bool) → (a || (b || c)) ≡ ((a || b) || c)
or_assoc true b c = refl
or_assoc false b c = refl

pub reads_named : (here there : Place) (parts : List Part) → Reads here parts there → (is_named here.stage || list_any tells_name parts) ≡ is_named there.stage
reads_named here there [] reads = none (is_named here.stage) ∙ ap (λ (p : Place). is_named p.stage) reads
  where
    none : (b : Bool) → (b || false) ≡ b
    none true = refl
    none false = refl
reads_named here there (part ∷ parts) (next, is, reads) =
    or_assoc (is_named here.stage) (tells_name part) (list_any tells_name parts)
    ∙ ap (λ b. b || list_any tells_name parts) (named_on here.kind here.stage here.input part next.input is.1 ∙ ap is_named (sym is.2))
    ∙ reads_named next there parts reads

pub is_tag : (kind : hash.Kind) (input : List ℕ) → ReadsWithName (start kind input) → IsTag kind input
is_tag kind input (parts, there, reads, ended, named) =
    let told : is_named there.stage ≡ true = sym (reads_named (start kind input) there parts reads) ∙ named in
    tag_from kind input (reads_back kind (start kind input) there parts refl reads (subst (IsFrom kind there.stage) (sym ended) (named_end kind there.stage told)))

-- at the end of the input
pub is_read : (kind : hash.Kind) (input : List ℕ) (there : Place) (parts : List Part) → Reads (start kind input) parts there → there.input ≡ [] → IsFrom kind there.stage there.input → ReadsWithName (start kind input)
is_read kind input there parts reads ended from =
    (parts, there, reads, ended, reads_named (start kind input) there parts reads ∙ end_named kind there.stage (subst (IsFrom kind there.stage) ended from))

-- What the parts hold that a reader gives from its place on.
use Rattle.std.specs.Prelude.{◌≡◌, ◌⊎◌, List, [], ◌∷◌, filter_map, Option, None, Some, Result, Ok, Err}
use Rattle.gix_hash.specs.declared.object_id.ObjectId.{ObjectId}
use Rattle.gix_object_lines.specs.declared.decode.Error.{Error}
use Rattle.gix_object_lines.specs.declared.decode.Error.TheVariants.{FieldName}
use Rattle.gix_object_lines.specs.Person.{Person}
use Rattle.gix_object_tag.specs.Tokens.{Part, Tagger, Place, IsNext, GivesToken}
use Rattle.gix_object_tag.specs.declared.tag.ref_iter.Stage.TheVariants as at
use Rattle.gix_object_tag.specs.declared.tag.ref_iter.Token.{Token}
use Rattle.gix_object_tag.specs.declared.tag.ref_iter.Token.TheVariants as token

-- from here the reader gives these parts, one after the other, and is then there
abbrev pub Reads : Place → List Part → Place → Type 0
Reads here [] there = here ≡ there
Reads here (part ∷ parts) there = (next : Place) × IsNext here part next × Reads next parts there

-- these are the values that the parts from here to there hold
abbrev pub Tells : {X : Type 0} → (Part → Option X) → Place → List X → Place → Type 0
Tells told here values there =
    (parts : List Part) × Reads here parts there × (filter_map told parts ≡ values)

-- ---- the first value from here on

abbrev pub TellsFirst : {X : Type 0} → (Part → Option X) → Place → X → Type 0
TellsFirst told here value = (there : Place) × Tells told here (value ∷ []) there

-- the error if no part follows: `FieldName` at the input's end, and otherwise the one that the
-- reader gives
abbrev pub IsStop : Place → Error → Type 0
IsStop place error =
    ((place.input ≡ []) × (error ≡ FieldName))
    ⊎ ((after : Place) × GivesToken place (Some (Err error)) after)

-- no part from here on has a value, up to where no part follows
abbrev pub TellsNone : {X : Type 0} → (Part → Option X) → Place → Error → Type 0
TellsNone told here error = (there : Place) × Tells told here [] there × IsStop there error

-- ---- the tagger: a tag that ends after its name has none

abbrev pub tagger_told : Part → Option (Option Person)
tagger_told (Tagger tagger) = Some tagger
tagger_told _ = None

-- the input has ended, and the tagger may come next
abbrev pub IsBehindName : Place → Type 0
IsBehindName place = (place.stage ≡ at.Tagger) × (place.input ≡ [])

-- the first tagger from here on is this one; or there is none up to the name, with which the input
-- ends
abbrev pub TellsTagger : Place → Option Person → Type 0
TellsTagger here tagger =
    TellsFirst tagger_told here tagger
    ⊎ ((there : Place) × Tells tagger_told here [] there × IsBehindName there × (tagger ≡ None))

-- there is none up to where no part follows, and that isn't after the name
abbrev pub TellsNoTagger : Place → Error → Type 0
TellsNoTagger here error =
    (there : Place) × Tells tagger_told here [] there × IsStop there error × ¬ IsBehindName there

-- ---- the target

abbrev pub target_of : Token → Result ObjectId Error
target_of (token.Target id) = Ok id
target_of _ = Err FieldName

abbrev pub target_given : Option (Result Token Error) → Result ObjectId Error
target_given None = Err FieldName
target_given (Some (Ok token)) = target_of token
target_given (Some (Err error)) = Err error

-- one token is read, and this is the result
abbrev pub TakesTarget : Place → Result ObjectId Error → Type 0
TakesTarget here result =
    (given : Option (Result Token Error)) × (after : Place) × GivesToken here given after
    × (result ≡ target_given given)

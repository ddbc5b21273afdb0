-- What the parts hold that a reader gives from its place on.
use Rattle.std.specs.Prelude.{◌≡◌, ◌⊎◌, List, [], ◌∷◌, filter_map, ℕ, Option, None, Some, Result, Ok, Err}
use Rattle.gix_hash.specs.Id.{Id}
use Rattle.gix_hash.specs.declared.object_id.ObjectId.{ObjectId}
use Rattle.gix_object_lines.specs.declared.decode.Error.{Error}
use Rattle.gix_object_lines.specs.declared.decode.Error.TheVariants.{FieldName}
use Rattle.gix_object_lines.specs.Person.{Person}
use Rattle.gix_object_commit.specs.declared.ref_iter.Token.{Token}
use Rattle.gix_object_commit.specs.declared.ref_iter.Token.TheVariants as token
use Rattle.gix_object_commit.specs.declared.ref_iter.reading_on.ParentIds.{ParentIds}
use Rattle.gix_object_commit.specs.declared.ref_iter.reading_on.Signatures.{Signatures}
use Rattle.gix_object_commit.specs.Tokens.{Part, Parent, Author, Committer, Message, Place, place_of, IsNext, GivesToken}

-- from here the reader gives these parts, one after the other, and is then there
abbrev pub Reads : Place → List Part → Place → Type 0
Reads here [] there = here ≡ there
Reads here (part ∷ parts) there = (next : Place) × IsNext here part next × Reads next parts there

-- these are the values that the parts from here to there hold
abbrev pub Tells : {X : Type 0} → (Part → Option X) → Place → List X → Place → Type 0
Tells told here values there =
    (parts : List Part) × Reads here parts there × (filter_map told parts ≡ values)

-- ---- the first value from here on

abbrev pub TellsFirst : {X : Type 0} → (Part → Option X) → Place → X → Type 0
TellsFirst told here value = (there : Place) × Tells told here (value ∷ []) there

-- the error if no part follows: `FieldName` at the input's end, and otherwise the one that the
-- reader gives
abbrev pub IsStop : Place → Error → Type 0
IsStop place error =
    ((place.input ≡ []) × (error ≡ FieldName))
    ⊎ ((after : Place) × GivesToken place (Some (Err error)) after)

-- no part from here on has a value, up to where no part follows
abbrev pub TellsNone : {X : Type 0} → (Part → Option X) → Place → Error → Type 0
TellsNone told here error = (there : Place) × Tells told here [] there × IsStop there error

-- ---- all values from here on, one after another

abbrev pub TellsNoMore : {X : Type 0} → (Part → Option X) → Place → Type 0
TellsNoMore {X} told here =
    (values : List X) (there : Place) → Tells told here values there → values ≡ []

-- the next value, and where the reader is then; nothing if none follows, and then nothing again
abbrev pub GivesTold : {X : Type 0} → (Part → Option X) → Place → Option X → Place → Type 0
GivesTold told before None after = TellsNoMore told before × TellsNoMore told after
GivesTold told before (Some value) after = Tells told before (value ∷ []) after

abbrev pub ids_place : ParentIds → Place
ids_place ids = place_of ids.tokens

abbrev pub signatures_place : Signatures → Place
signatures_place signatures = place_of signatures.tokens

-- ---- what a part holds

abbrev pub parent_told : Part → Option Id
parent_told (Parent id) = Some id
parent_told _ = None

abbrev pub author_told : Part → Option Person
author_told (Author person) = Some person
author_told _ = None

abbrev pub committer_told : Part → Option Person
committer_told (Committer person) = Some person
committer_told _ = None

abbrev pub actor_told : Part → Option Person
actor_told (Author person) = Some person
actor_told (Committer person) = Some person
actor_told _ = None

abbrev pub message_told : Part → Option (List ℕ)
message_told (Message message) = Some message
message_told _ = None

-- ---- the tree

abbrev pub tree_of : Token → Result ObjectId Error
tree_of (token.Tree id) = Ok id
tree_of _ = Err FieldName

abbrev pub tree_given : Option (Result Token Error) → Result ObjectId Error
tree_given None = Err FieldName
tree_given (Some (Ok token)) = tree_of token
tree_given (Some (Err error)) = Err error

-- one token is read, and this is the result
abbrev pub TakesTree : Place → Result ObjectId Error → Place → Type 0
TakesTree before result after =
    (given : Option (Result Token Error)) × GivesToken before given after
    × (result ≡ tree_given given)

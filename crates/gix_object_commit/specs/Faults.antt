-- Why bytes are no commit: the first of its parts that they lack.
use Rattle.std.specs.Prelude.{ℕ, ◌≡◌, ◌≢◌, ◌<◌, ◌⊎◌, List, length, [], ◌∷◌, ◌++◌, codes, flat_map, Option, None, All, IfSome}
use Rattle.gix_object_lines.specs.Actor.{IsUncut, IsUntimed}
use Rattle.gix_object_lines.specs.Bytes.{IsBeginningOf, Lacks}
use Rattle.gix_object_lines.specs.HexLine.{hex_line, IsHex, HexLineFault}
use Rattle.gix_object_lines.specs.declared.decode.Error.{Error}
use Rattle.gix_object_lines.specs.declared.decode.Error.TheVariants.{FieldName, HexDigits, LineEnd, InvalidActor, InvalidTime, Memory}
use Rattle.gix_object_lines.specs.Person.{Person, actor_line}
use Rattle.gix_object_commit.specs.Commit.{Field, line, encoding_text, field_text, IsPerson, IsField, IsFolded}
use Rattle.gix_object_commit.specs.Reading.{IsUnspaced}

-- ---- why a part doesn't begin the input

-- a line of this word, whose text is no actor's
abbrev pub PersonFault : List ℕ → List ℕ → Error → Type 0
PersonFault word input FieldName = (rest : List ℕ) → input ≢ word ++ 32 ∷ rest
PersonFault word input HexDigits = ⊥
PersonFault word input LineEnd = (rest : List ℕ) × (input ≡ word ++ 32 ∷ rest) × Lacks 10 rest
PersonFault word input InvalidActor =
    (text : List ℕ) × (rest : List ℕ) × (input ≡ word ++ 32 ∷ (text ++ 10 ∷ rest)) × Lacks 10 text
    × IsUncut text
PersonFault word input InvalidTime =
    (text : List ℕ) × (rest : List ℕ) × (input ≡ word ++ 32 ∷ (text ++ 10 ∷ rest)) × Lacks 10 text
    × IsUntimed text
PersonFault word input Memory = ⊥

-- the encoding's line begins, and has no end
abbrev pub EncodingFault : List ℕ → Error → Type 0
EncodingFault input error =
    (error ≡ LineEnd) × ((rest : List ℕ) × (input ≡ codes "encoding " ++ rest) × Lacks 10 rest)

-- a header's name and a space begin the text
pub record IsNamed (text name rest : List ℕ) : Type 0 where
  pub spelled : text ≡ name ++ 32 ∷ rest
  pub some : name ≢ []
  pub one_word : Lacks 32 name
  pub in_line : Lacks 10 name

-- no header's name begins the input; or one does, and its value doesn't end
abbrev pub HeaderFault : List ℕ → Error → Type 0
HeaderFault input FieldName = (name rest : List ℕ) → ¬ IsNamed input name rest
HeaderFault input HexDigits = ⊥
HeaderFault input LineEnd = (name : List ℕ) × (text : List ℕ) × IsNamed input name text
    × ((value rest : List ℕ) → IsFolded value → IsUnspaced rest → text ≢ value ++ 10 ∷ rest)
HeaderFault input InvalidActor = ⊥
HeaderFault input InvalidTime = ⊥
HeaderFault input Memory = ⊥

-- ---- what follows the parts that are there

pub record IsBehindTree (hex_len : ℕ) (input rest : List ℕ) : Type 0 where
  pub digits : List ℕ
  pub hex : IsHex hex_len digits
  pub spelled : input ≡ hex_line (codes "tree") digits ++ rest

-- some parents, and perhaps more
pub record AreParents (hex_len : ℕ) (input rest : List ℕ) : Type 0 where
  pub parents : List (List ℕ)
  pub hex : All (IsHex hex_len) parents
  pub spelled : input ≡ flat_map (hex_line (codes "parent")) parents ++ rest

pub record IsBehindParents (hex_len : ℕ) (input rest : List ℕ) : Type 0 where
  pub after_tree : List ℕ
  pub tree : IsBehindTree hex_len input after_tree
  pub parents : AreParents hex_len after_tree rest
  pub no_more : ¬ IsBeginningOf (codes "parent ") rest

pub record IsPersonLine (word input rest : List ℕ) : Type 0 where
  pub person : Person
  pub fits : IsPerson person
  pub spelled : input ≡ line word (actor_line person) ++ rest

pub record IsBehindAuthor (hex_len : ℕ) (input rest : List ℕ) : Type 0 where
  pub after_parents : List ℕ
  pub parents : IsBehindParents hex_len input after_parents
  pub author : IsPersonLine (codes "author") after_parents rest

pub record IsBehindCommitter (hex_len : ℕ) (input rest : List ℕ) : Type 0 where
  pub after_author : List ℕ
  pub author : IsBehindAuthor hex_len input after_author
  pub committer : IsPersonLine (codes "committer") after_author rest

pub record IsBehindEncoding (hex_len : ℕ) (input rest : List ℕ) : Type 0 where
  pub after_committer : List ℕ
  pub committer : IsBehindCommitter hex_len input after_committer
  pub encoding : Option (List ℕ)
  pub in_line : IfSome encoding (Lacks 10)
  pub spelled : after_committer ≡ encoding_text encoding ++ rest
  pub untold : encoding ≡ None → ¬ IsBeginningOf (codes "encoding ") after_committer

-- some headers, and perhaps more; no line goes on with the last of them
pub record AreHeaders (input rest : List ℕ) : Type 0 where
  pub fields : List Field
  pub fit : All IsField fields
  pub spelled : input ≡ flat_map field_text fields ++ rest
  pub ended : (fields ≡ []) ⊎ IsUnspaced rest

-- ---- what takes memory: each parent but the first, and each header

pub record HasTwoParents (hex_len : ℕ) (input : List ℕ) : Type 0 where
  pub rest : List ℕ
  pub some : AreParents hex_len input rest
  pub two : 1 < length some.parents

pub record HasHeader (input : List ℕ) : Type 0 where
  pub rest : List ℕ
  pub some : AreHeaders input rest
  pub one : some.fields ≢ []

-- memory is taken for a second parent or for a header, and all before it is read
pub data TakesMemory (hex_len : ℕ) (input : List ℕ) : Type 0 where
  ForParents : (rest : List ℕ) → IsBehindTree hex_len input rest → HasTwoParents hex_len rest
      → TakesMemory hex_len input
  ForHeaders : (rest : List ℕ) → IsBehindEncoding hex_len input rest → HasHeader rest
      → TakesMemory hex_len input

-- ---- the first part that fails, after those that are read

-- after some parents a line begins as one, and is none
pub record ParentFault (hex_len : ℕ) (input : List ℕ) (error : Error) : Type 0 where
  pub rest : List ℕ
  pub before : AreParents hex_len input rest
  pub begins : IsBeginningOf (codes "parent ") rest
  pub fault : HexLineFault (codes "parent") hex_len rest error

-- after some headers comes neither another nor the empty line
pub record HeadersFault (input : List ℕ) (error : Error) : Type 0 where
  pub rest : List ℕ
  pub before : AreHeaders input rest
  pub no_message : (message : List ℕ) → rest ≢ 10 ∷ message
  pub fault : HeaderFault rest error

pub data CommitFault (hex_len : ℕ) (input : List ℕ) (error : Error) : Type 0 where
  InTree : HexLineFault (codes "tree") hex_len input error → CommitFault hex_len input error
  InParents : (rest : List ℕ) → IsBehindTree hex_len input rest → ParentFault hex_len rest error
      → CommitFault hex_len input error
  InAuthor : (rest : List ℕ) → IsBehindParents hex_len input rest
      → PersonFault (codes "author") rest error → CommitFault hex_len input error
  InCommitter : (rest : List ℕ) → IsBehindAuthor hex_len input rest
      → PersonFault (codes "committer") rest error → CommitFault hex_len input error
  InEncoding : (rest : List ℕ) → IsBehindCommitter hex_len input rest → EncodingFault rest error
      → CommitFault hex_len input error
  InHeaders : (rest : List ℕ) → IsBehindEncoding hex_len input rest → HeadersFault rest error
      → CommitFault hex_len input error
  -- a growth of the lists of parents or headers was refused
  NoMemory : error ≡ Memory → TakesMemory hex_len input → CommitFault hex_len input error

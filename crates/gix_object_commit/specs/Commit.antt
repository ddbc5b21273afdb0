-- The content of a commit (git-hash-object, `-t commit`; git-fast-import, "commit"; Git User
-- Manual, "Commit Object"): lines for the tree and the parents, for who made the change and who
-- committed it, perhaps one for the message's encoding, further headers, an empty line and the
-- message. A header's value of several lines has a space before each line but the first
-- (gitformat-signature, "commit signatures").
use Rattle.std.specs.Prelude.{ℕ, Bool, false, ◌≡◌, ◌≢◌, ◌==◌, ◌&&◌, List, [], ◌∷◌, ◌++◌, codes, flat_map, if◌then◌else◌, Option, None, Some, All, IfSome}
use Rattle.gix_object_lines.specs.Bytes.{Lacks}
use Rattle.gix_object_lines.specs.HexLine.{hex_line, IsHex}
use Rattle.gix_object_lines.specs.Actor.{SpellsActor}
use Rattle.gix_object_lines.specs.Person.{Person, actor_line}

-- a further header, its value as the commit has it
pub record Field : Type 0 where
  pub name : List ℕ
  pub value : List ℕ

-- the parts of a commit, ids in their digits
pub record Parts : Type 0 where
  pub tree : List ℕ
  pub parents : List (List ℕ)
  pub author : Person
  pub committer : Person
  pub encoding : Option (List ℕ)
  pub headers : List Field
  pub message : List ℕ

-- ---- how each part is spelled

-- a word, a space, a text and a line feed
abbrev pub line : List ℕ → List ℕ → List ℕ
line word text = word ++ 32 ∷ (text ++ 10 ∷ [])

abbrev pub encoding_text : Option (List ℕ) → List ℕ
encoding_text None = []
encoding_text (Some name) = line (codes "encoding") name

abbrev pub field_text : Field → List ℕ
field_text field = line field.name field.value

abbrev pub commit_text : Parts → List ℕ
commit_text parts =
    hex_line (codes "tree") parts.tree
    ++ (flat_map (hex_line (codes "parent")) parts.parents
    ++ (line (codes "author") (actor_line parts.author)
    ++ (line (codes "committer") (actor_line parts.committer)
    ++ (encoding_text parts.encoding
    ++ (flat_map field_text parts.headers
    ++ 10 ∷ parts.message)))))

-- ---- what each part may be

-- a value as a header has it: with a space after each of its line feeds
abbrev pub folded : List ℕ → List ℕ
folded value = flat_map (λ byte. if byte == 10 then 10 ∷ 32 ∷ [] else byte ∷ []) value

abbrev pub IsFolded : List ℕ → Type 0
IsFolded text = (value : List ℕ) × (text ≡ folded value)

-- the text without each space after a line feed; `fed` if one precedes the text
abbrev pub unfolded_behind : Bool → List ℕ → List ℕ
unfolded_behind fed [] = []
unfolded_behind fed (byte ∷ rest) =
    if fed && byte == 32 then unfolded_behind false rest
    else byte ∷ unfolded_behind (byte == 10) rest

-- what a header has, without them; for a folded value, the value
abbrev pub unfolded : List ℕ → List ℕ
unfolded text = unfolded_behind false text

abbrev pub IsPerson : Person → Type 0
IsPerson person = SpellsActor (actor_line person) person.name person.email person.time

pub record IsField (field : Field) : Type 0 where
  pub named : field.name ≢ []
  pub name_one_word : Lacks 32 field.name
  pub name_in_line : Lacks 10 field.name
  pub value_folded : IsFolded field.value

-- the first header is named as the encoding's line is
abbrev pub IsEncodingFirst : List Field → Type 0
IsEncodingFirst [] = ⊥
IsEncodingFirst (field ∷ _) = field.name ≡ codes "encoding"

-- the input spells these parts, its ids in so many digits
pub record SpellsCommit (hex_len : ℕ) (input : List ℕ) (parts : Parts) : Type 0 where
  pub spelled : input ≡ commit_text parts
  pub tree : IsHex hex_len parts.tree
  pub parents : All (IsHex hex_len) parts.parents
  pub author : IsPerson parts.author
  pub committer : IsPerson parts.committer
  pub encoding : IfSome parts.encoding (Lacks 10)
  pub headers : All IsField parts.headers
  -- a line for the encoding is read as that
  pub no_encoding : parts.encoding ≡ None → ¬ IsEncodingFirst parts.headers

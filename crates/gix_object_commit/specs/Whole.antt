-- Bytes that are a commit, and the part that ends one.
use Rattle.std.specs.Prelude.{ℕ, ◌≡◌, Bool, true, false, List, [], ◌∷◌, ◌++◌, map, Option, None, Some}
use Rattle.std.specs.List.{AllZip}
use Rattle.gix_hash.specs.Id.{Id}
use Rattle.gix_hash.specs.Views.{IsHexOfId}
use Rattle.gix_hash.specs.declared.kind.Kind.{Kind}
use Rattle.gix_hash.specs.Kind.{hex_len}
use Rattle.gix_object_commit.specs.Commit.{Field, Parts, SpellsCommit}
use Rattle.gix_object_commit.specs.ReadingOn.{Reads}
use Rattle.gix_object_commit.specs.Tokens.{Part, Tree, Parent, Author, Committer, Encoding, Header, Message, Place}

abbrev pub IsCommit : Kind → List ℕ → Type 0
IsCommit kind input = (parts : Parts) × SpellsCommit (hex_len kind) input parts

-- ---- the tokens that hold these parts, each once and in their order

abbrev pub encoding_tokens : Option (List ℕ) → List Part
encoding_tokens None = []
encoding_tokens (Some name) = Encoding name ∷ []

abbrev pub header_tokens : List Field → List Part
header_tokens fields = map (λ field. Header field) fields

abbrev pub parent_tokens : List Id → List Part
parent_tokens ids = map (λ id. Parent id) ids

pub record TellsParts (parts : Parts) (tokens : List Part) : Type 0 where
  pub tree : Id
  pub parents : List Id
  pub tree_spelled : IsHexOfId parts.tree tree
  pub parents_spelled : AllZip IsHexOfId parts.parents parents
  pub in_order : tokens
      ≡ Tree tree ∷ (parent_tokens parents ++ (Author parts.author ∷ (Committer parts.committer
      ∷ (encoding_tokens parts.encoding
      ++ (header_tokens parts.headers ++ Message parts.message ∷ [])))))

abbrev pub is_message : Part → Bool
is_message (Tree id) = false
is_message (Parent id) = false
is_message (Author person) = false
is_message (Committer person) = false
is_message (Encoding name) = false
is_message (Header field) = false
is_message (Message message) = true

-- from here the reader gives parts without an error, and the last of them is a message, with which
-- the input ends
abbrev pub ReadsToMessage : Place → Type 0
ReadsToMessage here =
    (parts : List Part) × (message : List ℕ) × (there : Place)
    × Reads here (parts ++ Message message ∷ []) there

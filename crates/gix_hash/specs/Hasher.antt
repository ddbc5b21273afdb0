-- Digests of messages (FIPS 180-4, by the definitions of the crates `sha1` and `sha2`), and the ids
-- that Git gives by them: an object's id is the digest of its kind, a space, its length in decimal,
-- a zero byte and its content.
use Rattle.std.specs.Prelude.{ℕ, List, [], ◌∷◌, ◌++◌, codes}
use Rattle.sha1.specs.Sha1.{sha1}
use Rattle.sha2.specs.Sha256.{sha256}
use Rattle.gix_hash.specs.declared.kind.Kind.{Kind}
use Rattle.gix_hash.specs.declared.kind.Kind.TheVariants.{Sha1, Sha256}
use Rattle.gix_hash.specs.Id.{Id, digits_of}

-- the digest of a message
abbrev pub digest_of : Kind → List ℕ → List ℕ
digest_of Sha1 message = sha1 message
digest_of Sha256 message = sha256 message

-- the id that is the digest of a message
abbrev pub id_of_message : Kind → List ℕ → Id
id_of_message kind message = record { kind = kind; digits = digits_of (digest_of kind message) }

-- the text that Git digests for a blob without content
abbrev pub empty_blob_text : List ℕ
empty_blob_text = codes "blob 0" ++ 0 ∷ []

-- the text that Git digests for a tree without entries
abbrev pub empty_tree_text : List ℕ
empty_tree_text = codes "tree 0" ++ 0 ∷ []

-- The written forms of names, actors and values, and the limits.
use Rattle.std.specs.Prelude.{ℕ, ◌≡◌, ◌≤◌, Bool, false, not, ◌&&◌, ◌||◌, [], ◌∷◌, ◌++◌, length, nat_le, nat_lt, ◌==◌, bytes_eq, codes, Some, IsTrue}
use Rattle.std.specs.List.{list_any, list_all, before_first}
use Rattle.std.specs.Char.{is_ascii_digit}
use Rattle.std.specs.Str.{is_utf8}
use Rattle.std.specs.FinMap.{get, contains_key}
use Rattle.history_model.specs.Bytes.{Bytes, begins, ends, has_byte, has_twice, is_empty, is_decimal, digits_value}
use Rattle.gix_object_lines.specs.NameTest.{is_partial_name}
use Rattle.history_model.specs.FileMap.{FileMap, IsFileMap}
use Rattle.history_model.specs.Objects.{Actor, CommitValue, TagValue, Value, StoredCommit, StoredTag, StoredBytes, StoredFolder, content_of}
use Rattle.gix_hash.specs.Id.{Id}
use Rattle.gix_hash.specs.Kind.{hex_len, kind_number}
use Rattle.gix_hash.specs.Order.{id_eq}
use Rattle.history_model.specs.Repository.{LogEntry, Reference, Repository}
use Rattle.gix_hash.specs.declared.kind.Kind.{Kind}

-- the most bytes of any object's content
abbrev pub max_content : ℕ
max_content = 16_777_216

abbrev pub max_path : ℕ
max_path = 4_096

abbrev pub max_name : ℕ
max_name = 1_024

abbrev pub max_title : ℕ
max_title = 1_024

-- the most bytes of an actor's name or email
abbrev pub max_actor_part : ℕ
max_actor_part = 512

abbrev pub max_seconds : ℕ
max_seconds = 9_223_372_036_854_775_807

abbrev pub max_parents : ℕ
max_parents = 64

-- ---- names of references (git-check-ref-format)

-- the prefix of all names, of branches, and of tags
abbrev pub refs_front : Bytes
refs_front = codes "refs/"

abbrev pub heads_front : Bytes
heads_front = codes "refs/heads/"

abbrev pub tags_front : Bytes
tags_front = codes "refs/tags/"

-- a name that a repository may hold, or a private one: valid in Git, below `refs/`, in UTF-8, and
-- within the limit
abbrev pub is_name : Bytes → Bool
is_name name =
    is_partial_name name && begins refs_front name && is_utf8 name
    && nat_le (length name) max_name

-- a name of a single worktree (git-worktree)
abbrev pub is_private : Bytes → Bool
is_private name =
    begins (codes "refs/bisect/") name || begins (codes "refs/worktree/") name
    || begins (codes "refs/rewritten/") name

abbrev pub is_branch : Bytes → Bool
is_branch name = is_name name && begins heads_front name

-- What follows `refs/tags/` in a tag's name is not `@` and doesn't begin with `-`.
abbrev pub is_tag_name : Bytes → Bool
is_tag_name rest =
    is_name (tags_front ++ rest) && not (bytes_eq rest (codes "@"))
    && not (begins (codes "-") rest)

-- ---- actors

-- an email, or a name that is not empty: no `<`, `>`, zero byte, tab, CR or LF, and no space at
-- either end
abbrev pub is_actor_part : Bytes → Bool
is_actor_part part = not (list_any (λ b. has_byte b (60 ∷ 62 ∷ 0 ∷ 9 ∷ 13 ∷ 10 ∷ [])) part)
    && not (begins (32 ∷ []) part) && not (ends (32 ∷ []) part)
    && nat_le (length part) max_actor_part

abbrev pub is_seconds : Bytes → Bool
is_seconds word = is_decimal word && nat_le (digits_value word) max_seconds

-- a sign and four digits, the last two below 60
abbrev pub is_offset : Bytes → Bool
is_offset (sign ∷ a ∷ b ∷ c ∷ d ∷ []) =
    (sign == 43 || sign == 45) && list_all is_ascii_digit (a ∷ b ∷ c ∷ d ∷ []) && nat_lt c 54
    && not (bytes_eq (sign ∷ a ∷ b ∷ c ∷ d ∷ []) (codes "-0000"))
is_offset _ = false

abbrev pub is_actor : Actor → Bool
is_actor actor =
    not (is_empty actor.name) && is_actor_part actor.name && is_actor_part actor.email
    && nat_le actor.seconds max_seconds && is_offset actor.offset

-- the message up to its first line feed
abbrev pub title : Bytes → Bytes
title message = before_first (λ b. b == 10) message

-- ---- values and moves

-- an id of the kind: as many digits as the kind has, each 0 to 15
abbrev pub is_id : Kind → Id → Bool
is_id kind id =
    kind_number id.kind == kind_number kind && length id.digits == hex_len kind
    && list_all (λ d. nat_lt d 16) id.digits

abbrev pub is_commit_form : Kind → CommitValue → Bool
is_commit_form kind commit =
    list_all (is_id kind) commit.parents && nat_le (length commit.parents) max_parents
    && not (has_twice id_eq commit.parents)
    && is_actor commit.author && is_actor commit.committer
    && nat_le (length (title commit.message)) max_title

abbrev pub is_tag_form : Kind → TagValue → Bool
is_tag_form kind tag =
    is_id kind tag.target && is_tag_name tag.name && is_actor tag.tagger
    && not (is_empty tag.message) && nat_le (length (title tag.message)) max_title

-- a file map, its paths within the limit
pub record IsWrittenFiles (files : FileMap) : Type 0 where
  pub map : IsFileMap files
  pub limit : (path : Bytes) → IsTrue (contains_key files path) → length path ≤ max_path

abbrev pub HasForm : Kind → Value → Type 0
HasForm kind (StoredCommit commit) =
    IsTrue (is_commit_form kind commit) × IsWrittenFiles commit.files
HasForm kind (StoredTag tag) = IsTrue (is_tag_form kind tag)
HasForm kind (StoredBytes bytes) = Unit {0}
HasForm kind (StoredFolder files) = IsWrittenFiles files

-- the value is in written form, within the limits
abbrev pub IsWrittenValue : Kind → Value → Type 0
IsWrittenValue kind value = HasForm kind value × (length (content_of kind value) ≤ max_content)

abbrev pub is_log_entry : Kind → LogEntry → Bool
is_log_entry kind entry = is_id kind entry.before && is_id kind entry.after && is_actor entry.actor
    && not (has_byte 10 entry.message) && nat_le (length entry.message) max_title

abbrev pub is_reference : Kind → Reference → Bool
is_reference kind ref = is_id kind ref.id && list_all (is_log_entry kind) ref.moves

-- ---- a repository

-- HEAD's branch, the names and the values are in written form, within the limits.
pub record IsWritten (r : Repository) : Type 0 where
  pub branch : IsTrue (is_branch r.branch)
  pub names : (name : Bytes) (ref : Reference) → get r.names name ≡ Some ref
      → IsTrue (is_name name && not (is_private name) && is_reference r.kind ref)
  pub values : (id : Id) (value : Value) → get r.objects id ≡ Some value
      → IsWrittenValue r.kind value

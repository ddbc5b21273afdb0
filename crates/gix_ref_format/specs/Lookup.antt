-- Names as they are looked up in `packed-refs` (gitrevisions, "<refname>"; git-worktree, "Refs").
use Rattle.std.specs.Prelude.{ℕ, ◌==◌, Bool, ◌||◌, List, [], ◌∷◌, ◌++◌, drop, codes, if◌then◌else◌, Option, Some, None, option_and_then}
use Rattle.std.specs.Option.{option_or}
use Rattle.gix_object_lines.specs.NameTest.{begins, is_capitals}
use Rattle.gix_ref_format.specs.Packed.{Record}
use Rattle.gix_ref_format.specs.PackedBuffer.{hit}

-- names of which each worktree has its own
abbrev pub is_own : List ℕ → Bool
is_own name =
    is_capitals name || begins (codes "refs/bisect/") name
    || begins (codes "refs/rewritten/") name || begins (codes "refs/worktree/") name

-- what follows the first slash
abbrev pub behind_slash : List ℕ → Option (List ℕ)
behind_slash [] = None
behind_slash (byte ∷ rest) = if byte == 47 then Some rest else behind_slash rest

-- what follows the front of a worktree: `main-worktree/`, or `worktrees/<worktree>/`
abbrev pub in_worktree : List ℕ → Option (List ℕ)
in_worktree name =
    if begins (codes "main-worktree/") name then Some (drop 14 name)
    else if begins (codes "worktrees/") name then behind_slash (drop 10 name)
    else None

-- the name by which a record may be found for it, given what follows a worktree's front: own names
-- have none
abbrev pub key_by : List ℕ → Option (List ℕ) → Option (List ℕ)
key_by name None = if is_own name then None else Some name
key_by name (Some rest) =
    if is_own rest then None else if begins (codes "refs/") rest then Some rest else Some name

abbrev pub packed_key : List ℕ → Option (List ℕ)
packed_key name = key_by name (in_worktree name)

-- the record of a full name
abbrev pub packed_hit : List Record → List ℕ → Option Record
packed_hit records name = option_and_then (hit records) (packed_key name)

-- a name that no rule completes
abbrev pub is_complete : List ℕ → Bool
is_complete name =
    begins (codes "refs/") name || begins (codes "main-worktree/") name
    || begins (codes "worktrees/") name || is_capitals name

-- a word between other texts
abbrev pub placed : List ℕ → List ℕ → List ℕ → List ℕ
placed front word back = front ++ (word ++ back)

abbrev pub remote_names : List ℕ → List (List ℕ)
remote_names word =
    placed (codes "refs/remotes/") word [] ∷ placed (codes "refs/remotes/") word (codes "/HEAD")
    ∷ []

abbrev pub branch_names : List ℕ → List (List ℕ)
branch_names word = placed (codes "refs/heads/") word [] ∷ remote_names word

abbrev pub tag_names : List ℕ → List (List ℕ)
tag_names word = placed (codes "refs/tags/") word [] ∷ branch_names word

abbrev pub word_names : List ℕ → List (List ℕ)
word_names word = placed (codes "refs/") word [] ∷ tag_names word

-- the names that a word may mean, in the order in which they are tried
abbrev pub lookup_names : List ℕ → List (List ℕ)
lookup_names word = if is_complete word then word ∷ [] else word_names word

-- the record of the first name that has one
abbrev pub first_hit : List Record → List (List ℕ) → Option Record
first_hit records [] = None
first_hit records (name ∷ names) = option_or (packed_hit records name) (first_hit records names)

-- Where the files of names are, and those of their logs and of packed records
-- (gitrepository-layout; git-worktree, "Refs").
use Rattle.std.specs.Prelude.{ℕ, ◌-◌, ◌||◌, List, length, take, drop, codes, if◌then◌else◌, Option, Some, None}
use Rattle.gix_ref_file.specs.Tree.{under}
use Rattle.gix_hash.specs.declared.kind.Kind.{Kind}
use Rattle.gix_object_lines.specs.NameTest.{begins, is_capitals}
use Rattle.gix_ref_format.specs.Lookup.{is_own, behind_slash}

-- the hash function of a repository, the folder of a worktree of it, and the folder that its
-- worktrees share
pub record Base : Type 0 where
  pub kind : Kind
  pub git : List ℕ
  pub common : List ℕ

-- a folder, and a path below it
pub record Home : Type 0 where
  pub folder : List ℕ
  pub path : List ℕ

abbrev pub shared_home : Base → List ℕ → Home
shared_home b path = record { folder = b.common; path = path }

-- what follows `main-worktree/` is a name of the main worktree, whose folder is the shared one
abbrev pub main_home : Base → List ℕ → List ℕ → Home
main_home b name rest =
    if is_capitals rest || begins (codes "refs/") rest then shared_home b rest
    else shared_home b name

-- what precedes the rest, without the slash between them
abbrev pub front_of : List ℕ → List ℕ → List ℕ
front_of name rest = take (length name - length rest - 1) name

-- what follows `worktrees/<worktree>/` is a name of that worktree, whose folder has the path of
-- this front
abbrev pub linked_home : Base → List ℕ → Option (List ℕ) → Home
linked_home b name None = shared_home b name
linked_home b name (Some rest) =
    if is_own rest then record { folder = under b.common (front_of name rest); path = rest }
    else if begins (codes "refs/") rest then shared_home b rest
    else shared_home b name

-- the folder and the path in it that belong to a full name
abbrev pub home : Base → List ℕ → Home
home b name =
    if is_own name then record { folder = b.git; path = name }
    else if begins (codes "main-worktree/") name then main_home b name (drop 14 name)
    else if begins (codes "worktrees/") name then linked_home b name (behind_slash (drop 10 name))
    else shared_home b name

abbrev pub place_in : Home → List ℕ
place_in h = under h.folder h.path

abbrev pub log_place_in : Home → List ℕ
log_place_in h = under (under h.folder (codes "logs")) h.path

-- where the file of a full name is
abbrev pub place : Base → List ℕ → List ℕ
place b name = place_in (home b name)

-- where its log is
abbrev pub log_place : Base → List ℕ → List ℕ
log_place b name = log_place_in (home b name)

-- where the packed records are
abbrev pub packed_place : Base → List ℕ
packed_place b = under b.common (codes "packed-refs")

-- Worked examples: streams, and what a run over them writes from a fresh repository.
use Rattle.std.specs.Prelude.{ℕ, ◌≡◌, ◌++◌, false, List, [], ◌∷◌, codes, replicate, IsTrue}
use Rattle.std.specs.List.{flat_map, list_all}
use Rattle.std.specs.FinMap.{empty, entries, from_entries}
use Rattle.history_model.specs.Bytes.{Bytes, line}
use Rattle.history_model.specs.FileMap.{FileMap, Content, Graft, edited}
use Rattle.history_model.specs.Objects.{Actor, CommitValue}
use Rattle.history_model.specs.Repository.{Repository, first_branch, fresh}
use Rattle.history_model.specs.Commands.{ActorLine, Command, CommitCommand, New}
use Rattle.history_model.specs.Replies.{Reply}
use Rattle.history_model.specs.Runs.{Runs}
use Rattle.history_model.specs.laws.Determined.{have_no_fault, is_sure}
use Rattle.gix_hash.specs.declared.kind.Kind.TheVariants.{Sha1}
use Rattle.history_model.specs.declared.FileKind.TheVariants.{File, Exec}
use Rattle.history_model.specs.declared.End.TheVariants.{Input, Refused as ByRefusal}

-- ---- the output of a stream

-- A run over the whole stream, from a fresh repository, writes the output and ends at the end of
-- the input. No call of the files failed, no reply is a fault, and each command has only one reply.
abbrev pub Gives : Bytes → Bytes → Type 0
Gives stream output = (commands : List Command) × (replies : List Reply) × (new : Repository)
    × Runs (Unit {0}) ⊥ (fresh Sha1) commands replies stream output Input false new
    × IsTrue (have_no_fault replies) × IsTrue (list_all is_sure commands)

-- The stream is refused before any command, and the repository stays as it was.
abbrev pub Refuses : Bytes → Bytes → Type 0
Refuses stream output =
    Runs (Unit {0}) ⊥ (fresh Sha1) [] [] stream output ByRefusal false (fresh Sha1)

abbrev pub lines : List Bytes → Bytes
lines texts = flat_map line texts

-- ---- the first commit

abbrev pub sample_line : ActorLine
sample_line =
    record { name = codes "A"; email = codes "a@b"; seconds = codes "1"; offset = codes "+0000" }

abbrev pub sample_actor : Actor
sample_actor = record { name = codes "A"; email = codes "a@b"; seconds = 1; offset = codes "+0000" }

-- a commit without files
abbrev pub first_command : CommitCommand
first_command = record {
  name = first_branch;
  expect = New;
  parents = [];
  edits = [];
  author = sample_line;
  committer = sample_line;
  message = codes "one";
}

abbrev pub first_commit : CommitValue
first_commit =
    record {
      parents =
          [];
      author = sample_actor;
      committer = sample_actor;
      message = codes "one";
      files = empty;
    }

-- who wrote it, and the message
abbrev pub signed_lines : List Bytes
signed_lines =
    codes "author 1 3 1 +0000" ∷ codes "A" ∷ codes "a@b" ∷ codes "committer 1 3 1 +0000"
    ∷ codes "A" ∷ codes "a@b" ∷ codes "message 3" ∷ codes "one" ∷ []

abbrev pub first_stream : Bytes
first_stream =
    lines
    (codes "commit refs/heads/main new" ∷ signed_lines
    ++ codes "end" ∷ codes "files main" ∷ codes "show main" ∷ [])

abbrev pub first_output : Bytes
first_output =
    lines (codes "ok commit d39b036c797dcd9c0210b66a094ee846a3bc4fd9" ∷ codes "ok files 0"
    ∷ codes "ok show commit d39b036c797dcd9c0210b66a094ee846a3bc4fd9"
    ∷ codes "tree 4b825dc642cb6eb9a060e54bf8d69288fbee4904" ∷ codes "parents 0" ∷ signed_lines)

-- ---- a commit of one file

abbrev pub empty_file_stream : Bytes
empty_file_stream =
    lines
    (codes "commit refs/heads/main new" ∷ codes "put file 1 0" ∷ codes "a" ∷ [] ∷ signed_lines
    ++ codes "end" ∷ codes "files main" ∷ [])

abbrev pub empty_file_output : Bytes
empty_file_output =
    lines (codes "ok commit fb528dad2ef010714e9765003d2252f671eb3c3c" ∷ codes "ok files 1"
    ∷ codes "file e69de29bb2d1d6434b8b29ae775ad8c2e48c5391 1" ∷ codes "a" ∷ [])

abbrev pub hello_stream : Bytes
hello_stream =
    lines (codes "commit refs/heads/main new" ∷ codes "put file 1 5" ∷ codes "a" ∷ codes "hello"
    ∷ signed_lines ++ codes "end" ∷ codes "files main" ∷ codes "show main path 1" ∷ codes "a" ∷ [])

abbrev pub hello_output : Bytes
hello_output =
    lines (codes "ok commit 66685e2ab14c48f6b22dfeca748179d40cfc74f0" ∷ codes "ok files 1"
    ∷ codes "file b6fc4c620b67d95f953a5c1c1230aaab5db5a1b0 1" ∷ codes "a"
    ∷ codes "ok show content file b6fc4c620b67d95f953a5c1c1230aaab5db5a1b0 5" ∷ codes "hello"
    ∷ [])

-- ---- trees and lines

abbrev pub content : Bytes → Content
content bytes = record { kind = File; bytes = bytes }

-- in the order of their paths' bytes
abbrev pub three_files : List (Bytes × Content)
three_files =
    (codes "a.b", content (codes "1")) ∷ (codes "a/c", content (codes "2"))
    ∷ (codes "a0", record { kind = Exec; bytes = codes "3" }) ∷ []

-- ---- grafts

abbrev pub lib_list : List (Bytes × Content)
lib_list = (codes "lib/x", content (codes "1")) ∷ (codes "lib/y/z", content (codes "2")) ∷ []

-- the other commit's files
abbrev pub lib_files : FileMap
lib_files = from_entries lib_list

-- a graft into no files makes these
abbrev pub GraftMakes : Bytes → Bytes → List (Bytes × Content) → Type 0
GraftMakes path source made = entries (edited empty (Graft path source lib_files)) ≡ made

-- the byte `x` so many times
abbrev pub xs : ℕ → Bytes
xs n = replicate n 120

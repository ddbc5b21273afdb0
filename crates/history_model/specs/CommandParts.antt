-- What a command contains: names, words, paths, actors, times and contents.
use Rattle.std.specs.Prelude.{List, [], ◌∷◌, ◌++◌, map, Option, Some, None, option_to_list, bytes_eq, codes, if◌then◌else◌}
use Rattle.std.specs.List.{flat_map}
use Rattle.history_model.specs.Bytes.{Bytes, is_empty}
use Rattle.history_model.specs.Repository.{Repository}
use Rattle.history_model.specs.Words.{head_word}
use Rattle.history_model.specs.Commands.{Command, Commit, Tag, Move, Rename, Delete, Switch, Names, Files, Past, Log, Show, Expect, Any, At, ActorLine, EditLine, PutLine, RemoveLine, RemoveFileLine, GraftLine, Order, NewestSince, OldestSince}
use Rattle.history_model.specs.Spelling.{item_target}
use Rattle.history_model.specs.Meaning.{branch_or_name, past_name}

-- ---- names

-- HEAD doesn't count as a name
abbrev pub unless_head : Bytes → List Bytes
unless_head name = if bytes_eq name head_word then [] else name ∷ []

-- nor does `refs`, the folder of all names
abbrev pub folder_name : Bytes → List Bytes
folder_name folder = if bytes_eq folder (codes "refs") then [] else folder ∷ []

-- the names in the command, without HEAD and the folder `refs`
abbrev pub names_in : Repository → Command → List Bytes
names_in r (Commit c) = unless_head c.name
names_in r (Tag c) = c.name ∷ []
names_in r (Move c) = map (λ to. to.name) c.to
names_in r (Rename from to) = from ∷ to ∷ []
names_in r (Delete name at) = name ∷ []
names_in r (Switch name) = name ∷ []
names_in r (Names folder) = flat_map folder_name (option_to_list folder)
names_in r (Past word) = if bytes_eq word head_word then [] else past_name r word ∷ []
names_in r _ = []

abbrev pub option_expect : Option Bytes → Expect
option_expect None = Any
option_expect (Some word) = At word

-- the names, each with what is expected of it
abbrev pub expected : Repository → Command → List (Bytes × Expect)
expected r (Commit c) = (branch_or_name r c.name, c.expect) ∷ []
expected r (Tag c) = (c.name, c.expect) ∷ []
expected r (Move c) = map (λ to. (to.name, to.expect)) c.to
expected r (Delete name at) = (name, option_expect at) ∷ []
expected r _ = []

-- the names that will hold an id after the command
abbrev pub targets : Repository → Command → List Bytes
targets r (Commit c) = branch_or_name r c.name ∷ []
targets r (Tag c) = c.name ∷ []
targets r (Move c) = map (λ to. to.name) c.to
targets r (Rename from to) = to ∷ []
targets r _ = []

-- ---- words

abbrev pub at_word : Expect → List Bytes
at_word (At word) = word ∷ []
at_word _ = []

abbrev pub edit_words : EditLine → List Bytes
edit_words (GraftLine path word source) = word ∷ []
edit_words _ = []

-- the words that must mean a commit
abbrev pub words_in : Command → List Bytes
words_in (Commit c) = at_word c.expect ++ (c.parents ++ flat_map edit_words c.edits)
words_in (Tag c) = at_word c.expect ++ c.word ∷ []
words_in (Move c) = flat_map (λ to. at_word to.expect ++ to.word ∷ []) c.to
words_in (Delete name at) = option_to_list at
words_in (Files word) = word ∷ []
words_in (Log c) = map item_target c.items
words_in (Show word path) = word ∷ []
words_in _ = []

-- ---- paths, actors, times and contents

-- an empty source means all files of the other commit, and is no path
abbrev pub source_paths : Bytes → List Bytes
source_paths source = if is_empty source then [] else source ∷ []

abbrev pub edit_paths : EditLine → List Bytes
edit_paths (PutLine kind path bytes) = path ∷ []
edit_paths (RemoveLine path) = path ∷ []
edit_paths (RemoveFileLine path) = path ∷ []
edit_paths (GraftLine path word source) = path ∷ source_paths source

abbrev pub paths_in : Command → List Bytes
paths_in (Commit c) = flat_map edit_paths c.edits
paths_in (Log c) = c.paths
paths_in (Show word path) = option_to_list path
paths_in _ = []

abbrev pub actors_in : Command → List ActorLine
actors_in (Commit c) = c.author ∷ c.committer ∷ []
actors_in (Tag c) = c.tagger ∷ []
actors_in (Move c) = c.actor ∷ []
actors_in _ = []

abbrev pub since_words : Order → List Bytes
since_words (NewestSince seconds) = seconds ∷ []
since_words (OldestSince seconds) = seconds ∷ []
since_words _ = []

abbrev pub put_contents : EditLine → List Bytes
put_contents (PutLine kind path bytes) = bytes ∷ []
put_contents _ = []

abbrev pub contents_in : Command → List Bytes
contents_in (Commit c) = flat_map put_contents c.edits
contents_in _ = []

-- The words of each line of the command grammar, and the lengths of the fields that follow it.
use Rattle.std.specs.Prelude.{[], ◌≡◌, ℕ, ◌^◌, Bool, List, ◌∷◌, ◌++◌, map, nat_lt, codes, decimal, IsTrue}
use Rattle.std.specs.List.{list_all, flat_map}
use Rattle.history_model.specs.Bytes.{Bytes}
use Rattle.history_model.specs.Commands.{Command}
use Rattle.history_model.specs.Spelling.{Part, Line, parts_of, has_spelling, expect_words, kind_word, at_words, option_list, order_words, parents_word, item_word}
use Rattle.history_model.specs.Lines.{Role, Heading, first_line, Author, Committer, Tagger, Mover, CommitHeading, ParentHeading, PutHeading, RemoveHeading, RemoveFileHeading, GraftHeading, ActorHeading, MessageHeading, EndHeading, TagHeading, MoveHeading, ToHeading, RenameHeading, DeleteHeading, SwitchHeading, PackHeading, IndexHeading, NamesHeading, FilesHeading, PastHeading, LogHeading, ShowHeading}

abbrev pub role_word : Role → Bytes
role_word Author = codes "author"
role_word Committer = codes "committer"
role_word Tagger = codes "tagger"
role_word Mover = codes "actor"

abbrev pub size_words : ℕ → List Bytes
size_words path = codes "path" ∷ decimal path ∷ []

abbrev pub words_of : Heading → List Bytes
words_of (CommitHeading name expect) = codes "commit" ∷ name ∷ expect_words expect
words_of (ParentHeading word) = codes "parent" ∷ word ∷ []
words_of (PutHeading kind path content) =
    codes "put" ∷ kind_word kind ∷ decimal path ∷ decimal content ∷ []
words_of (RemoveHeading path) = codes "remove" ∷ decimal path ∷ []
words_of (RemoveFileHeading path) = codes "remove-file" ∷ decimal path ∷ []
words_of (GraftHeading path word source) =
    codes "graft" ∷ decimal path ∷ word ∷ decimal source ∷ []
words_of (ActorHeading role name email seconds offset) =
    role_word role ∷ decimal name ∷ decimal email ∷ seconds ∷ offset ∷ []
words_of (MessageHeading message) = codes "message" ∷ decimal message ∷ []
words_of EndHeading = codes "end" ∷ []
words_of (TagHeading name expect word) = codes "tag" ∷ name ∷ (expect_words expect ++ word ∷ [])
words_of MoveHeading = codes "move" ∷ []
words_of (ToHeading name expect word) = codes "to" ∷ name ∷ (expect_words expect ++ word ∷ [])
words_of (RenameHeading old new) = codes "rename" ∷ old ∷ new ∷ []
words_of (DeleteHeading name at) = codes "delete" ∷ name ∷ at_words at
words_of (SwitchHeading name) = codes "switch" ∷ name ∷ []
words_of PackHeading = codes "pack" ∷ []
words_of IndexHeading = codes "index" ∷ []
words_of (NamesHeading folder) = codes "names" ∷ option_list folder
words_of (FilesHeading word) = codes "files" ∷ word ∷ []
words_of (PastHeading name) = codes "past" ∷ name ∷ []
words_of (LogHeading order first_parents items paths) =
    codes "log" ∷ (order_words order
    ++ (parents_word first_parents ∷ (map item_word items ++ flat_map size_words paths)))
words_of (ShowHeading word path) = codes "show" ∷ word ∷ flat_map size_words (option_list path)

-- the lengths of the fields that follow the line
abbrev pub sizes : Heading → List ℕ
sizes (PutHeading kind path content) = path ∷ content ∷ []
sizes (RemoveHeading path) = path ∷ []
sizes (RemoveFileHeading path) = path ∷ []
sizes (GraftHeading path word source) = path ∷ source ∷ []
sizes (ActorHeading role name email seconds offset) = name ∷ email ∷ []
sizes (MessageHeading message) = message ∷ []
sizes (LogHeading order first_parents items paths) = paths
sizes (ShowHeading word path) = option_list path
sizes _ = []

abbrev pub are_sizes : List ℕ → Bool
are_sizes = list_all (λ size. nat_lt size (2 ^ 64))

-- The parts of a command begin with its first line.
abbrev pub FirstLinesBegin : Type 0
FirstLinesBegin = (command : Command) → IsTrue (has_spelling command)
    → (more : List Part) × (parts_of command ≡ Line (words_of (first_line command)) ∷ more)

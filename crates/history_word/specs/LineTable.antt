-- The lines of the command grammar as a table: where each may be, where the next line then is, and
-- which words say which line.
use Rattle.std.specs.Prelude.{◌≡◌, ◌↔◌, ℕ, ◌^◌, Bool, true, false, ◌&&◌, ◌==◌, List, [], ◌∷◌, nat_lt, Option, Some, None, option_map, bytes_eq, codes, if◌then◌else◌, IsTrue}
use Rattle.std.specs.Option.{option_and_then}
use Rattle.history_model.specs.Bytes.{Bytes, is_decimal, digits_value}
use Rattle.history_model.specs.Commands.{Expect, Any, New, At, Order, Breadth, Newest, Oldest, NewestSince, OldestSince, Date, Topological, LogItem, Tip, Hidden}
use Rattle.history_model.specs.Spelling.{are_items}
use Rattle.history_model.specs.Lines.{Role, Author, Committer, Tagger, Mover, Heading, CommitHeading, ParentHeading, PutHeading, RemoveHeading, RemoveFileHeading, GraftHeading, ActorHeading, MessageHeading, EndHeading, TagHeading, MoveHeading, ToHeading, RenameHeading, DeleteHeading, SwitchHeading, PackHeading, IndexHeading, NamesHeading, FilesHeading, PastHeading, LogHeading, ShowHeading}
use Rattle.history_model.specs.LineWords.{words_of, sizes, are_sizes}
use Rattle.history_model.specs.declared.FileKind.{FileKind}
use Rattle.history_model.specs.declared.FileKind.TheVariants.{File, Exec, Link}

-- where in a command the next line is
pub data Place : Type 0 where
  Start : Place
  Parents : Place
  Edits : Place
  ToCommitter : Place
  ToTagger : Place
  -- after `move`, and after a line `to`
  ToFirst : Place
  ToMore : Place
  ToMessage : Place
  ToEnd : Place
  Done : Place

-- the lines that may follow the parents and the edits of a commit
abbrev pub next_edit : Heading → Option Place
next_edit (PutHeading kind path content) = Some Edits
next_edit (RemoveHeading path) = Some Edits
next_edit (RemoveFileHeading path) = Some Edits
next_edit (GraftHeading path word source) = Some Edits
next_edit (ActorHeading Author name email seconds offset) = Some ToCommitter
next_edit _ = None

-- the lines that may be at a place, and the place of the line after each
abbrev pub next : Place → Heading → Option Place
next Start (CommitHeading name expect) = Some Parents
next Start (TagHeading name expect word) = Some ToTagger
next Start MoveHeading = Some ToFirst
next Start (RenameHeading old new) = Some Done
next Start (DeleteHeading name at) = Some Done
next Start (SwitchHeading name) = Some Done
next Start PackHeading = Some Done
next Start IndexHeading = Some Done
next Start (NamesHeading folder) = Some Done
next Start (FilesHeading word) = Some Done
next Start (PastHeading name) = Some Done
next Start (LogHeading order first_parents items paths) = if are_items items then Some Done else None
next Start (ShowHeading word path) = Some Done
next Parents (ParentHeading word) = Some Parents
next Parents heading = next_edit heading
next Edits heading = next_edit heading
next ToCommitter (ActorHeading Committer name email seconds offset) = Some ToMessage
next ToTagger (ActorHeading Tagger name email seconds offset) = Some ToMessage
next ToFirst (ToHeading name expect word) = Some ToMore
next ToMore (ToHeading name expect word) = Some ToMore
next ToMore (ActorHeading Mover name email seconds offset) = Some ToMessage
next ToMessage (MessageHeading message) = Some ToEnd
next ToEnd EndHeading = Some Done
next _ _ = None

-- ---- reading a line

-- a length: a number below 2 ^ 64 in decimal, without a leading zero
abbrev pub number_of : Bytes → Option ℕ
number_of word =
    if is_decimal word && nat_lt (digits_value word) (2 ^ 64) then Some (digits_value word)
    else None

abbrev pub kind_of : Bytes → Option FileKind
kind_of word = if bytes_eq word (codes "file") then Some File
    else if bytes_eq word (codes "exec") then Some Exec
    else if bytes_eq word (codes "link") then Some Link
    else None

abbrev pub expect_of : List Bytes → Option Expect
expect_of (first ∷ []) = if bytes_eq first (codes "any") then Some Any
    else if bytes_eq first (codes "new") then Some New
    else None
expect_of (first ∷ word ∷ []) = if bytes_eq first (codes "at") then Some (At word) else None
expect_of _ = None

-- a line without more words
abbrev pub end_of_words : Heading → List Bytes → Option Heading
end_of_words heading [] = Some heading
end_of_words heading _ = None

-- a line with one more word
abbrev pub word_of_words : (Bytes → Heading) → List Bytes → Option Heading
word_of_words heading (word ∷ []) = Some (heading word)
word_of_words heading _ = None

-- a line with one more length
abbrev pub size_of_words : (ℕ → Heading) → List Bytes → Option Heading
size_of_words heading (size ∷ []) = option_map heading (number_of size)
size_of_words heading _ = None

abbrev pub commit_of_words : List Bytes → Option Heading
commit_of_words (name ∷ words) = option_map (CommitHeading name) (expect_of words)
commit_of_words _ = None

abbrev pub put_of_words : List Bytes → Option Heading
put_of_words (kind ∷ path ∷ content ∷ []) =
    option_and_then (λ k.
    option_and_then (λ m. option_map (PutHeading k m) (number_of content)) (number_of path))
    (kind_of kind)
put_of_words _ = None

abbrev pub graft_of_words : List Bytes → Option Heading
graft_of_words (path ∷ word ∷ source ∷ []) =
    option_and_then (λ m. option_map (GraftHeading m word) (number_of source)) (number_of path)
graft_of_words _ = None

abbrev pub actor_of_words : Role → List Bytes → Option Heading
actor_of_words role (name ∷ email ∷ seconds ∷ offset ∷ []) =
    option_and_then (λ m. option_map (λ n. ActorHeading role m n seconds offset) (number_of email))
    (number_of name)
actor_of_words role _ = None

abbrev pub show_of_words : List Bytes → Option Heading
show_of_words (word ∷ []) = Some (ShowHeading word None)
show_of_words (word ∷ path ∷ size ∷ []) =
    if bytes_eq path (codes "path")
    then option_map (λ n. ShowHeading word (Some n)) (number_of size)
    else None
show_of_words _ = None

-- a name, what is expected of it, and a word
abbrev pub target_of_words : (Bytes → Expect → Bytes → Heading) → List Bytes → Option Heading
target_of_words heading (name ∷ first ∷ word ∷ []) =
    option_map (λ expect. heading name expect word) (expect_of (first ∷ []))
target_of_words heading (name ∷ first ∷ second ∷ word ∷ []) =
    option_map (λ expect. heading name expect word) (expect_of (first ∷ second ∷ []))
target_of_words heading _ = None

abbrev pub rename_of_words : List Bytes → Option Heading
rename_of_words (old ∷ new ∷ []) = Some (RenameHeading old new)
rename_of_words _ = None

abbrev pub delete_of_words : List Bytes → Option Heading
delete_of_words (name ∷ any ∷ []) =
    if bytes_eq any (codes "any") then Some (DeleteHeading name None) else None
delete_of_words (name ∷ at ∷ word ∷ []) =
    if bytes_eq at (codes "at") then Some (DeleteHeading name (Some word)) else None
delete_of_words _ = None

abbrev pub names_of_words : List Bytes → Option Heading
names_of_words [] = Some (NamesHeading None)
names_of_words (folder ∷ []) = Some (NamesHeading (Some folder))
names_of_words _ = None

-- ---- of a log: its order, whether it follows only first parents, its items, and its paths'
-- lengths

abbrev pub since_of : (Bytes → Order) → List Bytes → Option (Order × List Bytes)
since_of order [] = None
since_of order (seconds ∷ words) = Some (order seconds, words)

-- the order, and the words after it
abbrev pub order_of : List Bytes → Option (Order × List Bytes)
order_of [] = None
order_of (first ∷ words) =
    if bytes_eq first (codes "breadth") then Some (Breadth, words)
    else if bytes_eq first (codes "newest") then Some (Newest, words)
    else if bytes_eq first (codes "oldest") then Some (Oldest, words)
    else if bytes_eq first (codes "newest-since") then since_of NewestSince words
    else if bytes_eq first (codes "oldest-since") then since_of OldestSince words
    else if bytes_eq first (codes "date") then Some (Date, words)
    else if bytes_eq first (codes "topological") then Some (Topological, words)
    else None

abbrev pub first_parents_of : Bytes → Option Bool
first_parents_of word = if bytes_eq word (codes "first") then Some true
    else if bytes_eq word (codes "all") then Some false
    else None

-- `+` and the word of a tip, or `-` and one that is hidden
abbrev pub item_of : Bytes → Option LogItem
item_of [] = None
item_of (sign ∷ word) = if sign == 43 then Some (Tip word)
    else if sign == 45 then Some (Hidden word)
    else None

abbrev pub Items : Type 0
Items = List LogItem × List ℕ

-- lengths, each after the word `path`
abbrev pub paths_of : List Bytes → Option (List ℕ)
paths_of [] = Some []
paths_of (first ∷ []) = None
paths_of (first ∷ size ∷ words) =
    if bytes_eq first (codes "path")
    then option_and_then (λ n. option_map (λ ns. n ∷ ns) (paths_of words)) (number_of size)
    else None

abbrev pub with_item : Option LogItem → Option Items → Option (List ℕ) → Option Items
with_item None more paths = option_map (λ ns. ([], ns)) paths
with_item (Some item) more paths = option_map (λ items. (item ∷ items.0, items.1)) more

abbrev pub items_of : List Bytes → Option Items
items_of [] = Some ([], [])
items_of (word ∷ words) = with_item (item_of word) (items_of words) (paths_of (word ∷ words))

abbrev pub walk_of_words : Order → List Bytes → Option Heading
walk_of_words order [] = None
walk_of_words order (parents ∷ words) =
    option_and_then
    (λ first. option_map (λ items. LogHeading order first items.0 items.1) (items_of words))
    (first_parents_of parents)

abbrev pub log_of_words : List Bytes → Option Heading
log_of_words words = option_and_then (λ order. walk_of_words order.0 order.1) (order_of words)

-- ---- what the words of a line say, by the first word

-- the lines of the commands that move names, and of those that read them
abbrev pub name_heading_of : Bytes → List Bytes → Option Heading
name_heading_of first words =
    if bytes_eq first (codes "tag") then target_of_words TagHeading words
    else if bytes_eq first (codes "tagger") then actor_of_words Tagger words
    else if bytes_eq first (codes "move") then end_of_words MoveHeading words
    else if bytes_eq first (codes "to") then target_of_words ToHeading words
    else if bytes_eq first (codes "actor") then actor_of_words Mover words
    else if bytes_eq first (codes "rename") then rename_of_words words
    else if bytes_eq first (codes "delete") then delete_of_words words
    else if bytes_eq first (codes "switch") then word_of_words SwitchHeading words
    else if bytes_eq first (codes "pack") then end_of_words PackHeading words
    else if bytes_eq first (codes "index") then end_of_words IndexHeading words
    else if bytes_eq first (codes "names") then names_of_words words
    else if bytes_eq first (codes "past") then word_of_words PastHeading words
    else if bytes_eq first (codes "log") then log_of_words words
    else None

abbrev pub heading_of : List Bytes → Option Heading
heading_of [] = None
heading_of (first ∷ words) =
    if bytes_eq first (codes "commit") then commit_of_words words
    else if bytes_eq first (codes "parent") then word_of_words ParentHeading words
    else if bytes_eq first (codes "put") then put_of_words words
    else if bytes_eq first (codes "remove") then size_of_words RemoveHeading words
    else if bytes_eq first (codes "remove-file") then size_of_words RemoveFileHeading words
    else if bytes_eq first (codes "graft") then graft_of_words words
    else if bytes_eq first (codes "author") then actor_of_words Author words
    else if bytes_eq first (codes "committer") then actor_of_words Committer words
    else if bytes_eq first (codes "message") then size_of_words MessageHeading words
    else if bytes_eq first (codes "end") then end_of_words EndHeading words
    else if bytes_eq first (codes "files") then word_of_words FilesHeading words
    else if bytes_eq first (codes "show") then show_of_words words
    else name_heading_of first words

-- Words are read as a line exactly if they are that line's words, and its lengths are below 2 ^ 64.
abbrev pub WordsAreHeadings : Type 0
WordsAreHeadings = (words : List Bytes) (heading : Heading)
    → (heading_of words ≡ Some heading)
    ↔ ((words ≡ words_of heading) × IsTrue (are_sizes (sizes heading)))

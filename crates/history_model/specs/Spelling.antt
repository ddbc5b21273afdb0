-- The bytes that spell a command: lines of words, and fields of a given length.
use Rattle.std.specs.Prelude.{ℕ, ◌^◌, Bool, true, false, not, ◌&&◌, List, [], ◌∷◌, ◌++◌, length, map, nat_le, nat_lt, Option, Some, None, codes, decimal, if◌then◌else◌}
use Rattle.std.specs.List.{flat_map, join_with_byte, list_all, list_any}
use Rattle.history_model.specs.Bytes.{Bytes, line, has_byte, is_empty}
use Rattle.history_model.specs.Commands.{Command, Commit, Tag, Move, Rename, Delete, Switch, Pack, Index, Names, Files, Past, Log, Show, Expect, Any, New, At, ActorLine, EditLine, PutLine, RemoveLine, RemoveFileLine, GraftLine, CommitCommand, To, Order, Breadth, Newest, Oldest, NewestSince, OldestSince, Date, Topological, LogItem, Tip, Hidden}
use Rattle.history_model.specs.declared.FileKind.{FileKind}
use Rattle.history_model.specs.declared.FileKind.TheVariants.{File, Exec, Link}

-- a line of words, or a field of bytes; a line feed follows each
pub data Part : Type 0 where
  Line : List Bytes → Part
  Field : Bytes → Part

-- the words of a line are separated by one space
abbrev pub part_text : Part → Bytes
part_text (Line words) = line (join_with_byte 32 words)
part_text (Field bytes) = line bytes

abbrev pub parts_text : List Part → Bytes
parts_text parts = flat_map part_text parts

abbrev pub len_word : Bytes → Bytes
len_word bytes = decimal (length bytes)

-- ---- parts that several commands have

abbrev pub expect_words : Expect → List Bytes
expect_words Any = codes "any" ∷ []
expect_words New = codes "new" ∷ []
expect_words (At word) = codes "at" ∷ word ∷ []

abbrev pub actor_parts : Bytes → ActorLine → List Part
actor_parts role actor =
    Line (role ∷ len_word actor.name ∷ len_word actor.email ∷ actor.seconds ∷ actor.offset ∷ [])
    ∷ Field actor.name ∷ Field actor.email ∷ []

abbrev pub message_parts : Bytes → List Part
message_parts message = Line (codes "message" ∷ len_word message ∷ []) ∷ Field message ∷ []

abbrev pub end_part : List Part
end_part = Line (codes "end" ∷ []) ∷ []

abbrev pub path_words : Bytes → List Bytes
path_words path = codes "path" ∷ len_word path ∷ []

abbrev pub option_list : {X : Type 0} → Option X → List X
option_list None = []
option_list (Some x) = x ∷ []

-- ---- a commit's parents and edits

abbrev pub parent_part : Bytes → Part
parent_part word = Line (codes "parent" ∷ word ∷ [])

abbrev pub kind_word : FileKind → Bytes
kind_word File = codes "file"
kind_word Exec = codes "exec"
kind_word Link = codes "link"

abbrev pub edit_parts : EditLine → List Part
edit_parts (PutLine kind path content) =
    Line (codes "put" ∷ kind_word kind ∷ len_word path ∷ len_word content ∷ []) ∷ Field path
    ∷ Field content ∷ []
edit_parts (RemoveLine path) = Line (codes "remove" ∷ len_word path ∷ []) ∷ Field path ∷ []
edit_parts (RemoveFileLine path) = Line (codes "remove-file" ∷ len_word path ∷ []) ∷ Field path ∷ []
edit_parts (GraftLine path word source) =
    Line (codes "graft" ∷ len_word path ∷ word ∷ len_word source ∷ []) ∷ Field path
    ∷ Field source ∷ []

-- what follows the edits of a commit
abbrev pub signed_parts : CommitCommand → List Part
signed_parts c =
    actor_parts (codes "author") c.author
    ++ (actor_parts (codes "committer") c.committer ++ (message_parts c.message ++ end_part))

-- ---- the lines of a move, a deletion and a log

abbrev pub to_part : To → Part
to_part to = Line (codes "to" ∷ to.name ∷ (expect_words to.expect ++ to.word ∷ []))

abbrev pub at_words : Option Bytes → List Bytes
at_words None = codes "any" ∷ []
at_words (Some word) = codes "at" ∷ word ∷ []

abbrev pub order_words : Order → List Bytes
order_words Breadth = codes "breadth" ∷ []
order_words Newest = codes "newest" ∷ []
order_words Oldest = codes "oldest" ∷ []
order_words (NewestSince seconds) = codes "newest-since" ∷ seconds ∷ []
order_words (OldestSince seconds) = codes "oldest-since" ∷ seconds ∷ []
order_words Date = codes "date" ∷ []
order_words Topological = codes "topological" ∷ []

abbrev pub parents_word : Bool → Bytes
parents_word first_parents = if first_parents then codes "first" else codes "all"

-- `+` and the word, or `-` and the word
abbrev pub item_word : LogItem → Bytes
item_word (Tip word) = 43 ∷ word
item_word (Hidden word) = 45 ∷ word

-- ---- all commands

abbrev pub parts_of : Command → List Part
parts_of (Commit c) = Line (codes "commit" ∷ c.name ∷ expect_words c.expect)
    ∷ (map parent_part c.parents ++ (flat_map edit_parts c.edits ++ signed_parts c))
parts_of (Tag c) = Line (codes "tag" ∷ c.name ∷ (expect_words c.expect ++ c.word ∷ []))
    ∷ (actor_parts (codes "tagger") c.tagger ++ (message_parts c.message ++ end_part))
parts_of (Move c) = Line (codes "move" ∷ [])
    ∷ (map to_part c.to
    ++ (actor_parts (codes "actor") c.actor ++ (message_parts c.message ++ end_part)))
parts_of (Rename from to) = Line (codes "rename" ∷ from ∷ to ∷ []) ∷ []
parts_of (Delete name at) = Line (codes "delete" ∷ name ∷ at_words at) ∷ []
parts_of (Switch name) = Line (codes "switch" ∷ name ∷ []) ∷ []
parts_of Pack = Line (codes "pack" ∷ []) ∷ []
parts_of Index = Line (codes "index" ∷ []) ∷ []
parts_of (Names folder) = Line (codes "names" ∷ option_list folder) ∷ []
parts_of (Files word) = Line (codes "files" ∷ word ∷ []) ∷ []
parts_of (Past name) = Line (codes "past" ∷ name ∷ []) ∷ []
parts_of (Log c) =
    Line
    (codes "log"
    ∷ (order_words c.order
    ++ (parents_word c.first_parents ∷ (map item_word c.items ++ flat_map path_words c.paths))))
    ∷ map Field c.paths
parts_of (Show word path) =
    Line (codes "show" ∷ word ∷ flat_map path_words (option_list path))
    ∷ map Field (option_list path)

abbrev pub spelling : Command → Bytes
spelling command = parts_text (parts_of command)

-- ---- what can be spelled

-- the most bytes of a line, without its line feed
abbrev pub max_line : ℕ
max_line = 4_096

-- a word is not empty and has no space or line feed
abbrev pub is_word : Bytes → Bool
is_word word = not (is_empty word) && not (has_byte 32 word) && not (has_byte 10 word)

-- A line is of words, within the limit. A field's length, given in its line, is below 2 ^ 64.
abbrev pub is_part : Part → Bool
is_part (Line words) = list_all is_word words && nat_le (length (join_with_byte 32 words)) max_line
is_part (Field bytes) = nat_lt (length bytes) (2 ^ 64)

abbrev pub is_tip : LogItem → Bool
is_tip (Tip word) = not (is_empty word)
is_tip (Hidden word) = false

abbrev pub item_target : LogItem → Bytes
item_target (Tip word) = word
item_target (Hidden word) = word

-- some item is a tip, and none is a sign alone
abbrev pub are_items : List LogItem → Bool
are_items items =
    list_any is_tip items && list_all (λ item. not (is_empty (item_target item))) items

-- a move has at least one line `to`, a log at least one tip
abbrev pub has_enough : Command → Bool
has_enough (Move c) = not (is_empty c.to)
has_enough (Log c) = are_items c.items
has_enough _ = true

-- the command has a spelling
abbrev pub has_spelling : Command → Bool
has_spelling command = list_all is_part (parts_of command) && has_enough command

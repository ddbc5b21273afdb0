-- When a command is refused. A test may assume that no earlier cause holds.
use Rattle.std.specs.Prelude.{Bool, true, false, not, ◌&&◌, ◌||◌, List, [], ◌∷◌, ◌++◌, length, map, find, filter, nat_lt, Option, Some, None, option_map, option_to_list, unwrap_or, is_none, bytes_eq}
use Rattle.std.specs.List.{list_any, flat_map}
use Rattle.std.specs.FinMap.{keys, get}
use Rattle.history_model.specs.Bytes.{Bytes, begins, has_byte, has_twice, is_empty}
use Rattle.history_model.specs.FileMap.{some_refused, has_below, is_below, is_path, grafted_paths, grafts_nothing}
use Rattle.history_model.specs.Objects.{content_of, id_of, StoredTag}
use Rattle.gix_hash.specs.Id.{Id}
use Rattle.gix_hash.specs.Order.{id_eq}
use Rattle.history_model.specs.Repository.{Repository, id_at, stands, is_tag, peeled}
use Rattle.history_model.specs.Forms.{heads_front, tags_front, is_name, is_private, is_tag_name, is_actor_part, is_seconds, is_offset, title, max_title, max_path, max_content, max_parents}
use Rattle.history_model.specs.Words.{WordMeaning, ReadsAs, Unborn, Unknown, Ambiguous, word_meaning, commit_of}
use Rattle.history_model.specs.Commands.{Command, Commit, Tag, Move, Rename, Delete, Switch, Past, Log, Show, Expect, New, At, ActorLine, Order, Breadth, Date, Topological, LogItem, Tip, Hidden}
use Rattle.history_model.specs.CommandParts.{names_in, words_in, expected, targets, paths_in, actors_in, since_words, contents_in}
use Rattle.history_model.specs.Meaning.{branch_or_name, past_name, name_commit, parents_of, first_files, word_files, edits_of, stored_by, new_tag, tag_rest}
use Rattle.history_model.specs.declared.Cause.{Cause}
use Rattle.history_model.specs.declared.Cause.TheVariants.{Syntax, Truncated, LineTooLong, BadName, PrivateName, NameTwice, UnknownWord, AmbiguousWord, UnbornHead, NotACommit, NoSuchName, Taken, NotExpected, Collides, HoldsTag, TooManyParents, DuplicateParent, BadPath, IsFolder, NoSuchPath, BadActor, BadTime, BadMessage, TooLarge, NothingMoves, OrderWithParents}

abbrev pub is_bad_place : Command → Bool
is_bad_place (Tag c) = not (begins tags_front c.name && is_tag_name (tag_rest c.name))
is_bad_place (Switch name) = not (begins heads_front name)
is_bad_place _ = false

abbrev pub is_name_twice : Command → Bool
is_name_twice (Move c) = has_twice bytes_eq (map (λ to. to.name) c.to)
is_name_twice (Rename from to) = bytes_eq from to
is_name_twice _ = false

abbrev pub is_unknown : WordMeaning → Bool
is_unknown Unknown = true
is_unknown _ = false

abbrev pub is_ambiguous : WordMeaning → Bool
is_ambiguous Ambiguous = true
is_ambiguous _ = false

abbrev pub is_unborn : WordMeaning → Bool
is_unborn Unborn = true
is_unborn _ = false

-- the word reads as the id of a blob or a tree
abbrev pub is_no_commit : Repository → WordMeaning → Bool
is_no_commit r (ReadsAs id) = is_none (peeled r id)
is_no_commit r _ = false

-- whether the test holds of one of the command's words
abbrev pub some_word : (WordMeaning → Bool) → Repository → Command → Bool
some_word test r command = list_any (λ word. test (word_meaning r word)) (words_in command)

abbrev pub is_at : Expect → Bool
is_at (At word) = true
is_at _ = false

-- the names that must exist
abbrev pub must_stand : Repository → Command → List Bytes
must_stand r (Rename from to) = from ∷ []
must_stand r (Delete name at) = name ∷ []
must_stand r (Past word) = past_name r word ∷ []
must_stand r command = map (λ e. e.0) (filter (λ e. is_at e.1) (expected r command))

abbrev pub is_new : Expect → Bool
is_new New = true
is_new _ = false

-- the names that must not exist
abbrev pub must_not_stand : Repository → Command → List Bytes
must_not_stand r (Rename from to) = to ∷ []
must_not_stand r command = map (λ e. e.0) (filter (λ e. is_new e.1) (expected r command))

abbrev pub same_id : Option Id → Option Id → Bool
same_id (Some a) (Some b) = id_eq a b
same_id None None = true
same_id _ _ = false

abbrev pub is_elsewhere : Repository → Bytes × Expect → Bool
is_elsewhere r (name, At word) = not (same_id (name_commit r name) (commit_of r word))
is_elsewhere r _ = false

-- whether one of the two names is a folder of the other
abbrev pub do_collide : Bytes → Bytes → Bool
do_collide a b = is_below a b || is_below b a

-- whether a name to be created collides with an existing name or with another of the command's
abbrev pub some_collide : Repository → Command → Bool
some_collide r command =
    list_any (λ made. list_any (do_collide made) (keys r.names ++ targets r command))
    (filter (λ name. not (stands r name)) (targets r command))

abbrev pub holds_tag : Repository → Command → Bool
holds_tag r (Commit c) = unwrap_or (option_map (is_tag r) (id_at r (branch_or_name r c.name))) false
holds_tag r _ = false

abbrev pub parents_in : Repository → Command → List Id
parents_in r (Commit c) = parents_of r c
parents_in r _ = []

abbrev pub is_bad_path : Bytes → Bool
is_bad_path path = not (is_path path) || nat_lt max_path (length path)

-- the paths at which the grafts would put files
abbrev pub grafted_in : Repository → Command → List Bytes
grafted_in r (Commit c) = flat_map grafted_paths (edits_of r c)
grafted_in r _ = []

-- a `remove-file` or a `show` of a path with files below it
abbrev pub meets_folder : Repository → Command → Bool
meets_folder r (Commit c) = some_refused (first_files r (parents_of r c)) (edits_of r c)
meets_folder r (Show word path) = list_any (has_below (word_files r word)) (option_to_list path)
meets_folder r _ = false

abbrev pub finds_no_path : Repository → Command → Bool
finds_no_path r (Show word path) =
    list_any (λ p. is_none (get (word_files r word) p)) (option_to_list path)
finds_no_path r (Commit c) = list_any grafts_nothing (edits_of r c)
finds_no_path r _ = false

abbrev pub is_bad_actor : ActorLine → Bool
is_bad_actor actor =
    is_empty actor.name || not (is_actor_part actor.name) || not (is_actor_part actor.email)

abbrev pub is_bad_time : Command → Bool
is_bad_time (Log c) = list_any (λ word. not (is_seconds word)) (since_words c.order)
is_bad_time command =
    list_any (λ actor. not (is_seconds actor.seconds) || not (is_offset actor.offset))
    (actors_in command)

abbrev pub is_bad_title : Bytes → Bool
is_bad_title text =
    is_empty text || nat_lt max_title (length text) || has_byte 9 text || has_byte 13 text
    || has_byte 0 text

abbrev pub is_bad_message : Command → Bool
is_bad_message (Commit c) = is_bad_title (title c.message)
is_bad_message (Tag c) = is_bad_title (title c.message)
is_bad_message (Move c) = is_bad_title (title c.message) || has_byte 10 c.message
is_bad_message _ = false

abbrev pub is_too_large : Repository → Command → Bool
is_too_large r command = list_any (λ content. nat_lt max_content (length content))
    (contents_in command ++ map (content_of r.kind) (stored_by r command))

abbrev pub moves_nothing : Repository → Command → Bool
moves_nothing r (Move c) = list_any (λ to. same_id (id_at r to.name) (commit_of r to.word)) c.to
moves_nothing r (Tag c) = same_id (id_at r c.name) (Some (id_of r.kind (StoredTag (new_tag r c))))
moves_nothing r (Switch name) = bytes_eq name r.branch
moves_nothing r _ = false

abbrev pub is_hidden : LogItem → Bool
is_hidden (Hidden word) = true
is_hidden (Tip word) = false

-- an order by time needs all parents; one by the count of children does if commits are hidden
abbrev pub wants_all_parents : Order → Bool → Bool
wants_all_parents Breadth hides = false
wants_all_parents Date hides = hides
wants_all_parents Topological hides = hides
wants_all_parents _ hides = true

abbrev pub is_wrong_order : Command → Bool
is_wrong_order (Log c) = c.first_parents && wants_all_parents c.order (list_any is_hidden c.items)
is_wrong_order _ = false

-- whether the cause holds of the command; `Syntax`, `Truncated` and `LineTooLong` hold of none
abbrev pub holds : Cause → Repository → Command → Bool
holds BadName r c = list_any (λ name. not (is_name name)) (names_in r c) || is_bad_place c
holds PrivateName r c = list_any is_private (names_in r c)
holds NameTwice r c = is_name_twice c
holds UnknownWord r c = some_word is_unknown r c
holds AmbiguousWord r c = some_word is_ambiguous r c
holds UnbornHead r c = some_word is_unborn r c
holds NotACommit r c = some_word (is_no_commit r) r c
holds NoSuchName r c = list_any (λ name. not (stands r name)) (must_stand r c)
holds Taken r c = list_any (stands r) (must_not_stand r c)
holds NotExpected r c = list_any (is_elsewhere r) (expected r c)
holds Collides r c = some_collide r c
holds HoldsTag r c = holds_tag r c
holds TooManyParents r c = nat_lt max_parents (length (parents_in r c))
holds DuplicateParent r c = has_twice id_eq (parents_in r c)
holds BadPath r c = list_any is_bad_path (paths_in c ++ grafted_in r c)
holds IsFolder r c = meets_folder r c
holds NoSuchPath r c = finds_no_path r c
holds BadActor r c = list_any is_bad_actor (actors_in c)
holds BadTime r c = is_bad_time c
holds BadMessage r c = is_bad_message c
holds TooLarge r c = is_too_large r c
holds NothingMoves r c = moves_nothing r c
holds OrderWithParents r c = is_wrong_order c
holds Syntax r c = false
holds Truncated r c = false
holds LineTooLong r c = false

abbrev pub in_order : List Cause
in_order =
    BadName ∷ PrivateName ∷ NameTwice ∷ UnknownWord ∷ AmbiguousWord ∷ UnbornHead ∷ NotACommit
    ∷ NoSuchName ∷ Taken ∷ NotExpected ∷ Collides
    ∷ HoldsTag ∷ TooManyParents ∷ DuplicateParent ∷ BadPath ∷ IsFolder ∷ NoSuchPath ∷ BadActor
    ∷ BadTime ∷ BadMessage ∷ TooLarge ∷ NothingMoves ∷ OrderWithParents ∷ []

abbrev pub first_cause : Repository → Command → Option Cause
first_cause r command = find (λ cause. holds cause r command) in_order

-- What a command's draft, and the line that was read, have of the command.
use Rattle.std.specs.Prelude.{◌≡◌, ℕ, ⊤, Bool, true, false, IsTrue, IsFalse, List, [], ◌∷◌, ◌++◌, Option, Some, None, option_map, map, IfSome, Vec}
use Rattle.std.specs.List.{AllZip}
use Rattle.std.specs.declared.alloc.Global.{Global}
use Rattle.history_model.specs.Bytes.{Bytes}
use Rattle.history_model.specs.CommandParts.{option_expect}
use Rattle.history_model.specs.Commands as model
use Rattle.history_model.specs.Spelling as spelling
use Rattle.history_model.specs.Lines as lines
use Rattle.history_word.specs.LineTable as table
use Rattle.history_word.specs.TableRuns as runs
use Rattle.history_word.specs.Fields.{Keeps}
use Rattle.history_word.specs.Sizes.{listed}
use Rattle.history_word.specs.Commands.{IsRename, IsDelete, IsExpect, AreEdits, IsActor, AreTos, IsTo, IsPath, IsOrder, IsLogItem, IsLog}
use Rattle.history_model.specs.Forms.{max_content}
use Rattle.history_word.specs.declared.command.Expect.{Expect}
use Rattle.history_word.specs.declared.command.Order.{Order}
use Rattle.history_word.specs.declared.command.LogItem.{LogItem}
use Rattle.history_word.specs.declared.logs.LogLine.{LogLine}
use Rattle.history_word.specs.declared.sizes.Sizes.{Sizes}
use Rattle.history_word.specs.declared.heading.Role.{Role}
use Rattle.history_word.specs.declared.heading.Role.TheVariants.{Author, Committer, Tagger, Mover}
use Rattle.history_word.specs.declared.heading.EditHeading.{EditHeading}
use Rattle.history_word.specs.declared.heading.EditHeading.TheVariants as edit
use Rattle.history_word.specs.declared.heading.Opening.{Opening}
use Rattle.history_word.specs.declared.heading.Opening.TheVariants as opening
use Rattle.history_word.specs.declared.heading.ActorHeading.{ActorHeading}
use Rattle.history_word.specs.declared.heading.Heading.{Heading}
use Rattle.history_word.specs.declared.heading.Heading.TheVariants as heading
use Rattle.history_word.specs.declared.place.Place.{Place}
use Rattle.history_word.specs.declared.place.Place.TheVariants as place
use Rattle.history_word.specs.declared.draft.CommitDraft.{CommitDraft}
use Rattle.history_word.specs.declared.command.To.{To}
use Rattle.history_word.specs.declared.draft.TagDraft.{TagDraft}
use Rattle.history_word.specs.declared.draft.MoveDraft.{MoveDraft}
use Rattle.history_word.specs.declared.draft.Draft.{Draft}
use Rattle.history_word.specs.declared.draft.Draft.TheVariants as draft

abbrev pub role_of : Role → lines.Role
role_of Author = lines.Author
role_of Committer = lines.Committer
role_of Tagger = lines.Tagger
role_of Mover = lines.Mover

abbrev pub place_of : Place → table.Place
place_of place.Start = table.Start
place_of place.Parents = table.Parents
place_of place.Edits = table.Edits
place_of place.Committer = table.ToCommitter
place_of place.Tagger = table.ToTagger
place_of place.ToFirst = table.ToFirst
place_of place.ToMore = table.ToMore
place_of place.Message = table.ToMessage
place_of place.End = table.ToEnd
place_of place.Done = table.Done

-- The line of an edit is this one. A word for which memory ran out may be any.
abbrev pub IsEditHeading : EditHeading → lines.Heading → Type 0
IsEditHeading (edit.Put kind path content) (lines.PutHeading k m n) =
    (kind ≡ k) × (path ≡ m) × (content ≡ n)
IsEditHeading (edit.Remove path) (lines.RemoveHeading n) = path ≡ n
IsEditHeading (edit.RemoveFile path) (lines.RemoveFileHeading n) = path ≡ n
IsEditHeading (edit.Graft path word source) (lines.GraftHeading m w n) =
    (path ≡ m) × IfSome word (λ x. x.items ≡ w) × (source ≡ n)
IsEditHeading _ _ = ⊥

-- The line is that of this log, whatever its paths are. A word for which memory ran out may be any.
pub record IsLogLine (line : LogLine) (log : model.LogCommand) : Type 0 where
  pub order : IfSome line.order (λ x. IsOrder x log.order)
  pub first_parents : line.first_parents ≡ log.first_parents
  pub items : IfSome line.items (λ all. AllZip IsLogItem all.items log.items)
  pub begins : IsTrue (spelling.are_items log.items)

-- a log with these words, without paths
abbrev pub log_of : model.Order → Bool → List model.LogItem → model.LogCommand
log_of order first_parents items =
    record { order = order; first_parents = first_parents; items = items; paths = [] }

-- The line of an actor is this one. A word for which memory ran out may be any.
abbrev pub IsActorHeading : ActorHeading → lines.Heading → Type 0
IsActorHeading line (lines.ActorHeading r m n s o) =
    (role_of line.role ≡ r) × (line.name ≡ m) × (line.email ≡ n)
    × IfSome line.seconds (λ word. word.items ≡ s) × IfSome line.offset (λ word. word.items ≡ o)
IsActorHeading _ _ = ⊥

-- a name to be moved to a word's commit
abbrev pub to_of : Bytes → model.Expect → Bytes → model.To
to_of name expect word = record { name = name; expect = expect; word = word }

-- The first line of a command is this one. A word for which memory ran out may be any.
abbrev pub IsOpening : Opening → lines.Heading → Type 0
IsOpening (opening.Commit name expect) (lines.CommitHeading n e) =
    IfSome name (λ word. word.items ≡ n) × IfSome expect (λ x. IsExpect x e)
IsOpening (opening.Tag target) (lines.TagHeading n e w) = IfSome target (λ x. IsTo x (to_of n e w))
IsOpening opening.Move lines.MoveHeading = ⊤
IsOpening (opening.Rename from to) (lines.RenameHeading old new) =
    IfSome from (λ word. word.items ≡ old) × IfSome to (λ word. word.items ≡ new)
IsOpening (opening.Delete name expect) (lines.DeleteHeading n at) =
    IfSome name (λ word. word.items ≡ n) × IfSome expect (λ x. IsExpect x (option_expect at))
IsOpening (opening.Files word) (lines.FilesHeading w) = IfSome word (λ x. x.items ≡ w)
IsOpening (opening.Show word) (lines.ShowHeading w None) = IfSome word (λ x. x.items ≡ w)
IsOpening (opening.ShowPath word path) (lines.ShowHeading w (Some n)) =
    IfSome word (λ x. x.items ≡ w) × (path ≡ n)
IsOpening opening.Names (lines.NamesHeading None) = ⊤
IsOpening (opening.NamesIn folder) (lines.NamesHeading (Some f)) = IfSome folder (λ x. x.items ≡ f)
IsOpening (opening.Past word) (lines.PastHeading w) = IfSome word (λ x. x.items ≡ w)
IsOpening (opening.Switch name) (lines.SwitchHeading n) = IfSome name (λ x. x.items ≡ n)
IsOpening opening.Pack lines.PackHeading = ⊤
IsOpening opening.Index lines.IndexHeading = ⊤
IsOpening (opening.Log line) (lines.LogHeading order first_parents items paths) =
    IsLogLine line (log_of order first_parents items) × (listed line.paths ≡ paths)
IsOpening _ _ = ⊥

-- The line is this one. A word for which memory ran out may be any.
abbrev pub IsHeading : Heading → lines.Heading → Type 0
IsHeading (heading.Opening line) h = IsOpening line h
IsHeading (heading.Parent word) (lines.ParentHeading w) = IfSome word (λ x. x.items ≡ w)
IsHeading (heading.To to) (lines.ToHeading n e w) = IfSome to (λ x. IsTo x (to_of n e w))
IsHeading (heading.Edit line) h = IsEditHeading line h
IsHeading (heading.Actor line) h = IsActorHeading line h
IsHeading (heading.Message size) (lines.MessageHeading n) = size ≡ n
IsHeading heading.End lines.EndHeading = ⊤
IsHeading _ _ = ⊥

-- What is read is what the words say; `None` if they say no line of an offered command.
abbrev pub Says : Option Heading → Option lines.Heading → Type 0
Says (Some line) (Some h) = IsHeading line h
Says (Some line) None = ⊥
Says None (Some h) = (p : Place) → runs.next_offered (place_of p) h ≡ None
Says None None = ⊤

-- The words begin with what is expected, and the others are left; `None` if they don't begin so.
abbrev pub SaysExpect : Option (Option Expect) → List Bytes → List Bytes → Type 0
SaysExpect (Some expect) words left = (e : model.Expect)
    × IfSome expect (λ x. IsExpect x e) × (words ≡ spelling.expect_words e ++ left)
SaysExpect None words left =
    (e : model.Expect) (more : List Bytes) → words ≡ spelling.expect_words e ++ more → ⊥

-- The words are a name, what is expected of it, and a word; `None` if they aren't.
abbrev pub SaysTarget : Option (Option To) → List Bytes → Type 0
SaysTarget (Some target) words = (name word : Bytes) × (e : model.Expect)
    × IfSome target (λ x. IsTo x (to_of name e word))
    × (words ≡ name ∷ (spelling.expect_words e ++ word ∷ []))
SaysTarget None words =
    (name word : Bytes) (e : model.Expect) → words ≡ name ∷ (spelling.expect_words e ++ word ∷ []) → ⊥

abbrev pub SaysLog : Option LogLine → Option lines.Heading → Type 0
SaysLog line h = Says (option_map (λ said. heading.Opening (opening.Log said)) line) h

-- The order is the one that the words begin with, and the others are left; `None` if they begin
-- with no order.
abbrev pub SaysOrder : Option (Option Order) → Option (model.Order × List Bytes) → List Bytes
    → Type 0
SaysOrder (Some order) (Some (o, words)) left = IfSome order (λ x. IsOrder x o) × (left ≡ words)
SaysOrder None None left = ⊤
SaysOrder _ _ _ = ⊥

-- The items and the paths' sizes are those of the words; `None` if the words are no such, or no
-- item is a tip.
abbrev pub SaysItems : Option (Option (Vec LogItem Global) × Sizes) → Option table.Items
    → Type 0
SaysItems (Some (items, sizes)) (Some (is, paths)) = IsTrue (spelling.are_items is)
    × IfSome items (λ all. AllZip IsLogItem all.items is) × (listed sizes ≡ paths)
SaysItems (Some items) None = ⊥
SaysItems None (Some (is, paths)) = IsFalse (spelling.are_items is)
SaysItems None None = ⊤

abbrev pub item_with : Bool → Bytes → model.LogItem
item_with true word = model.Tip word
item_with false word = model.Hidden word

-- the draft of a commit has these parts, except those for which memory ran out
pub record IsCommitDraft (draft : CommitDraft) (sent : model.CommitCommand) : Type 0 where
  pub name : IfSome draft.name (λ word. word.items ≡ sent.name)
  pub expect : IfSome draft.expect (λ x. IsExpect x sent.expect)
  pub parents : IfSome draft.parents (λ words. map (λ word. word.items) words.items ≡ sent.parents)
  pub edits : IfSome draft.edits (λ edits. AreEdits edits.items sent.edits)
  pub author : IfSome draft.author (λ actor. IsActor actor sent.author)
  pub committer : IfSome draft.committer (λ actor. IsActor actor sent.committer)
  pub message : IfSome draft.message (λ field. Keeps max_content field sent.message)

-- the name of a tag, what is expected of it, and the word of its commit
abbrev pub target_of : model.TagCommand → model.To
target_of sent = to_of sent.name sent.expect sent.word

-- the draft of a tag has these parts, except those for which memory ran out
pub record IsTagDraft (draft : TagDraft) (sent : model.TagCommand) : Type 0 where
  pub target : IfSome draft.target (λ x. IsTo x (target_of sent))
  pub tagger : IfSome draft.tagger (λ actor. IsActor actor sent.tagger)
  pub message : IfSome draft.message (λ field. Keeps max_content field sent.message)

-- the draft of a move has these parts, except those for which memory ran out
pub record IsMoveDraft (draft : MoveDraft) (sent : model.MoveCommand) : Type 0 where
  pub to : IfSome draft.to (λ all. AreTos all.items sent.to)
  pub actor : IfSome draft.actor (λ actor. IsActor actor sent.actor)
  pub message : IfSome draft.message (λ field. Keeps max_content field sent.message)

abbrev pub IsDraft : Draft → model.Command → Type 0
IsDraft (draft.Commit commit) (model.Commit sent) = IsCommitDraft commit sent
IsDraft (draft.Tag tag) (model.Tag sent) = IsTagDraft tag sent
IsDraft (draft.Move move) (model.Move sent) = IsMoveDraft move sent
IsDraft (draft.Rename rename) (model.Rename from to) = IfSome rename (λ x. IsRename x from to)
IsDraft (draft.Delete delete) (model.Delete name at) = IfSome delete (λ x. IsDelete x name at)
IsDraft (draft.Files word) (model.Files bytes) = IfSome word (λ x. x.items ≡ bytes)
IsDraft (draft.Show show) (model.Show word path) =
    IfSome show (λ x. (x.word.items ≡ word) × IsPath x.path path)
IsDraft draft.Names (model.Names None) = ⊤
IsDraft (draft.NamesIn folder) (model.Names (Some bytes)) = IfSome folder (λ x. x.items ≡ bytes)
IsDraft (draft.Past word) (model.Past bytes) = IfSome word (λ x. x.items ≡ bytes)
IsDraft (draft.Switch name) (model.Switch bytes) = IfSome name (λ x. x.items ≡ bytes)
IsDraft draft.Pack model.Pack = ⊤
IsDraft draft.Index model.Index = ⊤
IsDraft (draft.Log log) (model.Log sent) = IfSome log (λ x. IsLog x sent)
IsDraft _ _ = ⊥

-- ---- commands with one part more

abbrev pub with_parent : model.CommitCommand → Bytes → model.CommitCommand
with_parent sent word = record sent { parents = sent.parents ++ word ∷ [] }

abbrev pub with_edit : model.CommitCommand → model.EditLine → model.CommitCommand
with_edit sent edit = record sent { edits = sent.edits ++ edit ∷ [] }

abbrev pub with_to : model.MoveCommand → model.To → model.MoveCommand
with_to sent line = record sent { to = sent.to ++ line ∷ [] }

-- The command with this actor in that role, if it has such a role.
abbrev pub with_actor : Role → model.Command → model.ActorLine → model.Command
with_actor Author (model.Commit sent) actor = model.Commit (record sent { author = actor })
with_actor Committer (model.Commit sent) actor = model.Commit (record sent { committer = actor })
with_actor Tagger (model.Tag sent) actor = model.Tag (record sent { tagger = actor })
with_actor Mover (model.Move sent) actor = model.Move (record sent { actor = actor })
with_actor role sent actor = sent

-- The command with this message, if it has one.
abbrev pub with_message : model.Command → Bytes → model.Command
with_message (model.Commit sent) message = model.Commit (record sent { message = message })
with_message (model.Tag sent) message = model.Tag (record sent { message = message })
with_message (model.Move sent) message = model.Move (record sent { message = message })
with_message sent message = sent

-- the log with these paths
abbrev pub with_paths : model.LogCommand → List Bytes → model.LogCommand
with_paths sent paths = record sent { paths = paths }

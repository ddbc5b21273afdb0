-- How far a command has come, and what the readers of its lines and fields add to it.
use Rattle.std.specs.Prelude.{◌≡◌, ℕ, ◌<◌, IsTrue, List, [], ◌∷◌, ◌++◌, length, Option, Some, None, map, IfSome, Vec, codes}
use Rattle.std.specs.List.{flat_map, join_with_byte}
use Rattle.std.specs.declared.alloc.Global.{Global}
use Rattle.history_model.specs.Bytes.{Bytes, line}
use Rattle.history_model.specs.Commands as model
use Rattle.history_model.specs.Spelling as spelling
use Rattle.history_model.specs.Lines as lines
use Rattle.history_model.specs.LineWords as wording
use Rattle.history_word.specs.LineTable as table
use Rattle.history_word.specs.TableRuns as runs
use Rattle.history_word.specs.Commands.{IsEdit, IsActor, ArePaths, IsLog}
use Rattle.history_word.specs.Drafts.{place_of, IsEditHeading, IsLogLine, IsOpening, IsHeading, IsDraft, with_paths}
use Rattle.history_word.specs.Sizes.{listed}
use Rattle.history_word.specs.declared.command.Field.{Field}
use Rattle.history_word.specs.declared.command.Edit.{Edit}
use Rattle.history_word.specs.declared.command.ActorLine.{ActorLine}
use Rattle.history_word.specs.declared.command.LogCommand.{LogCommand}
use Rattle.history_word.specs.declared.logs.LogLine.{LogLine}
use Rattle.history_word.specs.declared.heading.EditHeading.{EditHeading}
use Rattle.history_word.specs.declared.heading.EditHeading.TheVariants as edit
use Rattle.history_word.specs.declared.heading.ActorHeading.{ActorHeading}
use Rattle.history_word.specs.declared.heading.Opening.{Opening}
use Rattle.history_word.specs.declared.heading.Opening.TheVariants as opening
use Rattle.history_word.specs.declared.heading.Heading.{Heading}
use Rattle.history_word.specs.declared.heading.Heading.TheVariants as heading
use Rattle.history_word.specs.declared.place.Place.{Place}
use Rattle.history_word.specs.declared.place.Place.TheVariants as place
use Rattle.history_word.specs.declared.draft.Draft.{Draft}

-- ---- a commit, a tag, and a move

abbrev pub to_parents : model.CommitCommand → List spelling.Part
to_parents c =
    spelling.Line (codes "commit" ∷ c.name ∷ spelling.expect_words c.expect)
    ∷ map spelling.parent_part c.parents

abbrev pub to_edits : model.CommitCommand → List spelling.Part
to_edits c = to_parents c ++ flat_map spelling.edit_parts c.edits

abbrev pub to_author : model.CommitCommand → List spelling.Part
to_author c = to_edits c ++ spelling.actor_parts (codes "author") c.author

abbrev pub to_committer : model.CommitCommand → List spelling.Part
to_committer c = to_author c ++ spelling.actor_parts (codes "committer") c.committer

abbrev pub to_tag : model.TagCommand → List spelling.Part
to_tag c =
    spelling.Line (codes "tag" ∷ c.name ∷ (spelling.expect_words c.expect ++ c.word ∷ [])) ∷ []

abbrev pub to_tagger : model.TagCommand → List spelling.Part
to_tagger c = to_tag c ++ spelling.actor_parts (codes "tagger") c.tagger

abbrev pub to_targets : model.MoveCommand → List spelling.Part
to_targets c = spelling.Line (codes "move" ∷ []) ∷ map spelling.to_part c.to

abbrev pub to_mover : model.MoveCommand → List spelling.Part
to_mover c = to_targets c ++ spelling.actor_parts (codes "actor") c.actor

-- the parts of a command that come before its message, if it has one, and those up to it
abbrev pub before_message : model.Command → Option (List spelling.Part)
before_message (model.Commit c) = Some (to_committer c)
before_message (model.Tag c) = Some (to_tagger c)
before_message (model.Move c) = Some (to_mover c)
before_message _ = None

abbrev pub to_message : model.Command → Option (List spelling.Part)
to_message (model.Commit c) = Some (to_committer c ++ spelling.message_parts c.message)
to_message (model.Tag c) = Some (to_tagger c ++ spelling.message_parts c.message)
to_message (model.Move c) = Some (to_mover c ++ spelling.message_parts c.message)
to_message _ = None

-- the command has enough parts, and the draft has what came of it
pub record HasEnough (d : Draft) (sent : model.Command) : Type 0 where
  pub enough : IsTrue (spelling.has_enough sent)
  pub has : IsDraft d sent

-- at this place these parts have come, and the draft has them
abbrev pub HasCome : Place → Draft → List spelling.Part → Type 0
HasCome place.Start d parts = parts ≡ []
HasCome place.Parents d parts =
    (sent : model.CommitCommand) × (parts ≡ to_parents sent) × IsDraft d (model.Commit sent)
    × (sent.edits ≡ [])
HasCome place.Edits d parts =
    (sent : model.CommitCommand) × (parts ≡ to_edits sent) × IsDraft d (model.Commit sent)
HasCome place.Committer d parts =
    (sent : model.CommitCommand) × (parts ≡ to_author sent) × IsDraft d (model.Commit sent)
HasCome place.Tagger d parts =
    (sent : model.TagCommand) × (parts ≡ to_tag sent) × IsDraft d (model.Tag sent)
HasCome place.ToFirst d parts =
    (sent : model.MoveCommand) × (parts ≡ to_targets sent) × IsDraft d (model.Move sent)
HasCome place.ToMore d parts =
    (sent : model.MoveCommand) × (parts ≡ to_targets sent) × HasEnough d (model.Move sent)
HasCome place.Message d parts =
    (sent : model.Command) × (before_message sent ≡ Some parts) × HasEnough d sent
HasCome place.End d parts =
    (sent : model.Command) × (to_message sent ≡ Some parts) × HasEnough d sent
HasCome place.Done d parts =
    (sent : model.Command) × (parts ≡ spelling.parts_of sent) × HasEnough d sent

-- ---- what the readers of a line and of a line with its fields return

-- the line, without its line feed, is one of the table's
pub record IsLine (line : Heading) (text : Bytes) : Type 0 where
  pub heading : lines.Heading
  pub spelled : text ≡ join_with_byte 32 (wording.words_of heading)
  pub known : IsTrue (spelling.is_part (spelling.Line (wording.words_of heading)))
  pub sized : IsTrue (wording.are_sizes (wording.sizes heading))
  pub is : IsHeading line heading

-- the line was taken, and leads from the one place to the other
pub record TakesLine (place : Place) (line : Heading) (next : Place) (taken : Bytes) : Type 0 where
  pub heading : lines.Heading
  pub spelled : taken ≡ spelling.part_text (spelling.Line (wording.words_of heading))
  pub known : IsTrue (spelling.is_part (spelling.Line (wording.words_of heading)))
  pub sized : IsTrue (wording.are_sizes (wording.sizes heading))
  pub stands : runs.next_offered (place_of place) heading ≡ Some (place_of next)
  pub is : IsHeading line heading

-- ---- fields

abbrev pub edit_sizes : EditHeading → List ℕ
edit_sizes (edit.Put kind path content) = path ∷ content ∷ []
edit_sizes (edit.Remove path) = path ∷ []
edit_sizes (edit.RemoveFile path) = path ∷ []
edit_sizes (edit.Graft path word source) = path ∷ source ∷ []

abbrev pub opening_sizes : Opening → List ℕ
opening_sizes (opening.ShowPath word path) = path ∷ []
opening_sizes (opening.Log line) = listed line.paths
opening_sizes _ = []

-- the lengths of the fields that follow a line
abbrev pub heading_sizes : Heading → List ℕ
heading_sizes (heading.Opening line) = opening_sizes line
heading_sizes (heading.Edit line) = edit_sizes line
heading_sizes (heading.Actor line) = line.name ∷ line.email ∷ []
heading_sizes (heading.Message size) = size ∷ []
heading_sizes _ = []

-- a line, and these fields after it
abbrev pub parts_with : lines.Heading → List Bytes → List spelling.Part
parts_with heading fields = spelling.Line (wording.words_of heading) ∷ map spelling.Field fields

-- the line of an edit, and the fields that follow it
abbrev pub edit_heading : model.EditLine → lines.Heading
edit_heading (model.PutLine kind path content) =
    lines.PutHeading kind (length path) (length content)
edit_heading (model.RemoveLine path) = lines.RemoveHeading (length path)
edit_heading (model.RemoveFileLine path) = lines.RemoveFileHeading (length path)
edit_heading (model.GraftLine path word source) =
    lines.GraftHeading (length path) word (length source)

abbrev pub edit_fields : model.EditLine → List Bytes
edit_fields (model.PutLine kind path content) = path ∷ content ∷ []
edit_fields (model.RemoveLine path) = path ∷ []
edit_fields (model.RemoveFileLine path) = path ∷ []
edit_fields (model.GraftLine path word source) = path ∷ source ∷ []

-- the fields of an edit were taken; the edit is any with this line and these fields
pub record TakesEdit (heading : EditHeading) (edit : Option Edit) (taken : Bytes) : Type 0 where
  pub fields : List Bytes
  pub heads : edit_sizes heading ≡ map length fields
  pub spelled : taken ≡ flat_map line fields
  pub is : (line : model.EditLine) → IsEditHeading heading (edit_heading line)
      → edit_fields line ≡ fields → IfSome edit (λ x. IsEdit x line)

-- paths of these sizes were taken
pub record TakesPaths (sizes : List ℕ) (fields : Option (Vec Field Global))
    (taken : Bytes) : Type 0 where
  pub paths : List Bytes
  pub heads : sizes ≡ map length paths
  pub spelled : taken ≡ flat_map line paths
  pub is : IfSome fields (λ all. ArePaths all.items paths)

-- the paths that follow the line of a log were taken
pub record TakesLog (heading : LogLine) (log : Option LogCommand) (taken : Bytes) : Type 0 where
  pub paths : List Bytes
  pub heads : listed heading.paths ≡ map length paths
  pub spelled : taken ≡ flat_map line paths
  pub is : (sent : model.LogCommand) → IsLogLine heading sent
      → IfSome log (λ x. IsLog x (with_paths sent paths))

-- the fields of an actor were taken
pub record TakesActor (heading : ActorHeading) (actor : Option ActorLine)
    (taken : Bytes) : Type 0 where
  pub name : Bytes
  pub email : Bytes
  pub sized : (heading.name ≡ length name) × (heading.email ≡ length email)
  pub spelled : taken ≡ flat_map line (name ∷ email ∷ [])
  pub is : (seconds offset : Bytes) → IfSome heading.seconds (λ word. word.items ≡ seconds)
      → IfSome heading.offset (λ word. word.items ≡ offset)
      → IfSome actor
      (λ x. IsActor x
      (record { name = name; email = email; seconds = seconds; offset = offset }))

-- the fields after a command's first line were taken, and the draft has what came
pub record TakesOpening (said : Opening) (new : Draft) (taken : Bytes) : Type 0 where
  pub fields : List Bytes
  pub heads : opening_sizes said ≡ map length fields
  pub spelled : taken ≡ flat_map line fields
  pub begins : (h : lines.Heading) → IsOpening said h → (next : Place)
      → runs.next_offered table.Start h ≡ Some (place_of next)
      → HasCome next new (parts_with h fields)

-- the fields after a line were taken into the draft
pub record TakesFields (said : Heading) (old new : Draft) (taken : Bytes) : Type 0 where
  pub fields : List Bytes
  pub heads : heading_sizes said ≡ map length fields
  pub spelled : taken ≡ flat_map line fields
  pub come : (h : lines.Heading) → IsHeading said h → (place next : Place)
      → runs.next_offered (place_of place) h ≡ Some (place_of next)
      → (before : List spelling.Part) → HasCome place old before
      → HasCome next new (before ++ parts_with h fields)

-- parts were taken into the draft, and lead from the one place to the other
pub record TakesParts (place : Place) (old : Draft) (next : Place) (new : Draft)
    (taken : Bytes) : Type 0 where
  pub parts : List spelling.Part
  pub spelled : taken ≡ spelling.parts_text parts
  pub some : 0 < length taken
  pub leads : runs.run_from (record { fields = []; place = place_of place }) parts
      ≡ Some (record { fields = []; place = place_of next })
  pub come : (before : List spelling.Part) → HasCome place old before
      → HasCome next new (before ++ parts)

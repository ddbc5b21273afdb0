-- What a commit is refused for by itself and by the name that it moves, and what is read of it if
-- it isn't.
use Rattle.std.specs.Prelude.{pos, ◌≡◌, ◌≤◌, ℕ, Vec, Bool, List, [], ◌∷◌, ◌++◌, find, length, Option, Some, None, Result, Ok, Err, IsTrue, IsFalse, not, ◌||◌, nat_lt}
use Rattle.std.specs.declared.alloc.Global.{Global}
use Rattle.std.specs.List.{list_any}
use Rattle.history_model.specs.Forms.{is_name, is_seconds, is_offset, max_content}
use Rattle.history_model.specs.Bytes.{Bytes, digits_value}
use Rattle.history_model.specs.Commands.{Command, Commit, CommitCommand, ActorLine}
use Rattle.history_model.specs.CommandParts.{contents_in}
use Rattle.history_model.specs.Meaning.{branch_or_name}
use Rattle.history_model.specs.Causes.{holds}
use Rattle.history_model.specs.declared.Cause.{Cause}
use Rattle.history_model.specs.declared.Cause.TheVariants.{BadName, PrivateName, UnknownWord, AmbiguousWord, UnbornHead, NotACommit, NoSuchName, Taken, NotExpected, Collides, HoldsTag, TooManyParents, DuplicateParent, BadPath, IsFolder, NoSuchPath, BadActor, BadTime, BadMessage, TooLarge}
use Rattle.history_repository.specs.Reads.{IsReadingFault}
use Rattle.gix_object_lines.specs.Time.{IsSpellableOffset, offset_text}
use Rattle.gix_object_lines.specs.declared.lines.time.Time.{Time}
use Rattle.history_plans.specs.declared.causes.Times.{Times}
use Rattle.history_repository.specs.declared.stopped.Stopped.{Stopped}
use Rattle.history_repository.specs.declared.stopped.Stopped.TheVariants.{Refused, Fault}
use Rattle.history_model.specs.Repository as plain

-- the first of these causes that holds
abbrev pub first_among : List Cause → plain.Repository → Command → Option Cause
first_among causes r command = find (λ cause. holds cause r command) causes

-- The causes that lie in the commit's name itself, in its words, in what the name holds, in the
-- other names, and in the parents; and those that lie in the command itself. What is too large may
-- show only when all that is to be stored is made.
abbrev pub name_form_causes : List Cause
name_form_causes = BadName ∷ PrivateName ∷ []

abbrev pub word_causes : List Cause
word_causes = UnknownWord ∷ AmbiguousWord ∷ UnbornHead ∷ NotACommit ∷ []

abbrev pub held_causes : List Cause
held_causes = NoSuchName ∷ Taken ∷ NotExpected ∷ []

abbrev pub place_causes : List Cause
place_causes = Collides ∷ HoldsTag ∷ []

abbrev pub parent_causes : List Cause
parent_causes = TooManyParents ∷ DuplicateParent ∷ []

abbrev pub name_causes : List Cause
name_causes = name_form_causes ++ (word_causes ++ (held_causes ++ (place_causes ++ parent_causes)))

-- those that lie in its paths, in the files before and in those that are grafted
abbrev pub path_causes : List Cause
path_causes = BadPath ∷ IsFolder ∷ NoSuchPath ∷ []

abbrev pub form_causes : List Cause
form_causes = path_causes ++ (BadActor ∷ BadTime ∷ BadMessage ∷ [])

-- it is refused for the first of these causes that holds, or a fault was met
abbrev pub IsToldOf : Type 0 → List Cause → plain.Repository → Command → Stopped → Type 0
IsToldOf MayFail causes r command (Refused cause) = first_among causes r command ≡ Some cause
IsToldOf MayFail causes r command (Fault fault) = IsReadingFault MayFail (Fault fault)

abbrev pub IsToldBy : Type 0 → List Cause → plain.Repository → CommitCommand → Stopped → Type 0
IsToldBy MayFail causes r sent = IsToldOf MayFail causes r (Commit sent)

-- None of these causes holds, and this is what is meant; or it is refused for the first that holds,
-- or a fault was met.
abbrev pub TestsOf : {T : Type 0} → Type 0 → List Cause → plain.Repository → Command
    → (T → Type 0) → Result T Stopped → Type 0
TestsOf MayFail causes r command IsMeant (Ok value) =
    (first_among causes r command ≡ None) × IsMeant value
TestsOf MayFail causes r command IsMeant (Err stopped) = IsToldOf MayFail causes r command stopped

abbrev pub Tests : {T : Type 0} → Type 0 → List Cause → plain.Repository → CommitCommand
    → (T → Type 0) → Result T Stopped → Type 0
Tests MayFail causes r sent = TestsOf MayFail causes r (Commit sent)

-- the name that the commit moves, which is one
pub record IsNamed (r : plain.Repository) (sent : CommitCommand)
    (name : Vec ℕ Global) : Type 0 where
  pub named : name.items ≡ branch_or_name r sent.name
  pub formed : IsTrue (is_name name.items)

-- the words of the line are a time's, this one
pub record IsTime (line : ActorLine) (time : Time) : Type 0 where
  pub good_seconds : IsTrue (is_seconds line.seconds)
  pub good_offset : IsTrue (is_offset line.offset)
  pub seconds : time.seconds ≡ pos (digits_value line.seconds)
  pub whole : IsSpellableOffset time.offset
  pub offset : offset_text time.offset ≡ line.offset

-- the line's time, if both of its words can be in an actor's line
abbrev pub ReadsTime : ActorLine → Option Time → Type 0
ReadsTime line (Some time) = IsTime line time
ReadsTime line None = IsTrue (not (is_seconds line.seconds) || not (is_offset line.offset))

-- whether a content is over its limit
abbrev pub is_long : Bytes → Bool
is_long content = nat_lt max_content (length content)

-- None of the causes that lie in the command itself holds, its message and contents are within
-- their limit, and these are its times.
pub record HasTimes (r : plain.Repository) (sent : CommitCommand) (times : Times) : Type 0 where
  pub formed : first_among form_causes r (Commit sent) ≡ None
  pub message : length sent.message ≤ max_content
  pub contents : IsFalse (list_any is_long (contents_in (Commit sent)))
  pub author : IsTime sent.author times.author
  pub committer : IsTime sent.committer times.committer

-- The times are read; or it is refused for the first cause that holds.
abbrev pub AreTimes : plain.Repository → CommitCommand → Result Times Cause → Type 0
AreTimes r sent (Ok times) = HasTimes r sent times
AreTimes r sent (Err cause) =
    first_among (form_causes ++ TooLarge ∷ []) r (Commit sent) ≡ Some cause

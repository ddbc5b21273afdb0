-- What a commit is to store and how its name is to move, as the plain repository has it.
use Rattle.std.specs.Prelude.{◌≡◌, ◌⊎◌, ◌<◌, ◌≤◌, ⊤, Bool, List, [], ◌∷◌, ◌++◌, map, length, Contains, MatchOption, Some, None, Result, Ok, Err, IsTrue, IsFalse}
use Rattle.std.specs.List.{list_all, list_any, flat_map}
use Rattle.gix_hash.specs.declared.kind.Kind.{Kind}
use Rattle.gix_hash.specs.declared.object_id.ObjectId.{ObjectId}
use Rattle.history_model.specs.Bytes.{Bytes}
use Rattle.history_store.specs.Stores.{AreObjectsOf}
use Rattle.history_texts.specs.declared.object.NewObject.{NewObject}
use Rattle.history_model.specs.CommandParts.{contents_in}
use Rattle.history_model.specs.Objects.{CommitValue, Value, commit_content, digest, folder_id, object_text}
use Rattle.history_model.specs.Forms.{is_id, max_content}
use Rattle.history_model.specs.Commands.{CommitCommand, Commit}
use Rattle.history_model.specs.Meaning.{edits_of, first_files, new_commit, parents_of, put_bytes, read_actor, stored_by}
use Rattle.history_model.specs.Causes.{first_cause}
use Rattle.history_model.specs.Steps.{MayTake}
use Rattle.history_layout.specs.OneNameSteps.{NameMove, commit_move, entry_of_move}
use Rattle.history_layout.specs.TreeSteps.{HasText}
use Rattle.history_layout.specs.Passing.{StoresWhole}
use Rattle.history_model.specs.declared.Cause.{Cause}
use Rattle.history_model.specs.declared.Cause.TheVariants.{TooLarge}
use Rattle.history_model.specs.declared.Fault.TheVariants.{Memory, File, IdTaken}
use Rattle.history_files.specs.Editing.{AreEdited, HaveNull}
use Rattle.history_files.specs.declared.trees.EditedFiles.{EditedFiles}
use Rattle.history_files.specs.declared.trees.EditedTree.{EditedTree}
use Rattle.history_files.specs.declared.read_trees.ReadTrees.{ReadTrees}
use Rattle.history_texts.specs.Formats.{actor_of, entry_of}
use Rattle.history_plans.specs.CommitCauses.{first_among, form_causes, is_long, path_causes}
use Rattle.history_plans.specs.Needed.{AreNeededOf, HasTextAmong}
use Rattle.history_plans.specs.declared.planning.Actors.{Actors}
use Rattle.history_plans.specs.declared.planning.Below.{Below}
use Rattle.history_plans.specs.declared.planning.Committed.{Committed}
use Rattle.history_plans.specs.declared.planning.NewFiles.{NewFiles}
use Rattle.history_plans.specs.declared.planning.Plan.{Plan}
use Rattle.history_store.specs.declared.changing.MovedName.{MovedName}
use Rattle.history_repository.specs.Reads.{AreTrees}
use Rattle.history_repository.specs.declared.stopped.Stopped.{Stopped}
use Rattle.history_repository.specs.declared.stopped.Stopped.TheVariants.{Refused, Fault}
use Rattle.gix_hash.specs.Id as object_id
use Rattle.gix_object_lines.specs.declared.kind.Kind as git_object
use Rattle.gix_object_lines.specs.declared.kind.Kind.TheVariants as kinds
use Rattle.history_model.specs.Repository as plain

-- ---- the parts of a plan

-- the name moves so
pub record IsMove (r : plain.Repository) (move : NameMove) (moves : MovedName) : Type 0 where
  pub name : moves.name.items ≡ move.name
  pub entry : entry_of moves.entry ≡ entry_of_move r move

-- the object of this kind and content, with its id
pub record IsMade (digests : Kind) (kind : git_object.Kind) (content : Bytes)
    (object : NewObject) : Type 0 where
  pub id : object_id.id_of object.id ≡ digest digests (object_text kind content)
  pub kind_is : object.kind ≡ kind
  pub content_is : object.content.items ≡ content

-- what determines an object, and a tree
abbrev pub object_parts : NewObject → ObjectId × git_object.Kind × Bytes
object_parts object = (object.id, object.kind, object.content.items)

abbrev pub tree_parts : EditedTree → ObjectId × git_object.Kind × Bytes
tree_parts tree = (tree.id, kinds.Tree, tree.content.items)

abbrev pub is_long_tree : EditedTree → Bool
is_long_tree tree = is_long tree.content.items

-- the trees are added as objects, each within the limit
abbrev pub AreAdded : List NewObject → List EditedTree → List NewObject → Type 0
AreAdded old trees new =
    IsFalse (list_any is_long_tree trees)
    × (map object_parts new ≡ map object_parts old ++ map tree_parts trees)

-- why they aren't: one is over the limit, or no memory is left
abbrev pub IsNotAdded : List EditedTree → Stopped → Type 0
IsNotAdded trees (Refused cause) = (cause ≡ TooLarge) × IsTrue (list_any is_long_tree trees)
IsNotAdded trees (Fault Memory) = ⊤
IsNotAdded trees (Fault File) = ⊥
IsNotAdded trees (Fault IdTaken) = ⊥

-- of the objects of what is put, and of the trees after them, those that need storing, with the
-- root's id; or why they aren't added
abbrev pub GivesObjects : ReadTrees → List NewObject → EditedFiles → Result Below Stopped → Type 0
GivesObjects read blobs edited (Ok below) =
    (below.root ≡ edited.root)
    × ((objects : List NewObject) × AreAdded blobs edited.trees.items objects
    × AreNeededOf read objects below.objects.items)
GivesObjects read blobs edited (Err stopped) = IsNotAdded edited.trees.items stopped

-- None of the causes that lie in the command itself holds, its message and contents are within
-- their limit, and these are its actors.
pub record HasActors (r : plain.Repository) (sent : CommitCommand) (actors : Actors) : Type 0 where
  pub formed : first_among form_causes r (Commit sent) ≡ None
  pub message : length sent.message ≤ max_content
  pub contents : IsFalse (list_any is_long (contents_in (Commit sent)))
  pub author : actor_of actors.author ≡ read_actor sent.author
  pub committer : actor_of actors.committer ≡ read_actor sent.committer

-- The actors are read; or it is refused for the first cause that holds.
abbrev pub AreActors : plain.Repository → CommitCommand → Result Actors Cause → Type 0
AreActors r sent (Ok actors) = HasActors r sent actors
AreActors r sent (Err cause) =
    first_among (form_causes ++ TooLarge ∷ []) r (Commit sent) ≡ Some cause

-- What edits come to, if none of the causes that lie in their paths holds. Of a content over its
-- limit only a front is kept, so the objects and trees are the commit's only if there is no such
-- content.
pub record AreNewFiles (r : plain.Repository) (sent : CommitCommand)
    (files : NewFiles) : Type 0 where
  pub paths : first_among path_causes r (Commit sent) ≡ None
  pub long : files.has_long_content ≡ list_any is_long (contents_in (Commit sent))
  pub blobs : IsFalse (list_any is_long (contents_in (Commit sent)))
      → AreObjectsOf r.kind (flat_map put_bytes (edits_of r sent)) files.blobs.items
  pub edited : IsFalse (list_any is_long (contents_in (Commit sent)))
      → MatchOption files.edited
      (HaveNull r.kind (first_files r (parents_of r sent)) (edits_of r sent))
      (AreEdited r.kind (first_files r (parents_of r sent)) (edits_of r sent))
  -- the trees that were read are as they are stored
  pub trees : AreTrees r files.read

-- ---- the commit

-- A commit with this tree and these parents, actors and message says what this value says, and its
-- parents' ids are of the kind.
pub record Says (kind : Kind) (tree : ObjectId) (parents : List ObjectId) (actors : Actors)
    (message : Bytes) (value : CommitValue) : Type 0 where
  pub tree_is : object_id.id_of tree ≡ folder_id kind value.files
  pub parents_are : map object_id.id_of parents ≡ value.parents
  pub parents_have : IsTrue (list_all (is_id kind) value.parents)
  pub author_is : actor_of actors.author ≡ value.author
  pub committer_is : actor_of actors.committer ≡ value.committer
  pub message_is : message ≡ value.message

-- what is meant, if this content is within its limit; otherwise it is over it, or no memory is left
abbrev pub IfItFits : {T : Type 0} → Bytes → (T → Type 0) → Result T Stopped → Type 0
IfItFits content IsMeant (Ok value) = (length content ≤ max_content) × IsMeant value
IfItFits content IsMeant (Err (Refused cause)) =
    (cause ≡ TooLarge) × (max_content < length content)
IfItFits content IsMeant (Err (Fault Memory)) = ⊤
IfItFits content IsMeant (Err (Fault File)) = ⊥
IfItFits content IsMeant (Err (Fault IdTaken)) = ⊥

-- the commit's object, with its id
abbrev pub IsMadeOf : Kind → CommitValue → NewObject → Type 0
IsMadeOf kind value = IsMade kind kinds.Commit (commit_content kind value)

abbrev pub MakesCommit : Kind → CommitValue → Result NewObject Stopped → Type 0
MakesCommit kind value = IfItFits (commit_content kind value) (IsMadeOf kind value)

-- the command's commit is made, and its name is to move to it
abbrev pub GivesCommitted : plain.Repository → CommitCommand → Result Committed Stopped → Type 0
GivesCommitted r sent =
    IfItFits (commit_content r.kind (new_commit r sent)) (λ (made : Committed).
    IsMadeOf r.kind (new_commit r sent) made.object × IsMove r (commit_move r sent) made.moves)

-- ---- the plan

-- The objects are those of some of what the command stores, and the text of all else that it
-- stores is among theirs, or is stored already. Each beginning of them leaves a whole store. The
-- name moves to the commit.
pub record IsPlan (r : plain.Repository) (sent : CommitCommand) (plan : Plan) : Type 0 where
  pub values : List Value
  pub objects : AreObjectsOf r.kind values plan.objects.items
  pub among : (value : Value) → Contains values value → Contains (stored_by r (Commit sent)) value
  pub all : (value : Value) → Contains (stored_by r (Commit sent)) value
      → HasTextAmong r.kind values value ⊎ HasText r.kind r.objects value
  pub whole : StoresWhole r values
  pub moves : IsMove r (commit_move r sent) plan.moves

-- why there is no plan: it is refused for the first cause that holds, or an id is taken, or a fault
-- was met
abbrev pub IsUnplanned : Type 0 → plain.Repository → CommitCommand → Stopped → Type 0
IsUnplanned MayFail r sent (Refused cause) = first_cause r (Commit sent) ≡ Some cause
IsUnplanned MayFail r sent (Fault Memory) = ⊤
IsUnplanned MayFail r sent (Fault File) = MayFail
IsUnplanned MayFail r sent (Fault IdTaken) = MayTake r (Commit sent)

-- A plan is made if no cause holds.
abbrev pub Plans : Type 0 → plain.Repository → CommitCommand → Result Plan Stopped → Type 0
Plans MayFail r sent (Ok plan) = (first_cause r (Commit sent) ≡ None) × IsPlan r sent plan
Plans MayFail r sent (Err stopped) = IsUnplanned MayFail r sent stopped

-- The line that a log gets with an update (git-update-ref, "Logging updates"; git-config,
-- "core.logAllRefUpdates").
use Rattle.std.specs.Prelude.{ℕ, ◌≡◌, ◌||◌, ◌&&◌, not, Bool, true, false, is_some, List, [], ◌∷◌, ◌++◌, bytes_eq, codes, Option, Some, None, Vec}
use Rattle.std.specs.List.{AllZip}
use Rattle.std.specs.declared.alloc.Global.{Global}
use Rattle.bstr.specs.BStr.{bstr_bytes}
use Rattle.gix_hash.specs.Id.{Id, null_id}
use Rattle.gix_hash.specs.Order.{id_eq}
use Rattle.gix_hash.specs.Spelling.{hex_text}
use Rattle.gix_hash.specs.declared.kind.Kind.{Kind}
use Rattle.gix_object_lines.specs.Actor.{actor_text}
use Rattle.gix_object_lines.specs.NameTest.{begins}
use Rattle.gix_object_lines.specs.Time.{SpellsTime}
use Rattle.gix_object_lines.specs.declared.lines.actor.Actor.{Actor}
use Rattle.gix_object_lines.specs.declared.lines.actor.ActorRef.{ActorRef}
use Rattle.gix_object_lines.specs.declared.lines.time.Time.{Time}
use Rattle.gix_ref_file.specs.Tree.{Tree}
use Rattle.gix_ref_name.specs.Targets.{Points, ToObject, ToName, target_view}
use Rattle.gix_ref_edit.specs.declared.change.Change.{Change}
use Rattle.gix_ref_edit.specs.declared.change.Change.TheVariants.{Update, Delete}
use Rattle.gix_ref_edit.specs.declared.change.RefEdit.{RefEdit}
use Rattle.gix_ref_edit.specs.declared.log.LogChange.{LogChange}
use Rattle.gix_ref_log.specs.LogLine.{line_text}
use Rattle.gix_ref_lock.specs.declared.act.Act.{Act}
use Rattle.gix_ref_lock.specs.declared.act.Act.TheVariants as acts
use Rattle.gix_ref_lock.specs.declared.act.Move.{Move}
use Rattle.gix_ref_store.specs.Follows.{Followed, Ends, Cycles, TooDeep, Dangles, Breaks, follow, follow_from}
use Rattle.gix_ref_store.specs.Places.{Base, log_place}
use Rattle.gix_ref_store.specs.RefStates.{RefState}
use Rattle.gix_ref_store.specs.declared.options.Options.{Options}
use Rattle.gix_ref_store.specs.declared.reference.Reference.{Reference}
use Rattle.gix_ref_store.specs.declared.options.WriteReflog.{WriteReflog}
use Rattle.gix_ref_store.specs.declared.options.WriteReflog.TheVariants.{Always, Normal, Disable}
use Rattle.gix_ref_way.specs.Ways.{Bytes, file_at}

-- whether updates of a name are logged by default
abbrev pub is_usually_logged : Bytes → Bool
is_usually_logged name =
    bytes_eq name (codes "HEAD") || begins (codes "refs/heads/") name
    || begins (codes "refs/remotes/") name || begins (codes "refs/notes/") name
    || begins (codes "refs/worktree/") name

-- whether they are, if a log is wanted or exists already
abbrev pub is_logged : WriteReflog → Bool → Bool → Bytes → Bool
is_logged Always forced stands name = true
is_logged Disable forced stands name = false
is_logged Normal forced stands name = forced || is_usually_logged name || stands

-- what lines depend on: which updates are logged, the hash function, what names read as, and who
-- commits
pub record Logging : Type 0 where
  pub logged : WriteReflog
  pub kind : Kind
  pub read : Bytes → RefState
  pub committer : Option ActorRef

abbrev pub logging : Options → (Bytes → RefState) → Option ActorRef → Logging
logging options read committer = record {
  logged = options.write_reflog;
  kind = options.object_hash;
  read = read;
  committer = committer;
}

-- the id of the object at the end of a chain, or the null id if it ends at none
abbrev pub end_id : Kind → Followed → Id
end_id kind (Ends name id peeled) = id
end_id kind Cycles = null_id kind
end_id kind TooDeep = null_id kind
end_id kind Dangles = null_id kind
end_id kind (Breaks why) = null_id kind

-- the same from a reference that was found
abbrev pub id_found : Kind → (Bytes → RefState) → Option Reference → Id
id_found kind read None = null_id kind
id_found kind read (Some r) = end_id kind (follow_from read r)

-- the id of the object that a name led to
abbrev pub id_before : Logging → Bytes → Id
id_before l name = end_id l.kind (follow l.read 5 [] name (l.read name))

-- this is the committer, at the time that the text spells
pub record SpellsCommitter (who : ActorRef) (actor : Actor) : Type 0 where
  pub name : actor.name ≡ bstr_bytes who.name
  pub email : actor.email ≡ bstr_bytes who.email
  pub time : SpellsTime (bstr_bytes who.time) actor.time

-- the line of these ids, this committer and this message
pub record IsLogLine (before after : Id) (who : ActorRef) (message text : Bytes) : Type 0 where
  pub time : Time
  pub told : SpellsTime (bstr_bytes who.time) time
  pub is : text
      ≡ line_text (hex_text before.digits) (hex_text after.digits)
      (actor_text (bstr_bytes who.name) (bstr_bytes who.email) time) message ++ 10 ∷ []

abbrev pub IsLineBy : Option ActorRef → Id → Id → Bytes → Option (Vec ℕ Global) → Type 0
IsLineBy (Some who) before after message (Some line) =
    IsLogLine before after who message line.items
IsLineBy (Some who) before after message None = ⊥
IsLineBy None before after message line = ⊥

-- whether an update of a name, whose log exists or doesn't, to this id adds a line
abbrev pub adds_line : Logging → Bool → Bytes → LogChange → Id → Bool
adds_line l stands name log after =
    is_logged l.logged log.force_create_reflog stands name && not (id_eq (id_before l name) after)

abbrev pub IsLineIf : Bool → Logging → Bytes → LogChange → Id → Option (Vec ℕ Global) → Type 0
IsLineIf true l name log after line =
    IsLineBy l.committer (id_before l name) after log.message line
IsLineIf false l name log after line = line ≡ None

-- the line of an update to an object; one to another reference's name has none
abbrev pub IsUpdateLine : Logging → Bool → Bytes → LogChange → Points → Option (Vec ℕ Global)
    → Type 0
IsUpdateLine l stands name log (ToObject after) line =
    IsLineIf (adds_line l stands name log after) l name log after line
IsUpdateLine l stands name log (ToName other) line = line ≡ None

abbrev pub IsLineOf : Logging → Bool → Bytes → Change → Option (Vec ℕ Global) → Type 0
IsLineOf l stands name (Update log expected new) line =
    IsUpdateLine l stands name log (target_view new) line
IsLineOf l stands name (Delete expected mode) line = line ≡ None

-- ---- of all edits

-- whether the log of a name exists
abbrev pub has_log : Base → Tree → Bytes → Bool
has_log b tree name = is_some (file_at tree (log_place b name))

-- the line of an act
abbrev pub line_in : Act → Option (Vec ℕ Global)
line_in (acts.Put line) = line
line_in (acts.Note line) = line
line_in (acts.Pack line) = line
line_in acts.Remove = None
line_in acts.Forget = None

abbrev pub AllLined : Logging → Base → Tree → List RefEdit → List Move → Type 0
AllLined l b tree edits moves =
    AllZip (λ edit made. IsLineOf l (has_log b tree edit.name) edit.name edit.change
    (line_in made.act)) edits moves

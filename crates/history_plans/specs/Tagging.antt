-- What a `tag` is refused for, and what it stores.
use Rattle.std.specs.Prelude.{◌≡◌, ◌≤◌, Bool, ◌&&◌, List, [], ◌∷◌, ◌++◌, length, Some, None, Result, Ok, Err}
use Rattle.gix_hash.specs.Id.{id_of}
use Rattle.gix_hash.specs.declared.kind.Kind.{Kind}
use Rattle.history_model.specs.Bytes.{Bytes, begins}
use Rattle.history_model.specs.Causes.{first_cause}
use Rattle.history_model.specs.Commands.{Tag, TagCommand}
use Rattle.history_model.specs.Forms.{is_tag_name, max_content, tags_front}
use Rattle.history_model.specs.Meaning.{new_tag, read_actor, tag_rest}
use Rattle.history_model.specs.Objects.{TagValue, tag_content}
use Rattle.history_model.specs.Words.{commit_of}
use Rattle.history_model.specs.declared.Cause.{Cause}
use Rattle.history_model.specs.declared.Cause.TheVariants.{BadActor, BadTime, BadMessage, TooLarge}
use Rattle.history_layout.specs.OneNameSteps.{tag_move}
use Rattle.history_texts.specs.Formats.{actor_of}
use Rattle.history_texts.specs.declared.actor.Actor.{Actor}
use Rattle.history_texts.specs.declared.object.NewObject.{NewObject}
use Rattle.history_word.specs.declared.command.Field.{Field}
use Rattle.history_repository.specs.Reads.{IsReadingFault}
use Rattle.history_plans.specs.CommitCauses.{first_among, held_causes, place_causes, word_causes}
use Rattle.history_repository.specs.Held.{IsHeld}
use Rattle.history_plans.specs.Plans.{IfItFits, IsMade, IsMove}
use Rattle.history_repository.specs.declared.stopped.Stopped.{Stopped}
use Rattle.history_repository.specs.declared.stopped.Stopped.TheVariants.{Refused, Fault}
use Rattle.history_plans.specs.declared.tagging.TagBase.{TagBase}
use Rattle.history_plans.specs.declared.tagging.Tagged.{Tagged}
use Rattle.gix_object_lines.specs.declared.kind.Kind.TheVariants as kinds
use Rattle.history_model.specs.Repository as plain

-- ---- causes

-- The causes that lie in the words of a tag, in what its name holds, and in the other names; and
-- those that lie in its tagger and its message.
abbrev pub target_causes : List Cause
target_causes = word_causes ++ (held_causes ++ place_causes)

abbrev pub tagger_causes : List Cause
tagger_causes = BadActor ∷ BadTime ∷ BadMessage ∷ []

-- whether a tag may have this name
abbrev pub is_tag_place : Bytes → Bool
is_tag_place name = begins tags_front name && is_tag_name (tag_rest name)

-- ---- what is read

-- what the tag's name holds, and the commit that its word means
pub record IsTagBase (r : plain.Repository) (sent : TagCommand) (base : TagBase) : Type 0 where
  pub held : IsHeld r sent.name base.held
  pub commit : commit_of r sent.word ≡ Some (id_of base.commit)

-- None of the causes that lie in tagger and message holds, the message is within the limit, and
-- this is the tagger.
pub record HasTagger (r : plain.Repository) (sent : TagCommand) (actor : Actor) : Type 0 where
  pub formed : first_among tagger_causes r (Tag sent) ≡ None
  pub message : length sent.message ≤ max_content
  pub tagger : actor_of actor ≡ read_actor sent.tagger

-- the tagger is read; or it is refused for the first cause that holds
abbrev pub TellsTagger : plain.Repository → TagCommand → Field → Result Actor Cause → Type 0
TellsTagger r sent message (Ok actor) = HasTagger r sent actor
TellsTagger r sent message (Err cause) =
    first_among (tagger_causes ++ TooLarge ∷ []) r (Tag sent) ≡ Some cause

-- ---- what is made

-- the tag's object, with its id
abbrev pub IsMadeTag : Kind → TagValue → NewObject → Type 0
IsMadeTag kind value = IsMade kind kinds.Tag (tag_content value)

abbrev pub MakesTag : Kind → TagValue → Result NewObject Stopped → Type 0
MakesTag kind value = IfItFits (tag_content value) (IsMadeTag kind value)

-- No cause holds, the object is the tag's, and the name moves to it.
pub record IsTagged (r : plain.Repository) (sent : TagCommand) (tagged : Tagged) : Type 0 where
  pub none : first_cause r (Tag sent) ≡ None
  pub object : IsMadeTag r.kind (new_tag r sent) tagged.object
  pub moves : IsMove r (tag_move r sent) tagged.moves

-- the tag is made; or it is refused for the first cause that holds, or a fault was met
abbrev pub PlansTag : Type 0 → plain.Repository → TagCommand → Result Tagged Stopped → Type 0
PlansTag MayFail r sent (Ok tagged) = IsTagged r sent tagged
PlansTag MayFail r sent (Err (Refused cause)) = first_cause r (Tag sent) ≡ Some cause
PlansTag MayFail r sent (Err (Fault fault)) = IsReadingFault MayFail (Fault fault)

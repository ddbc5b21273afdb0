-- What a tag of the store says, in the words of the plain repository.
use Rattle.std.specs.Prelude.{◌≡◌, IsTrue}
use Rattle.gix_hash.specs.Id.{id_of}
use Rattle.gix_hash.specs.declared.kind.Kind.{Kind}
use Rattle.gix_hash.specs.declared.object_id.ObjectId.{ObjectId}
use Rattle.history_model.specs.Bytes.{Bytes}
use Rattle.history_model.specs.Forms.{is_tag_form}
use Rattle.history_model.specs.Objects.{TagValue}
use Rattle.history_texts.specs.Formats.{actor_of}
use Rattle.history_texts.specs.declared.actor.Actor.{Actor}

-- A tag with these parts says what this value says, which has its written form with an id of this
-- kind.
pub record SaysTag (kind : Kind) (target : ObjectId) (name : Bytes) (tagger : Actor)
    (message : Bytes) (value : TagValue) : Type 0 where
  pub form : IsTrue (is_tag_form kind value)
  pub target_is : id_of target ≡ value.target
  pub name_is : name ≡ value.name
  pub tagger_is : actor_of tagger ≡ value.tagger
  pub message_is : message ≡ value.message

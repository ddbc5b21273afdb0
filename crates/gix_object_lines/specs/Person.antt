-- Who did something, and when as a text.
use Rattle.std.specs.Prelude.{ℕ, ◌≡◌, List, ◌++◌, codes}
use Rattle.bstr.specs.BStr.{bstr_bytes}
use Rattle.gix_object_lines.specs.Time.{SpellsTime, time_text}
use Rattle.gix_object_lines.specs.declared.lines.actor.Actor.{Actor}
use Rattle.gix_object_lines.specs.declared.lines.actor.ActorRef.{ActorRef}

-- the three texts of an actor's line
pub record Person : Type 0 where
  pub name : List ℕ
  pub email : List ℕ
  pub time : List ℕ

abbrev pub actor_line : Person → List ℕ
actor_line person = person.name ++ codes " <" ++ person.email ++ codes "> " ++ person.time

-- the texts that a borrowed actor shows
abbrev pub person_of : ActorRef → Person
person_of actor =
    record {
      name =
          bstr_bytes actor.name;
      email = bstr_bytes actor.email;
      time = bstr_bytes actor.time;
    }

-- the texts that are written of an actor
abbrev pub own_person : Actor → Person
own_person actor = record { name = actor.name; email = actor.email; time = time_text actor.time }

-- the same name and email, and the time that the text spells
pub record IsActorOf (person : Person) (actor : Actor) : Type 0 where
  pub name : actor.name ≡ person.name
  pub email : actor.email ≡ person.email
  pub time : SpellsTime person.time actor.time

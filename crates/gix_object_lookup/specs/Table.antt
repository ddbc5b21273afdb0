-- Objects under their ids, as all lookups speak of them.
use Rattle.std.specs.Prelude.{ℕ, List, [], length, Option, None, Some, option_map}
use Rattle.gix_hash.specs.Id.{Id}
use Rattle.gix_object_lines.specs.declared.header.Header.{Header}
use Rattle.gix_object_lines.specs.declared.kind.Kind.{Kind}

-- an object: its kind and its content
pub record Object : Type 0 where
  pub kind : Kind
  pub content : List ℕ

-- the object under each id, if there is one
abbrev pub Table : Type 0
Table = Id → Option Object

abbrev pub kind_at : Table → Id → Option Kind
kind_at table id = option_map (λ object. object.kind) (table id)

abbrev pub content_or_none : Option Object → List ℕ
content_or_none None = []
content_or_none (Some object) = object.content

-- the content, and nothing if there is no object
abbrev pub content_at : Table → Id → List ℕ
content_at table id = content_or_none (table id)

abbrev pub header_at : Table → Id → Option Header
header_at table id =
    option_map (λ object. record { kind = object.kind; size = length object.content }) (table id)

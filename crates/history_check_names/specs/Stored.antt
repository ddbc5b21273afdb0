-- What a store of objects says about the ids that names hold.
use Rattle.std.specs.Prelude.{Bool, true, false, Option, Some, None, option_map, option_and_then, unwrap_or}
use Rattle.gix_hash.specs.Id.{Id}
use Rattle.gix_hash.specs.Order.{id_eq}
use Rattle.gix_object_lines.specs.declared.kind.Kind.{Kind as ObjectKind}
use Rattle.gix_object_lines.specs.declared.kind.Kind.TheVariants.{Tree, Blob, Commit, Tag}
use Rattle.gix_ref_format.specs.Packed.{Record}
use Rattle.history_check_objects.specs.Stored.{Fact, Facts}

abbrev pub is_held_kind : ObjectKind → Bool
is_held_kind Commit = true
is_held_kind Tag = true
is_held_kind Tree = false
is_held_kind Blob = false

-- A name holds a commit or a tag.
abbrev pub may_be_held : Option ObjectKind → Bool
may_be_held None = false
may_be_held (Some kind) = is_held_kind kind

-- what is stored is neither
abbrev pub is_of_wrong_kind : Option ObjectKind → Bool
is_of_wrong_kind None = false
is_of_wrong_kind (Some Commit) = false
is_of_wrong_kind (Some Tag) = false
is_of_wrong_kind (Some Tree) = true
is_of_wrong_kind (Some Blob) = true

-- ---- what records say

-- whether what is stored is a tag of this commit
abbrev pub is_tag_of : Option Fact → Id → Bool
is_tag_of fact commit =
    unwrap_or (option_map (id_eq commit) (option_and_then (λ fact. fact.target) fact)) false

-- whether a record's peeled id, if it has one, is the commit of the tag that it holds
abbrev pub is_well_peeled : Facts → Record → Bool
is_well_peeled facts entry =
    unwrap_or (option_map (λ commit. is_tag_of (facts entry.target) commit) entry.peeled) true

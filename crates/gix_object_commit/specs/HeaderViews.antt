-- What clauses read of a commit's further headers.
use Rattle.std.specs.Prelude.{ℕ, List, drop, map}
use Rattle.gix_object_commit.specs.Commit.{Field}
use Rattle.gix_object_commit.specs.Headers.{values_named}
use Rattle.gix_object_commit.specs.LineViews.{field_of}
use Rattle.gix_object_commit.specs.declared.extra_headers.ExtraHeaders.{ExtraHeaders}
use Rattle.gix_object_commit.specs.declared.extra_headers.FindAll.{FindAll}
use Rattle.gix_object_commit.specs.declared.extra_headers.Headers.{Headers}
use Rattle.gix_object_commit.specs.declared.extra_headers.Headers.TheVariants.{Lent, Own}
use Rattle.gix_object_commit.specs.declared.extra_headers.MergeTags.{MergeTags}
use Rattle.gix_object_commit.specs.declared.header.ExtraHeader.{ExtraHeader}

-- its value as an owned commit has it, without the spaces of the commit's text
abbrev pub own_header : ExtraHeader → Field
own_header header = record { name = header.name; value = header.value }

abbrev pub fields_in : Headers → List Field
fields_in (Lent headers) = map field_of headers.now
fields_in (Own headers) = map own_header headers.now

abbrev pub headers_of : ExtraHeaders → List Field
headers_of headers = fields_in headers.headers

-- the values that are left
abbrev pub values_left : FindAll → List (List ℕ)
values_left found = values_named found.name.now (drop found.place (fields_in found.headers))

abbrev pub merge_tags_left : MergeTags → List (List ℕ)
merge_tags_left tags = values_left tags.values

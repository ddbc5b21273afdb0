-- The parts that a borrowed commit shows.
use Rattle.std.specs.Prelude.{map}
use Rattle.std.specs.Option.{option_map}
use Rattle.bstr.specs.BStr.{bstr_bytes}
use Rattle.gix_object_lines.specs.Person.{person_of}
use Rattle.gix_object_commit.specs.Commit.{Parts}
use Rattle.gix_object_commit.specs.LineViews.{field_of}
use Rattle.gix_object_commit.specs.declared.commit.CommitRef.{CommitRef}

abbrev pub parts_of : CommitRef → Parts
parts_of commit = record {
  tree = bstr_bytes commit.tree;
  parents = map bstr_bytes commit.parents.items;
  author = person_of commit.author;
  committer = person_of commit.committer;
  encoding = option_map bstr_bytes commit.encoding;
  headers = map field_of commit.extra_headers.items;
  message = bstr_bytes commit.message;
}

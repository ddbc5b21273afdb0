-- Commits that are read, and written again without a refusal (git-fast-import, "author": name and
-- email hold neither LT, GT nor LF; "encoding" names one).
use Rattle.std.specs.Prelude.{◌≢◌, [], Some}
use Rattle.gix_object_lines.specs.Actor.{IsPlain}
use Rattle.gix_object_lines.specs.Person.{Person}
use Rattle.gix_object_commit.specs.Commit.{Parts}

pub record IsPlainPerson (person : Person) : Type 0 where
  pub name : IsPlain person.name
  pub email : IsPlain person.email

-- what the format never writes and a reader takes isn't there
pub record IsWritable (parts : Parts) : Type 0 where
  pub author : IsPlainPerson parts.author
  pub committer : IsPlainPerson parts.committer
  pub encoding : parts.encoding ≢ Some []

-- The parts that borrowed values show.
use Rattle.bstr.specs.BStr.{bstr_bytes}
use Rattle.gix_object_commit.specs.declared.header.HeaderRef.{HeaderRef}
use Rattle.gix_object_commit.specs.Commit.{Field}

abbrev pub field_of : HeaderRef → Field
field_of header = record { name = bstr_bytes header.name; value = bstr_bytes header.value }

-- What an edit of `packed-refs` says of its name.
use Rattle.std.specs.Prelude.{Some, None, option_map}
use Rattle.gix_hash.specs.Id.{id_of}
use Rattle.gix_ref_format.specs.Edited.{Line}
use Rattle.gix_ref_lock.specs.declared.packed.RecordEdit.{RecordEdit}
use Rattle.gix_ref_lock.specs.declared.packed.RecordEdit.TheVariants.{Write, Remove}

abbrev pub line_in : RecordEdit → Line
line_in (Write name target object) = record {
  name = name;
  says = Some (record { name = name; target = id_of target; peeled = option_map id_of object });
}
line_in (Remove name) = record { name = name; says = None }

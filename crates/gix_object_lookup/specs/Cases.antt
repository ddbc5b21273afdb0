-- Errors of a lookup by kind as those of a lookup that also reads.
use Rattle.gix_object_lookup.specs.declared.find.existing_iter.Error as existing_iter
use Rattle.gix_object_lookup.specs.declared.find.existing_iter.Error.TheVariants as iter_case
use Rattle.gix_object_lookup.specs.declared.find.existing_object.Error as existing_object
use Rattle.gix_object_lookup.specs.declared.find.existing_object.Error.TheVariants as object_case

abbrev pub of_iter : existing_iter.Error → existing_object.Error
of_iter (iter_case.Find error) = object_case.Find error
of_iter (iter_case.NotFound oid) = object_case.NotFound oid
of_iter (iter_case.ObjectKind oid actual expected) = object_case.ObjectKind oid actual expected

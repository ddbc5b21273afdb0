-- What a comparison of ids reports.
use Rattle.std.specs.Prelude.{◌≡◌}
use Rattle.gix_hash.specs.Id.{Id, id_of}
use Rattle.gix_object_any.specs.declared.data.verify.Error.{Error}
use Rattle.gix_object_any.specs.declared.data.verify.Error.TheVariants.{Verify}

-- the error has the id that was there and the expected one
abbrev pub TellsBoth : Error → Id → Id → Type 0
TellsBoth (Verify mismatch) actual expected =
    (id_of mismatch.actual ≡ actual) × (id_of mismatch.expected ≡ expected)

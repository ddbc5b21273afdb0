-- What a clause reads of the values of this crate.
use Rattle.std.specs.Prelude.{List}
use Rattle.bstr.specs.BStr.{bstr_bytes}
use Rattle.gix_object_message.specs.Trailer.{Trailer, trailers_in}
use Rattle.gix_object_message.specs.declared.trailer.TrailerRef.{TrailerRef}
use Rattle.gix_object_message.specs.declared.trailers.Trailers.{Trailers}

abbrev pub trailer_text : TrailerRef → Trailer
trailer_text trailer = record { token = bstr_bytes trailer.token; value = bstr_bytes trailer.value }

-- the trailers that are left
abbrev pub trailers_left : Trailers → List Trailer
trailers_left trailers = trailers_in trailers.text.now

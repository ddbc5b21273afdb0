-- The trailers of a commit's message.
use Rattle.std.specs.Prelude.{ℕ, List}
use Rattle.gix_object_message.specs.Paragraphs.{trailer_part}
use Rattle.gix_object_message.specs.Title.{behind_title}
use Rattle.gix_object_message.specs.Trailer.{Trailer, trailers_in}

-- those of the body, in order; the title has none
abbrev pub trailers_of : List ℕ → List Trailer
trailers_of message = trailers_in (trailer_part (behind_title message))

-- The trailers that a filter leaves.
use Rattle.std.specs.Prelude.{Bool, List, filter}
use Rattle.gix_object_message.specs.Attribution.{is_signed_off_by, is_co_authored_by, is_assisted_by, is_attribution, is_author}
use Rattle.gix_object_message.specs.Trailer.{Trailer}
use Rattle.gix_object_message.specs.Views.{trailers_left}
use Rattle.gix_object_message.specs.declared.trailers.Wanted.{Wanted}
use Rattle.gix_object_message.specs.declared.trailers.Wanted.TheVariants.{SignedOffBy, CoAuthoredBy, AssistedBy, Attribution, Author}
use Rattle.gix_object_message.specs.declared.trailers.SelectedTrailers.{SelectedTrailers}

abbrev pub is_wanted : Wanted → Trailer → Bool
is_wanted SignedOffBy trailer = is_signed_off_by trailer.token
is_wanted CoAuthoredBy trailer = is_co_authored_by trailer.token
is_wanted AssistedBy trailer = is_assisted_by trailer.token
is_wanted Attribution trailer = is_attribution trailer.token
is_wanted Author trailer = is_author trailer.token

-- those that are left
abbrev pub selected_left : SelectedTrailers → List Trailer
selected_left selected = filter (is_wanted selected.wanted) (trailers_left selected.trailers)

-- Which names the code of a listing wants.
use Rattle.std.specs.Prelude.{ℕ, Bool, ◌||◌, List, if◌then◌else◌}
use Rattle.gix_object_lines.specs.NameTest.{begins}
use Rattle.gix_ref_store.specs.Folders.{is_below}
use Rattle.gix_ref_store.specs.Listings.{is_within, is_listed}
use Rattle.gix_ref_store.specs.declared.store.file.asked.Asked.{Asked}

-- the name begins so; or it is this one, or below it
abbrev pub fits : Asked → List ℕ → Bool
fits asked name =
    if asked.is_whole then is_within asked.front.now name else begins asked.front.now name

abbrev pub is_asked : Asked → List ℕ → Bool
is_asked asked = is_listed asked.composes (fits asked)

-- a name that is wanted may be at this path, or below it
abbrev pub leads : Asked → List ℕ → Bool
leads asked path = fits asked path || is_below path asked.front.now

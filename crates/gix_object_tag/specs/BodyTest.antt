-- Whether a message and its signature are read back as they are written, as a test.
-- `laws::body_test_is_the_rule` says that the test is `Format`'s `IsWholeBody`.
use Rattle.std.specs.Prelude.{ℕ, Bool, false, not, ◌&&◌, ◌||◌, ◌==◌, List, [], ◌∷◌, codes, Option, None, Some}
use Rattle.gix_object_lines.specs.NameTest.{begins}

-- an armor begins the text
abbrev pub begins_armor : List ℕ → Bool
begins_armor text =
    begins (codes "-----BEGIN PGP SIGNATURE-----") text
    || (begins (codes "-----BEGIN PGP MESSAGE-----") text
    || (begins (codes "-----BEGIN SIGNED MESSAGE-----") text
    || begins (codes "-----BEGIN SSH SIGNATURE-----") text))

-- an armor begins a line after the first
abbrev pub has_later_armor : List ℕ → Bool
has_later_armor [] = false
has_later_armor (byte ∷ rest) = (byte == 10 && begins_armor rest) || has_later_armor rest

-- no line of a message without a signature begins with an armor; a signature begins with one, and
-- no later line of it does
abbrev pub is_whole_body : List ℕ → Option (List ℕ) → Bool
is_whole_body message None = not (begins_armor message || has_later_armor message)
is_whole_body message (Some signature) = begins_armor signature && not (has_later_armor signature)

-- What a program reports about a signature in lines of status (GnuPG, doc/DETAILS, "Format of the
-- --status-fd output"), as Git reads them (gpg-interface.c: `parse_gpg_output`).
use Rattle.std.specs.Prelude.{ℕ, Bool, false, ◌==◌, nat_eq, List, [], ◌∷◌, codes, drop, fold, is_none, Option, None, Some, if◌then◌else◌}
use Rattle.std.specs.List.{before_first, filter_map, list_any, slice_split, starts_with}
use Rattle.std.specs.Option.{option_and_then, option_map_or}
use Rattle.std.specs.Str.{bytes_eq}
use Rattle.gix_object_signature.specs.declared.verify.Status.{Status}
use Rattle.gix_object_signature.specs.declared.verify.Status.TheVariants.{Good, Bad, Error, Expired, ExpiredKey, RevokedKey, Unknown}
use Rattle.gix_object_signature.specs.declared.verify.trust.TrustLevel.{TrustLevel}
use Rattle.gix_object_signature.specs.declared.verify.trust.TrustLevel.TheVariants.{Undefined, Never, Marginal, Fully, Ultimate}

abbrev pub lines_of : List ℕ → List (List ℕ)
lines_of text = slice_split (λ byte. byte == 10) text

-- the line's verdict on the signature, if it has one
unfoldable pub verdict_of : List ℕ → Option Status
verdict_of line =
    if starts_with nat_eq line (codes "[GNUPG:] GOODSIG ") then Some Good
    else (if starts_with nat_eq line (codes "[GNUPG:] BADSIG ") then Some Bad
    else (if starts_with nat_eq line (codes "[GNUPG:] ERRSIG ") then Some Error
    else (if starts_with nat_eq line (codes "[GNUPG:] EXPSIG ") then Some Expired
    else (if starts_with nat_eq line (codes "[GNUPG:] EXPKEYSIG ") then Some ExpiredKey
    else (if starts_with nat_eq line (codes "[GNUPG:] REVKEYSIG ") then Some RevokedKey
    else None)))))

-- the word of a line of trust, up to a space
unfoldable pub trust_word : List ℕ → Option (List ℕ)
trust_word line =
    if starts_with nat_eq line (codes "[GNUPG:] TRUST_")
    then Some (before_first (λ byte. byte == 32) (drop 15 line))
    else None

unfoldable pub level_named : List ℕ → Option TrustLevel
level_named word =
    if bytes_eq word (codes "UNDEFINED") then Some Undefined
    else (if bytes_eq word (codes "NEVER") then Some Never
    else (if bytes_eq word (codes "MARGINAL") then Some Marginal
    else (if bytes_eq word (codes "FULLY") then Some Fully
    else (if bytes_eq word (codes "ULTIMATE") then Some Ultimate
    else None))))

abbrev pub level_of : List ℕ → Option TrustLevel
level_of line = option_and_then level_named (trust_word line)

-- a line of trust whose word names no level
abbrev pub is_strange : List ℕ → Bool
is_strange line = option_map_or (λ word. is_none (level_named word)) (trust_word line) false

-- several verdicts are of several signatures, which Git refuses
abbrev pub told_by : List Status → Status
told_by [] = Unknown
told_by (verdict ∷ []) = verdict
told_by (verdict ∷ other ∷ more) = Error

-- the same along the verdicts, one after another
abbrev pub or_error : Option Status → Status → Status
or_error None verdict = verdict
or_error (Some seen) verdict = Error

abbrev pub status_of : List ℕ → Status
status_of text =
    if list_any is_strange (lines_of text) then Error
    else told_by (filter_map verdict_of (lines_of text))

-- the last level that is named
abbrev pub trust_of : List ℕ → TrustLevel
trust_of text = fold (λ before level. level) Undefined (filter_map level_of (lines_of text))

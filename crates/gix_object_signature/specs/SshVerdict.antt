-- What ssh-keygen's output says about a signature, as Git reads it (gpg-interface.c:
-- `parse_ssh_output`), once the lines are without white space at their ends, and the blank ones
-- before the first other are gone (strbuf.c: `strbuf_stripspace`).
use Rattle.std.specs.Prelude.{ℕ, Bool, false, not, ◌||◌, ◌-◌, ◌==◌, nat_eq, List, [], ◌∷◌, codes, drop, find, length, map, take, unwrap_or, Option, None, Some, if◌then◌else◌}
use Rattle.std.specs.List.{slice_split, starts_with, suffix_len}
use Rattle.std.specs.Char.{is_ascii_whitespace}
use Rattle.std.specs.Option.{option_and_then, option_or}
use Rattle.gix_object_signature.specs.declared.verify.Status.{Status}
use Rattle.gix_object_signature.specs.declared.verify.Status.TheVariants.{Good, Bad}
use Rattle.gix_object_signature.specs.declared.verify.trust.TrustLevel.{TrustLevel}
use Rattle.gix_object_signature.specs.declared.verify.trust.TrustLevel.TheVariants.{Undefined, Never, Fully}

-- ---- the line

-- the line without the white space at its end; it is ASCII's, with form feeds, which are none to
-- Git
unfoldable pub without_space_behind : List ℕ → List ℕ
without_space_behind line = take (length line - suffix_len is_ascii_whitespace line) line

-- the first line that isn't blank
abbrev pub first_line : List ℕ → Option (List ℕ)
first_line text =
    find (λ line. not (length line == 0))
    (map without_space_behind (slice_split (λ byte. byte == 10) text))

-- if each line is blank, it is empty
abbrev pub verdict_line : List ℕ → List ℕ
verdict_line text = unwrap_or (first_line text) []

-- ---- parts of it, none of which is empty

-- what follows the part, if the text begins with it
unfoldable pub behind : List ℕ → List ℕ → Option (List ℕ)
behind part text = if starts_with nat_eq text part then Some (drop (length part) text) else None

-- what follows the last occurrence of the part in the text
abbrev pub behind_last : List ℕ → List ℕ → Option (List ℕ)
behind_last part [] = None
behind_last part (byte ∷ rest) = option_or (behind_last part rest) (behind part (byte ∷ rest))

-- whether the text contains the part
abbrev pub holds : List ℕ → List ℕ → Bool
holds part [] = false
holds part (byte ∷ rest) = starts_with nat_eq (byte ∷ rest) part || holds part rest

-- ---- what it says

-- what follows the signer's name, if one is named
unfoldable pub behind_signer : List ℕ → Option (List ℕ)
behind_signer line =
    option_and_then (behind_last (codes " with "))
    (behind (codes "Good \"git\" signature for ") line)

-- the same, if no signer is named
unfoldable pub behind_no_signer : List ℕ → Option (List ℕ)
behind_no_signer line = behind (codes "Good \"git\" signature with ") line

-- a signature is good only if its key is named
unfoldable pub status_by : List ℕ → Status
status_by told = if holds (codes "key ") told then Good else Bad

abbrev pub status_among : Option (List ℕ) → Option (List ℕ) → Status
status_among (Some told) other = status_by told
status_among None (Some told) = status_by told
status_among None None = Bad

-- a known signer is trusted fully, whatever is said of the key
abbrev pub trust_among : Option (List ℕ) → Option (List ℕ) → TrustLevel
trust_among (Some told) other = Fully
trust_among None (Some told) = Undefined
trust_among None None = Never

abbrev pub status_of : List ℕ → Status
status_of text =
    status_among (behind_signer (verdict_line text)) (behind_no_signer (verdict_line text))

abbrev pub trust_of : List ℕ → TrustLevel
trust_of text =
    trust_among (behind_signer (verdict_line text)) (behind_no_signer (verdict_line text))

-- What std's trims leave.
use Rattle.std.proofs.Common.{◌≡◌, ◌∙◌, ap, sym, ℕ, ◌-◌, ◌<◌, ◌≤◌, false, List, length, take, drop, arith}
use Rattle.std.specs.Prelude.{slice_index}
use Rattle.std.proofs.lemmas.List.{take_all, get_or-take}
use Rattle.std.specs.List.{suffix_len}
use Rattle.std.specs.Char.{is_ascii_whitespace}
use Rattle.std.specs.Str.{IsTrimAsciiStart, IsTrimAsciiEnd}
use Rattle.std.proofs.lemmas.List.Sums.{prefix_len_is, suffix_len_is}
use Rattle.gix_object_message.specs.White.{trim_start, trim_end}

pub trim_start_is : (text out : List ℕ) → IsTrimAsciiStart text out → out ≡ trim_start text
trim_start_is text out is =
    let low : is.0 ≤ length text = omega arith in
    is.1 ∙ ap (λ n. drop n text) (sym (prefix_len_is is_ascii_whitespace text is.0 0 low is.3 is.4))

pub trim_end_is : (text out : List ℕ) → IsTrimAsciiEnd text out → out ≡ trim_end text
trim_end_is text out is =
    let count : suffix_len is_ascii_whitespace text ≡ length text - is.0 = suffix_len_is is_ascii_whitespace text is.0 0 is.3 is.4 is.5 in
    let kept : is.0 ≡ length text - suffix_len is_ascii_whitespace text = omega arith in
    is.1 ∙ ap (λ n. take n text) kept

-- what is trimmed has nothing more to trim
pub trim_end_bare : (text out : List ℕ) → IsTrimAsciiEnd text out → trim_end out ≡ out
trim_end_bare text out is =
    let n = is.0 in
    let whole : length out ≤ length out = omega arith in
    let last : 0 < length out → is_ascii_whitespace (slice_index out (length out - 1)) ≡ false =
    λ some. rw (is.2) (ap is_ascii_whitespace (ap (λ s. slice_index s (n - 1)) is.1 ∙ get_or-take n text (n - 1) 0 (omega (arith, is.2))) ∙ is.5 (omega (arith, is.2))) in
    let count : suffix_len is_ascii_whitespace out ≡ length out - length out =
    suffix_len_is is_ascii_whitespace out (length out) 0 whole (λ k high low. absurd (omega arith)) last in
    let all : length out - suffix_len is_ascii_whitespace out ≡ length out = omega arith in
    ap (λ k. take k out) all ∙ take_all (length out) out whole

-- Trailers that name people, by their tokens, letter case aside (git-commit, `--signoff`, has the
-- first; the others are words that projects write in the same way).
use Rattle.std.specs.Prelude.{ℕ, Bool, ◌||◌, List, codes}
use Rattle.std.specs.Str.{str_eq_ignore_ascii_case}

-- the token is this word, letter case aside
abbrev pub is_token : List ℕ → List ℕ → Bool
is_token word token = str_eq_ignore_ascii_case token word

abbrev pub is_signed_off_by : List ℕ → Bool
is_signed_off_by token = is_token (codes "Signed-off-by") token

abbrev pub is_co_authored_by : List ℕ → Bool
is_co_authored_by token = is_token (codes "Co-authored-by") token

abbrev pub is_assisted_by : List ℕ → Bool
is_assisted_by token = is_token (codes "Assisted-by") token

abbrev pub is_acked_by : List ℕ → Bool
is_acked_by token = is_token (codes "Acked-by") token

abbrev pub is_reviewed_by : List ℕ → Bool
is_reviewed_by token = is_token (codes "Reviewed-by") token

abbrev pub is_tested_by : List ℕ → Bool
is_tested_by token = is_token (codes "Tested-by") token

-- signed off or co-authored
abbrev pub is_author : List ℕ → Bool
is_author token = is_signed_off_by token || is_co_authored_by token

-- any of the six
abbrev pub is_attribution : List ℕ → Bool
is_attribution token =
    is_author token
    ||
    (is_assisted_by token
    || (is_acked_by token || (is_reviewed_by token || is_tested_by token)))

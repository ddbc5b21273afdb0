-- A repository's names are full names.
use Rattle.std.proofs.Common.{◌≡◌, ap, inl, ◌∙◌, ◌||◌, true, ◌++◌, drop, codes, refl}
use Rattle.std.proofs.lemmas.Bool.{and_from, and_parts}
use Rattle.gix_object_lines.specs.NameTest.{is_partial_name, is_full_name, is_capitals, has_slash}
use Rattle.history_model.specs.Bytes.{Bytes, begins}
use Rattle.history_model.specs.Forms.{is_name}
use Rattle.history_model.proofs.NameLemmas.{partial_of, some_or}
use Rattle.history_model.proofs.WholePaths.{begins_parts}

slash_below : (rest : Bytes) → has_slash (codes "refs/" ++ rest) ≡ true
slash_below rest = refl

pub full_of : (name : Bytes) → is_name name ≡ true → is_full_name name ≡ true
full_of name h =
    let below = begins_parts (codes "refs/") name (and_parts (is_partial_name name) (begins (codes "refs/") name) (and_parts _ _ (and_parts _ _ h).0).0).1 in
    and_from (is_partial_name name) (has_slash name || is_capitals name) (partial_of name h)
    (some_or (has_slash name) (is_capitals name) (inl (ap has_slash below ∙ slash_below (drop 5 name))))

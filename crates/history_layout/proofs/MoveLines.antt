-- What the names of the lines of a move hold after it.
use Rattle.std.proofs.Common.{◌≡◌, false, cond, List, [], ◌∷◌, ◌++◌, map, refl, ◌∙◌, ap, Some, unwrap_or, bytes_eq}
use Rattle.std.specs.List.{list_any}
use Rattle.std.specs.FinMap.{get}
use Rattle.std.proofs.lemmas.Bool.{or_parts}
use Rattle.gix_hash.specs.Id.{Id, null_id}
use Rattle.history_model.specs.Bytes.{Bytes, has_twice}
use Rattle.history_model.specs.Objects.{Actor}
use Rattle.history_model.specs.Repository.{Repository, Reference}
use Rattle.history_model.specs.Words.{commit_of}
use Rattle.history_model.specs.Commands.{To}
use Rattle.history_model.specs.Meaning.{References, moved_reference, with_lines, with_name}
use Rattle.history_model.proofs.AfterFirstLemmas.{get-with}
use Rattle.history_model.proofs.WholeLists.{text_itself}

-- ---- names that occur once

pub once_behind : (xs ys : List Bytes) → has_twice bytes_eq (xs ++ ys) ≡ false → has_twice bytes_eq ys ≡ false
once_behind [] ys once = once
once_behind (x ∷ xs) ys once = once_behind xs ys (or_parts (list_any (bytes_eq x) (xs ++ ys)) (has_twice bytes_eq (xs ++ ys)) once).1

abbrev pub name_of : To → Bytes
name_of to = to.name

pub names_joined : (xs ys : List To) → map name_of (xs ++ ys) ≡ map name_of xs ++ map name_of ys
names_joined [] ys = refl
names_joined (to ∷ xs) ys = ap (λ names. to.name ∷ names) (names_joined xs ys)

-- ---- what the names of lines hold

module _ (r : Repository) (actor : Actor) (message : Bytes) where
  abbrev id_for : To → Id
  id_for to = unwrap_or (commit_of r to.word) (null_id r.kind)

  abbrev ref_for : To → Reference
  ref_for to = moved_reference r to.name (id_for to) actor message

  abbrev lines_then : List To → References → References
  lines_then lines names = with_lines r actor message lines names

  lines_joined : (xs ys : List To) (names : References) → lines_then (xs ++ ys) names ≡ lines_then ys (lines_then xs names)
  lines_joined [] ys names = refl
  lines_joined (to ∷ xs) ys names = lines_joined xs ys (with_name r to.name (id_for to) actor message names)

  pub others_stay : (lines : List To) (names : References) (q : Bytes) → list_any (bytes_eq q) (map name_of lines) ≡ false → get (lines_then lines names) q ≡ get names q
  others_stay [] names q apart = refl
  others_stay (to ∷ lines) names q apart =
      let parts = or_parts (bytes_eq q to.name) (list_any (bytes_eq q) (map name_of lines)) apart in
      others_stay lines (with_name r to.name (id_for to) actor message names) q parts.1
      ∙ get-with names to.name (ref_for to) q ∙ ap (λ b. cond b (Some (ref_for to)) (get names q)) parts.0

  pub line_moved : (first rest : List To) (to : To) (names : References) → list_any (bytes_eq to.name) (map name_of rest) ≡ false → get (lines_then (first ++ to ∷ rest) names) to.name ≡ Some (ref_for to)
  line_moved first rest to names apart =
      let before = lines_then first names in
      ap (λ (m : References). get m to.name) (lines_joined first (to ∷ rest) names)
      ∙ others_stay rest (with_name r to.name (id_for to) actor message before) to.name apart
      ∙ get-with before to.name (ref_for to) to.name ∙ ap (λ b. cond b (Some (ref_for to)) (get before to.name)) (text_itself to.name)

-- The names of one command: which are to be made, and which collide.
use Rattle.std.specs.Prelude.{◌≡◌, ℕ, Bool, ◌&&◌, ◌||◌, List, map, filter, is_none, bytes_eq}
use Rattle.std.specs.Borrow.{Bor}
use Rattle.std.specs.List.{list_any}
use Rattle.history_model.specs.Bytes.{Bytes}
use Rattle.history_model.specs.Causes.{do_collide}
use Rattle.history_model.specs.FileMap.{is_below}
use Rattle.history_plans.specs.Moving.{line_name}
use Rattle.history_plans.specs.declared.moving.Line.{Line}

-- whether the line's name is to be made
abbrev pub is_made : Line → Bool
is_made line = is_none line.held

-- whether the name of a line is to be made, and collides with that of one of the lines
abbrev pub do_lines_collide : List Line → Bool
do_lines_collide lines =
    list_any (λ line. is_made line
    && list_any (do_collide (line_name line)) (map line_name lines)) lines

-- ---- of the single steps

abbrev pub names_in : List (Bor (List ℕ)) → List Bytes
names_in names = map (λ name. name.now) names

abbrev pub made_names : List Line → List Bytes
made_names lines = map line_name (filter is_made lines)

-- the first have each name that the second have, and no other
abbrev pub HaveAll : List Bytes → List Bytes → Type 0
HaveAll kept names =
    (name : Bytes) → list_any (bytes_eq name) kept ≡ list_any (bytes_eq name) names

-- whether the line's name is below one to be made, or is to be made and is below one of all
abbrev pub reaches : List Bytes → List Bytes → Line → Bool
reaches all made line = list_any (λ folder. is_below folder (line_name line)) made
    || (is_made line && list_any (λ folder. is_below folder (line_name line)) all)

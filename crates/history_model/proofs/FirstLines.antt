-- A command's parts begin with its first line.
use Rattle.std.proofs.Common.{◌≡◌, true, List, [], ◌∷◌, ◌++◌, length, map, refl, ap, flat_map, Some, None, codes}
use Rattle.std.specs.List.{list_all}
use Rattle.history_model.specs.Bytes.{Bytes}
use Rattle.history_model.specs.Commands.{Command, Commit, Tag, Move, Rename, Delete, Switch, Pack, Index, Names, Files, Past, Log, Show}
use Rattle.history_model.specs.Spelling.{Part, Line, Field, parts_of, is_part, has_enough, path_words, order_words, parents_word, item_word}
use Rattle.history_model.specs.Lines.{first_line}
use Rattle.history_model.specs.LineWords.{words_of, size_words, FirstLinesBegin}
use Rattle.std.proofs.lemmas.Bool.{and_parts}

path_words_are : (paths : List Bytes) → flat_map path_words paths ≡ flat_map size_words (map length paths)
path_words_are [] = refl
path_words_are (path ∷ paths) = ap (λ words. path_words path ++ words) (path_words_are paths)

begins : (command : Command) → has_enough command ≡ true → (more : List Part) × (parts_of command ≡ Line (words_of (first_line command)) ∷ more)
begins (Commit c) h = (_, refl)
begins (Tag c) h = (_, refl)
begins (Move c) h = (_, refl)
begins (Rename old new) h = (_, refl)
begins (Delete name at) h = (_, refl)
begins (Switch name) h = (_, refl)
begins Pack h = (_, refl)
begins Index h = (_, refl)
begins (Names folder) h = (_, refl)
begins (Files word) h = (_, refl)
begins (Past name) h = (_, refl)
begins (Log c) h =
    let paths = path_words_are c.paths in
    (map Field c.paths, λ i. Line (codes "log" ∷ (order_words c.order ++ (parents_word c.first_parents ∷ (map item_word c.items ++ paths i)))) ∷ map Field c.paths)
begins (Show word None) h = (_, refl)
begins (Show word (Some path)) h = (_, refl)

pub first_lines_begin : FirstLinesBegin
first_lines_begin command h = begins command (and_parts (list_all is_part (parts_of command)) (has_enough command) h).1

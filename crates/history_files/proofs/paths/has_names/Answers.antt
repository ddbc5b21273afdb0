use Rattle.std.proofs.Common.{◌≡◌, ◌∙◌, refl, true, false, Bool, not, ◌&&◌, ◌||◌, List, [], ◌∷◌, rules, tests, ◌==◌}
use Rattle.std.specs.List.{list_all, list_any}
use Rattle.std.proofs.lemmas.Iterator.Search.{all_from_yields_List}
use Rattle.std.proofs.lemmas.Iterator.Splits.{YieldsList-from_slice_split}
use Rattle.history_model.specs.Bytes.{Bytes, is_empty}
use Rattle.history_model.specs.FileMap.{components}
use Rattle.history_files.proofs.paths.has_names.Goals as goal

all_none : (names : List Bytes) → list_all (λ name. not (is_empty name)) names ≡ not (list_any is_empty names)
all_none [] = refl
all_none (name ∷ names) = go (is_empty name) (all_none names)
  where
    go : (b : Bool) → list_all (λ name. not (is_empty name)) names ≡ not (list_any is_empty names) → (not b && list_all (λ name. not (is_empty name)) names) ≡ not (b || list_any is_empty names)
    go true e = refl
    go false e = e

pub returns : goal.returns
returns c =
    all_from_yields_List (λ (name : Bytes). not (is_empty name)) _ _ _ c.all.ensures.ran
    (YieldsList-from_slice_split _ (λ byte. byte == 47) c.args.path.now c.split.ensures.rest c.split.ensures.done c.split.ensures.closure (λ x r q k. search (rules, tests)))
    (λ x b q k. search (rules, tests))
    ∙ all_none (components c.args.path.now)

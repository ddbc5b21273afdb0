use Rattle.std.proofs.Common.{◌≡◌, ◌∙◌, sym, ap, map, Vec, ℕ, List}
use Rattle.std.specs.List.{list_all}
use Rattle.std.specs.declared.alloc.Global.{Global}
use Rattle.std.proofs.lemmas.List.Folds.{list_all-map}
use Rattle.gix_ref_file.specs.Tree.{is_path}
use Rattle.gix_ref_transaction.specs.Paths.{bytes_of}
use Rattle.gix_ref_transaction.proofs.transaction.allowed.Goals as goal

-- whether each of them is a path
same_paths : (paths : List (Vec ℕ Global)) → list_all is_path (map bytes_of paths) ≡ list_all (λ path. is_path path.items) paths
same_paths paths = list_all-map is_path bytes_of paths

pub returns-then-not-are_paths-clause-failed : goal.returns-then-not-are_paths-clause-failed
returns-then-not-are_paths-clause-failed g c =
    sym (ap (list_all is_path) c.in_ok-paths.ensures) ∙ same_paths c.in_ok-paths.paths.items ∙ ap (list_all (λ path. is_path path.items)) (sym c.deref-2.ensures.value) ∙ sym c.are_paths.ensures ∙ c.if-not-are_paths.true

pub returns-clause-paths : goal.returns-clause-paths
returns-clause-paths g c =
    sym (ap (list_all is_path) c.in_ok-paths.ensures) ∙ same_paths c.in_ok-paths.paths.items ∙ ap (list_all (λ path. is_path path.items)) (sym c.deref-2.ensures.value) ∙ sym c.are_paths.ensures ∙ c.if-not-are_paths.false

use Rattle.std.proofs.Common.{◌≡◌, ◌∙◌, sym, subst, ap, map, take, get_or, ◌+◌, ℕ, List, [], ◌∷◌, ◌++◌, Bor}
use Rattle.std.proofs.lemmas.List.{map-append, take_more}
use Rattle.gix_object_lookup.specs.Path.{Path}
use Rattle.gix_traverse_tree.specs.AtPaths.{names_of}
use Rattle.gix_traverse_tree.specs.Folders.{NumbersPaths}
use Rattle.gix_traverse_tree.proofs.Numbering.{paths_more}
use Rattle.gix_traverse_tree.proofs.folders.number_paths.Goals as goal

pub loop-path-preserved : goal.loop-path-preserved
loop-path-preserved c =
    let none : Bor (List ℕ) = record { ref_ptr = (0, 0); now = [] } in
    let names : Bor (List ℕ) → Path = λ path. names_of path.now in
    let paths = c.args.paths.now in
    let at = c.loop-path.path-index in
    let cut : map names (take at paths) ++ names (get_or paths at none) ∷ [] ≡ map names (take (at + 1) paths) =
    sym (map-append names (take at paths) (get_or paths at none ∷ [])) ∙ ap (map names) (sym (take_more paths at none c.loop-path-test.true)) in
    subst (λ (ps : List Path). NumbersPaths ps c.push-in-loop-path.new.self.items c.number_path.new.folders.items) cut
    (subst (λ (ns : List ℕ). NumbersPaths (map names (take at paths) ++ names (get_or paths at none) ∷ []) ns c.number_path.new.folders.items) (sym c.in_ok-push-2.ensures.items)
    (paths_more (map names (take at paths)) c.loop-path.numbers.items (names (get_or paths at none)) c.in_ok-number.number c.loop-path.folders.items c.number_path.new.folders.items c.loop-path.invariant c.in_ok-number.ensures))

use Rattle.std.proofs.Common.{◌≡◌, ◌∙◌, sym, ap, true, length, ◌&&◌, rules, tests, arith}
use Rattle.std.specs.Prelude.{nat_le, ◌==◌}
use Rattle.std.specs.List.{list_all, slice_split}
use Rattle.std.proofs.lemmas.Bool.Decides.{nat_tests}
use Rattle.std.proofs.lemmas.Iterator.Search.{all_from_yields_List}
use Rattle.std.proofs.lemmas.Iterator.Splits.{YieldsList-from_slice_split}
use Rattle.gix_ref_file.specs.Tree.{is_slash, is_component}
use Rattle.gix_ref_file.proofs.paths.is_path.Goals as goal

pub returns-then-path-le-MAX_PATH : goal.returns-then-path-le-MAX_PATH
returns-then-path-le-MAX_PATH c =
    let short : nat_le (length c.args.path.now) 4096 ≡ true = grind (arith, nat_tests) in
    all_from_yields_List is_component _ _ _ c.all.ensures.ran
    (YieldsList-from_slice_split _ (λ byte. byte == 47) c.args.path.now c.split.ensures.rest c.split.ensures.done c.split.ensures.closure (λ x r q k. search (rules, tests)))
    (λ x b q k. search (rules, tests))
    ∙ ap (λ b. b && list_all is_component (slice_split is_slash c.args.path.now)) (sym short)

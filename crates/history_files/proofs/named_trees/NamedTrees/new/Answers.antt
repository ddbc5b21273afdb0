use Rattle.std.proofs.Common.{◌∙◌, ◌++◌, ap, Bor, List, ℕ, [], map}
use Rattle.std.specs.List.{flat_map}
use Rattle.std.proofs.lemmas.List.{take_all}
use Rattle.history_files.proofs.NamesKept.{names_more, none_kept, parts_of, split_more}
use Rattle.history_files.proofs.named_trees.NamedTrees.new.Goals as goal

pub loop-path-preserved : goal.loop-path-preserved
loop-path-preserved c =
    let none : Bor (List ℕ) = record { ref_ptr = (0, 0); now = [] } in
    let paths = c.args.paths.now in
    let i = c.loop-path.path-index in (
      split_more paths i none c.loop-path-test.true c.in_ok-parts.parts c.in_ok-parts.ensures c.loop-path.split.items c.push.new.self.items c.in_ok-push.ensures.items c.loop-path.invariant.0,
      names_more paths i none c.loop-path-test.true c.in_ok-parts.parts c.in_ok-parts.ensures c.loop-path.names.items c.extend_from_slice.new.self.items (c.in_ok-extend_from_slice.ensures.items ∙ ap (λ more. c.loop-path.names.items ++ more) c.as_slice.ensures.value) c.loop-path.invariant.1,
    )

pub returns : goal.returns
returns c = λ table.
    let all = take_all c.loop-path.path-index c.args.paths.now c.loop-path-test.false in
    record {
      each = c.loop-path.invariant.0 ∙ ap (map parts_of) all;
      names = c.loop-path.invariant.1 ∙ ap (flat_map parts_of) all;
      kept = none_kept table c.loop-path.names.items c.new.result c.new.ensures.empty;
    }

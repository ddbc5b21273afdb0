use Rattle.std.proofs.Common.{◌∙◌, sym, ap, length, rules, tests}
use Rattle.std.specs.List.{list_any}
use Rattle.std.specs.FinMap as map
use Rattle.std.specs.Map.Iter.{TakesFirst, deref_pair}
use Rattle.std.proofs.lemmas.Iterator.Search.{any_from_yields_List}
use Rattle.std.proofs.lemmas.Iterator.Consumers.{YieldsList-from_shown}
use Rattle.gix_ref_file.specs.declared.nodes.Entry.{Entry}
use Rattle.gix_ref_file.specs.Tree.{same_path, parent}
use Rattle.gix_ref_file.proofs.Entries.{Key, keys-tree_of, list_any-entries}
use Rattle.gix_ref_file.proofs.Below.{Pair, forward_first, any_between}
use Rattle.gix_ref_file.proofs.nodes.Nodes.has_children.Goals as goal

pub range-requires : goal.range-requires
range-requires c = forward_first c.args.folder.now _ _ c.in_ok-below.ensures.0 c.in_ok-below.ensures.1

pub returns : goal.returns
returns c =
    let es = c.self.inside.entries.entries in
    let folder = c.args.folder.now in
    let below = c.in_ok-below.ensures in
    let shown = YieldsList-from_shown (TakesFirst (deref_pair {K = Key} {X = Entry})) deref_pair (λ s. s) (λ s t step. ap length step.0) (λ s x t step. step) c.range.result in
    any_from_yields_List (λ (e : Pair). same_path (parent e.0.items) folder) _ _ c.any.result c.any.ensures.ran shown (λ x b q k. search (rules, tests))
    ∙ ap (list_any (λ (e : Pair). same_path (parent e.0.items) folder)) (c.range.ensures.between tt)
    ∙ any_between folder _ _ below.0 below.1 es
    ∙ list_any-entries (λ path. same_path (parent path) folder) es
    ∙ ap (list_any (λ path. same_path (parent path) folder)) (sym (keys-tree_of es c.self.invariant) ∙ ap map.keys c.self.view_is)

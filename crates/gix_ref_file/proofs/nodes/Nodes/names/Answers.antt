use Rattle.std.proofs.Common.{◌≡◌, ◌∙◌, ◌++◌, ◌∷◌, [], sym, ap, filter_map, subst, rules, tests}
use Rattle.std.proofs.lemmas.List.{append-nil, map-append}
use Rattle.std.specs.Prelude.{Vec}
use Rattle.std.specs.declared.alloc.Global.{Global}
use Rattle.std.specs.List.{after_last}
use Rattle.gix_ref_file.specs.Below.{IsBehind}
use Rattle.std.specs.Prelude.{map as list_map}
use Rattle.std.specs.FinMap as finite
use Rattle.std.specs.List.{filter}
use Rattle.gix_ref_file.specs.Tree.{name_in, is_slash}
use Rattle.gix_ref_file.proofs.Entries.{Key, keys-tree_of, filter_map-entries}
use Rattle.gix_ref_file.proofs.Below.{name_here, is_within, forward_first, names_between, listing_step, run_is, less_left, name_listed, name_passed}
use Rattle.gix_ref_file.proofs.nodes.Nodes.names.Goals.{then-eq+in_ok-to_vec+in_ok-push, else-eq}
use Rattle.gix_ref_file.proofs.nodes.Nodes.names.Goals as goal

pub loop-path-init : goal.loop-path-init
loop-path-init c =
    let below = c.in_ok-start.ensures in
    let es = c.self.inside.entries.entries in (
      below.1,
      forward_first c.args.folder.now _ _ below.0 below.1,
      ap (λ ns. list_map (λ (name : Key). name.items) ns ++ filter_map (name_here c.args.folder.now) (filter (is_within c.in_ok-start.start c.in_ok-start.end) es)) c.new-found.ensures.items
          ∙ names_between c.args.folder.now _ _ below.0 below.1 es,
    )

pub loop-path-smaller : goal.loop-path-smaller
loop-path-smaller c =
    let es = c.self.inside.entries.entries in
    let first = run_is _ _ _ _ es _ c.as_ref.ensures c.as_ref-in-loop-path.ensures (c.range.ensures.between tt) ∙ c.in-Some.ensures.steps in
    let behind = subst (λ path. IsBehind c.args.folder.now path c.in_ok-start-2.start) c.deref-in-Some.ensures.value c.in_ok-start-2.ensures in
    let step = listing_step c.args.folder.now _ _ _ (c.in-Some.path.now, c.in-Some.field-0-1.now) _ es c.loop-path.invariant.0 behind c.self.invariant first in
    less_left _ _ _ _ _ es first step.1

pub loop-path-preserved : goal.loop-path-preserved
loop-path-preserved c =
    let es = c.self.inside.entries.entries in
    let folder = c.args.folder.now in
    let first = run_is _ _ _ _ es _ c.as_ref.ensures c.as_ref-in-loop-path.ensures (c.range.ensures.between tt) ∙ c.in-Some.ensures.steps in
    let behind = subst (λ path. IsBehind folder path c.in_ok-start-2.start) c.deref-in-Some.ensures.value c.in_ok-start-2.ensures in
    let step = listing_step folder _ _ _ (c.in-Some.path.now, c.in-Some.field-0-1.now) _ es c.loop-path.invariant.0 behind c.self.invariant first in
    let so_far = ap (λ left. list_map (λ (name : Key). name.items) c.loop-path.found.items ++ filter_map (name_here folder) left) (sym first) ∙ c.loop-path.invariant.2 in (
      c.loop-path.invariant.0,
      step.2,
      elim c.if-eq.branch [
        | then-eq+in_ok-to_vec+in_ok-push w ↦
            let name : w.in_ok-to_vec.field-0.items ≡ after_last is_slash c.in-Some.path.now.items = search rules in
            let pushed = ap (λ (found : Vec Key Global). list_map (λ (name : Key). name.items) found.items) w.found-is
            ∙ ap (list_map (λ (name : Key). name.items)) w.in_ok-push.ensures.items
            ∙ map-append (λ (name : Key). name.items) c.loop-path.found.items (w.in_ok-to_vec.field-0 ∷ [])
            ∙ ap (λ n. list_map (λ (name : Key). name.items) c.loop-path.found.items ++ n ∷ []) name in
            name_listed folder (c.in-Some.path.now, c.in-Some.field-0-1.now) _ _ _ _ _ (search (rules, tests)) pushed step.0 so_far
        | else-eq w ↦ name_passed folder (c.in-Some.path.now, c.in-Some.field-0-1.now) _ _ _ _ _ (search (rules, tests)) (search rules) step.0 so_far
      ],
    )

pub returns : goal.returns
returns c =
    let es = c.self.inside.entries.entries in
    let none = run_is _ _ _ _ es _ c.as_ref.ensures c.as_ref-in-loop-path.ensures (c.range.ensures.between tt) ∙ c.in_default.ensures.steps.0 in
    sym (append-nil (list_map (λ (name : Key). name.items) c.loop-path.found.items))
    ∙ ap (λ left. list_map (λ (name : Key). name.items) c.loop-path.found.items ++ filter_map (name_here c.args.folder.now) left) (sym none)
    ∙ c.loop-path.invariant.2
    ∙ filter_map-entries (name_in c.args.folder.now) es
    ∙ ap (filter_map (name_in c.args.folder.now)) (sym (keys-tree_of es c.self.invariant) ∙ ap finite.keys c.self.view_is)

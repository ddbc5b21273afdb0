use Rattle.std.proofs.Common.{rules, ◌≡◌, ◌∙◌, ◌<◌, ◌^◌, ℕ, ap, refl, sym, subst, arith, fold, map, max, unwrap_or, List, [], ◌∷◌, length}
use Rattle.std.specs.Prelude.{FitsSigned}
use Rattle.std.specs.Int.{w64}
use Rattle.std.specs.HashMap.{get}
use Rattle.std.proofs.lemmas.Int.{to_z-of_z}
use Rattle.std.proofs.lemmas.List.{append-nil}
use Rattle.gix_hash.specs.Id.{id_of}
use Rattle.gix_hash.specs.declared.object_id.ObjectId.{ObjectId}
use Rattle.gix_traverse_graph.specs.Numbered.{same_id}
use Rattle.gix_traverse_graph.specs.declared.rows.Row.{Row}
use Rattle.history_model.specs.Answers.{generation}
use Rattle.history_walks.specs.declared.told.Told.{Told}
use Rattle.history_walks.proofs.RowsMade.{AreMade, are_the_rows, counted_is, is_new, make_a_graph, none_left, none_made, passed, row_pushed, taken}
use Rattle.history_walks.proofs.rows.rows_of.Goals as goal

pub commits-init : goal.commits-init
commits-init c = ([], sym (append-nil c.args.commits.items), λ r all. subst (λ (rows : List Row). AreMade r [] rows c.new-generations.result) (sym c.new-rows.ensures.items) (none_made r c.new-generations.result))

pub commits-preserved-in-Continue-branch-2 : goal.commits-preserved-in-Continue-branch-2
commits-preserved-in-Continue-branch-2 c =
    let (done, split, made) = c.commits.invariant in
    let told = c.in-Some.told in
    let rest = c.pop.new.self.items in
    let now = taken c.args.commits.items c.commits.commits.items rest done told split c.in-Some.ensures.items in
    let greatest_is = c.greatest.ensures ∙ ap (λ (ps : List ObjectId). fold max 0 (map (λ parent. unwrap_or (get same_id c.commits.generations parent) 0) ps)) c.as_slice.ensures in
    let small : length c.args.commits.items < 2 ^ 64 = let a = c.args.commits.ok in let b = c.args.commits.small in omega arith in
    let fits : FitsSigned w64 c.in-Some.told.time = search rules in (
      told ∷ done,
      now,
      λ r all.
          let are = made r all in
          let is = counted_is r c.args.commits.items rest done told now all c.commits.rows.items c.commits.generations are c.greatest.result c.saturating_add-generation.result greatest_is c.saturating_add-generation.ensures small in
          let new = is_new r c.args.commits.items rest done told now all c.commits.rows.items c.commits.generations are in
          let within = c.if-generation.true in
          row_pushed r done c.commits.rows.items c.commits.generations are told new c.saturating_add-generation.result is c.insert.new.self c.in_ok-insert.ensures.updates.0 _ c.push.new.self.items c.in_ok-push.ensures.items refl refl refl (to_z-of_z w64 c.in-Some.told.time fits) within (omega (arith, within)),
    )

pub commits-preserved-else-generation : goal.commits-preserved-else-generation
commits-preserved-else-generation c =
    let (done, split, made) = c.commits.invariant in
    let told = c.in-Some.told in
    let rest = c.pop.new.self.items in
    let now = taken c.args.commits.items c.commits.commits.items rest done told split c.in-Some.ensures.items in
    let greatest_is = c.greatest.ensures ∙ ap (λ (ps : List ObjectId). fold max 0 (map (λ parent. unwrap_or (get same_id c.commits.generations parent) 0) ps)) c.as_slice.ensures in
    let small : length c.args.commits.items < 2 ^ 64 = let a = c.args.commits.ok in let b = c.args.commits.small in omega arith in (
      told ∷ done,
      now,
      λ r all.
          let are = made r all in
          let is = counted_is r c.args.commits.items rest done told now all c.commits.rows.items c.commits.generations are c.greatest.result c.saturating_add-generation.result greatest_is c.saturating_add-generation.ensures small in
          let new = is_new r c.args.commits.items rest done told now all c.commits.rows.items c.commits.generations are in
          let above = c.if-generation.false in
          passed r done c.commits.rows.items c.commits.generations are told new c.saturating_add-generation.result is c.insert.new.self c.in_ok-insert.ensures.updates.0 (omega (arith, above)),
    )

pub commits-preserved : goal.commits-preserved
commits-preserved c =
    let (done, split, made) = c.commits.invariant in
    let told = c.in-Some.told in
    let rest = c.pop.new.self.items in
    let now = taken c.args.commits.items c.commits.commits.items rest done told split c.in-Some.ensures.items in
    let greatest_is = c.greatest.ensures ∙ ap (λ (ps : List ObjectId). fold max 0 (map (λ parent. unwrap_or (get same_id c.commits.generations parent) 0) ps)) c.as_slice.ensures in
    let small : length c.args.commits.items < 2 ^ 64 = let a = c.args.commits.ok in let b = c.args.commits.small in omega arith in (
      told ∷ done,
      now,
      λ r all.
          let are = made r all in
          let is = counted_is r c.args.commits.items rest done told now all c.commits.rows.items c.commits.generations are c.greatest.result c.saturating_add-generation.result greatest_is c.saturating_add-generation.ensures small in
          let new = is_new r c.args.commits.items rest done told now all c.commits.rows.items c.commits.generations are in
          let above = c.if-generation.false in
          passed r done c.commits.rows.items c.commits.generations are told new c.saturating_add-generation.result is c.insert.new.self c.in_ok-insert.ensures.updates.0 (omega (arith, above)),
    )

pub returns-clause-rows : goal.returns-clause-rows
returns-clause-rows c = λ r all.
    let (done, split, made) = c.commits.invariant in
    let empty : length c.commits.commits.items ≡ 0 = let a = c.commits.commits.ok in let b = c.in_default.ensures.cases.0 in omega arith in
    are_the_rows r c.args.commits.items all c.commits.rows.items c.commits.generations
    (subst (λ (ts : List Told). AreMade r ts c.commits.rows.items c.commits.generations) (none_left c.args.commits.items c.commits.commits.items done split empty) (made r all))

pub returns-clause-graph : goal.returns-clause-graph
returns-clause-graph c = λ r all.
    let (done, split, made) = c.commits.invariant in
    let empty : length c.commits.commits.items ≡ 0 = let a = c.commits.commits.ok in let b = c.in_default.ensures.cases.0 in omega arith in
    make_a_graph r c.args.commits.items all c.commits.rows.items c.commits.generations
    (subst (λ (ts : List Told). AreMade r ts c.commits.rows.items c.commits.generations) (none_left c.args.commits.items c.commits.commits.items done split empty) (made r all))

use Rattle.std.proofs.Common.{◌≡◌, ℕ, ◌<◌, List, ◌∷◌, ◌++◌, [], length, sym, ◌∙◌, ap, subst, cond, set}
use Rattle.std.specs.List.{list_any}
use Rattle.std.proofs.lemmas.Option.{slice_get_within}
use Rattle.gix_hash.specs.declared.object_id.ObjectId.{ObjectId}
use Rattle.gix_traverse_commit_known.specs.Nodes.{AreNumbered, Node, ids_of, flags_of, nodes_in}
use Rattle.gix_traverse_graph.specs.Numbered.{same_id}
use Rattle.gix_traverse_graph.specs.Order.{At}
use Rattle.gix_traverse_commit_known.specs.declared.nodes.WalkFlags.{WalkFlags}
use Rattle.gix_traverse_commit_known.proofs.NodeLemmas.{ids_again, keys_push, flags_push, flags_set, numbered_push, numbered_set, stays}
use Rattle.gix_traverse_graph.proofs.Lists.{at_append}
use Rattle.gix_traverse_graph.proofs.RowLemmas.{at_item}
use Rattle.gix_traverse_commit_known.proofs.nodes.Nodes.mark.Goals as goal

pub invariant_of-self : goal.invariant_of-self
invariant_of-self c = numbered_set c.self.inside.ids.keys c.self.inside.flags.items c.self.invariant c.in-Some.number.0 c.args.flags

pub returns-in-Some-clause-marked : goal.returns-in-Some-clause-marked
returns-in-Some-clause-marked c = λ q.
    let ids : List ObjectId = c.self.inside.ids.keys in
    let items : List WalkFlags = c.self.inside.flags.items in
    let n : ℕ = c.in-Some.number.0 in
    let within : n < length items = subst (λ (l : ℕ). n < l) (sym c.self.invariant.as_many) (slice_get_within ids n c.args.id c.in-Some.ensures.found) in
    let here : At items n c.index_mut.result.now = at_item items n c.index_mut.result.now within c.index_mut.ensures.value in
    flags_set ids items c.self.invariant n c.args.id c.index_mut.result.now c.args.flags c.in-Some.ensures.found here q ∙ ap (λ (xs : List Node). cond (same_id c.args.id q) c.args.flags (flags_of xs q)) c.self.view_is

pub invariant_of-self-2 : goal.invariant_of-self-2
invariant_of-self-2 c =
    let ids : List ObjectId = c.self.inside.ids.keys in
    let items : List WalkFlags = c.self.inside.flags.items in
    let new_ids : c.insert.new.self.keys ≡ ids ++ c.args.id ∷ [] = keys_push ids c.insert.new.self.keys c.args.id c.in_ok-insert.ensures.keys c.in_default.ensures.none in
    let new_flags : c.push.new.self.items ≡ items ++ c.args.flags ∷ [] = c.in_ok-push.ensures.items ∙ ap (λ (ms : List WalkFlags). ms ++ c.args.flags ∷ []) c.reserve.ensures.items in
    subst (λ (xs : List ObjectId). AreNumbered xs c.push.new.self.items) (sym new_ids)
    (subst (λ (ms : List WalkFlags). AreNumbered (ids ++ c.args.id ∷ []) ms) (sym new_flags) (numbered_push ids items c.args.id c.args.flags c.self.invariant c.in_default.ensures.none))

pub returns-clause-marked : goal.returns-clause-marked
returns-clause-marked c = λ q.
    let ids : List ObjectId = c.self.inside.ids.keys in
    let items : List WalkFlags = c.self.inside.flags.items in
    let new_ids : c.insert.new.self.keys ≡ ids ++ c.args.id ∷ [] = keys_push ids c.insert.new.self.keys c.args.id c.in_ok-insert.ensures.keys c.in_default.ensures.none in
    let new_flags : c.push.new.self.items ≡ items ++ c.args.flags ∷ [] = c.in_ok-push.ensures.items ∙ ap (λ (ms : List WalkFlags). ms ++ c.args.flags ∷ []) c.reserve.ensures.items in
    ap (λ (xs : List ObjectId). flags_of (nodes_in xs c.push.new.self.items) q) new_ids
    ∙ ap (λ (ms : List WalkFlags). flags_of (nodes_in (ids ++ c.args.id ∷ []) ms) q) new_flags
    ∙ flags_push ids items c.args.id c.args.flags c.self.invariant.as_many c.in_default.ensures.none q
    ∙ ap (λ (xs : List Node). cond (same_id c.args.id q) c.args.flags (flags_of xs q)) c.self.view_is

pub returns-in-Some-clause-named : goal.returns-in-Some-clause-named
returns-in-Some-clause-named c =
    let ids : List ObjectId = c.self.inside.ids.keys in
    let items : List WalkFlags = c.self.inside.flags.items in
    let n : ℕ = c.in-Some.number.0 in
    let new : List WalkFlags = set items n c.args.flags in
    let old : ids ≡ ids_of c.args.self.now = ids_again ids items c.self.invariant.as_many ∙ ap ids_of c.self.view_is in
    subst (λ (xs : List ObjectId). ids_of (nodes_in ids new) ≡ cond (list_any (same_id c.args.id) xs) xs (xs ++ c.args.id ∷ [])) old
    (sym (ids_again ids new (numbered_set ids items c.self.invariant n c.args.flags).as_many) ∙ stays ids n c.args.id c.in-Some.ensures.found)

pub returns-clause-named : goal.returns-clause-named
returns-clause-named c =
    let ids : List ObjectId = c.self.inside.ids.keys in
    let items : List WalkFlags = c.self.inside.flags.items in
    let new_ids : c.insert.new.self.keys ≡ ids ++ c.args.id ∷ [] = keys_push ids c.insert.new.self.keys c.args.id c.in_ok-insert.ensures.keys c.in_default.ensures.none in
    let new_flags : c.push.new.self.items ≡ items ++ c.args.flags ∷ [] = c.in_ok-push.ensures.items ∙ ap (λ (ms : List WalkFlags). ms ++ c.args.flags ∷ []) c.reserve.ensures.items in
    let as_many : length c.push.new.self.items ≡ length c.insert.new.self.keys = ap length new_flags ∙ (numbered_push ids items c.args.id c.args.flags c.self.invariant c.in_default.ensures.none).as_many ∙ sym (ap length new_ids) in
    let old : ids ≡ ids_of c.args.self.now = ids_again ids items c.self.invariant.as_many ∙ ap ids_of c.self.view_is in
    subst (λ (xs : List ObjectId). ids_of (nodes_in c.insert.new.self.keys c.push.new.self.items) ≡ cond (list_any (same_id c.args.id) xs) xs (xs ++ c.args.id ∷ [])) old
    (sym (ids_again c.insert.new.self.keys c.push.new.self.items as_many) ∙ c.in_ok-insert.ensures.keys)

pub returns-in-Some-clause-numbered : goal.returns-in-Some-clause-numbered
returns-in-Some-clause-numbered c =
    let ids : List ObjectId = c.self.inside.ids.keys in
    let items : List WalkFlags = c.self.inside.flags.items in
    let n : ℕ = c.in-Some.number.0 in
    let new : List WalkFlags = set items n c.args.flags in
    subst (λ (xs : List ObjectId). At xs n c.args.id) (ids_again ids new (numbered_set ids items c.self.invariant n c.args.flags).as_many) c.in-Some.ensures.found

pub returns-clause-numbered : goal.returns-clause-numbered
returns-clause-numbered c =
    let ids : List ObjectId = c.self.inside.ids.keys in
    let items : List WalkFlags = c.self.inside.flags.items in
    let new_ids : c.insert.new.self.keys ≡ ids ++ c.args.id ∷ [] = keys_push ids c.insert.new.self.keys c.args.id c.in_ok-insert.ensures.keys c.in_default.ensures.none in
    let new_flags : c.push.new.self.items ≡ items ++ c.args.flags ∷ [] = c.in_ok-push.ensures.items ∙ ap (λ (ms : List WalkFlags). ms ++ c.args.flags ∷ []) c.reserve.ensures.items in
    let as_many : length c.push.new.self.items ≡ length c.insert.new.self.keys = ap length new_flags ∙ (numbered_push ids items c.args.id c.args.flags c.self.invariant c.in_default.ensures.none).as_many ∙ sym (ap length new_ids) in
    let n : ℕ = length c.as_slice.result.now in
    let place : n ≡ length ids = ap length c.as_slice.ensures.value ∙ c.self.invariant.as_many in
    let here : At (ids ++ c.args.id ∷ []) n c.args.id = subst (λ (k : ℕ). At (ids ++ c.args.id ∷ []) k c.args.id) (sym place) (at_append ids c.args.id []) in
    subst (λ (xs : List ObjectId). At xs n c.args.id) (sym new_ids ∙ ids_again c.insert.new.self.keys c.push.new.self.items as_many) here

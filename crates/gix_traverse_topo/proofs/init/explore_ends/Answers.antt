use Rattle.std.proofs.Common.{ℕ, ◌≡◌, ◌∙◌, List, [], inl, inr, length, refl, ap, sym, subst, arith}
use Rattle.std.proofs.lemmas.Result.{err_from_is_err_and}
use Rattle.gix_hash.specs.declared.object_id.ObjectId.{ObjectId}
use Rattle.gix_traverse_commit_known.specs.Meeting.{CountsAll}
use Rattle.gix_traverse_graph.specs.Rows.{AllHeld}
use Rattle.gix_object_lookup.specs.Table.{Table}
use Rattle.gix_traverse_commit_known.specs.Told.{rows_of}
use Rattle.gix_traverse_graph.specs.declared.rows.Row.{Row}
use Rattle.gix_traverse_graph.proofs.Lists.{at_from_contains, none_at_nil}
use Rattle.gix_traverse_graph.specs.declared.parents.Parents.TheVariants.{All}
use Rattle.gix_traverse_topo.specs.Walking.{Walking}
use Rattle.gix_traverse_topo.specs.declared.known.Known.{Known}
use Rattle.gix_traverse_topo.specs.declared.known.Node.{Node}
use Rattle.gix_traverse_topo.proofs.Exploring.{painted, stops, as_many}
use Rattle.gix_traverse_topo.proofs.Flagged.{first_all, hidden_all}
use Rattle.gix_traverse_topo.proofs.Meeting.{length_map}
use Rattle.gix_traverse_topo.specs.Nodes.{all_flags}
use Rattle.gix_traverse_topo.proofs.init.explore_ends.Goals as goal

module _ {honest may_fail : Type 0} {rows : List Row} {table : Table} {ends keys : List ObjectId} {nodes : List Node} {high : ℕ} (known : Known) where
  -- a walk that begins with no name and no node
  from_none : known.ids.keys ≡ [] → known.nodes.items ≡ [] → Walking honest may_fail rows table All ends known.ids.keys known.nodes.items high keys nodes → Walking honest may_fail rows table All ends [] [] high keys nodes
  from_none ids none walking =
      subst (λ (ks : List ObjectId). Walking honest may_fail rows table All ends ks [] high keys nodes) ids
      (subst (λ (ns : List Node). Walking honest may_fail rows table All ends known.ids.keys ns high keys nodes) none walking)

pub returns-in-Some-clause-refused : goal.returns-in-Some-clause-refused
returns-in-Some-clause-refused g c =
    let (high, full, walking) = c.in_ok-walk.ensures.walks in
    let w = from_none c.new-known.result c.new-known.ensures.ids c.new-known.ensures.nodes walking in
    let (n, facts, a, e) = c.in-Some.ensures.fault in
    inr (stops _ _ _ _ c.args.ends.now _ _ high w full n facts c.in-Some.error a e)

pub returns-in-None-clause-painted : goal.returns-in-None-clause-painted
returns-in-None-clause-painted g c =
    let (high, full, walking) = c.in_ok-walk.ensures.walks in
    let w = from_none c.new-known.result c.new-known.ensures.ids c.new-known.ensures.nodes walking in
    let many = as_many _ _ _ _ c.args.ends.now _ _ high w full in
    let same = length_map (λ (v : Node). v.facts) c.walk.new.self.nodes.items in
    let hidden = hidden_all c.hide_all.new.nodes.items c.hide_all.ensures.flags in
    painted _ _ _ _ c.args.ends.now _ _ high w full _ refl c.hide_all.ensures.all_facts
    (hidden ∙ sym (length_map (λ (v : Node). v.facts) c.hide_all.new.nodes.items) ∙ ap length c.hide_all.ensures.all_facts ∙ same ∙ many) c.in-None.ensures.none

pub returns-in-None-clause-counted : goal.returns-in-None-clause-counted
returns-in-None-clause-counted g c =
    let (high, full, walking) = c.in_ok-walk.ensures.walks in
    let w = from_none c.new-known.result c.new-known.ensures.ids c.new-known.ensures.nodes walking in
    let many = as_many _ _ _ _ c.args.ends.now _ _ high w full in
    omega (arith, c.in_ok-walk.ensures.counts.most, many)

pub returns-in-None-clause-each : goal.returns-in-None-clause-each
returns-in-None-clause-each g c = λ bare zero.
    let (high, full, walking) = c.in_ok-walk.ensures.walks in
    let w = from_none c.new-known.result c.new-known.ensures.ids c.new-known.ensures.nodes walking in
    let many = as_many _ _ _ _ c.args.ends.now _ _ high w full in
    let none : length c.new-known.result.nodes.items ≡ 0 = ap length c.new-known.ensures.nodes in
    let none_either : length c.new-known.result.ids.keys ≡ 0 = ap length c.new-known.ensures.ids in
    let each = c.in_ok-walk.ensures.counts.bare (none ∙ sym none_either) bare (omega (arith, zero)) in
    omega (arith, each, zero, none, many)

pub returns-in-None-clause-asked : goal.returns-in-None-clause-asked
returns-in-None-clause-asked g c =
    let first = c.args.source.now.lookups in
    let none : length c.new-known.result.nodes.items ≡ 0 = ap length c.new-known.ensures.nodes in
    let none_either : length c.new-known.result.ids.keys ≡ 0 = ap length c.new-known.ensures.ids in
    c.in_ok-walk.ensures.counts.each (none ∙ sym none_either) first (subst (λ (ks : List ObjectId). CountsAll (rows_of c.args.source.now.rows) ks first first) (sym c.new-known.ensures.ids) refl)

none_held : (rows : List Row) → AllHeld rows []
none_held rows x c = let (k, a) = at_from_contains [] x c in absurd (none_at_nil k x a)

pub returns-in-None-clause-rowed : goal.returns-in-None-clause-rowed
returns-in-None-clause-rowed g c = λ held. c.in_ok-walk.ensures.counts.held (subst (AllHeld (rows_of c.args.source.now.rows)) (sym c.new-known.ensures.ids) (none_held (rows_of c.args.source.now.rows))) held

pub returns-in_err-walk-clause-refused : goal.returns-in_err-walk-clause-refused
returns-in_err-walk-clause-refused g c =
    let p = err_from_is_err_and c.from_residual.result c.from_residual.ensures.1 in
    rw (p.1, p.2) (inl (c.in_err-walk.ensures.refused (ap length c.new-known.ensures.nodes ∙ sym (ap length c.new-known.ensures.ids))))

pub invariant_of-known : goal.invariant_of-known
invariant_of-known g c = record { hidden_first = first_all (all_flags c.hide_all.new.nodes.items) c.hide_all.ensures.flags }

use Rattle.std.proofs.Common.{ℕ, ◌+◌, ◌<◌, List, length, sym, ◌∙◌, ap, subst, arith}
use Rattle.gix_traverse_topo.specs.Nodes.{all_facts, counts, hidden_in}
use Rattle.gix_traverse_topo.specs.declared.known.Node.{Node}
use Rattle.gix_traverse_topo.specs.declared.known.Number.{Number}
use Rattle.gix_traverse_topo.specs.declared.known.Facts.{Facts}
use Rattle.gix_traverse_topo.specs.declared.ready.Pending.{Pending}
use Rattle.gix_traverse_topo.proofs.Meeting.{length_map}
use Rattle.gix_traverse_topo.proofs.Updates.{FreeTo, free_none, free_skip, free_push, free_all}
use Rattle.gix_traverse_topo.proofs.known.Known.without_children.Goals.{then-is_free+in-Some+in_ok-push, then-is_free+in_default, else-is_free}
use Rattle.gix_traverse_topo.proofs.known.Known.without_children.Goals as goal

pub commits-init : goal.commits-init
commits-init c = free_none (hidden_in c.args.self.now.nodes.items) (all_facts c.args.self.now.nodes.items) (counts c.args.self.now.nodes.items) 0 (omega arith) c.new-first.result.items c.new-first.ensures.items

pub commits-preserved : goal.commits-preserved
commits-preserved c =
    let low : ℕ = hidden_in c.args.self.now.nodes.items in
    let told : List Facts = all_facts c.args.self.now.nodes.items in
    let cs : List ℕ = counts c.args.self.now.nodes.items in
    let room : c.commits.place < length told = omega (arith, c.commits-test.true, ap length c.as_slice-place-end.ensures.value, length_map (λ (v : Node). v.facts) c.args.self.now.nodes.items) in
    elim c.if-is_free.branch [
      | then-is_free+in-Some+in_ok-push w ↦ (
          let (above, zero) = c.is_free.ensures.0 w.if-is_free.true in
          let (same, (facts, at, timed)) = w.in-Some.ensures.pending in
          subst (λ (zs : List Pending). FreeTo low (c.commits.place + 1) told cs zs) (sym (ap (λ (v : _). v.items) w.first-is ∙ w.in_ok-push.ensures.items)) (free_push low told cs c.commits.place c.commits.first.items w.in-Some.pending facts c.commits.invariant above (ap (λ (n : Number). n.0) same) zero at timed))
      | then-is_free+in_default w ↦ absurd (omega (arith, room, w.in_default.ensures.none))
      | else-is_free w ↦ subst (λ (zs : List Pending). FreeTo low (c.commits.place + 1) told cs zs) (sym (ap (λ (v : _). v.items) w.first-is)) (free_skip low told cs c.commits.place c.commits.first.items c.commits.invariant (λ above zero. let t = c.is_free.ensures.1 (above, zero) in let f = w.if-is_free.false in let z : ⊥ = cc in z))
    ]

pub returns-clause-free : goal.returns-clause-free
returns-clause-free c =
    let told : List Facts = all_facts c.args.self.now.nodes.items in
    free_all (hidden_in c.args.self.now.nodes.items) told (counts c.args.self.now.nodes.items) c.commits.place c.commits.first.items c.commits.invariant
    (omega (arith, c.commits-test.false, ap length c.as_slice-place-end.ensures.value, length_map (λ (v : Node). v.facts) c.args.self.now.nodes.items))

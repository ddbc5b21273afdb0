use Rattle.std.proofs.Common.{◌≡◌, ◌∙◌, ℕ, ◌+◌, ◌<◌, inl, inr, List, length, refl, ap, sym, subst, arith, set, true, length-set}
use Rattle.std.proofs.Math.Seq.{map-set_same}
use Rattle.std.proofs.lemmas.Option.{slice_get_within}
use Rattle.gix_traverse_graph.specs.Order.{At}
use Rattle.gix_traverse_graph.proofs.Lists.{at_one, three}
use Rattle.gix_traverse_commit_known.specs.declared.nodes.WalkFlags.{WalkFlags}
use Rattle.gix_traverse_topo.specs.Nodes.{all_flags, is_hidden}
use Rattle.gix_traverse_topo.specs.declared.known.Node.{Node}
use Rattle.gix_traverse_topo.proofs.Counting.{at_set_here, at_set_other}
use Rattle.gix_traverse_topo.proofs.Meeting.{at_map, from_map, length_map}
use Rattle.gix_traverse_topo.proofs.known.hide_all.Goals as goal

pub places-init : goal.places-init
places-init c = record {
  as_many = refl;
  all_facts = refl;
  flags = λ n flags l a. absurd (omega arith);
}

-- one more is flagged
one_more : (nodes : List Node) (place : ℕ) (v : Node) → place < length nodes → is_hidden v.flags ≡ true → ((n : ℕ) (flags : WalkFlags) → n < place → At (all_flags nodes) n flags → is_hidden flags ≡ true) → (n : ℕ) (flags : WalkFlags) → n < place + 1 → At (all_flags (set nodes place v)) n flags → is_hidden flags ≡ true
one_more nodes place v within now before n flags l a =
    let (node, b, e) = from_map (λ (x : Node). x.flags) (set nodes place v) n flags a in
    elim (three n place) [
      | inl lt ↦ before n flags lt (subst (λ (f : WalkFlags). At (all_flags nodes) n f) e (at_map (λ (x : Node). x.flags) nodes n node (at_set_other nodes place n v node (λ same. omega (arith, lt, same)) b)))
      | inr (inl here) ↦ (
          let same : node ≡ v = at_one (set nodes place v) place node v (subst (λ (k : ℕ). At (set nodes place v) k node) here b) (at_set_here nodes place v within) in
          ap is_hidden (sym e ∙ ap (λ (x : Node). x.flags) same) ∙ now)
      | inr (inr gt) ↦ absurd (omega (arith, gt, l))
    ]

pub places-preserved : goal.places-preserved
places-preserved c =
    let inv = c.places.invariant in
    let items : List Node = c.places.nodes.items in
    let was : Node = c.index_mut.result.now in
    let v : Node = record { facts = was.facts; names = was.names; flags = c.as_hidden.result } in
    let within : c.places.place < length items = omega (arith, c.places-test.true, ap length c.as_slice-place-end.ensures.value, inv.as_many) in
    record {
      as_many = length-set items c.places.place v ∙ inv.as_many;
      all_facts = map-set_same (λ (x : Node). x.facts) items c.places.place v was (ap (λ (x : Node). x.facts) c.index_mut.ensures.value) ∙ inv.all_facts;
      flags = one_more items c.places.place v within c.as_hidden.ensures.hidden inv.flags;
    }

pub returns-clause-flags : goal.returns-clause-flags
returns-clause-flags c = λ n flags a.
    let inv = c.places.invariant in
    let within = slice_get_within (all_flags c.places.nodes.items) n flags a in
    inv.flags n flags (omega (arith, within, length_map (λ (x : Node). x.flags) c.places.nodes.items, c.places-test.false, ap length c.as_slice-place-end.ensures.value, inv.as_many)) a

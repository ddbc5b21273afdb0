use Rattle.std.proofs.Common.{◌≡◌, ◌∙◌, inl, inr, refl, sym, ap, subst, Option, None, Some, MutBor}
use Rattle.std.specs.Prelude.{option_map, IsSome}
use Rattle.std.specs.Option.{IsNone, ghost_name_of}
use Rattle.std.specs.FinMap as map
use borrow.Follows.Closed.{read_of}
use Rattle.gix_ref_file.specs.Nodes.{node_of, nodes_of, tree_of, IsInOrder}
use Rattle.gix_ref_file.proofs.Entries.{get_node, find_node, nodes_of-set_value, set_in_order, found_lent, tree_put}
use Rattle.gix_ref_file.proofs.nodes.Nodes.get_mut.Goals as goal

pub invariant_of-self-lent : goal.invariant_of-self-lent
invariant_of-self-lent c =
    let es = c.self.inside.entries.entries in
    λ _. (
      λ w. set_in_order es _ c.args.path.now w (c.get_mut.follows.holds w).0 c.self.invariant,
      subst IsInOrder (sym (ap (λ m. m.entries) c.get_mut.follows.holds-at-none)) c.self.invariant,
    )

-- what is lent ends in two ways
read_by : {E D : Type 0} (o : Option (MutBor E)) (F G : E → D) (v u : D) → (IsSome o → (w : E) → F w ≡ G w) → (IsNone o → v ≡ u) → read_of (ghost_name_of o) F v ≡ read_of (ghost_name_of o) G u
read_by None F G v u there none = ap inr (none refl)
read_by (Some r) F G v u there none = λ i. inl (r.ghost_name, λ w. there refl w i)

pub returns : goal.returns
returns c =
    let es = c.self.inside.entries.entries in
    let path = c.args.path.now in (
      read_by c.get_mut.result _ _ _ _
          (λ there w.
          tree_put es _ path w
          (ap nodes_of (c.get_mut.follows.holds w).0 ∙ nodes_of-set_value es path w c.self.invariant (found_lent c.get_mut.result _ _ there c.get_mut.ensures.value (find_node es path)))
          c.self.invariant
          ∙ ap (λ m. map.insert m path (node_of w)) c.self.view_is)
          (λ none. ap (λ m. tree_of m.entries) c.get_mut.follows.holds-at-none ∙ c.self.view_is),
      record {
        writes_back = tt;
        value = ap (option_map node_of) c.get_mut.ensures.value ∙ get_node es path c.self.invariant ∙ ap (λ m. map.get m path) c.self.view_is;
      },
    )

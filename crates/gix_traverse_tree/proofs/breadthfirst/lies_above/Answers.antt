use Rattle.std.proofs.Common.{◌≡◌, ◌∙◌, sym, ap, subst, ℕ, ◌<◌, List, [], Option, Some, None, length, arith, refl, false, ◌∷◌}
use Rattle.std.specs.Prelude.{IfSome}
use Rattle.std.proofs.lemmas.Option.{slice_get-get_or}
use Rattle.gix_hash.specs.Id.{Id, id_of}
use Rattle.gix_hash.specs.declared.object_id.ObjectId.TheVariants.{Sha1}
use Rattle.gix_traverse_tree.specs.Nodes.{IsWayUp}
use Rattle.gix_traverse_tree.specs.Trees.{is_among}
use Rattle.gix_traverse_tree.specs.declared.breadthfirst.Node.{Node}
use Rattle.gix_traverse_tree.proofs.Ways.{way_step, some_below, among_first, among_later}
use Rattle.gix_traverse_tree.proofs.breadthfirst.lies_above.Goals as goal
use Rattle.gix_traverse_tree.proofs.breadthfirst.lies_above.Invariants.{height}

abbrev default : Node
default = record { id = Sha1 []; above = None }

smaller : (o link : Option ℕ) (n : ℕ) → IfSome o (λ m. m < n) → link ≡ Some n → height o < height link
smaller None link n h e = subst (λ (l : Option ℕ). height None < height l) (sym e) (omega arith)
smaller (Some m) link n h e = subst (λ (l : Option ℕ). height (Some m) < height l) (sym e) (omega arith)

pub returns-then-eq : goal.returns-then-eq
returns-then-eq c = λ ids way.
    let nodes = c.args.nodes.now in
    let n = c.in-Some.number in
    let within : n < length nodes = subst (λ (o : Option ℕ). IfSome o (λ k. k < length nodes)) c.in-Some.is c.up.invariant.0 in
    let at = slice_get-get_or nodes n default within in
    let (rest, up, same) = c.up.invariant.1 ids way in
    let (more, cons, higher) = way_step nodes n _ rest at (subst (λ (o : Option ℕ). IsWayUp nodes o rest) c.in-Some.is up) in
    let id = id_of c.args.id.now in
    sym (same ∙ ap (is_among id) cons ∙ among_first id _ more (sym c.eq.ensures ∙ c.if-eq.true))

pub up-smaller : goal.up-smaller
up-smaller c =
    let nodes = c.args.nodes.now in
    let n = c.in-Some.number in
    let within : n < length nodes = subst (λ (o : Option ℕ). IfSome o (λ k. k < length nodes)) c.in-Some.is c.up.invariant.0 in
    let at = slice_get-get_or nodes n default within in
    smaller _ c.up.link n (c.requires.linked n _ at) c.in-Some.is

pub up-preserved : goal.up-preserved
up-preserved c =
    let nodes = c.args.nodes.now in
    let n = c.in-Some.number in
    let within : n < length nodes = subst (λ (o : Option ℕ). IfSome o (λ k. k < length nodes)) c.in-Some.is c.up.invariant.0 in
    let at = slice_get-get_or nodes n default within in
    let id = id_of c.args.id.now in (
      some_below _ n (length nodes) (c.requires.linked n _ at) (omega arith),
      λ ids way.
          let (rest, up, same) = c.up.invariant.1 ids way in
          let (more, cons, higher) = way_step nodes n _ rest at (subst (λ (o : Option ℕ). IsWayUp nodes o rest) c.in-Some.is up) in
          (more, higher, same ∙ ap (is_among id) cons ∙ among_later id _ more (sym c.eq.ensures ∙ c.if-eq.false)),
    )

none_up : (nodes : List Node) (link : Option ℕ) (id : Id) (rest : List Id) → ((n : ℕ) → link ≡ Some n → ⊥) → IsWayUp nodes link rest → is_among id rest ≡ false
none_up nodes link id [] none way = refl
none_up nodes link id (x ∷ rest) none (n, node, e, at, is, more) = absurd (none n e)

pub returns : goal.returns
returns c = λ ids way.
    let (rest, up, same) = c.up.invariant.1 ids way in
    sym (same ∙ none_up c.args.nodes.now c.up.link (id_of c.args.id.now) rest c.in_default.not-Some up)

-- The commits that the ends reach are the first, and are flagged.
use Rattle.std.proofs.Common.{◌≡◌, ◌∙◌, ℕ, suc, ◌+◌, ◌<◌, ◌≤◌, inl, inr, List, [], ◌∷◌, ◌++◌, length, Bool, true, false, cond, refl, sym, ap, subst, arith}
use Rattle.std.specs.Prelude.{◌↔◌}
use Rattle.std.proofs.lemmas.Option.{slice_get_within}
use Rattle.gix_traverse_graph.specs.Order.{At}
use Rattle.gix_traverse_graph.proofs.Lists.{at_from_push}
use Rattle.gix_traverse_commit_known.specs.declared.nodes.WalkFlags.{WalkFlags}
use Rattle.gix_traverse_topo.specs.Nodes.{AreFirst, all_flags, hidden_in, is_hidden}
use Rattle.gix_traverse_topo.specs.Turns.{times}
use Rattle.gix_traverse_topo.specs.declared.known.Node.{Node}
use Rattle.gix_traverse_topo.proofs.Meeting.{length_map}
use Rattle.gix_traverse_topo.proofs.Turns.{times_append}

-- no more pass than there are
times_most : {I : Type 0} (p : I → Bool) (xs : List I) → times p xs ≤ length xs
times_most p [] = omega arith
times_most p (x ∷ xs) = go (p x) (times_most p xs)
  where
    go : (b : Bool) → times p xs ≤ length xs → cond b 1 0 + times p xs ≤ suc (length xs)
    go true l = omega arith
    go false l = omega arith

times_all : {I : Type 0} (p : I → Bool) (xs : List I) → ((n : ℕ) (x : I) → At xs n x → p x ≡ true) → times p xs ≡ length xs
times_all p [] all = refl
times_all p (x ∷ xs) all =
    let first : ◌≡◌ {A = ℕ} (cond (p x) 1 0) 1 = ap (λ (b : Bool). cond {A = ℕ} b 1 0) (all 0 x refl) in
    let rest = times_all p xs (λ n y a. all (suc n) y a) in
    omega (arith, first, rest)

-- the flags stay
pub hidden_same : (nodes nodes' : List Node) → all_flags nodes' ≡ all_flags nodes → hidden_in nodes' ≡ hidden_in nodes
hidden_same nodes nodes' e = ap (times is_hidden) e

pub first_same : (nodes nodes' : List Node) → all_flags nodes' ≡ all_flags nodes → AreFirst (all_flags nodes) → AreFirst (all_flags nodes')
first_same nodes nodes' e first = subst AreFirst (sym e) first

-- ---- one more that isn't flagged

push_flags : (nodes : List Node) (node : Node) → all_flags (nodes ++ node ∷ []) ≡ all_flags nodes ++ node.flags ∷ []
push_flags [] node = refl
push_flags (x ∷ nodes) node = ap (λ (fs : List WalkFlags). x.flags ∷ fs) (push_flags nodes node)

times_push : (all : List WalkFlags) (flags : WalkFlags) → is_hidden flags ≡ false → times is_hidden (all ++ flags ∷ []) ≡ times is_hidden all
times_push all flags e =
    let last : ◌≡◌ {A = ℕ} (cond (is_hidden flags) 1 0) 0 = ap (λ (b : Bool). cond {A = ℕ} b 1 0) e in
    let sum = times_append is_hidden all (flags ∷ []) in
    omega (arith, sum, last)

first_push : (all : List WalkFlags) (flags : WalkFlags) → is_hidden flags ≡ false → AreFirst all → AreFirst (all ++ flags ∷ [])
first_push all flags e first n f a = elim (at_from_push all flags n f a) [
  | inl b ↦ subst (λ (k : ℕ). (is_hidden f ≡ true) ↔ (n < k)) (sym (times_push all flags e)) (first n f b)
  | inr (at, same) ↦ (
    (λ t. let h : is_hidden f ≡ false = ap is_hidden same ∙ e in let z : ⊥ = cc in absurd z),
    (λ l. let most = times_most is_hidden all in let many = times_push all flags e in absurd (omega (arith, l, at, most, many))),
  )
]

pub hidden_pushed : (nodes nodes' : List Node) (node : Node) → nodes' ≡ nodes ++ node ∷ [] → is_hidden node.flags ≡ false → hidden_in nodes' ≡ hidden_in nodes
hidden_pushed nodes nodes' node e f = ap hidden_in e ∙ ap (times is_hidden) (push_flags nodes node) ∙ times_push (all_flags nodes) node.flags f

pub first_pushed : (nodes nodes' : List Node) (node : Node) → nodes' ≡ nodes ++ node ∷ [] → is_hidden node.flags ≡ false → AreFirst (all_flags nodes) → AreFirst (all_flags nodes')
first_pushed nodes nodes' node e f first =
    subst AreFirst (sym (ap all_flags e ∙ push_flags nodes node)) (first_push (all_flags nodes) node.flags f first)

-- and if there may be no room for it
pub first_either : (pushed : Bool) (nodes nodes' : List Node) (node : Node) → nodes' ≡ cond pushed (nodes ++ node ∷ []) nodes → is_hidden node.flags ≡ false → AreFirst (all_flags nodes) → AreFirst (all_flags nodes')
first_either true nodes nodes' node e f first = first_pushed nodes nodes' node e f first
first_either false nodes nodes' node e f first = first_same nodes nodes' (ap all_flags e) first

-- ---- all are flagged

pub hidden_all : (nodes : List Node) → ((n : ℕ) (flags : WalkFlags) → At (all_flags nodes) n flags → is_hidden flags ≡ true) → hidden_in nodes ≡ length nodes
hidden_all nodes all = times_all is_hidden (all_flags nodes) all ∙ length_map (λ (v : Node). v.flags) nodes

pub first_all : (all : List WalkFlags) → ((n : ℕ) (flags : WalkFlags) → At all n flags → is_hidden flags ≡ true) → AreFirst all
first_all all each n flags a = (
  (λ t. let many = times_all is_hidden all each in let l = slice_get_within all n flags a in omega (arith, many, l)),
  (λ l. each n flags a),
)

-- one without a node isn't counted
pub hidden_within : (nodes : List Node) → hidden_in nodes ≤ length nodes
hidden_within nodes = let most = times_most is_hidden (all_flags nodes) in let many = length_map (λ (v : Node). v.flags) nodes in omega (arith, most, many)

-- How many objects were looked up.
use Rattle.std.proofs.Common.{Option, Bool, ◌≡◌, ℕ, ◌≤◌, List, [], length, take, refl, subst, arith}
use Rattle.std.specs.Prelude.{IsTrue}
use Rattle.gix_hash.specs.Id.{Id}
use Rattle.gix_hash.specs.declared.object_id.ObjectId.{ObjectId}
use Rattle.gix_object_lookup.specs.Table.{Table}
use Rattle.gix_traverse_graph.specs.Commits.{Commits, Reached, tip, parent}
use Rattle.gix_object_lines.specs.Counts.{one_more}
use Rattle.gix_traverse_commit_known.specs.Fetching.{ReadFault}
use Rattle.gix_traverse_graph.specs.declared.parents.Parents.{Parents}
use Rattle.gix_traverse_commit_known.specs.Keeping.{KeptAll}
use Rattle.gix_traverse_commit_known.specs.Nodes.{is_hidden, Node}
use Rattle.gix_traverse_graph.specs.Order.{IsListOf}
use Rattle.gix_traverse_commit_known.specs.Painting.{CountsUnread, IsPainted, PaintsSome, ReachedFrom, every}
use Rattle.gix_traverse_graph.specs.Rows.{Holds}
use Rattle.gix_traverse_commit_known.specs.Meeting.{CountsAll}
use Rattle.gix_traverse_commit.specs.Giving.{CountsFault, MeetsParents}
use Rattle.gix_traverse_commit_known.specs.Faults.{error_of}
use Rattle.gix_traverse_graph.specs.declared.info.Info.{Info}
use Rattle.gix_traverse_graph.specs.declared.sorting.Timing.{Timing}
use Rattle.gix_traverse_commit_known.specs.declared.fetch.FetchError.{FetchError}
use Rattle.gix_traverse_commit_known.specs.declared.fetch.FetchError.TheVariants as fetch
use Rattle.gix_traverse_graph.specs.declared.rows.Row.{Row}
use Rattle.gix_traverse_graph.proofs.Frontier.{read_all}
use Rattle.gix_traverse_graph.proofs.Lists.{at_from_contains, at_from_take, none_at_nil}
use Rattle.gix_traverse_commit_known.specs.Told.{AreTold}
use Rattle.gix_traverse_commit_known.proofs.Painting.{painted_reached}
use Rattle.gix_traverse_commit_known.proofs.Timely.{in_nil}

-- what is painted once all places are read
pub painted_list : (g : Commits ObjectId) (hidden : List ObjectId) (nodes : List Node) (xs : List ObjectId) (p : ℕ) → KeptAll (λ y. (g y).parents) hidden every (is_hidden nodes) xs p → length xs ≤ p → IsListOf (ReachedFrom g hidden) xs
painted_list g hidden nodes xs p w l = go (omega (arith, w.kept.read.within))
  where
    go : p ≡ length xs → IsListOf (ReachedFrom g hidden) xs
    go e =
        let v : KeptAll (λ y. (g y).parents) hidden every (is_hidden nodes) xs (length xs) = subst (λ (n : ℕ). KeptAll (λ y. (g y).parents) hidden every (is_hidden nodes) xs n) e w in
        (read_all (λ y. (g y).parents) hidden (λ q. IsTrue (every q)) xs v.count v.kept.read v.all (ReachedFrom g hidden) to from).list
      where
        to : (x : ObjectId) → ReachedFrom g hidden x → Reached (λ y. (g y).parents) (λ q. IsTrue (every q)) hidden x
        to x (tip t k) = tip t refl
        to x (parent {x = c} r n k) = parent (to c r) n refl

        from : (x : ObjectId) → Reached (λ y. (g y).parents) (λ q. IsTrue (every q)) hidden x → ReachedFrom g hidden x
        from x (tip t k) = tip t tt
        from x (parent {x = c} r n k) = parent (from c r) n tt

-- nothing is looked up yet
pub paints_none : (honest : Type 0) (rows : List Row) (table : Table) (hidden : List ObjectId) (before : ℕ) → PaintsSome honest rows table hidden before before
paints_none honest rows table hidden before = record {
  painted = [];
  each = refl;
  are_reached = λ h g told. record { each = λ x k. absurd (in_nil x k); once = λ j k x a b. absurd (none_at_nil j x a) };
}

-- what was looked up at the first places of the painted commits
pub paints_some : (honest : Type 0) (rows : List Row) (table : Table) (hidden : List ObjectId) (nodes : List Node) (xs : List ObjectId) (p before after : ℕ) → CountsAll rows (take p xs) before after → IsPainted nodes xs
    → (honest → (g : Commits ObjectId) → AreTold rows table g → KeptAll (λ y. (g y).parents) hidden every (is_hidden nodes) xs p) → PaintsSome honest rows table hidden before after
paints_some honest rows table hidden nodes xs p before after each painted walked = record {
  painted = take p xs;
  each = each;
  are_reached = λ h g told. record {
    each = λ x c. (let (k, a) = at_from_contains (take p xs) x c in painted_reached g hidden nodes xs p k x (walked h g told) (at_from_take xs p k x a).1);
    once = λ j k x a b. painted.once j k x (at_from_take xs p j x a).1 (at_from_take xs p k x b).1;
  };
}

-- one that isn't read
pub unread_counts : (along : Parents) (honest may_fail : Type 0) (rows : List Row) (table : Table) (id : ObjectId) (error : FetchError) (before after : ℕ) → ReadFault along honest may_fail rows table id error → ((¬ Holds rows id) → after ≡ one_more before) → before ≤ after → CountsUnread before after error
unread_counts along honest may_fail rows table id (fetch.Find error) before after f one l = one f.0
unread_counts along honest may_fail rows table id (fetch.ObjectDecode error) before after f one l = one f.0
unread_counts along honest may_fail rows table id fetch.Memory before after f one l = l

-- a commit that isn't read
pub fault_counts : (along : Parents) (honest may_fail : Type 0) (rows : List Row) (table : Table) (id : ObjectId) (error : FetchError) (before after : ℕ) → ReadFault along honest may_fail rows table id error → ((¬ Holds rows id) → after ≡ one_more before) → before ≤ after → CountsFault before after (error_of error)
fault_counts along honest may_fail rows table id (fetch.Find error) before after f one l = one f.0
fault_counts along honest may_fail rows table id (fetch.ObjectDecode error) before after f one l = one f.0
fault_counts along honest may_fail rows table id fetch.Memory before after f one l = l

-- what holds of a walk holds of one that is the same in all that is spoken of
pub meets_moved : {P : Type 0} (accepts : P → Id → Bool) (goes : P → Id → P → Type 0) (rows rows' : List Row) (nodes nodes' : List Node) (t t' : Option Timing) (info : Info) (p q : P) (n m : ℕ) (p' : P) (n' : ℕ) → rows ≡ rows' → nodes ≡ nodes' → t ≡ t' → p ≡ q → n ≡ m → MeetsParents accepts goes rows nodes t info p n p' n' → MeetsParents accepts goes rows' nodes' t' info q m p' n'
meets_moved {P} accepts goes rows rows' nodes nodes' t t' info p q n m p' n' same_rows same_nodes same_order same_predicate same_lookups w =
    subst (λ (k : ℕ). MeetsParents accepts goes rows' nodes' t' info q k p' n') same_lookups
    (subst (λ (s : P). MeetsParents accepts goes rows' nodes' t' info s n p' n') same_predicate
    (subst (λ (u : Option Timing). MeetsParents accepts goes rows' nodes' u info p n p' n') same_order
    (subst (λ (v : List Node). MeetsParents accepts goes rows' v t info p n p' n') same_nodes
    (subst (λ (r : List Row). MeetsParents accepts goes r nodes t info p n p' n') same_rows w))))

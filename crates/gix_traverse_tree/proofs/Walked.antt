-- How far the levels are read, and how many can come.
use Rattle.std.proofs.Common.{◌≡◌, ◌∙◌, sym, ap, subst, ℕ, zero, suc, ◌-◌, ◌<◌, ◌≤◌, List, [], ◌∷◌, ◌++◌, length, Option, Some, None, slice_get, map, refl, append_assoc, arith}
use Rattle.std.proofs.lemmas.List.{length-map, append-nil}
use Rattle.std.proofs.lemmas.Map.Made.{IsDistinct-from_count}
use Rattle.gix_hash.specs.Id.{Id, id_of}
use Rattle.gix_hash.specs.OrderLaws.{id_equivalence}
use Rattle.gix_hash.specs.declared.kind.Kind.{Kind}
use Rattle.gix_object_lookup.specs.Table.{Table}
use Rattle.gix_traverse_tree.specs.Breadth as breadth
use Rattle.gix_traverse_tree.specs.Breadth.{Tree, under_root, Listing, Level, Levels, InBreadth}
use Rattle.gix_traverse_tree.specs.Calls.{Call, Runs}
use Rattle.gix_traverse_tree.specs.Nodes.{IsWayUp, StandFrom, AreAllFrom, node_under, AreUnderSome, ShowsLevel, ShowsListing, StopsListing, StopsLevel, Walks}
use Rattle.gix_traverse_tree.specs.Trees.{End, whole, failed}
use Rattle.gix_traverse_tree.specs.declared.breadthfirst.Node.{Node}
use Rattle.gix_traverse_tree.specs.declared.error.Error.{Error}
use Rattle.gix_traverse_tree.proofs.Called.{runs_more}
use Rattle.gix_traverse_tree.proofs.Ways.{stand_first, deep_within}

abbrev above_of : Option Node → Option ℕ
above_of (Some node) = node.above
above_of None = None

-- how many steps lead up, at most n
abbrev height : ℕ → List Node → Option ℕ → ℕ
height n nodes None = 0
height zero nodes (Some k) = 0
height (suc n) nodes (Some k) = suc (height n nodes (above_of (slice_get nodes k)))

height_is : (n : ℕ) (nodes : List Node) (link : Option ℕ) (ids : List Id) → IsWayUp nodes link ids → length ids ≤ n → height n nodes link ≡ length ids
height_is n nodes link [] e l = subst (λ (o : Option ℕ). height n nodes o ≡ 0) (sym e) refl
height_is zero nodes link (id ∷ ids) way l = absurd (omega arith)
height_is (suc n) nodes link (id ∷ ids) (k, node, e, at, is, up) l =
    let r = height_is n nodes node.above ids up (omega arith) in
    let f : height n nodes (above_of (slice_get nodes k)) ≡ length ids = ap (λ (o : Option Node). height n nodes (above_of o)) at ∙ r in
    subst (λ (o : Option ℕ). height (suc n) nodes o ≡ suc (length ids)) (sym e) (ap suc f)

-- a bound on the levels to come, from the depth of the tree that begins the next
abbrev pub left_from : List Id → List Node → Option Node → ℕ
left_from ids nodes None = 0
left_from ids nodes (Some node) = suc (length ids - height (length ids) nodes node.above)

abbrev pub levels_left : List Id → List Node → ℕ → ℕ
levels_left ids nodes start = left_from ids nodes (slice_get nodes start)

pub record Walked {S : Type 0} (G : S → Call → S → Type 0) (H M : Type 0) (table : Table) (ids : List Id) (kind : Kind) (content : List ℕ) (start : ℕ) (before after : S) (nodes : List Node) : Type 0 where
  pub calls : List Call
  pub trees : List Tree
  pub depth : ℕ
  pub runs : Runs G before calls after
  pub all : AreAllFrom nodes start trees
  pub deep : AreUnderSome ids depth trees
  pub later : (more : List Call) (end : End) → Levels H M table trees more end → InBreadth H M table kind content (calls ++ more) end

none_past : (nodes : List Node) (k : ℕ) → length nodes ≤ k → slice_get nodes k ≡ None
none_past [] k l = refl
none_past (n ∷ nodes) zero l = absurd (omega arith)
none_past (n ∷ nodes) (suc k) l = none_past nodes k (omega arith)

-- ids of trees in the root
first_under : (ids below : List Id) → AreUnderSome ids 0 (map under_root below)
first_under ids [] = tt
first_under ids (x ∷ below) = (record { deep = refl; distinct = IsDistinct-from_count id_equivalence [] refl; stored = λ id e. let z : ⊥ = cc in absurd z }, first_under ids below)

module _ {S : Type 0} (G : S → Call → S → Type 0) (H M : Type 0) (table : Table) (ids : List Id) (kind : Kind) (content : List ℕ) where
  pub walked_start : (before after : S) (nodes queued : List Node) → nodes ≡ [] → ShowsListing G kind content None before nodes after queued → Walked G H M table ids kind content 0 before after queued
  walked_start before after nodes queued e (calls, below, runs, listing, (added, named, put)) =
      let put2 : queued ≡ map (node_under None) added = put ∙ ap (λ (ns : List Node). ns ++ map (node_under None) added) e in
      let stand = stand_first [] added under_root (λ id. (refl, refl)) in
      let a = ap (λ (l : List Node). length l) put2 in
      let b = length-map added (node_under None) in
      let c = ap (λ (l : List Id). length l) named in
      let d = length-map added id_of in
      let f = length-map below under_root in
      record {
        calls = calls;
        trees = map under_root below;
        depth = 0;
        runs = runs;
        all = (subst (λ (ns : List Node). StandFrom ns 0 (map under_root below)) (sym put2) (subst (λ (l : List Id). StandFrom (map (node_under None) added) 0 (map under_root l)) named stand), omega arith);
        deep = first_under ids below;
        later = λ more end l. breadth.root listing l;
      }

  pub walked_level : (start : ℕ) (before after again : S) (nodes queued : List Node) → (so : Walked G H M table ids kind content start before after nodes) → ShowsLevel G H M table ids so.trees after nodes again queued
      → Walked G H M table ids kind content (length nodes) before again queued
  walked_level start before after again nodes queued so shows = record {
    calls = so.calls ++ shows.calls;
    trees = shows.below;
    depth = suc so.depth;
    runs = runs_more G so.calls shows.calls before after again so.runs shows.runs;
    all = shows.all;
    deep = shows.deeper so.depth so.deep;
    later = λ more end l.
        subst (λ (cs : List Call). InBreadth H M table kind content cs end) (sym (append_assoc so.calls shows.calls more)) (so.later (shows.calls ++ more) end (breadth.level shows.level l));
  }

  pub walked_done : (start : ℕ) (before after : S) (nodes : List Node) → length nodes ≤ start → Walked G H M table ids kind content start before after nodes → Walks G H M table kind content before after whole
  walked_done start before after nodes l so = go so.trees refl
    where
      go : (trees : List Tree) → so.trees ≡ trees → Walks G H M table kind content before after whole
      go (t ∷ ts) e = let c = so.all.1 in let f = ap (λ (l : List Tree). length l) e in absurd (omega arith)
      go [] e =
          let last = so.later [] whole (subst (λ (l : List Tree). Levels H M table l [] whole) (sym e) breadth.Levels.none) in
          (so.calls, so.runs, subst (λ (cs : List Call). InBreadth H M table kind content cs whole) (append-nil so.calls) last)

  pub walked_stopped : (start : ℕ) (before after last : S) (nodes : List Node) (error : Error) → (so : Walked G H M table ids kind content start before after nodes)
      → StopsLevel G H M table so.trees after last error → Walks G H M table kind content before last (failed error)
  walked_stopped start before after last nodes error so (calls, below, runs, level) =
      (so.calls ++ calls, runs_more G so.calls calls before after last so.runs runs, so.later calls (failed error) (breadth.Levels.ended level))

  pub walked_root_stopped : (before after : S) (error : Error) → StopsListing G kind content before after error → Walks G H M table kind content before after (failed error)
  walked_root_stopped before after error (calls, below, runs, listing) = (calls, runs, breadth.InBreadth.ended listing)

  -- the bound falls with each level
  pub fewer : (start : ℕ) (before after again : S) (nodes queued : List Node) → start < length nodes
      → (so : Walked G H M table ids kind content start before after nodes) → ShowsLevel G H M table ids so.trees after nodes again queued
      → levels_left ids queued (length nodes) < levels_left ids nodes start
  fewer start before after again nodes queued less so shows = go so.trees shows.below refl refl
    where
      left_at : (ns : List Node) (k depth : ℕ) (trees : List Tree) (t : Tree) (ts : List Tree) → trees ≡ t ∷ ts → AreAllFrom ns k trees → AreUnderSome ids depth trees → (levels_left ids ns k ≡ suc (length ids - depth)) × (depth ≤ length ids)
      left_at ns k depth trees t ts e all deep =
          let stand = subst (λ (l : List Tree). StandFrom ns k l) e all.0 in
          let sound = subst (λ (l : List Tree). AreUnderSome ids depth l) e deep in
          let (node, at, is, way) = stand.0 in
          let within = deep_within ids depth t sound.0 in
          let long = sound.0.deep in
          let high = height_is (length ids) ns node.above t.above way (omega arith) in
          (ap (left_from ids ns) at ∙ ap (λ (n : ℕ). suc (length ids - n)) (high ∙ long), within)

      go : (trees below : List Tree) → so.trees ≡ trees → shows.below ≡ below → levels_left ids queued (length nodes) < levels_left ids nodes start
      go [] below e f = let c = so.all.1 in let g = ap (λ (l : List Tree). length l) e in absurd (omega arith)
      go (t ∷ ts) [] e f =
          let here = left_at nodes start so.depth so.trees t ts e so.all so.deep in
          let c = shows.all.1 in
          let g = ap (λ (l : List Tree). length l) f in
          let past = ap (left_from ids queued) (none_past queued (length nodes) (omega arith)) in
          let h0 = here.0 in
          omega arith
      go (t ∷ ts) (b ∷ bs) e f =
          let here = left_at nodes start so.depth so.trees t ts e so.all so.deep in
          let there = left_at queued (length nodes) (suc so.depth) shows.below b bs f shows.all (shows.deeper so.depth so.deep) in
          let h0 = here.0 in
          let t0 = there.0 in
          let t1 = there.1 in
          omega arith

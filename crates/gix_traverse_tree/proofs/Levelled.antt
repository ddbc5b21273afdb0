-- How far the trees of a level are read, and how far the levels.
use Rattle.std.proofs.Common.{◌≡◌, ◌∙◌, sym, ap, subst, ℕ, suc, ◌+◌, ◌<◌, ◌≤◌, true, List, [], ◌∷◌, ◌++◌, length, Some, map, refl, append_assoc, arith, length-append}
use Rattle.std.proofs.lemmas.List.{length-map, append-nil}
use Rattle.gix_hash.specs.Id.{Id, id_of}
use Rattle.gix_object_lookup.specs.Table.{Table}
use Rattle.gix_traverse_tree.specs.Breadth as breadth
use Rattle.gix_traverse_tree.specs.Breadth.{Tree, under, under_root, Listing, Level, Levels, InBreadth}
use Rattle.gix_traverse_tree.specs.Calls.{Call, Runs, pop_front}
use Rattle.gix_traverse_tree.specs.Nodes.{IsWayUp, StandsAt, StandFrom, AreAllFrom, node_under, AreUnderSome, ShowsTree, ShowsLevel, ShowsListing, StopsListing, StopsLevel, MemoryOr}
use Rattle.gix_traverse_tree.specs.Trees.{End, whole, failed, is_among, IsRead, TreeFault}
use Rattle.gix_traverse_tree.specs.declared.breadthfirst.Node.{Node}
use Rattle.gix_traverse_tree.specs.declared.error.Error.{Error}
use Rattle.gix_traverse_tree.proofs.Called.{runs_more, memory_or}
use Rattle.gix_traverse_tree.proofs.Ways.{stand_more, stand_append, stand_added, all_under, under_append}

-- what was read of a level's trees; `left` are still to come
pub record Levelled {S : Type 0} (G : S → Call → S → Type 0) (H M : Type 0) (table : Table) (ids : List Id) (trees : List Tree) (number end : ℕ) (before : S) (nodes : List Node) (after : S) (queued : List Node) : Type 0 where
  pub calls : List Call
  pub below : List Tree
  pub left : List Tree
  pub runs : Runs G before calls after
  pub later : (more : List Call) (deeper : List Tree) (e : End) → Level H M table left more deeper e → Level H M table trees (calls ++ more) (below ++ deeper) e
  pub stand : StandFrom queued number left
  pub count : number + length left ≡ end
  pub all : AreAllFrom queued (length nodes) below
  pub deep : (depth : ℕ) → AreUnderSome ids depth trees → AreUnderSome ids depth left × AreUnderSome ids (suc depth) below

module _ {S : Type 0} (G : S → Call → S → Type 0) (H M : Type 0) (table : Table) (ids : List Id) where
  pub levelled_start : (trees : List Tree) (start end : ℕ) (before : S) (nodes : List Node) → end ≡ length nodes → AreAllFrom nodes start trees → Levelled G H M table ids trees start end before nodes before nodes
  levelled_start trees start end before nodes e all = record {
    calls = [];
    below = [];
    left = trees;
    runs = refl;
    later = λ more deeper f l. l;
    stand = all.0;
    count = all.1 ∙ sym e;
    all = (tt, omega arith);
    deep = λ depth u. (u, tt);
  }

  -- one more tree of the level
  pub levelled_tree : (trees : List Tree) (number end : ℕ) (before after again : S) (nodes queued more_queued : List Node)
      → number < end
      → Levelled G H M table ids trees number end before nodes after queued
      → ((tree : Tree) → StandsAt queued number tree → ShowsTree G H table ids number tree after queued again more_queued)
      → Levelled G H M table ids trees (number + 1) end before nodes again more_queued
  levelled_tree trees number end before after again nodes queued more_queued less so shows = subst (λ (k : ℕ). Levelled G H M table ids trees k end before nodes again more_queued) (let e : suc number ≡ number + 1 = omega arith in e) (go so.left refl)
    where
      go : (left : List Tree) → so.left ≡ left → Levelled G H M table ids trees (suc number) end before nodes again more_queued
      go [] e = let c = so.count in let f = ap (λ (ts : List Tree). length ts) e in absurd (omega arith)
      go (t ∷ ts) e =
          let stand = subst (λ (l : List Tree). StandFrom queued number l) e so.stand in
          let sh = shows t stand.0 in
          let added = sh.queues.0 in
          let more = map (under t) sh.below in
          let grown : more_queued ≡ queued ++ map (node_under (Some number)) added = sh.queues.2 in
          let node = stand.0.0 in
          let way : IsWayUp queued (Some number) (t.id ∷ t.above) = (number, node, refl, stand.0.1, stand.0.2, stand.0.3) in
          let fresh = stand_added queued number t added way in
          let named = ap (map (under t)) sh.queues.1 in
          let moved = subst (λ (l : List Tree). StandFrom (queued ++ map (node_under (Some number)) added) (length queued) l) named fresh in
          let placed = subst (λ (k : ℕ). StandFrom (queued ++ map (node_under (Some number)) added) k more) (sym so.all.1) moved in
          let kept = stand_more queued (map (node_under (Some number)) added) (length nodes) so.below so.all.0 in
          let joined = stand_append (queued ++ map (node_under (Some number)) added) (length nodes) so.below more kept placed in
          let rest = stand_more queued (map (node_under (Some number)) added) (suc number) ts stand.1 in
          let long = length-append so.below more in
          let long2 = ap (λ (ns : List Node). length ns) grown in
          let long3 = length-append queued (map (node_under (Some number)) added) in
          let long4 = length-map added (node_under (Some number)) in
          let long5 = length-map sh.below (under t) in
          let long6 = ap (λ (l : List Id). length l) sh.queues.1 in
          let long7 = length-map added id_of in
          let count = so.count in
          let size = so.all.1 in
          let f = ap (λ (l : List Tree). length l) e in
          record {
            calls = so.calls ++ (pop_front ∷ sh.calls);
            below = so.below ++ more;
            left = ts;
            runs = runs_more G so.calls (pop_front ∷ sh.calls) before after again so.runs sh.runs;
            later = λ after_calls deeper en l.
                let step = so.later (pop_front ∷ (sh.calls ++ after_calls)) (more ++ deeper) en
                (subst (λ (l2 : List Tree). Level H M table l2 (pop_front ∷ (sh.calls ++ after_calls)) (more ++ deeper) en) (sym e) (breadth.tree sh.read sh.listing l)) in
                let g = sym (append_assoc so.calls (pop_front ∷ sh.calls) after_calls) in
                let h = sym (append_assoc so.below more deeper) in
                subst (λ (cs : List Call). Level H M table trees cs ((so.below ++ more) ++ deeper) en) g
                (subst (λ (bs : List Tree). Level H M table trees (so.calls ++ (pop_front ∷ (sh.calls ++ after_calls))) bs en) h step);
            stand = subst (λ (ns : List Node). StandFrom ns (suc number) ts) (sym grown) rest;
            count = omega arith;
            all = (subst (λ (ns : List Node). StandFrom ns (length nodes) (so.below ++ more)) (sym grown) joined, omega arith);
            deep = λ depth u.
                let d = so.deep depth u in
                let d0 = subst (λ (l : List Tree). AreUnderSome ids depth l) e d.0 in
                (d0.1, under_append ids (suc depth) so.below more d.1 (all_under ids depth t sh.below sh.read.0 sh.stored d0.0));
          }

  pub levelled_done : (trees : List Tree) (number end : ℕ) (before after : S) (nodes queued : List Node) → end ≤ number → Levelled G H M table ids trees number end before nodes after queued → ShowsLevel G H M table ids trees before nodes after queued
  levelled_done trees number end before after nodes queued less so = go so.left refl
    where
      go : (left : List Tree) → so.left ≡ left → ShowsLevel G H M table ids trees before nodes after queued
      go (t ∷ ts) e = let c = so.count in let f = ap (λ (l : List Tree). length l) e in absurd (omega arith)
      go [] e =
          let last = so.later [] [] whole (subst (λ (l : List Tree). Level H M table l [] [] whole) (sym e) breadth.Level.none) in
          let a = subst (λ (cs : List Call). Level H M table trees cs (so.below ++ []) whole) (append-nil so.calls) last in
          record {
            calls = so.calls;
            below = so.below;
            level = subst (λ (bs : List Tree). Level H M table trees so.calls bs whole) (append-nil so.below) a;
            runs = so.runs;
            all = so.all;
            deeper = λ depth u. (so.deep depth u).1;
          }

  pub levelled_stopped : (trees : List Tree) (number end : ℕ) (before after last : S) (nodes queued : List Node) (error : Error) → number < end
      → Levelled G H M table ids trees number end before nodes after queued
      → ((tree : Tree) (others : List Tree) → StandsAt queued number tree → MemoryOr (StopsLevel G H M table (tree ∷ others) after last) error)
      → MemoryOr (StopsLevel G H M table trees before last) error
  levelled_stopped trees number end before after last nodes queued error less so stops = go so.left refl
    where
      go : (left : List Tree) → so.left ≡ left → MemoryOr (StopsLevel G H M table trees before last) error
      go [] e = let c = so.count in let f = ap (λ (l : List Tree). length l) e in absurd (omega arith)
      go (t ∷ ts) e =
          let stand = subst (λ (l : List Tree). StandFrom queued number l) e so.stand in
          memory_or (StopsLevel G H M table (t ∷ ts) after last) (StopsLevel G H M table trees before last) error
          (λ er (calls, below, runs, level). (
            so.calls ++ calls,
            so.below ++ below,
            runs_more G so.calls calls before after last so.runs runs,
            so.later calls below (failed er) (subst (λ (l : List Tree). Level H M table l calls below (failed er)) (sym e) level),
          ))
          (stops t ts stand.0)

  -- one tree: it isn't read, its entries are shown, or the walk stops in it
  pub tree_unread : (tree : Tree) (trees : List Tree) (a b : S) (error : Error) → G a pop_front b → TreeFault H M table tree.above tree.id error → StopsLevel G H M table (tree ∷ trees) a b error
  tree_unread tree trees a b error step fault = (pop_front ∷ [], [], (b, step, refl), breadth.Level.unread fault)

  pub tree_shown : (n : ℕ) (tree : Tree) (content : List ℕ) (a m b : S) (nodes queued : List Node) → IsRead H table tree.above tree.id content → is_among tree.id ids ≡ true → G a pop_front m
      → ShowsListing G tree.id.kind content (Some n) m nodes b queued → ShowsTree G H table ids n tree a nodes b queued
  tree_shown n tree content a m b nodes queued read stored step (calls, below, runs, listing, queues) = record {
    content = content;
    calls = calls;
    below = below;
    read = read;
    listing = listing;
    runs = (m, step, runs);
    queues = queues;
    stored = stored;
  }

  pub tree_stopped : (tree : Tree) (trees : List Tree) (content : List ℕ) (a m b : S) (error : Error) → IsRead H table tree.above tree.id content → G a pop_front m
      → StopsListing G tree.id.kind content m b error → StopsLevel G H M table (tree ∷ trees) a b error
  tree_stopped tree trees content a m b error read step (calls, below, runs, listing) = (pop_front ∷ calls, [], (m, step, runs), breadth.Level.ended read listing)

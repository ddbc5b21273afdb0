-- What a walk gives is read and kept.
use Rattle.std.proofs.Common.{◌≡◌, ◌∙◌, refl, sym, subst, true, false, is_some, ℕ, List, [], ◌∷◌, ◌++◌, Option, Some, None, Result, Ok, Vec, Bor}
use Rattle.std.specs.Prelude.{Contains, IfOk, IfErr, IfSome}
use Rattle.std.specs.BTreeMap.{Updates}
use Rattle.std.specs.declared.alloc.Global.{Global}
use Rattle.gix_hash.specs.Id.{Id, id_of}
use Rattle.gix_hash.specs.declared.object_id.ObjectId.{ObjectId}
use Rattle.gix_object_lookup.specs.Existing as object
use Rattle.gix_object_lookup.specs.Table.{Table}
use Rattle.gix_object_lines.specs.declared.kind.Kind.TheVariants as kinds
use Rattle.gix_traverse_graph.specs.Commits.{Commits}
use Rattle.gix_traverse_commit_known.specs.Fetching.{HasRowsGeneration}
use Rattle.gix_traverse_commit.specs.Giving.{GivesNext, IsContentOf, IsInfo}
use Rattle.gix_traverse_commit_known.specs.Asked.{Answers, Asked, IsSure}
use Rattle.gix_traverse_commit.specs.Simply.{IsMade, Stands, content_of, graph_of, objects_of}
use Rattle.gix_traverse_commit_known.specs.Told.{AreTold, rows_of}
use Rattle.gix_traverse_commit_known.specs.declared.accept.All.{All}
use Rattle.gix_traverse_graph.specs.declared.info.Info.{Info}
use Rattle.gix_traverse_graph.specs.declared.parents.Parents.{Parents}
use Rattle.gix_traverse_graph.specs.declared.parents.Parents.TheVariants.{All as AllParents}
use Rattle.gix_traverse_graph.specs.declared.rows.Row.{Row}
use Rattle.gix_traverse_commit.specs.declared.simple.Simple.{Simple}
use Rattle.gix_traverse_commit_known.specs.declared.faults.Error as simple
use Rattle.gix_traverse_graph.specs.declared.sorting.Sorting.TheVariants.{BreadthFirst}
use Rattle.history_walks.specs.Asking.{OverTable}
use Rattle.history_walks.specs.Faults.{IsMet, IsMetAlong, WalkFault}
use Rattle.history_walks.specs.ReadCommits.{AreKept, Contents, table_of}
use Rattle.history_walks.specs.Simply.{asked}
use Rattle.history_walks.specs.declared.error.WalkError.{WalkError}
use Rattle.history_walks.specs.declared.read_commits.ReadCommits.{ReadCommits}
use Rattle.history_walks.proofs.Kept.{by_id, fault_of_met, met_kept, none_more, one_kept}
use Rattle.history_walks.proofs.Walking.{breadth_sure, err_then, ok_then, one_more, over_same}

module _ {F : Type 0} (honest may_fail : F → Type 0) (table : F → Table) (ids : F → List Id) (walk : Simple F All) where
  -- what the walk gave so far is kept
  abbrev pub HasRead : Simple F All → Contents → Type 0
  HasRead now contents = (given : List ObjectId) × record {
    objects : objects_of now ≡ objects_of walk;
    rows : graph_of now ≡ graph_of walk;
    stands : honest (objects_of walk) → (h : Commits ObjectId) → AreTold (rows_of (graph_of walk)) (table (objects_of walk)) h → (a : Asked) → IsSure (may_fail (objects_of walk)) a → IsMade (λ _ _. true) a walk
        → Stands (λ _ _. true) (ids (objects_of walk)) h a given now;
    kept : honest (objects_of walk) → (h : Commits ObjectId) → AreTold (rows_of (graph_of walk)) (table (objects_of walk)) h → AreKept (rows_of (graph_of walk)) (table (objects_of walk)) (table_of contents) (Contains given);
  }

  module _ (goes : All → Id → All → Type 0) (before after : Simple F All) (old : Contents) (read : HasRead before old) (answer : Result Info simple.Error) (info : Info)
      (next : GivesNext (λ _ _. true) goes (honest (objects_of before)) (may_fail (objects_of before)) (table (objects_of before)) (ids (objects_of before)) before (Some answer) after) (was : answer ≡ Ok info) where
    -- its row says its generation, if it has one
    generation_told : honest (objects_of walk) → (h : Commits ObjectId) → AreTold (rows_of (graph_of walk)) (table (objects_of walk)) h → HasRowsGeneration (rows_of (graph_of walk)) info.id info.generation
    generation_told is h told =
        let there = subst (λ (o : F). honest o → (g : Commits ObjectId) → AreTold (rows_of (graph_of before)) (table o) g
        → IfSome (Some answer) (λ r. IfOk r (IsInfo g (rows_of (graph_of before)) before.parents before.sorting))) read.1.objects next.told in
        let rowed = subst (λ (rows : Option (List Row)). honest (objects_of walk) → (g : Commits ObjectId) → AreTold (rows_of rows) (table (objects_of walk)) g
        → IfSome (Some answer) (λ r. IfOk r (IsInfo g (rows_of rows) before.parents before.sorting))) read.1.rows there in
        (subst (λ (r : Result Info simple.Error). IfOk r (IsInfo h (rows_of (graph_of walk)) before.parents before.sorting)) was (rowed is h told)).by_row

    -- one that has a row isn't kept
    pub one_rowed : (n : ℕ) → info.generation ≡ Some n → HasRead after old
    one_rowed n generation = (
      read.0 ++ info.id ∷ [],
      record {
        objects = next.objects ∙ read.1.objects;
        rows = next.rows ∙ read.1.rows;
        stands = one_more honest may_fail table ids goes walk before after read.0 read.1.objects read.1.rows read.1.stands answer info next was;
        kept = λ is h told.
            let row = subst (λ (g : Option ℕ). HasRowsGeneration (rows_of (graph_of walk)) info.id g) generation (generation_told is h told) in
            none_more (rows_of (graph_of walk)) (table (objects_of walk)) (table_of old) read.0 info.id (row.0, row.1, row.2) (read.1.kept is h told);
      },
    )

    module _ (new : Contents) (none : info.generation ≡ None) (content : Vec ℕ Global) (copied : content.items ≡ content_of after) (put : Updates by_id old new info.id (Some content)) where
      stands_there : honest (objects_of walk) → (h : Commits ObjectId) → AreTold (rows_of (graph_of walk)) (table (objects_of walk)) h → object.Stands (table (objects_of walk)) (id_of info.id) kinds.Commit content.items
      stands_there is h told_by =
          let told = subst (λ (r : Result Info simple.Error). IfOk r (λ i. IsContentOf (honest (objects_of before)) (rows_of (graph_of before)) (table (objects_of before)) i.id (content_of after) × (after.kind ≡ (id_of i.id).kind))) was next.content in
          let over_walk = subst (λ (o : F). IsContentOf (honest o) (rows_of (graph_of before)) (table o) info.id (content_of after)) read.1.objects told.0 in
          let unheld = subst (λ (g : Option ℕ). HasRowsGeneration (rows_of (graph_of walk)) info.id g) none (generation_told is h told_by) in
          let bare = subst (λ (rows : Option (List Row)). IsContentOf (honest (objects_of walk)) (rows_of rows) (table (objects_of walk)) info.id (content_of after)) read.1.rows over_walk in
          subst (λ (bytes : List ℕ). object.Stands (table (objects_of walk)) (id_of info.id) kinds.Commit bytes) (sym copied) (bare.stored is unheld)

      pub one_read : HasRead after new
      one_read = (
        read.0 ++ info.id ∷ [],
        record {
          objects = next.objects ∙ read.1.objects;
          rows = next.rows ∙ read.1.rows;
          stands = one_more honest may_fail table ids goes walk before after read.0 read.1.objects read.1.rows read.1.stands answer info next was;
          kept = λ is h told. one_kept (rows_of (graph_of walk)) (table (objects_of walk)) old new read.0 info.id content put (stands_there is h told) (read.1.kept is h told);
        },
      )

-- whether there is a generation
pub none_told : (generation : Option ℕ) → is_some generation ≡ false → generation ≡ None
none_told None is = refl
none_told (Some n) is = cc

pub some_told : (generation : Option ℕ) → is_some generation ≡ true → (n : ℕ) × (generation ≡ Some n)
some_told None is = cc
some_told (Some n) is = (n, refl)

-- what was read over a copy of the rows was read over the rows
pub reads_with : {S : Type 0} (honest : S → Type 0) (table : S → Table) (store : S) (copy rows : Option (List Row)) → copy ≡ rows → (tips hidden : List ObjectId) (contents : Contents)
    → OverTable (honest store) (rows_of copy) (table store) (λ g. AreKept (rows_of copy) (table store) (table_of contents) (IsMet g tips hidden))
    → OverTable (honest store) (rows_of rows) (table store) (λ g. AreKept (rows_of rows) (table store) (table_of contents) (IsMet g tips hidden))
reads_with honest table store copy rows same tips hidden contents reads =
    subst (λ r. OverTable (honest store) (rows_of r) (table store) (λ g. AreKept (rows_of r) (table store) (table_of contents) (IsMet g tips hidden))) same reads

-- and so was what is refused over it
pub refused_with : {S : Type 0} (honest : S → Type 0) (may_fail : Type 0) (table : S → Table) (store : S) (copy rows : Option (List Row)) → copy ≡ rows → (lent tips lent_hidden hidden : List ObjectId) → lent ≡ tips → lent_hidden ≡ hidden → (error : WalkError)
    → OverTable (honest store) (rows_of copy) (table store) (λ g. WalkFault may_fail (rows_of copy) (table store) g lent lent_hidden error)
    → OverTable (honest store) (rows_of rows) (table store) (λ g. WalkFault may_fail (rows_of rows) (table store) g tips hidden error)
refused_with honest may_fail table store copy rows same lent tips lent_hidden hidden same_tips same_hidden error refused =
    subst (λ (xs : List ObjectId). OverTable (honest store) (rows_of rows) (table store) (λ g. WalkFault may_fail (rows_of rows) (table store) g xs hidden error)) same_tips
    (subst (λ (xs : List ObjectId). OverTable (honest store) (rows_of rows) (table store) (λ g. WalkFault may_fail (rows_of rows) (table store) g lent xs error)) same_hidden
    (subst (λ r. OverTable (honest store) (rows_of r) (table store) (λ g. WalkFault may_fail (rows_of r) (table store) g lent lent_hidden error)) same refused))

-- a walk in breadth order from the tips and the hidden ones over a store
module _ {S : Type 0} (honest may_fail : S → Type 0) (table : S → Table) (walk : Simple (Bor S) All) (store : Bor S) (graph : Option (List Row)) (objects : objects_of walk ≡ store) (with_rows : graph_of walk ≡ graph) (parents : Parents) (starts tips hidden : List ObjectId) (both : starts ≡ tips ++ hidden)
    (made : IsMade (λ _ _. true) (asked starts [] parents BreadthFirst) walk) (result : Result ReadCommits WalkError) where
  abbrev FromBoth : Asked
  FromBoth = asked (tips ++ hidden) [] parents BreadthFirst

  made_from_both : IsMade (λ _ _. true) FromBoth walk
  made_from_both = subst (λ (xs : List ObjectId). IsMade (λ _ _. true) (asked xs [] parents BreadthFirst) walk) both made

  abbrev ReadsAll : Bor S → Option (List Row) → Commits ObjectId → Asked → ReadCommits → Type 0
  ReadsAll o r g a commits = (given : List ObjectId) × Answers g a given × AreKept (rows_of r) (table o.now) (table_of commits.contents) (Contains given)

  pub reads_met : OverTable (honest (objects_of walk).now) (rows_of (graph_of walk)) (table (objects_of walk).now) (λ g. (a : Asked) → IsSure (may_fail (objects_of walk).now) a → IsMade (λ _ _. true) a walk → IfOk result (ReadsAll (objects_of walk) (graph_of walk) g a))
      → OverTable (honest store.now) (rows_of graph) (table store.now) (λ g. IfOk result (λ (commits : ReadCommits). AreKept (rows_of graph) (table store.now) (table_of commits.contents) (IsMetAlong parents g tips hidden)))
  reads_met reads is g told =
      ok_then result (ReadsAll store graph g FromBoth) (λ (commits : ReadCommits). AreKept (rows_of graph) (table store.now) (table_of commits.contents) (IsMetAlong parents g tips hidden)) (λ commits all. met_kept g tips hidden parents (rows_of graph) (table store.now) (table_of commits.contents) all)
      (over_same (λ (o : Bor S). honest o.now) (λ (o : Bor S). table o.now) (λ (o : Bor S) (r : Option (List Row)) h. (a : Asked) → IsSure (may_fail o.now) a → IsMade (λ _ _. true) a walk → IfOk result (ReadsAll o r h a)) (objects_of walk) store (graph_of walk) graph objects with_rows reads
      is g told FromBoth (breadth_sure (may_fail store.now) (tips ++ hidden) [] parents) made_from_both)

  pub reading_refused : OverTable (honest (objects_of walk).now) (rows_of (graph_of walk)) (table (objects_of walk).now) (λ g. (a : Asked) → IsSure (may_fail (objects_of walk).now) a → IsMade (λ _ _. true) a walk
      → IfErr result (WalkFault (may_fail (objects_of walk).now) (rows_of (graph_of walk)) (table (objects_of walk).now) g a.tips a.hidden)) → OverTable (honest store.now) (rows_of graph) (table store.now) (λ g. IfErr result (WalkFault (may_fail store.now) (rows_of graph) (table store.now) g tips hidden))
  reading_refused refused is g told =
      err_then result (WalkFault (may_fail store.now) (rows_of graph) (table store.now) g (tips ++ hidden) []) (WalkFault (may_fail store.now) (rows_of graph) (table store.now) g tips hidden) (λ error fault. fault_of_met g tips hidden (may_fail store.now) (rows_of graph) (table store.now) error fault)
      (over_same (λ (o : Bor S). honest o.now) (λ (o : Bor S). table o.now) (λ (o : Bor S) (r : Option (List Row)) h. (a : Asked) → IsSure (may_fail o.now) a → IsMade (λ _ _. true) a walk → IfErr result (WalkFault (may_fail o.now) (rows_of r) (table o.now) h a.tips a.hidden))
      (objects_of walk) store (graph_of walk) graph objects with_rows refused is g told FromBoth (breadth_sure (may_fail store.now) (tips ++ hidden) [] parents) made_from_both)

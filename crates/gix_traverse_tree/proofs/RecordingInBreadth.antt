-- What a recorder has after a walk in breadth order.
use Rattle.std.proofs.Common.{◌≡◌, ◌∙◌, sym, ap, subst, ℕ, Bool, true, false, List, [], ◌∷◌, ◌++◌, drop, Option, Some, None, map, refl, append_assoc, slice_index_or, ◌&&◌}
use Rattle.std.specs.Prelude.{⊤}
use Rattle.std.proofs.lemmas.Bool.{cond-true, cond-false}
use Rattle.std.proofs.lemmas.List.{append-nil, map-append}
use Rattle.std.specs.List.{AllByRecursion}
use Rattle.std.specs.declared.ops.ControlFlow.TheVariants.{Continue}
use Rattle.gix_hash.specs.Id.{Id}
use Rattle.gix_hash.specs.declared.kind.Kind.{Kind}
use Rattle.gix_object_tree.specs.Entry.{Item, SpellsEntry}
use Rattle.gix_object_tree.specs.Order.{is_tree}
use Rattle.gix_object_lookup.specs.Table.{Table}
use Rattle.gix_traverse_tree.specs.Calls.{Call, Runs, pop_front, push_back, pop, shown, descends}
use Rattle.gix_traverse_tree.specs.Breadth.{Tree, Listing, Level, Levels, InBreadth, behind, queued_id, under, under_root}
use Rattle.gix_traverse_tree.specs.Breadth as breadth
use Rattle.gix_traverse_tree.specs.Orders as orders
use Rattle.gix_traverse_tree.specs.Orders.{IsFresh, RecordsInBreadth, IsName, TellsName, HasNames, Listed, LevelByLevel, Folder, recorded_in, folder_in}
use Rattle.gix_traverse_tree.specs.Recorder.{Bytes, Recorded, Recording, joined, parent, recording_of, after_call, Records, GoesOn}
use Rattle.gix_traverse_tree.specs.Trees.{whole}
use Rattle.gix_traverse_tree.specs.declared.recorder.Recorder.{Recorder}
use Rattle.gix_traverse_tree.specs.declared.recorder.Location.{Location}
use Rattle.gix_traverse_tree.specs.declared.recorder.Location.TheVariants.{Path, FileName}
use Rattle.gix_traverse_tree.proofs.Paths.{parent_of_joined}
use Rattle.gix_traverse_tree.proofs.Recording.{cons_is_not_nil, cons_heads, cons_tails, state, after_calls, is_after, all_split, all_tail, of_entry, StandsIn, Came, past, passed, came_to, goes_below}

abbrev folder_paths : List Folder → List Bytes
folder_paths folders = map (λ (f : Folder). f.0) folders

abbrev folder_ids : List Folder → List Id
folder_ids folders = map (λ (f : Folder). f.1) folders

-- a tree's folder is queued after the others
queued : (location : Option Location) (above : List Bytes) (folder : Bytes) (queue : List Bytes) (path : Bytes) (entries : List Recorded) (item : Item)
    → IsName item.name → StandsIn location above folder queue path
    → Came (StandsIn location (above ++ folder_in folder item ∷ []) folder) location entries [] (after_calls (state location queue path entries) (push_back item.name ∷ pop ∷ []))
queued (Some Path) above folder queue path entries item (full, lacks) (q, e) = record {
  queue = queue ++ joined path item.name ∷ [];
  path = parent (joined path item.name);
  is = ap (λ (es : List Recorded). state (Some Path) (queue ++ joined path item.name ∷ []) (parent (joined path item.name)) es) (sym (append-nil entries));
  stands = (
    ap (λ (qs : List Bytes). qs ++ joined path item.name ∷ []) q ∙ ap (λ (p : Bytes). above ++ joined p item.name ∷ []) e,
    parent_of_joined path item.name full lacks ∙ e,
  );
}
queued (Some FileName) above folder queue path entries item named stands = record
    { queue = queue; path = path; is = ap (λ (es : List Recorded). state (Some FileName) queue path es) (sym (append-nil entries)); stands = tt }
queued None above folder queue path entries item named e = record
    { queue = queue; path = path; is = ap (λ (es : List Recorded). state None queue path es) (sym (append-nil entries)); stands = e }

-- what came of a tree's entries: the folders among them are queued after the others
record CameListed (location : Option Location) (above : List Bytes) (folder : Bytes) (ids : Kind) (content : List ℕ) (below : List Id) (entries : List Recorded) (after : Recording) : Type 0 where
  pub found : List Recorded
  pub folders : List Folder
  pub listed : Listed location ids folder content found folders
  pub ids_are : folder_ids folders ≡ below
  pub came : Came (StandsIn location (above ++ folder_paths folders) folder) location entries found after

and_true : (a : Bool) → (a && true) ≡ a
and_true true = refl
and_true false = refl

came_as : {P Q : List Bytes → Bytes → Type 0} {location : Option Location} {entries found : List Recorded} {after : Recording}
    → ((queue : List Bytes) (path : Bytes) → P queue path → Q queue path) → Came P location entries found after → Came Q location entries found after
came_as f came = record { queue = came.queue; path = came.path; is = came.is; stands = f came.queue came.path came.stands }

listed_entry : (location : Option Location) {ids : Kind} {content rest : List ℕ} {folder : Bytes} (calls : List Call) {below : List Id} (item : Item) (answer : Bool)
    → SpellsEntry ids content item rest → IsName item.name
    → ((above : List Bytes) (queue : List Bytes) (path : Bytes) (entries : List Recorded) → StandsIn location above folder queue path
    → CameListed location above folder ids rest below entries (after_calls (state location queue path entries) calls))
    → (t : Bool) → is_tree item ≡ t → (above : List Bytes) (queue : List Bytes) (path : Bytes) (entries : List Recorded) → StandsIn location above folder queue path
    → CameListed location above folder ids content (queued_id item t ++ below) entries
    (after_calls (state location queue path entries) (shown item (Continue answer) ++ (behind item t ++ calls)))
listed_entry location {ids = ids} {content = content} {folder = folder} calls item answer spells name later false f above queue path entries stands =
    let here = recorded_in location folder item in
    let first = passed location above folder queue path entries item answer name stands in
    let more = later above first.queue first.path (entries ++ here ∷ []) first.stands in
    record {
      found = here ∷ more.found;
      folders = more.folders;
      listed = subst (λ (fs : List Folder). Listed location ids folder content (here ∷ more.found) (fs ++ more.folders)) (cond-false (is_tree item) ((folder_in folder item, item.id) ∷ []) [] f)
          (orders.entry spells more.listed);
      ids_are = more.ids_are;
      came = came_to location entries (here ∷ []) more.found (state location queue path entries) (past item answer) calls first more.came;
    }
listed_entry location {ids = ids} {content = content} {folder = folder} calls item answer spells name later true t above queue path entries stands =
    let here = recorded_in location folder item in
    let own = folder_in folder item in
    let first = passed location above folder queue path entries item answer name stands in
    let put = queued location above folder first.queue first.path (entries ++ here ∷ []) item name first.stands in
    let more = later (above ++ own ∷ []) put.queue put.path ((entries ++ here ∷ []) ++ []) put.stands in
    let behind_ = came_to location (entries ++ here ∷ []) [] more.found (state location first.queue first.path (entries ++ here ∷ []))
    (push_back item.name ∷ pop ∷ []) calls put more.came in
    let all = came_to location entries (here ∷ []) more.found (state location queue path entries) (past item answer) (push_back item.name ∷ pop ∷ calls) first behind_ in
    record {
      found = here ∷ more.found;
      folders = (own, item.id) ∷ more.folders;
      listed = subst (λ (fs : List Folder). Listed location ids folder content (here ∷ more.found) (fs ++ more.folders)) (cond-true (is_tree item) ((own, item.id) ∷ []) [] t)
          (orders.entry spells more.listed);
      ids_are = ap (λ (is : List Id). item.id ∷ is) more.ids_are;
      came = came_as (λ (q : List Bytes) (p : Bytes) (st : _). subst (λ (qs : List Bytes). StandsIn location qs folder q p) (append_assoc above (own ∷ []) (folder_paths more.folders)) st) all;
    }

listed_in : (location : Option Location) {ids : Kind} {content : List ℕ} {calls : List Call} {below : List Id}
    → Listing ids content calls below whole → HasNames calls → AllByRecursion GoesOn calls
    → (above : List Bytes) (folder : Bytes) (queue : List Bytes) (path : Bytes) (entries : List Recorded) → StandsIn location above folder queue path
    → CameListed location above folder ids content below entries (after_calls (state location queue path entries) calls)
listed_in location breadth.none names goes above folder queue path entries stands = record {
  found = [];
  folders = [];
  listed = orders.none;
  ids_are = refl;
  came = record {
    queue = queue;
    path = path;
    is = ap (λ (es : List Recorded). state location queue path es) (sym (append-nil entries));
    stands = subst (λ (qs : List Bytes). StandsIn location qs folder queue path) (sym (append-nil above)) stands;
  };
}
listed_in location {ids = ids} (breadth.entry {content = content} {rest = rest} {item = item} answer {calls = calls} {below = below} spells later) names goes above folder queue path entries stands =
    let back = behind item (descends item (Continue answer)) in
    let told = of_entry TellsName item answer (back ++ calls) names in
    let gone = of_entry GoesOn item answer (back ++ calls) goes in
    let t = goes_below item answer gone.visit in
    let d : descends item (Continue answer) ≡ is_tree item = ap (λ (b : Bool). is_tree item && b) t ∙ and_true (is_tree item) in
    let named = all_split TellsName back calls told.rest in
    let going = all_split GoesOn back calls gone.rest in
    let rest_of = λ (above : List Bytes) (queue : List Bytes) (path : Bytes) (entries : List Recorded) (stands : StandsIn location above folder queue path).
    listed_in location later named.1 going.1 above folder queue path entries stands in
    subst (λ (b : Bool). CameListed location above folder ids content (queued_id item b ++ below) entries (after_calls (state location queue path entries) (shown item (Continue answer) ++ (behind item b ++ calls))))
    (sym d) (listed_entry location calls item answer spells told.name rest_of (is_tree item) refl above queue path entries stands)

-- ---- levels

-- these paths are queued
abbrev pub HasQueued : Option Location → List Bytes → List Bytes → Bytes → Type 0
HasQueued (Some Path) paths queue path = queue ≡ paths
HasQueued (Some FileName) paths queue path = ⊤
HasQueued None paths queue path = path ≡ []

-- the first of the queued paths is taken
first_taken : (location : Option Location) (first : Bytes) (above : List Bytes) (queue : List Bytes) (path : Bytes) (entries : List Recorded)
    → HasQueued location (first ∷ above) queue path → Came (StandsIn location above first) location entries [] (after_call (state location queue path entries) pop_front)
first_taken (Some Path) first above queue path entries e = record {
  queue = drop 1 queue;
  path = slice_index_or queue 0 [];
  is = ap (λ (es : List Recorded). state (Some Path) (drop 1 queue) (slice_index_or queue 0 []) es) (sym (append-nil entries));
  stands = (ap (λ (qs : List Bytes). drop 1 qs) e, ap (λ (qs : List Bytes). slice_index_or qs 0 []) e);
}
first_taken (Some FileName) first above queue path entries e = record
    { queue = queue; path = path; is = ap (λ (es : List Recorded). state (Some FileName) queue path es) (sym (append-nil entries)); stands = tt }
first_taken None first above queue path entries e = record
    { queue = queue; path = path; is = ap (λ (es : List Recorded). state None queue path es) (sym (append-nil entries)); stands = e }

has_queued : (location : Option Location) (paths : List Bytes) (folder : Bytes) (queue : List Bytes) (path : Bytes) → StandsIn location paths folder queue path → HasQueued location paths queue path
has_queued (Some Path) paths folder queue path (q, e) = q
has_queued (Some FileName) paths folder queue path stands = tt
has_queued None paths folder queue path e = e

abbrev tree_ids : List Tree → List Id
tree_ids trees = map (λ (t : Tree). t.id) trees

tree_ids_under : (t : Tree) (ids : List Id) → tree_ids (map (under t) ids) ≡ ids
tree_ids_under t [] = refl
tree_ids_under t (id ∷ ids) = ap (λ (is : List Id). id ∷ is) (tree_ids_under t ids)

tree_ids_under_root : (ids : List Id) → tree_ids (map under_root ids) ≡ ids
tree_ids_under_root [] = refl
tree_ids_under_root (id ∷ ids) = ap (λ (is : List Id). id ∷ is) (tree_ids_under_root ids)

-- what came of a level: the folders below are queued, and their entries come after those of all
-- that were queued before
record CameLevel (H : Type 0) (table : Table) (location : Option Location) (folders others : List Folder) (deeper : List Tree) (entries : List Recorded) (after : Recording) : Type 0 where
  pub found : List Recorded
  pub next : List Folder
  pub ids : folder_ids next ≡ tree_ids deeper
  pub order : (more : List Recorded) → LevelByLevel H table location (others ++ next) more → LevelByLevel H table location (folders ++ others) (found ++ more)
  pub came : Came (HasQueued location (folder_paths (others ++ next))) location entries found after

no_folders : (folders : List Folder) → folder_ids folders ≡ [] → folders ≡ []
no_folders [] e = refl
no_folders (f ∷ folders) e = absurd (cons_is_not_nil _ _ e)

level_in : {H M : Type 0} {table : Table} (location : Option Location) {ts deeper : List Tree} {calls : List Call}
    → Level H M table ts calls deeper whole → HasNames calls → AllByRecursion GoesOn calls
    → (folders others : List Folder) → folder_ids folders ≡ tree_ids ts → (queue : List Bytes) (path : Bytes) (entries : List Recorded)
    → HasQueued location (folder_paths (folders ++ others)) queue path
    → CameLevel H table location folders others deeper entries (after_calls (state location queue path entries) calls)
level_in {H = H} {table = table} location breadth.none names goes [] others e queue path entries stands =
    let same : others ++ [] ≡ others = append-nil others in
    record {
      found = [];
      next = [];
      ids = refl;
      order = λ more l. subst (λ (fs : List Folder). LevelByLevel H table location fs more) same l;
      came = record {
        queue = queue;
        path = path;
        is = ap (λ (es : List Recorded). state location queue path es) (sym (append-nil entries));
        stands = subst (λ (fs : List Folder). HasQueued location (folder_paths fs) queue path) (sym same) stands;
      };
    }
level_in location breadth.none names goes (f ∷ folders) others e queue path entries stands = absurd (cons_is_not_nil _ _ e)
level_in location (breadth.tree read listing later) names goes [] others e queue path entries stands = absurd (cons_is_not_nil _ _ (sym e))
level_in {H = H} {table = table} location (breadth.tree {t = t} {ts = ts} {deeper = deeper} {content = content} {calls = calls} {more = more} {below = below} read listing later) names goes ((first, id) ∷ folders) others e queue path entries stands =
    let heads : id ≡ t.id = cons_heads e in
    let tails : folder_ids folders ≡ tree_ids ts = cons_tails e in
    let named = all_split TellsName calls more (all_tail TellsName pop_front (calls ++ more) names) in
    let going = all_split GoesOn calls more (all_tail GoesOn pop_front (calls ++ more) goes) in
    let front = first_taken location first (folder_paths (folders ++ others)) queue path entries stands in
    let here = listed_in location listing named.0 going.0 (folder_paths (folders ++ others)) first front.queue front.path (entries ++ []) front.stands in
    let paths : folder_paths (folders ++ others) ++ folder_paths here.folders ≡ folder_paths (folders ++ (others ++ here.folders)) =
    sym (map-append (λ (f : Folder). f.0) (folders ++ others) here.folders) ∙ ap folder_paths (append_assoc folders others here.folders) in
    let waits = subst (λ (qs : List Bytes). HasQueued location qs here.came.queue here.came.path) paths
    (has_queued location (folder_paths (folders ++ others) ++ folder_paths here.folders) first here.came.queue here.came.path here.came.stands) in
    let rest = level_in location later named.1 going.1 folders (others ++ here.folders) tails here.came.queue here.came.path ((entries ++ []) ++ here.found) waits in
    let through = came_to location (entries ++ []) here.found rest.found (state location front.queue front.path (entries ++ [])) calls more here.came rest.came in
    let all = came_to location entries [] (here.found ++ rest.found) (state location queue path entries) (pop_front ∷ []) (calls ++ more) front through in
    record {
      found = here.found ++ rest.found;
      next = here.folders ++ rest.next;
      ids = map-append (λ (f : Folder). f.1) here.folders rest.next
          ∙ ap (λ (is : List Id). is ++ folder_ids rest.next) here.ids_are
          ∙ ap (λ (is : List Id). below ++ is) rest.ids
          ∙ ap (λ (is : List Id). is ++ tree_ids deeper) (sym (tree_ids_under t below))
          ∙ sym (map-append (λ (u : Tree). u.id) (map (under t) below) deeper);
      order = λ last l.
          let inner = rest.order last (subst (λ (fs : List Folder). LevelByLevel H table location fs last) (sym (append_assoc others here.folders rest.next)) l) in
          let joined_ = subst (λ (fs : List Folder). LevelByLevel H table location fs (rest.found ++ last)) (sym (append_assoc folders others here.folders)) inner in
          let own : LevelByLevel H table location ((first, t.id) ∷ (folders ++ others)) (here.found ++ (rest.found ++ last)) = orders.folder read.1 here.listed joined_ in
          subst (λ (i : Id). LevelByLevel H table location ((first, i) ∷ (folders ++ others)) ((here.found ++ rest.found) ++ last)) (sym heads)
          (subst (λ (es : List Recorded). LevelByLevel H table location ((first, t.id) ∷ (folders ++ others)) es) (sym (append_assoc here.found rest.found last)) own);
      came = came_as (λ (q : List Bytes) (p : Bytes) (st : _). subst (λ (fs : List Folder). HasQueued location (folder_paths fs) q p) (append_assoc others here.folders rest.next) st) all;
    }

record CameLevels (H : Type 0) (table : Table) (location : Option Location) (folders : List Folder) (entries : List Recorded) (after : Recording) : Type 0 where
  pub found : List Recorded
  pub order : LevelByLevel H table location folders found
  pub came : Came (λ queue path. ⊤) location entries found after

levels_in : {H M : Type 0} {table : Table} (location : Option Location) {ts : List Tree} {calls : List Call}
    → Levels H M table ts calls whole → HasNames calls → AllByRecursion GoesOn calls
    → (folders : List Folder) → folder_ids folders ≡ tree_ids ts → (queue : List Bytes) (path : Bytes) (entries : List Recorded)
    → HasQueued location (folder_paths folders) queue path
    → CameLevels H table location folders entries (after_calls (state location queue path entries) calls)
levels_in {H = H} {table = table} location breadth.none names goes folders e queue path entries stands = record {
  found = [];
  order = subst (λ (fs : List Folder). LevelByLevel H table location fs []) (sym (no_folders folders e)) orders.none;
  came = record { queue = queue; path = path; is = ap (λ (es : List Recorded). state location queue path es) (sym (append-nil entries)); stands = tt };
}
levels_in {H = H} {table = table} location (breadth.level {calls = calls} {more = more} level later) names goes folders e queue path entries stands =
    let named = all_split TellsName calls more names in
    let going = all_split GoesOn calls more goes in
    let same : folders ++ [] ≡ folders = append-nil folders in
    let first = level_in location level named.0 going.0 folders [] e queue path entries (subst (λ (fs : List Folder). HasQueued location (folder_paths fs) queue path) (sym same) stands) in
    let rest = levels_in location later named.1 going.1 first.next first.ids first.came.queue first.came.path (entries ++ first.found) first.came.stands in
    record {
      found = first.found ++ rest.found;
      order = subst (λ (fs : List Folder). LevelByLevel H table location fs (first.found ++ rest.found)) same (first.order rest.found rest.order);
      came = came_to location entries first.found rest.found (state location queue path entries) calls more first.came rest.came;
    }

fresh_stands : (location : Option Location) → StandsIn location [] [] [] []
fresh_stands (Some Path) = (refl, refl)
fresh_stands (Some FileName) = tt
fresh_stands None = refl

pub records_in_breadth : (H M : Type 0) (table : Table) (ids : Kind) (content : List ℕ) (calls : List Call) (old new : Recorder)
    → InBreadth H M table ids content calls whole → HasNames calls → IsFresh old → Runs Records old calls new → RecordsInBreadth H table ids content old new
records_in_breadth H M table ids content calls old new (breadth.root {calls = first} {more = more} {below = below} listing levels) names fresh runs =
    let run = is_after (first ++ more) old new runs in
    let location = (recording_of old).location in
    let entries = (recording_of old).entries in
    let start : recording_of old ≡ state location [] [] entries =
    ap (λ (q : List Bytes). state location q (recording_of old).path entries) fresh.0 ∙ ap (λ (p : Bytes). state location [] p entries) fresh.1 in
    let named = all_split TellsName first more names in
    let going = all_split GoesOn first more run.1 in
    let here = listed_in location listing named.0 going.0 [] [] [] [] entries (fresh_stands location) in
    let waits = has_queued location (folder_paths here.folders) [] here.came.queue here.came.path here.came.stands in
    let rest = levels_in location levels named.1 going.1 here.folders (here.ids_are ∙ sym (tree_ids_under_root below)) here.came.queue here.came.path (entries ++ here.found) waits in
    let all = came_to location entries here.found rest.found (state location [] [] entries) first more here.came rest.came in (
      here.found,
      rest.found,
      here.folders,
      here.listed,
      rest.order,
      ap (λ (a : Recording). a.entries) (run.0 ∙ ap (λ (a : Recording). after_calls a (first ++ more)) start ∙ all.is),
    )

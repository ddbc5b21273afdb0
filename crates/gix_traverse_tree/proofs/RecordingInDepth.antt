-- What a recorder has after a walk in depth order.
use Rattle.std.proofs.Common.{◌≡◌, ◌∙◌, sym, ap, ℕ, List, [], ◌∷◌, ◌++◌, Option, Some, None, refl}
use Rattle.std.proofs.lemmas.List.{append-nil}
use Rattle.std.specs.List.{AllByRecursion}
use Rattle.gix_hash.specs.Id.{Id}
use Rattle.gix_hash.specs.declared.kind.Kind.{Kind}
use Rattle.gix_object_lines.specs.declared.kind.Kind.TheVariants as kinds
use Rattle.gix_object_tree.specs.Entry.{Item}
use Rattle.gix_object_lookup.specs.Table.{Table}
use Rattle.gix_object_lookup.specs.Existing.{Stands}
use Rattle.gix_traverse_tree.specs.Calls.{Call, Runs, pop_back, pop}
use Rattle.gix_traverse_tree.specs.Depth as depth
use Rattle.gix_traverse_tree.specs.Depth.{InDepth, before, inside, entering}
use Rattle.gix_traverse_tree.specs.Orders as orders
use Rattle.gix_traverse_tree.specs.Orders.{IsFresh, RecordsInDepth, TellsName, HasNames, InOrder, recorded_in, folder_in}
use Rattle.gix_traverse_tree.specs.Recorder.{Bytes, Recorded, Recording, recording_of, after_call, Records, GoesOn}
use Rattle.gix_traverse_tree.specs.Trees.{whole}
use Rattle.gix_traverse_tree.specs.declared.recorder.Recorder.{Recorder}
use Rattle.gix_traverse_tree.specs.declared.recorder.Location.{Location}
use Rattle.gix_traverse_tree.specs.declared.recorder.Location.TheVariants.{Path, FileName}
use Rattle.gix_traverse_tree.proofs.Recording.{state, after_calls, is_after, all_split, all_tail, of_entry, StandsIn, StandsBefore, Came, resumed, past, passed, entered, came_to, goes_below, is_file, is_folder}

-- what came of a tree's entries, and what of a tree
pub record CameInside (H : Type 0) (table : Table) (location : Option Location) (above : List Bytes) (folder : Bytes) (ids : Kind) (content : List ℕ) (entries : List Recorded) (after : Recording) : Type 0 where
  pub found : List Recorded
  pub order : InOrder H table location ids folder content found
  pub came : Came (StandsIn location above folder) location entries found after

pub record CameBefore (H : Type 0) (table : Table) (location : Option Location) (above : List Bytes) (folder : Bytes) (id : Id) (entries : List Recorded) (after : Recording) : Type 0 where
  pub content : List ℕ
  pub stands : H → Stands table id kinds.Tree content
  pub within : CameInside H table location above folder id.kind content entries after

behind_entering : (P : Call → Type 0) (item : Item) (more : List Call) → AllByRecursion P (entering item ++ more) → AllByRecursion P more
behind_entering P item more (p, (q, h)) = h

-- the queue holds the folder above
leaves : (location : Option Location) (above : List Bytes) (folder inner : Bytes) (queue : List Bytes) (path : Bytes)
    → StandsIn location (above ++ folder ∷ []) inner queue path → StandsBefore location above folder queue path
leaves (Some Path) above folder inner queue path (q, e) = q
leaves (Some FileName) above folder inner queue path stands = tt
leaves None above folder inner queue path e = e

mutual
  in_order : {H M : Type 0} {table : Table} (location : Option Location) {lies : List Id} {id : Id} {content : List ℕ} {calls : List Call}
      → InDepth H M table lies (inside id content) calls whole → HasNames calls → AllByRecursion GoesOn calls
      → (above : List Bytes) (folder : Bytes) (queue : List Bytes) (path : Bytes) (entries : List Recorded) → StandsIn location above folder queue path
      → CameInside H table location above folder id.kind content entries (after_calls (state location queue path entries) calls)
  in_order location depth.none names goes above folder queue path entries stands = record {
    found = [];
    order = orders.none;
    came = record { queue = queue; path = path; is = ap (λ (es : List Recorded). state location queue path es) (sym (append-nil entries)); stands = stands };
  }
  in_order location (depth.entry {content = content} {rest = rest} {item = item} answer {calls = calls} spells d later) names goes above folder queue path entries stands =
      let here = recorded_in location folder item in
      let named = of_entry TellsName item answer (pop ∷ calls) names in
      let going = of_entry GoesOn item answer (pop ∷ calls) goes in
      let first = passed location above folder queue path entries item answer named.name stands in
      let t = goes_below item answer going.visit in
      let behind = in_order location later (all_tail TellsName pop calls named.rest) (all_tail GoesOn pop calls going.rest) above folder first.queue first.path (entries ++ here ∷ []) first.stands in
      record {
        found = here ∷ behind.found;
        order = orders.file spells (is_file item answer t d) behind.order;
        came = came_to location entries (here ∷ []) behind.found (state location queue path entries) (past item answer) calls first behind.came;
      }
  in_order location (depth.below {item = item} answer {calls = calls} {more = more} spells d inner later) names goes above folder queue path entries stands =
      let here = recorded_in location folder item in
      let inner_calls = entering item ++ (calls ++ (pop_back ∷ more)) in
      let told = of_entry TellsName item answer (pop ∷ inner_calls) names in
      let gone = of_entry GoesOn item answer (pop ∷ inner_calls) goes in
      let first = passed location above folder queue path entries item answer told.name stands in
      let down = entered location above folder first.queue first.path (entries ++ here ∷ []) item first.stands in
      let named = all_split TellsName calls (pop_back ∷ more) (behind_entering TellsName item (calls ++ (pop_back ∷ more)) (all_tail TellsName pop inner_calls told.rest)) in
      let going = all_split GoesOn calls (pop_back ∷ more) (behind_entering GoesOn item (calls ++ (pop_back ∷ more)) (all_tail GoesOn pop inner_calls gone.rest)) in
      let within = in_order_before location inner named.0 going.0 (above ++ folder ∷ []) (folder_in folder item) down.queue down.path ((entries ++ here ∷ []) ++ []) down.stands in
      let lower = within.within in
      let up = resumed location above folder lower.came.queue lower.came.path (((entries ++ here ∷ []) ++ []) ++ lower.found) (leaves location above folder (folder_in folder item) lower.came.queue lower.came.path lower.came.stands) in
      let rest = in_order location later (all_tail TellsName pop_back more named.1) (all_tail GoesOn pop_back more going.1) above folder up.queue up.path ((((entries ++ here ∷ []) ++ []) ++ lower.found) ++ []) up.stands in
      let back = came_to location (((entries ++ here ∷ []) ++ []) ++ lower.found) [] rest.found
      (state location lower.came.queue lower.came.path (((entries ++ here ∷ []) ++ []) ++ lower.found)) (pop_back ∷ []) more up rest.came in
      let through = came_to location ((entries ++ here ∷ []) ++ []) lower.found rest.found
      (state location down.queue down.path ((entries ++ here ∷ []) ++ [])) calls (pop_back ∷ more) lower.came back in
      let in_ = came_to location (entries ++ here ∷ []) [] (lower.found ++ rest.found)
      (state location first.queue first.path (entries ++ here ∷ [])) (entering item) (calls ++ (pop_back ∷ more)) down through in
      record {
        found = here ∷ (lower.found ++ rest.found);
        order = orders.tree spells (is_folder item answer d) within.stands lower.order rest.order;
        came = came_to location entries (here ∷ []) (lower.found ++ rest.found) (state location queue path entries) (past item answer)
            (entering item ++ (calls ++ (pop_back ∷ more))) first in_;
      }
  in_order location (depth.ended_below answer spells d inner n) names goes above folder queue path entries stands = absurd (n refl)

  in_order_before : {H M : Type 0} {table : Table} (location : Option Location) {lies : List Id} {id : Id} {calls : List Call}
      → InDepth H M table lies (before id) calls whole → HasNames calls → AllByRecursion GoesOn calls
      → (above : List Bytes) (folder : Bytes) (queue : List Bytes) (path : Bytes) (entries : List Recorded) → StandsBefore location above folder queue path
      → CameBefore H table location above folder id entries (after_calls (state location queue path entries) calls)
  in_order_before location (depth.tree {content = content} {calls = calls} read later) names goes above folder queue path entries stands =
      let up = resumed location above folder queue path entries stands in
      let rest = in_order location later (all_tail TellsName pop_back calls names) (all_tail GoesOn pop_back calls goes) above folder up.queue up.path (entries ++ []) up.stands in
      record {
        content = content;
        stands = read.1;
        within = record { found = rest.found; order = rest.order; came = came_to location entries [] rest.found (state location queue path entries) (pop_back ∷ []) calls up rest.came };
      }

at_root : (location : Option Location) (entries : List Recorded) → Came (StandsIn location [] []) location entries [] (after_call (state location [] [] entries) pop_back)
at_root (Some Path) entries = record { queue = []; path = []; is = ap (λ (es : List Recorded). state (Some Path) [] [] es) (sym (append-nil entries)); stands = (refl, refl) }
at_root (Some FileName) entries = record { queue = []; path = []; is = ap (λ (es : List Recorded). state (Some FileName) [] [] es) (sym (append-nil entries)); stands = tt }
at_root None entries = record { queue = []; path = []; is = ap (λ (es : List Recorded). state None [] [] es) (sym (append-nil entries)); stands = refl }

-- a walk from a root, with nothing queued
from_root : {H M : Type 0} {table : Table} (location : Option Location) {id : Id} {calls : List Call}
    → InDepth H M table [] (before id) calls whole → HasNames calls → AllByRecursion GoesOn calls → (entries : List Recorded)
    → CameBefore H table location [] [] id entries (after_calls (state location [] [] entries) calls)
from_root location (depth.tree {content = content} {calls = calls} read later) names goes entries =
    let up = at_root location entries in
    let rest = in_order location later (all_tail TellsName pop_back calls names) (all_tail GoesOn pop_back calls goes) [] [] up.queue up.path (entries ++ []) up.stands in
    record {
      content = content;
      stands = read.1;
      within = record { found = rest.found; order = rest.order; came = came_to location entries [] rest.found (state location [] [] entries) (pop_back ∷ []) calls up rest.came };
    }

pub records_in_depth : (H M : Type 0) (table : Table) (id : Id) (calls : List Call) (old new : Recorder)
    → InDepth H M table [] (before id) calls whole → HasNames calls → IsFresh old → Runs Records old calls new → RecordsInDepth H table id old new
records_in_depth H M table id calls old new walk names fresh runs =
    let run = is_after calls old new runs in
    let location = (recording_of old).location in
    let entries = (recording_of old).entries in
    let came = from_root location walk names run.1 entries in
    let start : recording_of old ≡ state location [] [] entries =
    ap (λ (q : List Bytes). state location q (recording_of old).path entries) fresh.0 ∙ ap (λ (p : Bytes). state location [] p entries) fresh.1 in
    let all : recording_of new ≡ after_calls (state location [] [] entries) calls = run.0 ∙ ap (λ (a : Recording). after_calls a calls) start in
    (came.content, came.within.found, came.stands, came.within.order, ap (λ (a : Recording). a.entries) (all ∙ came.within.came.is))

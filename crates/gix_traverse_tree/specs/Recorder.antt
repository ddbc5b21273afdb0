-- A recorder: what it keeps, and what each call of a walk makes of it.
use Rattle.std.specs.Prelude.{ℕ, ◌≡◌, ◌-◌, ⊤, true, List, [], ◌∷◌, ◌++◌, ◌==◌, Option, Some, None, length, map, take, drop, slice_index_or, if◌then◌else◌}
use Rattle.std.specs.List.{list_any}
use Rattle.std.specs.declared.ops.ControlFlow.TheVariants.{Continue}
use Rattle.gix_hash.specs.Id.{Id, id_of}
use Rattle.gix_object_tree.specs.Entry.{Item}
use Rattle.gix_object_tree.specs.ModeText.{Mode, mode_of}
use Rattle.gix_traverse_tree.specs.Calls.{Call, pop_back, pop_front, push_back, push, pop, at_tree, at_nontree}
use Rattle.gix_traverse_tree.specs.declared.recorder.Entry.{Entry}
use Rattle.gix_traverse_tree.specs.declared.recorder.Location.{Location}
use Rattle.gix_traverse_tree.specs.declared.recorder.Location.TheVariants.{Path, FileName}
use Rattle.gix_traverse_tree.specs.declared.recorder.Recorder.{Recorder}

abbrev pub Bytes : Type 0
Bytes = List ℕ

-- what is recorded of an entry: its path as far as it is tracked, and what it names
pub record Recorded : Type 0 where
  pub mode : Mode
  pub path : Bytes
  pub id : Id

abbrev pub recorded_of : Entry → Recorded
recorded_of entry =
    record { mode = mode_of entry.mode; path = entry.filepath; id = id_of entry.oid }

-- the path of a name in a folder; the root's is empty
abbrev pub joined : Bytes → Bytes → Bytes
joined folder [] = folder
joined [] (b ∷ name) = b ∷ name
joined (a ∷ folder) (b ∷ name) = (a ∷ folder) ++ 47 ∷ b ∷ name

-- what precedes the path's last `/`, nothing if there is none
abbrev pub parent : Bytes → Bytes
parent [] = []
parent (b ∷ path) = if list_any (λ c. c == 47) path then b ∷ parent path else []

-- the queued paths, the path that is built on, and the entries so far
pub record Recording : Type 0 where
  pub location : Option Location
  pub queue : List Bytes
  pub path : Bytes
  pub entries : List Recorded

abbrev pub recording_of : Recorder → Recording
recording_of recorder = record {
  location = recorder.location;
  queue = recorder.path_deque.items;
  path = recorder.path.items;
  entries = map recorded_of recorder.records.items;
}

-- whole paths alone are queued
abbrev pub where_whole : Recording → Recording → Recording
where_whole old new = pick old.location where
  pick : Option Location → Recording
  pick (Some Path) = new
  pick (Some FileName) = old
  pick None = old

-- a whole path grows by the name, a file's name takes the place of the last, and nothing is tracked
-- of none
abbrev pub path_with : Option Location → Bytes → Bytes → Bytes
path_with (Some Path) path name = joined path name
path_with (Some FileName) path name = name
path_with None path name = path

abbrev pub with_entry : Recording → Item → Recording
with_entry old item =
    record old {
      entries =
          old.entries ++ record { mode = item.mode; path = old.path; id = item.id } ∷ [];
    }

abbrev pub with_queued : Recording → Bytes → Recording
with_queued old path = record old { path = path; queue = old.queue ++ path ∷ [] }

-- what a call makes of a recording
abbrev pub after_call : Recording → Call → Recording
after_call old pop_back =
    where_whole old
    (record old {
      path =
          slice_index_or old.queue (length old.queue - 1) [];
      queue =
          take (length old.queue - 1) old.queue;
    })
after_call old pop_front =
    where_whole old
    (record old { path = slice_index_or old.queue 0 []; queue = drop 1 old.queue })
after_call old (push_back name) = where_whole old (with_queued old (joined old.path name))
after_call old (push name) = record old { path = path_with old.location old.path name }
after_call old pop = where_whole old (record old { path = parent old.path })
after_call old (at_tree item answer) = with_entry old item
after_call old (at_nontree item answer) = with_entry old item

-- a recorder goes below each tree
abbrev pub GoesOn : Call → Type 0
GoesOn (at_tree item answer) = answer ≡ Continue true
GoesOn (at_nontree item answer) = answer ≡ Continue true
GoesOn call = ⊤

abbrev pub Records : Recorder → Call → Recorder → Type 0
Records old call new = GoesOn call × (recording_of new ≡ after_call (recording_of old) call)

-- What the files of one reference hold: its own file, its log, and the lock of its own file
-- (gitrepository-layout).
use Rattle.std.specs.Prelude.{ℕ, ◌≡◌, ◌⊎◌, [], ◌++◌, Option, Some, None, Vec, take, unwrap_or}
use Rattle.std.specs.declared.alloc.Global.{Global}
use Rattle.gix_ref_file.specs.Tree.{Tree}
use Rattle.gix_ref_way.specs.Ways.{Bytes, file_at}
use Rattle.gix_ref_lock.specs.declared.act.Act.{Act}
use Rattle.gix_ref_lock.specs.declared.act.Act.TheVariants.{Put, Note, Pack, Remove, Forget}
use Rattle.gix_ref_lock.specs.declared.act.Move.{Move}

-- the bytes of each; `None` if there is no file
pub record Contents : Type 0 where
  pub file : Option Bytes
  pub log : Option Bytes
  pub lock : Option Bytes

-- their paths
abbrev pub place_of : Move → Bytes
place_of m = m.lock.place.items

abbrev pub lock_path_of : Move → Bytes
lock_path_of m = m.lock.path.items

abbrev pub log_path_of : Move → Bytes
log_path_of m = m.log.items

-- what a tree holds of them
abbrev pub contents : Move → Tree → Contents
contents m tree = record {
  file = file_at tree (place_of m);
  log = file_at tree (log_path_of m);
  lock = file_at tree (lock_path_of m);
}

-- a log with a line appended to it, if there is a line
abbrev pub noted : Option (Vec ℕ Global) → Option Bytes → Option Bytes
noted None log = log
noted (Some line) log = Some (unwrap_or log [] ++ line.items)

-- the line that an act appends to the log
abbrev pub act_line : Act → Option (Vec ℕ Global)
act_line (Put line) = line
act_line (Note line) = line
act_line (Pack line) = line
act_line Remove = None
act_line Forget = None

-- ---- one act after another

-- an update's log has its line, the file has the lock's bytes, and the lock is gone
abbrev pub updated : Act → Contents → Contents
updated (Put line) c = record {
  file = Some (unwrap_or c.lock []);
  log = noted line c.log;
  lock = None;
}
updated (Note line) c = record { file = c.file; log = noted line c.log; lock = None }
updated (Pack line) c = record { file = c.file; log = noted line c.log; lock = c.lock }
updated Remove c = c
updated Forget c = c

-- the log of what is removed is gone
abbrev pub forgotten : Act → Contents → Contents
forgotten (Put line) c = c
forgotten (Note line) c = c
forgotten (Pack line) c = c
forgotten Remove c = record { file = c.file; log = None; lock = c.lock }
forgotten Forget c = record { file = c.file; log = None; lock = c.lock }

-- the file and its lock are gone
abbrev pub gone : Act → Contents → Contents
gone act c = record { file = None; log = c.log; lock = None }

-- so are the files and locks of what is removed or packed
abbrev pub removed : Act → Contents → Contents
removed (Put line) c = c
removed (Note line) c = c
removed (Pack line) c = gone (Pack line) c
removed Remove c = gone Remove c
removed Forget c = record { file = c.file; log = c.log; lock = None }

-- the end of an act
abbrev pub moved : Act → Contents → Contents
moved act c = removed act (forgotten act (updated act c))

-- ---- on the way

-- the log as before, or with any beginning of the line appended to it
abbrev pub MayBeNoted : Option (Vec ℕ Global) → Option Bytes → Option Bytes → Type 0
MayBeNoted None before now = now ≡ before
MayBeNoted (Some line) before now = (now ≡ before)
    ⊎ ((n : ℕ) × (now ≡ Some (unwrap_or before [] ++ take n line.items)))

abbrev pub MayBeLogged : Act → Option Bytes → Option Bytes → Type 0
MayBeLogged (Put line) before now = MayBeNoted line before now
MayBeLogged (Note line) before now = MayBeNoted line before now
MayBeLogged (Pack line) before now = MayBeNoted line before now
MayBeLogged Remove before now = (now ≡ before) ⊎ (now ≡ None)
MayBeLogged Forget before now = (now ≡ before) ⊎ (now ≡ None)

-- The file is as before, or as in the end: then so is its log.
pub record IsBetween (act : Act) (before now : Contents) : Type 0 where
  pub log : MayBeLogged act before.log now.log
  pub file : (now.file ≡ before.file)
      ⊎ ((now.file ≡ (moved act before).file) × (now.log ≡ (moved act before).log))

-- Readers of logs from their end, as they are made.
use Rattle.std.specs.Prelude.{ℕ, ◌≡◌, List, length}
use Rattle.gix_ref_log.specs.declared.iter.backward.Reverse.{Reverse}
use Rattle.gix_ref_store.specs.Places.{log_place}
use Rattle.gix_ref_store.specs.Stores.{base_of}
use Rattle.gix_ref_store.specs.declared.store.file.Store.{Store}
use Rattle.gix_ref_store.specs.declared.store.file.log.LogFile.{LogFile}

-- the reader reads the file at the place of the name's log
abbrev pub IsOfLog : {F : Type 0} → Store F → List ℕ → Reverse (LogFile F) → Type 0
IsOfLog store name reader =
    (reader.log.files.now ≡ store.files)
    × (reader.log.path.items ≡ log_place (base_of store) name)

-- it has given no line, and has a buffer of so many bytes
abbrev pub IsBegun : {R : Type 0} → ℕ → Reverse R → Type 0
IsBegun room reader = (reader.given ≡ 0) × (length reader.buffer.now ≡ room)

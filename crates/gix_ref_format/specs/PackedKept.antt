-- What a buffer of `packed-refs` holds, and what an iterator over it has yet to give.
use Rattle.std.specs.Prelude.{◌≡◌, ℕ, List, Option, Some}
use Rattle.gix_hash.specs.declared.kind.Kind.{Kind}
use Rattle.gix_ref_format.specs.Packed.{Record}
use Rattle.gix_ref_format.specs.PackedBuffer.{Keeps, entry_records}
use Rattle.gix_ref_format.specs.declared.packed.buffer.Buffer.{Buffer}
use Rattle.gix_ref_format.specs.declared.packed.records.Records.{Records}

-- the records, ascending by name
abbrev pub kept : Buffer → List Record
kept buffer = entry_records buffer.entries.items

-- the bytes of the file
abbrev pub text_of : Buffer → List ℕ
text_of buffer = buffer.bytes.items

abbrev pub records_left : Records → List Record
records_left records = entry_records records.rest.now

-- if the file has the buffer's bytes, the buffer has its records
abbrev pub IsKnownOf : Kind → Option (List ℕ) → Buffer → Type 0
IsKnownOf kind file buffer = file ≡ Some (text_of buffer) → Keeps kind (text_of buffer) (kept buffer)

-- What comes of opening a store's packed references.
use Rattle.std.specs.Prelude.{◌≡◌, Option, option_map, IsSome}
use Rattle.gix_ref_file.specs.Tree.{Tree}
use Rattle.gix_ref_format.specs.PackedBuffer.{KeepsFile, FileFault}
use Rattle.gix_ref_format.specs.PackedKept.{kept, text_of}
use Rattle.gix_ref_format.specs.declared.packed.buffer.Buffer.{Buffer}
use Rattle.gix_ref_format.specs.declared.packed.buffer.Error.{Error}
use Rattle.gix_ref_store.specs.RefStates.{packed_text_in, records_of}
use Rattle.gix_ref_store.specs.Stores.{base_of}
use Rattle.gix_ref_store.specs.declared.store.file.Store.{Store}

-- the buffer keeps the records of the file in this tree, and there is none if there is no file
abbrev pub KeepsPacked : {F : Type 0} → Store F → Tree → Option Buffer → Type 0
KeepsPacked store tree found =
    KeepsFile (base_of store).kind (packed_text_in (base_of store) tree) (option_map kept found)

-- the buffer's bytes are the file's
abbrev pub HasPackedText : {F : Type 0} → Store F → Tree → Option Buffer → Type 0
HasPackedText store tree found = option_map text_of found ≡ packed_text_in (base_of store) tree

-- why the file can't be opened
abbrev pub PackedUnread : {F : Type 0} → Store F → Tree → Error → Type 0
PackedUnread store tree error =
    FileFault (base_of store).kind (packed_text_in (base_of store) tree) error

-- each of its lines can be read
abbrev pub CanOpenPacked : {F : Type 0} → Store F → Tree → Type 0
CanOpenPacked store tree =
    IsSome (records_of (base_of store).kind (packed_text_in (base_of store) tree))

-- The records of `packed-refs` under edits, as a lock holds them.
use Rattle.std.specs.Prelude.{ℕ, ◌≡◌, List, [], Option, None, Some}
use Rattle.gix_ref_file.specs.Tree.{Tree, file, node_at}
use Rattle.gix_hash.specs.declared.kind.Kind.{Kind}
use Rattle.gix_ref_format.specs.Packed.{Record}
use Rattle.gix_ref_format.specs.PackedKept.{kept}
use Rattle.gix_ref_format.specs.declared.packed.buffer.Buffer.{Buffer}
use Rattle.gix_ref_format.specs.Edited.{Line}
pub use Rattle.gix_ref_format.specs.PackedText.{IsTextOf}

-- the records of a file; none if there is no file
abbrev pub records_in : Option Buffer → List Record
records_in None = []
records_in (Some buffer) = kept buffer

-- a file with that text is at the path
pub record HoldsEdited (kind : Kind) (records : List Record) (lines : List Line) (path : List ℕ)
    (tree : Tree) : Type 0 where
  pub text : List ℕ
  pub here : node_at tree path ≡ Some (file text)
  pub told : IsTextOf kind records lines text

-- Trees in which all references read alike.
use Rattle.std.specs.Prelude.{ℕ, ◌≡◌, List, IsTrue}
use Rattle.gix_object_lines.specs.NameTest.{is_full_name}
use Rattle.gix_ref_file.specs.Tree.{Tree}
use Rattle.gix_ref_way.specs.Ways.{file_at}
use Rattle.gix_ref_store.specs.Places.{Base, log_place}
use Rattle.gix_ref_store.specs.RefStates.{ref_state, packed_text_in}

-- Each name reads as before, its log is as before, and so are packed records.
pub record ReadsAlike (b : Base) (old tree : Tree) : Type 0 where
  pub names : (name : List ℕ) → ref_state b tree name ≡ ref_state b old name
  pub logs : (name : List ℕ) → IsTrue (is_full_name name)
      → file_at tree (log_place b name) ≡ file_at old (log_place b name)
  pub packed : packed_text_in b tree ≡ packed_text_in b old

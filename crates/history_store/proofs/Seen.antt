-- What was seen at an object's place exists, and what was not doesn't.
use Rattle.std.proofs.Common.{◌≡◌, refl, sym, ◌∙◌, Bool, true, false}
use Rattle.std.specs.Prelude.{IsTrue, if◌then◌else◌}
use Rattle.gix_ref_file.specs.Tree.{Tree, parent, node_at, is_folder, IsRooted}
use Rattle.gix_ref_file.specs.Changes.{is_file_at}
use Rattle.history_model.specs.Bytes.{Bytes}
use Rattle.history_store.specs.Seen.{seen_at}
use Rattle.history_store.specs.declared.folders.Seen.{Seen}
use Rattle.history_store.specs.declared.folders.Seen.TheVariants.{Nothing, Top, Folder, File}
use Rattle.history_store.proofs.OwnFolders.{none_in_missing}

abbrev seen_of : Bool → Bool → Bool → Seen
seen_of is_file has_folder has_top = if is_file then File else if has_folder then Folder else if has_top then Top else Nothing

is_nothing : (is_file has_folder has_top : Bool) → Nothing ≡ seen_of is_file has_folder has_top → false ≡ has_top
is_nothing true has_folder has_top is = absurd (cc is)
is_nothing false true has_top is = absurd (cc is)
is_nothing false false true is = absurd (cc is)
is_nothing false false false is = refl

is_top : (is_file has_folder has_top : Bool) → Top ≡ seen_of is_file has_folder has_top → (false ≡ has_folder) × (has_top ≡ true)
is_top true has_folder has_top is = absurd (cc is)
is_top false true has_top is = absurd (cc is)
is_top false false true is = (refl, refl)
is_top false false false is = absurd (cc is)

is_in_folder : (is_file has_folder has_top : Bool) → Folder ≡ seen_of is_file has_folder has_top → has_folder ≡ true
is_in_folder true has_folder has_top is = absurd (cc is)
is_in_folder false true has_top is = refl
is_in_folder false false true is = absurd (cc is)
is_in_folder false false false is = absurd (cc is)

is_at_file : (is_file has_folder has_top : Bool) → File ≡ seen_of is_file has_folder has_top → is_file ≡ true
is_at_file true has_folder has_top is = refl
is_at_file false true has_top is = absurd (cc is)
is_at_file false false true is = absurd (cc is)
is_at_file false false false is = absurd (cc is)

module _ (tree : Tree) (place : Bytes) where
  pub folder_seen : false ≡ is_file_at tree place → true ≡ is_folder (node_at tree (parent place)) → Folder ≡ seen_at tree place
  folder_seen none there = λ i. seen_of (none i) (there i) (is_folder (node_at tree (parent (parent place))))

  pub top_seen : false ≡ is_file_at tree place → false ≡ is_folder (node_at tree (parent place)) → true ≡ is_folder (node_at tree (parent (parent place))) → Top ≡ seen_at tree place
  top_seen none missing there = λ i. seen_of (none i) (missing i) (there i)

  pub nothing_seen : false ≡ is_file_at tree place → false ≡ is_folder (node_at tree (parent place)) → false ≡ is_folder (node_at tree (parent (parent place))) → Nothing ≡ seen_at tree place
  nothing_seen none missing outer = λ i. seen_of (none i) (missing i) (outer i)

  pub no_top : Nothing ≡ seen_at tree place → false ≡ is_folder (node_at tree (parent (parent place)))
  no_top is = is_nothing _ _ _ is

  pub top_alone : Top ≡ seen_at tree place → (false ≡ is_folder (node_at tree (parent place))) × IsTrue (is_folder (node_at tree (parent (parent place))))
  top_alone is = is_top _ _ _ is

  pub folder_there : Folder ≡ seen_at tree place → IsTrue (is_folder (node_at tree (parent place)))
  folder_there is = is_in_folder _ _ _ is

  pub file_there : File ≡ seen_at tree place → is_file_at tree place ≡ true
  file_there is = is_at_file _ _ _ is

  -- a file is in a folder
  pub folder_of_file : IsRooted tree → File ≡ seen_at tree place → IsTrue (is_folder (node_at tree (parent place)))
  folder_of_file rooted is = by_test (is_folder (node_at tree (parent place))) refl
    where
      by_test : (b : Bool) → is_folder (node_at tree (parent place)) ≡ b → IsTrue (is_folder (node_at tree (parent place)))
      by_test true there = there
      by_test false missing =
          let wrong : false ≡ true = none_in_missing tree place rooted (sym missing) ∙ file_there is in
          absurd (cc wrong)

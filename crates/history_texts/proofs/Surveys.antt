-- Listings from the root reach each path that exists.
use Rattle.std.proofs.Common.{◌≡◌, ℕ, ◌-◌, ◌<◌, false, List, [], length, Option, Some, None, sym, ◌∙◌, ap}
use Rattle.std.specs.Prelude.{IsTrue, is_some, MatchOption, Result, Ok, Err, IfOk}
use Rattle.gix_ref_file.specs.declared.files.FileError.{FileError}
use Rattle.history_texts.specs.declared.parts.Stray.{Stray}
use Rattle.std.specs.FinMap.{get}
use Rattle.std.proofs.Math.ListN.{get_or}
use Rattle.gix_ref_file.specs.declared.files.Place.TheVariants as places
use Rattle.gix_ref_file.specs.Tree.{Tree, Node, file, folder, is_path, names_at, node_at, place_of, IsRooted, under}
use Rattle.gix_ref_file.proofs.Listings.{node_is}
use Rattle.history_model.specs.Bytes.{Bytes}
use Rattle.gix_ref_way.proofs.Walked.{above_all, all_below, none_below_file}
use Rattle.history_texts.specs.Parts.{may_hold_folder, IsClearAt, IsClear, IsStray, IsClearBelow}
use Rattle.history_texts.specs.declared.parts.Part.{Part}

-- ---- what a survey of a folder finds
-- a path and all below it
abbrev pub IsClearFrom : Part → Bytes → Tree → Bytes → Type 0
IsClearFrom part permitted tree path = IsClearAt part permitted path (get tree path) × IsClearBelow part permitted path tree

module _ (part : Part) (permitted : Bytes) (tree : Tree) (rooted : IsRooted tree) where
  -- all that the folder lists is clear
  pub all_clear : (place : Bytes) (names : List Bytes) → names ≡ names_at tree place → ((i : ℕ) → i < length names → IsClearFrom part permitted tree (under place (get_or names i []))) → IsClearBelow part permitted place tree
  all_clear place names is all = all_below tree rooted (IsClearAt part permitted) (λ path. tt) place names is all

  -- nothing is below a file
  pub clear_file : (path : Bytes) (size : ℕ) → IsTrue (is_path path) → place_of (node_at tree path) ≡ places.File size → path ≡ permitted → IsClearFrom part permitted tree path
  clear_file path size is file_there same =
      (at_file (get tree path) (ap place_of (sym (node_is tree path is)) ∙ file_there), none_below_file tree rooted (IsClearAt part permitted) (λ path. tt) path size file_there)
    where
      at_file : (o : Option Node) → place_of o ≡ places.File size → IsClearAt part permitted path o
      at_file None h = cc
      at_file (Some (file bytes)) h = same
      at_file (Some folder) h = cc

  pub clear_folder : (path : Bytes) → IsTrue (is_path path) → place_of (node_at tree path) ≡ places.Folder → IsTrue (may_hold_folder part path) → IsClearBelow part permitted path tree → IsClearFrom part permitted tree path
  clear_folder path is there may clear = (at_folder (get tree path) (ap place_of (sym (node_is tree path is)) ∙ there), clear)
    where
      at_folder : (o : Option Node) → place_of o ≡ places.Folder → IsClearAt part permitted path o
      at_folder None h = cc
      at_folder (Some (file bytes)) h = cc
      at_folder (Some folder) h = may

-- ---- the strays
pub none_stray : {X : Type 0} (o : Option X) (A : Type 0) (B : X → Type 0) → is_some o ≡ false → MatchOption o A B → A
none_stray None A B none h = h
none_stray (Some x) A B none h = cc

pub found_root : (part : Part) (permitted : Bytes) (tree : Tree) (r : Result (Option Stray) FileError)
    → IfOk r (λ found. MatchOption found (IsClearBelow part permitted [] tree) (IsStray part permitted tree)) → IfOk r (λ found. MatchOption found (IsClear part permitted tree) (IsStray part permitted tree))
found_root part permitted tree (Ok None) is = λ path. is (length path) path (above_all path)
found_root part permitted tree (Ok (Some stray)) is = is
found_root part permitted tree (Err e) is = is

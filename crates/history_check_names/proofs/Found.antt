-- What the survey of a folder finds.
use Rattle.std.proofs.Common.{◌≡◌, ℕ, ◌<◌, List, [], length, Option, Some, None, sym, ◌∙◌, ap, IsTrue}
use Rattle.std.specs.FinMap.{get}
use Rattle.std.proofs.Math.ListN.{get_or}
use Rattle.gix_hash.specs.declared.kind.Kind.{Kind}
use Rattle.gix_ref_file.specs.Tree.{Tree, Node, file, folder, is_path, node_at, place_of, bytes_of, names_at, under, IsRooted}
use Rattle.gix_ref_file.specs.declared.files.Place.TheVariants as places
use Rattle.gix_ref_file.proofs.Listings.{node_is}
use Rattle.history_model.specs.Bytes.{Bytes}
use Rattle.history_model.specs.Places.{file_at, is_name_folder}
use Rattle.history_check_names.specs.Sound.{IsSoundAt, IsSoundBelow, IsSoundFile}
use Rattle.history_check_objects.specs.Stored.{Facts}
use Rattle.gix_ref_way.proofs.Walked.{all_below, none_below_file, found_all}

-- a path and all below it
abbrev pub IsSoundFrom : Kind → Facts → Tree → Bytes → Type 0
IsSoundFrom kind facts tree path = IsSoundAt kind facts tree path (get tree path) × IsSoundBelow kind facts path tree

module _ (kind : Kind) (facts : Facts) (tree : Tree) (rooted : IsRooted tree) where
  nothing : (path : Bytes) → IsSoundAt kind facts tree path None
  nothing path = tt

  pub all_sound : (place : Bytes) (names : List Bytes) → names ≡ names_at tree place → ((i : ℕ) → i < length names → IsSoundFrom kind facts tree (under place (get_or names i []))) → IsSoundBelow kind facts place tree
  all_sound place names is all = all_below tree rooted (IsSoundAt kind facts tree) nothing place names is all

  pub sound_file : (path : Bytes) (size : ℕ) → IsTrue (is_path path) → place_of (node_at tree path) ≡ places.File size → ((text : Bytes) → file_at tree path ≡ Some text → IsSoundFile kind facts tree path text) → IsSoundFrom kind facts tree path
  sound_file path size is there sound = (at (get tree path) (node_is tree path is), none_below_file tree rooted (IsSoundAt kind facts tree) nothing path size there)
    where
      at : (o : Option Node) → node_at tree path ≡ o → IsSoundAt kind facts tree path o
      at None e = tt
      at (Some (file text)) e = sound text (ap bytes_of e)
      at (Some folder) e = by_place (sym there ∙ ap place_of e)
        where
          by_place : places.File size ≡ places.Folder → IsTrue (is_name_folder path)
          by_place e = cc

  pub sound_folder : (path : Bytes) → IsTrue (is_path path) → place_of (node_at tree path) ≡ places.Folder → IsTrue (is_name_folder path) → IsSoundBelow kind facts path tree → IsSoundFrom kind facts tree path
  sound_folder path is there may sound = (at (get tree path) (ap place_of (sym (node_is tree path is)) ∙ there), sound)
    where
      at : (o : Option Node) → place_of o ≡ places.Folder → IsSoundAt kind facts tree path o
      at None e = tt
      at (Some (file text)) e = cc
      at (Some folder) e = may

  -- each path is sound if all below the root is
  pub all_at : IsSoundBelow kind facts [] tree → (path : Bytes) → IsSoundAt kind facts tree path (get tree path)
  all_at sound = found_all tree rooted (IsSoundAt kind facts tree) nothing sound

-- Files of so many bytes.
use Rattle.std.proofs.Common.{◌≡◌, refl, sym, ap, ℕ, [], length, Option, Some, None, unwrap_or}
use Rattle.gix_ref_file.specs.Tree.{Tree, Node, bytes_at, bytes_of, file, folder, node_at, place_of}
use Rattle.gix_ref_file.specs.declared.files.Place.{Place}
use Rattle.gix_ref_file.specs.declared.files.Place.TheVariants as places
use Rattle.history_model.specs.Bytes.{Bytes}
use Rattle.history_model.specs.Places.{file_at}

pub file_stands : (tree : Tree) (path : Bytes) (n : ℕ) → place_of (node_at tree path) ≡ places.File n → file_at tree path ≡ Some (bytes_at tree path)
file_stands tree path n is = go (node_at tree path) is
  where
    go : (o : Option Node) → place_of o ≡ places.File n → bytes_of o ≡ Some (unwrap_or (bytes_of o) [])
    go None e = cc
    go (Some folder) e = cc
    go (Some (file bytes)) e = refl

abbrev length_in : Place → ℕ
length_in (places.File n) = n
length_in places.Folder = 0
length_in places.Absent = 0

pub file_length : (tree : Tree) (path : Bytes) (n : ℕ) → place_of (node_at tree path) ≡ places.File n → n ≡ length (bytes_at tree path)
file_length tree path n is = go (node_at tree path) is
  where
    go : (o : Option Node) → place_of o ≡ places.File n → n ≡ length (unwrap_or (bytes_of o) [])
    go None e = cc
    go (Some folder) e = cc
    go (Some (file bytes)) e = sym (ap length_in e)

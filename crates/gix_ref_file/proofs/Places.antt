-- What the tests of the code say.
use Rattle.std.proofs.Common.{◌≡◌, true, false, Option, Some, None, refl}
use Rattle.std.specs.Prelude.{is_none, is_some}
use Rattle.gix_ref_file.specs.Tree.{Node, file, folder, place_of, is_folder}
use Rattle.gix_ref_file.specs.declared.files.Place.TheVariants.{Folder}

pub none_some : (o : Option Node) → true ≡ is_none o → is_some o ≡ false
none_some None none = refl
none_some (Some node) none = cc

pub folder_place : (o : Option Node) → place_of o ≡ Folder → is_folder o ≡ true
folder_place None is = cc
folder_place (Some (file bytes)) is = cc
folder_place (Some folder) is = refl

-- What is inside a folder, and what its tree unfolds to.
use Rattle.std.proofs.Common.{◌≡◌, Bool, true, false, cond, [], ◌∷◌, ◌++◌, map, refl, sym, ◌∙◌, ap, subst, inl, inr, ◌⊎◌, Option, Some, None, option_map, bytes_eq}
use Rattle.std.specs.List.{flat_map}
use Rattle.std.specs.FinMap.{entries, keys, get}
use Rattle.gix_hash.specs.declared.kind.Kind.{Kind}
use Rattle.gix_object_nodes.specs.Files as unfolded
use Rattle.gix_object_nodes.specs.Files.{Path, Leaf, SameFiles, behind}
use Rattle.history_model.specs.Bytes.{Bytes, has_byte}
use Rattle.history_model.specs.FileMap.{FileMap, Content, IsFileMap, beginnings, components, folders_of, inside}
use Rattle.history_model.specs.Objects.{root}
use Rattle.history_model.proofs.WholeLists.{In, in_flat, in_map, of_flat, of_map, none_is_some}
use Rattle.history_model.proofs.WholePaths.{beginning_parts, is_beginning}
use Rattle.history_model.proofs.WholeItems.{Entry}
use Rattle.history_model.proofs.WholeRoots.{inside_inside}
use Rattle.history_model.proofs.WholeStores.{get_in, in_get}
use Rattle.history_files.specs.Unfolding.{file_leaf, IsUnfolded}
use Rattle.history_files.specs.Entries.{own_folders}
use Rattle.history_files.proofs.Components.{below_rest, some_parts, one_part, parts_below, behind_parts}
use Rattle.history_files.proofs.OneRoot.{one_root}
use Rattle.history_files.proofs.Unfolded.{get_inside, inside_map}
use Rattle.std.proofs.lemmas.Option.{same_Some}
use Rattle.gix_object_editor.proofs.Raised.{begins_behind}

-- ---- what is below some names

abbrev pub under : unfolded.FileMap → Path → unfolded.FileMap
under there front [] = None
under there front (name ∷ rest) = there (front ++ name ∷ rest)

pub inside_unfolds : (kind : Kind) (m : FileMap) (there : unfolded.FileMap) (folder : Bytes) → IsUnfolded kind m there → IsUnfolded kind (inside folder m) (under there (components folder))
inside_unfolds kind m there folder is = record { at = at; only = only }
  where
    at : (path : Bytes) → under there (components folder) (components path) ≡ option_map (file_leaf kind) (get (inside folder m) path)
    at path =
        let some = some_parts path in
        ap (under there (components folder)) some.2
        ∙ ap (λ ps. there (components folder ++ ps)) (sym some.2)
        ∙ ap there (sym (parts_below folder path))
        ∙ is.at (folder ++ 47 ∷ path)
        ∙ ap (option_map (file_leaf kind)) (sym (get_inside folder m path))

    only : (names : Path) (leaf : Leaf) → under there (components folder) names ≡ Some leaf → (path : Bytes) × (components path ≡ names)
    only [] leaf e = none_is_some leaf e
    only (name ∷ rest) leaf e =
        let found = is.only (components folder ++ name ∷ rest) leaf e in
        go (bytes_eq folder found.0) (below_rest folder found.0)
        (sym (behind_parts folder found.0) ∙ ap (behind (components folder)) found.1 ∙ begins_behind (components folder) (name ∷ rest))
      where
        go : (b : Bool) (o : Option Bytes) → cond b (Some []) (option_map components o) ≡ Some (name ∷ rest) → (path : Bytes) × (components path ≡ name ∷ rest)
        go true o k = let bad = same_Some {A = Path} [] (name ∷ rest) k in cc
        go false None k = cc
        go false (Some r) k = (r, same_Some (components r) (name ∷ rest) k)

-- ---- folders by their names

abbrev pub folder_at : FileMap → Path → FileMap
folder_at m [] = m
folder_at m (name ∷ path) = folder_at (inside name m) path

pub folder_below : (m : FileMap) (path : Path) (name : Bytes) → folder_at m (path ++ name ∷ []) ≡ inside name (folder_at m path)
folder_below m [] name = refl
folder_below m (n ∷ path) name = folder_below (inside n m) path name

pub folder_map : (m : FileMap) (path : Path) → IsFileMap m → IsFileMap (folder_at m path)
folder_map m [] map = map
folder_map m (name ∷ path) map = folder_map (inside name m) path (inside_map name m map)

-- no name has a slash
abbrev pub ArePlainNames : Path → Type 0
ArePlainNames path = (name : Bytes) → In name path → has_byte 47 name ≡ false

under_under : (there : unfolded.FileMap) (name : Bytes) (path q : Path) → under (under there (name ∷ [])) path q ≡ under there (name ∷ path) q
under_under there name path [] = refl
under_under there name [] (n ∷ q) = refl
under_under there name (m ∷ path) (n ∷ q) = refl

pub folder_unfolds : (kind : Kind) (m : FileMap) (there : unfolded.FileMap) (path : Path) → ArePlainNames path → IsUnfolded kind m there → IsUnfolded kind (folder_at m path) (under there path)
folder_unfolds kind m there [] plain is = record { at = at; only = only }
  where
    at : (path : Bytes) → under there [] (components path) ≡ option_map (file_leaf kind) (get m path)
    at path = let some = some_parts path in ap (under there []) some.2 ∙ ap there (sym some.2) ∙ is.at path

    only : (names : Path) (leaf : Leaf) → under there [] names ≡ Some leaf → (path : Bytes) × (components path ≡ names)
    only [] leaf e = none_is_some leaf e
    only (name ∷ rest) leaf e = is.only (name ∷ rest) leaf e
folder_unfolds kind m there (name ∷ path) plain is =
    let first = one_part name (plain name (inl refl)) in
    let inner = inside_unfolds kind m there name is in
    let rest = folder_unfolds kind (inside name m) (under there (name ∷ [])) path (λ n i. plain n (inr i)) (subst (λ ps. IsUnfolded kind (inside name m) (under there ps)) first inner) in
    record {
      at = λ p. sym (under_under there name path (components p)) ∙ rest.at p;
      only = λ names leaf e. rest.only names leaf (under_under there name path names ∙ e);
    }

-- ---- files in folders

abbrev pub HasFile : FileMap → Type 0
HasFile m = (path : Bytes) × (content : Content) × (get m path ≡ Some content)

pub file_inside : (m : FileMap) (folder path : Bytes) (content : Content) → get (inside folder m) path ≡ Some content → get m (folder ++ 47 ∷ path) ≡ Some content
file_inside m folder path content e = sym (get_inside folder m path) ∙ e

-- a folder with a file is one of the map's
pub own_among : (m : FileMap) (folder : Bytes) → HasFile (inside folder m) → In (inside folder m) (own_folders m)
own_among m folder (path, content, e) =
    let key = in_map (λ (x : Entry). x.0) (folder ++ 47 ∷ path, content) (entries m) (get_in m (folder ++ 47 ∷ path) content (file_inside m folder path content e)) in
    in_map (λ f. inside f m) folder (flat_map beginnings (keys m)) (in_flat beginnings folder (folder ++ 47 ∷ path) (keys m) key (is_beginning folder path))

pub inside_among : (m : FileMap) (folder : Bytes) → HasFile (inside folder m) → In (inside folder m) (folders_of m)
inside_among m folder file = inr (own_among m folder file)

pub file_of_beginning : (m : FileMap) (folder : Bytes) → In folder (flat_map beginnings (keys m)) → HasFile (inside folder m)
file_of_beginning m folder i =
    let as_path = of_flat beginnings folder (keys m) i in
    let as_entry = of_map (λ (x : Entry). x.0) as_path.0 (entries m) as_path.1 in
    let parts = beginning_parts as_path.0 folder as_path.2 in
    let got : get m (folder ++ 47 ∷ parts.0) ≡ Some (as_entry.0).1 = ap (get m) (sym parts.1 ∙ as_entry.2) ∙ in_get m (as_entry.0).0 (as_entry.0).1 as_entry.1 in
    (parts.0, (as_entry.0).1, get_inside folder m parts.0 ∙ got)

-- a folder of the map is the map itself, or what is inside a folder with a file
pub among_inside : (m g : FileMap) → In g (folders_of m) → (g ≡ m) ⊎ ((folder : Bytes) × HasFile (inside folder m) × (g ≡ inside folder m))
among_inside m g (inl e) = inl e
among_inside m g (inr i) =
    let from = of_map (λ f. inside f m) g (flat_map beginnings (keys m)) i in
    inr (from.0, file_of_beginning m from.0 from.1, from.2)

-- folders of a folder are the map's
pub among_deeper : (m : FileMap) (folder : Bytes) (g : FileMap) → HasFile (inside folder m) → In g (folders_of (inside folder m)) → In g (folders_of m)
among_deeper m folder g some i = go (among_inside (inside folder m) g i)
  where
    go : (g ≡ inside folder m) ⊎ ((deeper : Bytes) × HasFile (inside deeper (inside folder m)) × (g ≡ inside deeper (inside folder m))) → In g (folders_of m)
    go (inl e) = subst (λ x. In x (folders_of m)) (sym e) (inside_among m folder some)
    go (inr (deeper, file, e)) =
        let same = inside_inside folder deeper m in
        subst (λ x. In x (folders_of m)) (sym (e ∙ same)) (inside_among m (folder ++ 47 ∷ deeper) (subst HasFile same file))

pub file_above : (m : FileMap) (path : Path) → HasFile (folder_at m path) → HasFile m
file_above m [] file = file
file_above m (name ∷ path) file =
    let inner = file_above (inside name m) path file in
    (name ++ 47 ∷ inner.0, inner.1, file_inside m name inner.0 inner.1 inner.2)

pub folder_among : (m : FileMap) (path : Path) → HasFile (folder_at m path) → In (folder_at m path) (folders_of m)
folder_among m [] file = inl refl
folder_among m (name ∷ path) file =
    let inner = file_above (inside name m) path file in
    among_deeper m name (folder_at (inside name m) path) inner (folder_among (inside name m) path file)

-- ---- file maps that unfold to the same files

module _ (kind : Kind) (a b : FileMap) (there other : unfolded.FileMap) (ia : IsUnfolded kind a there) (ib : IsUnfolded kind b other) (same : SameFiles there other) where
  pub same_file : HasFile a → HasFile b
  same_file (path, content, e) = go (get b path) refl (sym (ib.at path) ∙ sym (same (components path)) ∙ ia.at path ∙ ap (option_map (file_leaf kind)) e)
    where
      go : (o : Option Content) → get b path ≡ o → option_map (file_leaf kind) (get b path) ≡ Some (file_leaf kind content) → HasFile b
      go None f k = none_is_some (file_leaf kind content) (sym (ap (option_map (file_leaf kind)) f) ∙ k)
      go (Some c) f k = (path, c, f)

  under_same : (front : Path) → SameFiles (under there front) (under other front)
  under_same front [] = refl
  under_same front (name ∷ rest) = same (front ++ name ∷ rest)

  pub same_inside : (folder : Bytes) → (HasFile (inside folder a) → HasFile (inside folder b)) × (root kind (inside folder a) ≡ root kind (inside folder b))
  same_inside folder =
      let inner = inside_unfolds kind a there folder ia in
      let outer = inside_unfolds kind b other folder ib in (
        inner_file inner outer,
        one_root kind (inside folder a) (inside folder b) (under there (components folder)) (under other (components folder)) inner outer (under_same (components folder)),
      )
    where
      inner_file : IsUnfolded kind (inside folder a) (under there (components folder)) → IsUnfolded kind (inside folder b) (under other (components folder)) → HasFile (inside folder a) → HasFile (inside folder b)
      inner_file inner outer (path, content, e) = go (get (inside folder b) path) refl
          (sym (outer.at path) ∙ sym (under_same (components folder) (components path)) ∙ inner.at path ∙ ap (option_map (file_leaf kind)) e)
        where
          go : (o : Option Content) → get (inside folder b) path ≡ o → option_map (file_leaf kind) (get (inside folder b) path) ≡ Some (file_leaf kind content) → HasFile (inside folder b)
          go None f k = none_is_some (file_leaf kind content) (sym (ap (option_map (file_leaf kind)) f) ∙ k)
          go (Some c) f k = (path, c, f)

  -- each folder of the first has the root of one of the second
  pub same_folders : (g : FileMap) → In g (folders_of a) → (h : FileMap) × In h (folders_of b) × (root kind h ≡ root kind g)
  same_folders g i = go (among_inside a g i)
    where
      go : (g ≡ a) ⊎ ((folder : Bytes) × HasFile (inside folder a) × (g ≡ inside folder a)) → (h : FileMap) × In h (folders_of b) × (root kind h ≡ root kind g)
      go (inl e) = (b, inl refl, sym (one_root kind a b there other ia ib same) ∙ ap (root kind) (sym e))
      go (inr (folder, file, e)) =
          let both = same_inside folder in
          (inside folder b, inside_among b folder (both.0 file), sym both.1 ∙ ap (root kind) (sym e))

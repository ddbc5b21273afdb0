-- Listings from the root reach each file.
use Rattle.std.proofs.Common.{◌≡◌, ℕ, suc, ◌+◌, ◌-◌, ◌<◌, ◌≤◌, true, false, List, [], ◌∷◌, ◌++◌, length, take, drop, Option, Some, None, refl, sym, ◌∙◌, ap, subst, arith, inl, inr, codes, append_assoc, append-nil}
use Rattle.std.specs.Prelude.{Contains, IsTrue, IfErr, Result, Err}
use Rattle.std.specs.FinMap.{get}
use Rattle.std.proofs.Math.ListN.{get_or}
use Rattle.gix_hash.specs.Id.{Id, id_of}
use Rattle.gix_hash.specs.declared.kind.Kind.{Kind}
use Rattle.gix_hash.specs.declared.object_id.ObjectId.{ObjectId}
use Rattle.gix_ref_file.specs.declared.files.Place.TheVariants as places
use Rattle.gix_ref_file.specs.Tree.{Tree, Node, file, folder, is_path, names_at, node_at, place_of, bytes_of, IsRooted, under}
use Rattle.gix_ref_file.proofs.Listings.{node_is}
use Rattle.history_model.specs.Bytes.{Bytes}
use Rattle.history_model.specs.Forms.{is_id}
use Rattle.history_model.specs.Objects.{hex}
use Rattle.history_model.specs.Places.{file_at, is_object_folder, object_place}
use Rattle.history_model.proofs.IdLemmas.{hex_tells, length-hex}
use Rattle.history_model.proofs.PlaceLemmas.{id_length}
use Rattle.history_model.proofs.WholeLists.{in_either, in_left, in_right}
use Rattle.history_model.proofs.WholeSteps.{contains_in, in_contains}
use Rattle.gix_ref_way.specs.Ways.{above}
use Rattle.gix_ref_way.proofs.Surveys.{one_more}
use Rattle.gix_ref_way.proofs.Walked.{all_below, none_below_file, found_all}
use Rattle.gix_hash.specs.Kind.{hex_len}
use Rattle.gix_hash.specs.declared.kind.Kind.TheVariants as digests
use Rattle.history_check_objects.specs.Flaws.{HasText, IsObjectsFlaw, IsStray, IsTooLong, stray_file, stray_folder}
use Rattle.history_check_objects.specs.Listing.{Gathers, HasObjectFile, IsListedAt, IsNoObject, IsPlaceIn}
use Rattle.history_texts.specs.declared.open_error.OpenError.{OpenError}
use Rattle.history_texts.specs.declared.open_error.OpenError.TheVariants.{Stray, TooLarge, Unfinished, Memory}
use Rattle.history_check_objects.specs.Surveying.{AreListed}
use Rattle.history_check_objects.proofs.Texts.{too_long_file}

-- ---- lists that grow

pub in_more : (ids more : List ObjectId) (id : ObjectId) → Contains ids id → Contains (ids ++ more) id
in_more ids more id has = in_contains (ids ++ more) id (in_left id ids more (contains_in ids id has))

place_more : (ids more : List ObjectId) (path : Bytes) → IsPlaceIn ids path → IsPlaceIn (ids ++ more) path
place_more ids more path (id, has, is) = (id, in_more ids more id has, is)

pub listed_more : (ids more : List ObjectId) (path : Bytes) (o : Option Node) → IsListedAt ids path o → IsListedAt (ids ++ more) path o
listed_more ids more path None is = tt
listed_more ids more path (Some (file bytes)) is = place_more ids more path is
listed_more ids more path (Some folder) is = is

-- ---- what is gathered below a folder

-- a path and all below it is listed
abbrev pub ListedFrom : Tree → List ObjectId → Bytes → Type 0
ListedFrom tree ids path = IsListedAt ids path (get tree path) × ((n : ℕ) (q : Bytes) → above (suc n) q ≡ path → IsListedAt ids q (get tree q))

from_more : (tree : Tree) (ids more : List ObjectId) (path : Bytes) → ListedFrom tree ids path → ListedFrom tree (ids ++ more) path
from_more tree ids more path (here, all) = (listed_more ids more path (get tree path) here, λ n q under. listed_more ids more q (get tree q) (all n q under))

-- the first of these names of a folder were gone through
pub record GathersSome (kind : Kind) (tree : Tree) (place : Bytes) (old new : List ObjectId) (names : List Bytes) (count : ℕ) : Type 0 where
  pub more : List ObjectId
  pub are : new ≡ old ++ more
  pub each : (id : ObjectId) → Contains more id → HasObjectFile kind tree id
  pub all : (i : ℕ) → i < count → ListedFrom tree new (under place (get_or names i []))

pub none_yet : (kind : Kind) (tree : Tree) (place : Bytes) (old : List ObjectId) (names : List Bytes) → GathersSome kind tree place old old names 0
none_yet kind tree place old names = record { more = []; are = sym (append-nil old); each = λ id has. absurd (contains_in [] id has); all = λ i less. absurd (omega arith) }

module _ (kind : Kind) (tree : Tree) (rooted : IsRooted tree) (place : Bytes) (old new : List ObjectId) (names : List Bytes) (k : ℕ) (some : GathersSome kind tree place old new names k) (path : Bytes) (at : path ≡ under place (get_or names k []))
    (is_path : IsTrue (is_path path)) where
  both : (more : List ObjectId) → ((id : ObjectId) → Contains more id → HasObjectFile kind tree id) → (id : ObjectId) → Contains (some.more ++ more) id → HasObjectFile kind tree id
  both more each id has = elim (in_either id some.more more (contains_in (some.more ++ more) id has)) [
    | inl a ↦ some.each id (in_contains some.more id a)
    | inr b ↦ each id (in_contains more id b)
  ]

  more_names : (more : List ObjectId) → ((id : ObjectId) → Contains more id → HasObjectFile kind tree id) → ListedFrom tree (new ++ more) path → GathersSome kind tree place old (new ++ more) names (k + 1)
  more_names more each here = record {
    more = some.more ++ more;
    are = ap (λ ids. ids ++ more) some.are ∙ append_assoc old some.more more;
    each = both more each;
    all = one_more (ListedFrom tree (new ++ more)) place path names k (λ i less. from_more tree new more (under place (get_or names i [])) (some.all i less)) at here;
  }

  -- a folder with what was gathered below it
  pub folder_more : (newer : List ObjectId) → place_of (node_at tree path) ≡ places.Folder → IsTrue (is_object_folder path) → Gathers kind tree path new newer → GathersSome kind tree place old newer names (k + 1)
  folder_more newer there is below =
      subst (λ ids. GathersSome kind tree place old ids names (k + 1)) (sym below.are)
      (more_names below.more below.each (subst (λ ids. ListedFrom tree ids path) below.are (at_folder (get tree path) (ap place_of (sym (node_is tree path is_path)) ∙ there), below.all)))
    where
      at_folder : (o : Option Node) → place_of o ≡ places.Folder → IsListedAt newer path o
      at_folder None h = cc
      at_folder (Some (file bytes)) h = cc
      at_folder (Some folder) h = is

  -- the file of an object
  pub file_more : (size : ℕ) (id : ObjectId) → place_of (node_at tree path) ≡ places.File size → IsTrue (is_id kind (id_of id)) → path ≡ object_place (id_of id) → GathersSome kind tree place old (new ++ id ∷ []) names (k + 1)
  file_more size id there formed is = more_names (id ∷ []) each (at_file (get tree path) (ap place_of (sym (node_is tree path is_path)) ∙ there), none_below_file tree rooted (IsListedAt (new ++ id ∷ [])) (λ p. tt) path size there)
    where
      bytes_there : (o : Option Node) → place_of o ≡ places.File size → (text : Bytes) × (bytes_of o ≡ Some text)
      bytes_there None h = cc
      bytes_there (Some (file bytes)) h = (bytes, refl)
      bytes_there (Some folder) h = cc

      each : (other : ObjectId) → Contains (id ∷ []) other → HasObjectFile kind tree other
      each other has = elim (contains_in (id ∷ []) other has) [
        | inl e ↦ subst (HasObjectFile kind tree) (sym e) (let text = bytes_there (node_at tree path) there in record { formed = formed; text = text.0; stands = ap (file_at tree) (sym is) ∙ text.1 })
        | inr none ↦ absurd none
      ]

      at_file : (o : Option Node) → place_of o ≡ places.File size → IsListedAt (new ++ id ∷ []) path o
      at_file None h = cc
      at_file (Some (file bytes)) h = (id, in_contains (new ++ id ∷ []) id (in_right id new (id ∷ []) (inl refl)), is)
      at_file (Some folder) h = cc

pub all_gathered : (kind : Kind) (tree : Tree) → IsRooted tree → (place : Bytes) (old new : List ObjectId) (names : List Bytes) (k : ℕ) → GathersSome kind tree place old new names k → length names ≤ k → names ≡ names_at tree place → Gathers kind tree place old new
all_gathered kind tree rooted place old new names k some whole are = record {
  more = some.more;
  are = some.are;
  each = some.each;
  all = all_below tree rooted (IsListedAt new) (λ p. tt) place names are (λ i less. some.all i (omega arith));
}

-- all below the root
pub root_listed : (kind : Kind) (tree : Tree) (ids : List ObjectId) → IsRooted tree → Gathers kind tree [] [] ids → AreListed kind tree ids
root_listed kind tree ids rooted below = record {
  formed = λ id has. (below.each id (more_is id has)).formed;
  stand = λ id has. let is = below.each id (more_is id has) in (is.text, is.stands);
  files = files;
  folders = λ path there. subst (IsListedAt ids path) there (everywhere path);
}
  where
    more_is : (id : ObjectId) → Contains ids id → Contains below.more id
    more_is id has = subst (λ (xs : List ObjectId). Contains xs id) below.are has

    everywhere : (path : Bytes) → IsListedAt ids path (get tree path)
    everywhere = found_all tree rooted (IsListedAt ids) (λ p. tt) below.all

    files : (path text : Bytes) → file_at tree path ≡ Some text → IsPlaceIn ids path
    files [] text h = cc
    files (b ∷ path) text h = go (get tree (b ∷ path)) h (everywhere (b ∷ path))
      where
        go : (o : Option Node) → bytes_of o ≡ Some text → IsListedAt ids (b ∷ path) o → IsPlaceIn ids (b ∷ path)
        go None e is = cc
        go (Some (file bytes)) e is = is
        go (Some folder) e is = cc

-- ---- the id of a place

-- the digits are in the place of an id
pub digits_placed : (kind : Kind) (id : Id) (path : Bytes) → is_id kind id ≡ true → path ≡ object_place id → (take 2 (drop 8 path) ++ drop 11 path ≡ hex id) × (11 ≤ length path)
digits_placed kind id path formed is = go (hex id) refl
  where
    long : (k : Kind) → 2 ≤ hex_len k
    long digests.Sha1 = omega arith
    long digests.Sha256 = omega arith

    enough : 2 ≤ length (hex id)
    enough = subst (λ n. 2 ≤ n) (sym (length-hex id ∙ id_length kind id formed)) (long kind)

    go : (h : Bytes) → hex id ≡ h → (take 2 (drop 8 path) ++ drop 11 path ≡ hex id) × (11 ≤ length path)
    go [] e = absurd (few (subst (λ (h : Bytes). 2 ≤ length h) e enough))
      where
        few : 2 ≤ 0 → ⊥
        few h = omega (arith, h)
    go (a ∷ []) e = absurd (few (subst (λ (h : Bytes). 2 ≤ length h) e enough))
      where
        few : 2 ≤ 1 → ⊥
        few h = omega (arith, h)
    go (a ∷ b ∷ rest) e =
        let whole : path ≡ codes "objects/" ++ take 2 (a ∷ b ∷ rest) ++ 47 ∷ drop 2 (a ∷ b ∷ rest) = is ∙ ap (λ h. codes "objects/" ++ take 2 h ++ 47 ∷ drop 2 h) e in
        (ap (λ (p : Bytes). take 2 (drop 8 p) ++ drop 11 p) whole ∙ sym e, subst (λ (p : Bytes). 11 ≤ length p) (sym whole) (omega arith))

-- the place of an id is that of no other id
pub other_place : (kind : Kind) (id other : Id) (path digits : Bytes) → is_id kind id ≡ true → is_id kind other ≡ true → path ≡ object_place id → digits ≡ take 2 (drop 8 path) ++ drop 11 path → digits ≡ hex other → path ≡ object_place other
other_place kind id other path digits formed other_formed is cut spelled =
    is ∙ ap object_place (hex_tells kind id other formed other_formed (sym (digits_placed kind id path formed is).0 ∙ sym cut ∙ spelled))

-- ---- what is no object's file

pub no_object : (MayFail : Type 0) (kind : Kind) (tree : Tree) (path : Bytes) (size : ℕ) → place_of (node_at tree path) ≡ places.File size → (flaw : OpenError) → IsNoObject kind path size flaw → IsObjectsFlaw MayFail kind tree flaw
no_object MayFail kind tree path size there flaw is = go (text_there (node_at tree path) there) flaw is
  where
    text_there : (o : Option Node) → place_of o ≡ places.File size → (text : Bytes) × (bytes_of o ≡ Some text)
    text_there None h = cc
    text_there (Some (file bytes)) h = (bytes, refl)
    text_there (Some folder) h = cc

    go : (text : Bytes) × (file_at tree path ≡ Some text) → (flaw : OpenError) → IsNoObject kind path size flaw → IsObjectsFlaw MayFail kind tree flaw
    go (text, at) (Stray other) (same, apart, none) = subst (IsStray kind tree) (sym same) (stray_file text at apart none)
    go (text, at) (Unfinished other) (same, here) = (same ∙ here, (text, ap (file_at tree) (sym here) ∙ at))
    go (text, at) (TooLarge other) (same, long, (id, formed, place)) =
        subst (λ p. HasText kind tree p (λ id text. IsTooLong text)) (sym same)
        (too_long_file kind tree id path size (formed, (text, ap (file_at tree) (sym place) ∙ at)) place there long)
    go (text, at) Memory is = tt
    go (text, at) _ is = absurd is

-- a folder that is none of objects
pub folder_is_stray : (kind : Kind) (tree : Tree) (path : Bytes) → IsTrue (is_path path) → place_of (node_at tree path) ≡ places.Folder → is_object_folder path ≡ false → IsStray kind tree path
folder_is_stray kind tree path is there other = stray_folder (folder_at (get tree path) (ap place_of (sym (node_is tree path is)) ∙ there)) other
  where
    folder_at : (o : Option Node) → place_of o ≡ places.Folder → o ≡ Some folder
    folder_at None h = cc
    folder_at (Some (file bytes)) h = cc
    folder_at (Some folder) h = refl

pub told : {X : Type 0} (P : OpenError → Type 0) (r : Result X OpenError) (flaw : OpenError) → r ≡ Err flaw → P flaw → IfErr r P
told P r flaw same is = subst (λ x. IfErr x P) (sym same) is

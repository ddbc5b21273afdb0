-- From a system's places to the paths of its parts.
use Rattle.std.proofs.Common.{◌≡◌, ◌≢◌, ◌⊎◌, inl, inr, ⊎_elim, ℕ, Bool, true, false, not, ◌&&◌, List, [], ◌∷◌, ◌++◌, refl, sym, ◌∙◌, ap, subst}
use Rattle.std.specs.Prelude.{IsTrue, IsFalse, Result}
use Rattle.std.specs.declared.io.Error.{Error}
use Rattle.std.proofs.lemmas.List.{append_cancel_left}
use Rattle.gix_ref_file.specs.Tree.{Tree, is_path}
use Rattle.gix_ref_file.specs.Changes.{Change, to_rename, paths_of, is_file_at}
use Rattle.gix_ref_file.specs.History.{History}
use Rattle.gix_ref_folder.specs.Parts.{has, is_object_path}
use Rattle.gix_ref_folder.specs.Systems.{IsPlaceOf, Does}
use Rattle.gix_ref_folder.specs.declared.part.Part.{Part}
use Rattle.gix_ref_folder.specs.declared.part.Part.TheVariants.{Objects, Names}
use Rattle.gix_ref_folder_tests.specs.OverFiles.{root_of, files_of, IsSpot, IsOwn, IsHonestAt}
use Rattle.gix_ref_folder_tests.specs.declared.over_files.OverFiles.{OverFiles}
use Rattle.gix_ref_folder_tests.proofs.Own.{AreOf, own_now}

-- ---- one path of one part is at a place
second_of : (a b : Bool) → IsTrue (a && b) → IsTrue b
second_of true b h = h
second_of false b h = absurd (cc h)

clash : {A : Type 0} (b : Bool) → IsTrue b → IsTrue (not b) → A
clash true is isnt = absurd (cc isnt)
clash false is isnt = absurd (cc is)

same_part : (path : List ℕ) (p q : Part) → IsTrue (has p path) → IsTrue (has q path) → p ≡ q
same_part path Objects Objects first second = refl
same_part path Names Names first second = refl
same_part path Objects Names first second = clash (is_object_path path) first second
same_part path Names Objects first second = clash (is_object_path path) second first

same_below : (root path own : List ℕ) → root ++ 47 ∷ path ≡ root ++ 47 ∷ own → path ≡ own
same_below root path own is = tail (append_cancel_left root (47 ∷ path) (47 ∷ own) is)
  where
    tail : 47 ∷ path ≡ 47 ∷ own → path ≡ own
    tail e = cc

same_spot : (root place : List ℕ) (mine part : Part) (own path : List ℕ) → IsSpot root mine own place → IsPlaceOf root part path place → (part ≡ mine) × (path ≡ own)
same_spot root place mine part own path spot there =
    let path_is : path ≡ own = same_below root path own (sym there.0 ∙ spot.is) in
    (same_part own part mine (subst (λ (p : List ℕ). IsTrue (has part p)) path_is (second_of (is_path path) (has part path) there.1)) spot.own, path_is)

-- ---- an honest system
pub at_own_root : {F : Type 0} (IsHonest : F → Type 0) (history : F → History) (system : OverFiles F) (root : List ℕ) (part : Part) (path place : List ℕ)
    → IsHonestAt IsHonest history system root → IsPlaceOf root part path place → IsPlaceOf (root_of system) part path place
at_own_root IsHonest history system root part path place honest there = (there.0 ∙ ap (λ (r : List ℕ). r ++ 47 ∷ path) (sym honest.at_root), there.1)

pub nowhere : {F A : Type 0} (IsHonest : F → Type 0) (history : F → History) (system : OverFiles F) (root : List ℕ) (part : Part) (path place : List ℕ)
    → ((own : List ℕ) → place ≢ root_of system ++ 47 ∷ own) → IsHonestAt IsHonest history system root → IsPlaceOf root part path place → A
nowhere IsHonest history system root part path place none honest there = absurd (none path (at_own_root IsHonest history system root part path place honest there).0)

pub reads : {F : Type 0} (IsHonest : F → Type 0) (history : F → History) (system : OverFiles F) (place : List ℕ) (mine : Part) (own : List ℕ) (files : F) (What : Tree → List ℕ → Type 0)
    → IsSpot (root_of system) mine own place → files ≡ files_of system mine → (IsHonest files → What (history files).tree own)
    → (root : List ℕ) (part : Part) (path : List ℕ) → IsHonestAt IsHonest history system root → IsPlaceOf root part path place → What (history (files_of system part)).tree path
reads {F = F} IsHonest history system place mine own files What spot is said root part path honest there =
    let same = same_spot (root_of system) place mine part own path spot (at_own_root IsHonest history system root part path place honest there) in
    let here : What (history (files_of system mine)).tree own = subst (λ (f : F). IsHonest f → What (history f).tree own) is said (honest.honest mine) in
    subst (λ (p : Part). What (history (files_of system p)).tree path) (sym same.0) (subst (λ (q : List ℕ). What (history (files_of system mine)).tree q) (sym same.1) here)

-- ---- a call that changes the files of one part
abbrev pub ChangesAlone : {F : Type 0} → Part → OverFiles F → OverFiles F → Type 0
ChangesAlone mine old new = (part : Part) → (files_of new part ≡ files_of old part) ⊎ (part ≡ mine)

objects_alone : {F : Type 0} (old new : OverFiles F) → files_of new Names ≡ files_of old Names → ChangesAlone Objects old new
objects_alone old new same Objects = inr refl
objects_alone old new same Names = inl same

names_alone : {F : Type 0} (old new : OverFiles F) → files_of new Objects ≡ files_of old Objects → ChangesAlone Names old new
names_alone old new same Objects = inl same
names_alone old new same Names = inr refl

stays : {F T : Type 0} (IsHonest : F → Type 0) (history : F → History) (old new : OverFiles F) (mine : Part) (change : Change) (result : Result T Error) (root : List ℕ)
    → root_of new ≡ root_of old → ChangesAlone mine old new → AreOf mine (paths_of change) → (IsHonest (files_of old mine) → IsHonest (files_of new mine))
    → Does change (history (files_of old mine)) (history (files_of new mine)) result → IsHonestAt IsHonest history old root → IsHonestAt IsHonest history new root
stays {F = F} IsHonest history old new mine change result root same alone of keeps does honest = record {
  at_root = same ∙ honest.at_root;
  honest = λ part. ⊎_elim (λ is. subst IsHonest (sym is) (honest.honest part)) (λ is. subst (λ (p : Part). IsHonest (files_of new p)) (sym is) (keeps (honest.honest mine))) (alone part);
  own = λ part. ⊎_elim (λ is. subst (λ (f : F). IsOwn part (history f).tree) (sym is) (honest.own part))
      (λ is. subst (λ (p : Part). IsOwn p (history (files_of new p)).tree) (sym is)
      (own_now mine change (history (files_of old mine)) (history (files_of new mine)) does.moments of (honest.own mine))) (alone part);
}

performs : {F T : Type 0} (IsHonest : F → Type 0) (history : F → History) (old new : OverFiles F) (place : List ℕ) (mine : Part) (own : List ℕ) (change : List ℕ → Change) (result : Result T Error)
    → IsSpot (root_of old) mine own place → root_of new ≡ root_of old → ChangesAlone mine old new → AreOf mine (paths_of (change own))
    → (IsHonest (files_of old mine) → IsHonest (files_of new mine))
    → (IsHonest (files_of old mine) → Does (change own) (history (files_of old mine)) (history (files_of new mine)) result)
    → (root : List ℕ) (part : Part) (path : List ℕ) → IsHonestAt IsHonest history old root → IsPlaceOf root part path place
    → IsHonestAt IsHonest history new root × Does (change path) (history (files_of old part)) (history (files_of new part)) result
performs IsHonest history old new place mine own change result spot same alone of keeps makes root part path honest there =
    let here = same_spot (root_of old) place mine part own path spot (at_own_root IsHonest history old root part path place honest there) in
    let does : Does (change own) (history (files_of old mine)) (history (files_of new mine)) result = makes (honest.honest mine) in (
      stays IsHonest history old new mine (change own) result root same alone of keeps does honest,
      subst (λ (p : Part). Does (change path) (history (files_of old p)) (history (files_of new p)) result) (sym here.0)
          (subst (λ (q : List ℕ). Does (change q) (history (files_of old mine)) (history (files_of new mine)) result) (sym here.1) does),
    )

pub in_objects : {F T : Type 0} (IsHonest : F → Type 0) (history : F → History) (old new : OverFiles F) (place : List ℕ) (mine : Part) (own : List ℕ) (change : List ℕ → Change) (result : Result T Error)
    → IsSpot (root_of old) mine own place → mine ≡ Objects → ((path : List ℕ) → paths_of (change path) ≡ path ∷ []) → root_of new ≡ root_of old → files_of new Names ≡ files_of old Names
    → (IsHonest (files_of old Objects) → IsHonest (files_of new Objects))
    → (IsHonest (files_of old Objects) → Does (change own) (history (files_of old Objects)) (history (files_of new Objects)) result)
    → (root : List ℕ) (part : Part) (path : List ℕ) → IsHonestAt IsHonest history old root → IsPlaceOf root part path place
    → IsHonestAt IsHonest history new root × Does (change path) (history (files_of old part)) (history (files_of new part)) result
in_objects IsHonest history old new place mine own change result spot is one same kept keeps makes =
    let here : IsSpot (root_of old) Objects own place = subst (λ (p : Part). IsSpot (root_of old) p own place) is spot in
    performs IsHonest history old new place Objects own change result here same (objects_alone old new kept) (subst (AreOf Objects) (sym (one own)) (here.own, tt)) keeps makes

pub in_names : {F T : Type 0} (IsHonest : F → Type 0) (history : F → History) (old new : OverFiles F) (place : List ℕ) (mine : Part) (own : List ℕ) (change : List ℕ → Change) (result : Result T Error)
    → IsSpot (root_of old) mine own place → mine ≡ Names → ((path : List ℕ) → paths_of (change path) ≡ path ∷ []) → root_of new ≡ root_of old → files_of new Objects ≡ files_of old Objects
    → (IsHonest (files_of old Names) → IsHonest (files_of new Names))
    → (IsHonest (files_of old Names) → Does (change own) (history (files_of old Names)) (history (files_of new Names)) result)
    → (root : List ℕ) (part : Part) (path : List ℕ) → IsHonestAt IsHonest history old root → IsPlaceOf root part path place
    → IsHonestAt IsHonest history new root × Does (change path) (history (files_of old part)) (history (files_of new part)) result
in_names IsHonest history old new place mine own change result spot is one same kept keeps makes =
    let here : IsSpot (root_of old) Names own place = subst (λ (p : Part). IsSpot (root_of old) p own place) is spot in
    performs IsHonest history old new place Names own change result here same (names_alone old new kept) (subst (AreOf Names) (sym (one own)) (here.own, tt)) keeps makes

-- ---- a call with two places
moves : {F T : Type 0} (IsHonest : F → Type 0) (history : F → History) (old new : OverFiles F) (first second : List ℕ) (mine : Part) (from to : List ℕ) (result : Result T Error)
    → IsSpot (root_of old) mine from first → IsSpot (root_of old) mine to second → root_of new ≡ root_of old → ChangesAlone mine old new
    → (IsHonest (files_of old mine) → IsHonest (files_of new mine))
    → (IsHonest (files_of old mine) → Does (to_rename from to) (history (files_of old mine)) (history (files_of new mine)) result)
    → (root : List ℕ) (part : Part) (p q : List ℕ) → IsHonestAt IsHonest history old root → IsPlaceOf root part p first → IsPlaceOf root part q second
    → IsTrue (is_file_at (history (files_of old part)).tree p)
    → IsHonestAt IsHonest history new root × Does (to_rename p q) (history (files_of old part)) (history (files_of new part)) result
moves IsHonest history old new first second mine from to result spot target same alone keeps makes root part p q honest there goes is_file =
    let here = same_spot (root_of old) first mine part from p spot (at_own_root IsHonest history old root part p first honest there) in
    let to_is = same_spot (root_of old) second mine part to q target (at_own_root IsHonest history old root part q second honest goes) in
    let does : Does (to_rename from to) (history (files_of old mine)) (history (files_of new mine)) result = makes (honest.honest mine) in (
      stays IsHonest history old new mine (to_rename from to) result root same alone (spot.own, (target.own, tt)) keeps does honest,
      subst (λ (x : Part). Does (to_rename p q) (history (files_of old x)) (history (files_of new x)) result) (sym here.0)
          (subst (λ (x : List ℕ). Does (to_rename x q) (history (files_of old mine)) (history (files_of new mine)) result) (sym here.1)
          (subst (λ (x : List ℕ). Does (to_rename from x) (history (files_of old mine)) (history (files_of new mine)) result) (sym to_is.1) does)),
    )

pub moves_object : {F T : Type 0} (IsHonest : F → Type 0) (history : F → History) (old new : OverFiles F) (first second : List ℕ) (mine : Part) (from to : List ℕ) (result : Result T Error)
    → IsSpot (root_of old) mine from first → second ≡ root_of old ++ 47 ∷ to → IsTrue (has mine to) → mine ≡ Objects → root_of new ≡ root_of old → files_of new Names ≡ files_of old Names
    → (IsHonest (files_of old Objects) → IsHonest (files_of new Objects))
    → (IsHonest (files_of old Objects) → Does (to_rename from to) (history (files_of old Objects)) (history (files_of new Objects)) result)
    → (root : List ℕ) (part : Part) (p q : List ℕ) → IsHonestAt IsHonest history old root → IsPlaceOf root part p first → IsPlaceOf root part q second
    → IsTrue (is_file_at (history (files_of old part)).tree p)
    → IsHonestAt IsHonest history new root × Does (to_rename p q) (history (files_of old part)) (history (files_of new part)) result
moves_object IsHonest history old new first second mine from to result spot target of is same kept =
    moves IsHonest history old new first second Objects from to result (subst (λ (p : Part). IsSpot (root_of old) p from first) is spot)
    (record { is = target; own = subst (λ (p : Part). IsTrue (has p to)) is of }) same (objects_alone old new kept)

pub moves_name : {F T : Type 0} (IsHonest : F → Type 0) (history : F → History) (old new : OverFiles F) (first second : List ℕ) (mine : Part) (from to : List ℕ) (result : Result T Error)
    → IsSpot (root_of old) mine from first → second ≡ root_of old ++ 47 ∷ to → IsTrue (has mine to) → mine ≡ Names → root_of new ≡ root_of old → files_of new Objects ≡ files_of old Objects
    → (IsHonest (files_of old Names) → IsHonest (files_of new Names))
    → (IsHonest (files_of old Names) → Does (to_rename from to) (history (files_of old Names)) (history (files_of new Names)) result)
    → (root : List ℕ) (part : Part) (p q : List ℕ) → IsHonestAt IsHonest history old root → IsPlaceOf root part p first → IsPlaceOf root part q second
    → IsTrue (is_file_at (history (files_of old part)).tree p)
    → IsHonestAt IsHonest history new root × Does (to_rename p q) (history (files_of old part)) (history (files_of new part)) result
moves_name IsHonest history old new first second mine from to result spot target of is same kept =
    moves IsHonest history old new first second Names from to result (subst (λ (p : Part). IsSpot (root_of old) p from first) is spot)
    (record { is = target; own = subst (λ (p : Part). IsTrue (has p to)) is of }) same (names_alone old new kept)

-- two places of one part are in no two
pub one_part : {F A : Type 0} (IsHonest : F → Type 0) (history : F → History) (system : OverFiles F) (first second : List ℕ) (mine : Part) (from to : List ℕ)
    → IsSpot (root_of system) mine from first → second ≡ root_of system ++ 47 ∷ to → IsFalse (has mine to)
    → (root : List ℕ) (part : Part) (p q : List ℕ) → IsHonestAt IsHonest history system root → IsPlaceOf root part p first → IsPlaceOf root part q second → A
one_part IsHonest history system first second mine from to spot target isnt root part p q honest there goes =
    let here = same_spot (root_of system) first mine part from p spot (at_own_root IsHonest history system root part p first honest there) in
    let to_is : q ≡ to = same_below (root_of system) q to (sym (at_own_root IsHonest history system root part q second honest goes).0 ∙ target) in
    absurd (differ (sym isnt ∙ subst (λ (x : Part). IsTrue (has x to)) here.0 (subst (λ (x : List ℕ). IsTrue (has part x)) to_is (second_of (is_path q) (has part q) goes.1))))
  where
    differ : false ≡ true → ⊥
    differ e = cc

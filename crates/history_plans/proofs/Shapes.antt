-- Whether edits are refused doesn't depend on the bytes that they put.
use Rattle.std.proofs.Common.{◌≡◌, Bool, true, false, cond, not, ◌&&◌, ◌||◌, List, [], ◌∷◌, ◌++◌, refl, sym, ◌∙◌, ap, Some, None, bytes_eq}
use Rattle.std.specs.Prelude.{is_some}
use Rattle.std.specs.List.{list_all, list_any, flat_map, AllZip}
use Rattle.std.specs.FinMap.{keys, contains_key, get, insert, retain_keys}
use Rattle.history_model.specs.Bytes.{Bytes}
use Rattle.history_model.specs.FileMap.{FileMap, Content, Edit, Put, Remove, RemoveFile, Graft, carried, cleared, edited, is_below, has_below, is_refused, is_within, some_refused, grafted_paths, grafts_nothing}
use Rattle.history_layout.proofs.OfferedFiles.{all_keys, each_key}
use Rattle.history_model.proofs.WholeStores.{get_retained}
use Rattle.history_model.proofs.AfterFirstLemmas.{get-with}
use Rattle.history_files.proofs.StandInEdits.{put_keys_all}

-- the edits are made at one path, and do the same there but for the bytes that are put
abbrev pub IsAlike : Edit → Edit → Type 0
IsAlike (Put kind path bytes) (Put other place more) = path ≡ place
IsAlike (Put kind path bytes) (Remove place) = ⊥
IsAlike (Put kind path bytes) (RemoveFile place) = ⊥
IsAlike (Remove path) (Put other place more) = ⊥
IsAlike (Remove path) (Remove place) = path ≡ place
IsAlike (Remove path) (RemoveFile place) = ⊥
IsAlike (RemoveFile path) (Put other place more) = ⊥
IsAlike (RemoveFile path) (Remove place) = ⊥
IsAlike (RemoveFile path) (RemoveFile place) = path ≡ place
IsAlike (Put kind path bytes) (Graft place source other) = ⊥
IsAlike (Remove path) (Graft place source other) = ⊥
IsAlike (RemoveFile path) (Graft place source other) = ⊥
IsAlike (Graft path source other) (Put kind place bytes) = ⊥
IsAlike (Graft path source other) (Remove place) = ⊥
IsAlike (Graft path source other) (RemoveFile place) = ⊥
IsAlike (Graft path source other) (Graft place from files) = (path ≡ place) × (source ≡ from) × (other ≡ files)

abbrev SameKeys : FileMap → FileMap → Type 0
SameKeys a b = (path : Bytes) → contains_key a path ≡ contains_key b path

-- ---- what is below a path

none_any : (p : Bytes → Bool) (xs : List Bytes) → list_any p xs ≡ false → list_all (λ x. not (p x)) xs ≡ true
none_any p [] h = refl
none_any p (x ∷ xs) h = go (p x) h (none_any p xs)
  where
    go : (b : Bool) → (b || list_any p xs) ≡ false → (list_any p xs ≡ false → list_all (λ x. not (p x)) xs ≡ true) → (not b && list_all (λ x. not (p x)) xs) ≡ true
    go true e rest = cc
    go false e rest = rest e

all_not : (p : Bytes → Bool) (xs : List Bytes) → list_all (λ x. not (p x)) xs ≡ true → list_any p xs ≡ false
all_not p [] h = refl
all_not p (x ∷ xs) h = go (p x) h (all_not p xs)
  where
    go : (b : Bool) → (not b && list_all (λ x. not (p x)) xs) ≡ true → (list_all (λ x. not (p x)) xs ≡ true → list_any p xs ≡ false) → (b || list_any p xs) ≡ false
    go true e rest = cc
    go false e rest = rest e

both_free : (a b : Bool) → (a ≡ false → b ≡ false) → (b ≡ false → a ≡ false) → a ≡ b
both_free true true f g = refl
both_free true false f g = g refl
both_free false b f g = sym (f refl)

below_free : (a b : FileMap) → SameKeys a b → (path : Bytes) → has_below a path ≡ false → has_below b path ≡ false
below_free a b same path none =
    let each = each_key (λ q. not (is_below path q)) a (none_any (is_below path) (keys a) none) in
    all_not (is_below path) (keys b) (all_keys (λ q. not (is_below path q)) b (λ q there. each q (same q ∙ there)))

below_alike : (a b : FileMap) → SameKeys a b → (path : Bytes) → has_below a path ≡ has_below b path
below_alike a b same path = both_free (has_below a path) (has_below b path) (below_free a b same path) (below_free b a (λ q. sym (same q)) path)

-- ---- edits

retained : (a b : FileMap) → SameKeys a b → (test : Bytes → Bool) → SameKeys (retain_keys a test) (retain_keys b test)
retained a b same test q = ap is_some (get_retained a test q) ∙ go (test q) ∙ sym (ap is_some (get_retained b test q))
  where
    go : (t : Bool) → is_some (cond t (get a q) None) ≡ is_some (cond t (get b q) None)
    go true = same q
    go false = refl

inserted : (a b : FileMap) → SameKeys a b → (path : Bytes) (x y : Content) → SameKeys (insert a path x) (insert b path y)
inserted a b same path x y q = ap is_some (get-with a path x q) ∙ go (bytes_eq q path) ∙ sym (ap is_some (get-with b path y q))
  where
    go : (t : Bool) → is_some (cond t (Some x) (get a q)) ≡ is_some (cond t (Some y) (get b q))
    go true = refl
    go false = same q

edited_alike : (a b : FileMap) (x y : Edit) → SameKeys a b → IsAlike x y → SameKeys (edited a x) (edited b y)
edited_alike a b (Put kind path bytes) (Put other place more) same alike q =
    inserted (retain_keys a (λ q. not (is_within path q || is_within q path))) (retain_keys b (λ q. not (is_within path q || is_within q path))) (retained a b same (λ q. not (is_within path q || is_within q path))) path
    (record { kind = kind; bytes = bytes }) (record { kind = other; bytes = more }) q
    ∙ ap (λ p. contains_key (edited b (Put other p more)) q) alike
edited_alike a b (Put kind path bytes) (Remove place) same alike q = absurd alike
edited_alike a b (Put kind path bytes) (RemoveFile place) same alike q = absurd alike
edited_alike a b (Remove path) (Put other place more) same alike q = absurd alike
edited_alike a b (Remove path) (Remove place) same alike q = retained a b same (λ q. not (is_within path q)) q ∙ ap (λ p. contains_key (edited b (Remove p)) q) alike
edited_alike a b (Remove path) (RemoveFile place) same alike q = absurd alike
edited_alike a b (RemoveFile path) (Put other place more) same alike q = absurd alike
edited_alike a b (RemoveFile path) (Remove place) same alike q = absurd alike
edited_alike a b (RemoveFile path) (RemoveFile place) same alike q = retained a b same (λ q. not (is_within path q)) q ∙ ap (λ p. contains_key (edited b (RemoveFile p)) q) alike
edited_alike a b (Put kind path bytes) (Graft place source other) same alike q = absurd alike
edited_alike a b (Remove path) (Graft place source other) same alike q = absurd alike
edited_alike a b (RemoveFile path) (Graft place source other) same alike q = absurd alike
edited_alike a b (Graft path source other) (Put kind place bytes) same alike q = absurd alike
edited_alike a b (Graft path source other) (Remove place) same alike q = absurd alike
edited_alike a b (Graft path source other) (RemoveFile place) same alike q = absurd alike
edited_alike a b (Graft path source other) (Graft place from files) same (p, s, o) q =
    put_keys_all (carried path source other) (cleared path a) (cleared path b) (retained a b same (λ q. not (is_within path q || is_within q path))) q
    ∙ (λ i. contains_key (edited b (Graft (p i) (s i) (o i))) q)

one_alike : (a b : FileMap) (x y : Edit) → SameKeys a b → IsAlike x y → is_refused a x ≡ is_refused b y
one_alike a b (Put kind path bytes) (Put other place more) same alike = refl
one_alike a b (Put kind path bytes) (Remove place) same alike = absurd alike
one_alike a b (Put kind path bytes) (RemoveFile place) same alike = absurd alike
one_alike a b (Remove path) (Put other place more) same alike = absurd alike
one_alike a b (Remove path) (Remove place) same alike = refl
one_alike a b (Remove path) (RemoveFile place) same alike = absurd alike
one_alike a b (RemoveFile path) (Put other place more) same alike = absurd alike
one_alike a b (RemoveFile path) (Remove place) same alike = absurd alike
one_alike a b (RemoveFile path) (RemoveFile place) same alike = below_alike a b same path ∙ ap (has_below b) alike
one_alike a b (Put kind path bytes) (Graft place source other) same alike = absurd alike
one_alike a b (Remove path) (Graft place source other) same alike = absurd alike
one_alike a b (RemoveFile path) (Graft place source other) same alike = absurd alike
one_alike a b (Graft path source other) (Put kind place bytes) same alike = absurd alike
one_alike a b (Graft path source other) (Remove place) same alike = absurd alike
one_alike a b (Graft path source other) (RemoveFile place) same alike = absurd alike
one_alike a b (Graft path source other) (Graft place from files) same alike = refl

all_alike : (a b : FileMap) (xs ys : List Edit) → SameKeys a b → AllZip IsAlike xs ys → some_refused a xs ≡ some_refused b ys
all_alike a b [] [] same alike = refl
all_alike a b [] (y ∷ ys) same alike = absurd alike
all_alike a b (x ∷ xs) [] same alike = absurd alike
all_alike a b (x ∷ xs) (y ∷ ys) same alike = λ i. one_alike a b x y same alike.0 i || all_alike (edited a x) (edited b y) xs ys (edited_alike a b x y same alike.0) alike.1 i

pub refused_alike : (files : FileMap) (xs ys : List Edit) → AllZip IsAlike xs ys → some_refused files xs ≡ some_refused files ys
refused_alike files xs ys alike = all_alike files files xs ys (λ q. refl) alike

-- ---- what is grafted

paths_alike : (x y : Edit) → IsAlike x y → grafted_paths x ≡ grafted_paths y
paths_alike (Put kind path bytes) (Put other place more) alike = refl
paths_alike (Put kind path bytes) (Remove place) alike = absurd alike
paths_alike (Put kind path bytes) (RemoveFile place) alike = absurd alike
paths_alike (Put kind path bytes) (Graft place source other) alike = absurd alike
paths_alike (Remove path) (Put other place more) alike = absurd alike
paths_alike (Remove path) (Remove place) alike = refl
paths_alike (Remove path) (RemoveFile place) alike = absurd alike
paths_alike (Remove path) (Graft place source other) alike = absurd alike
paths_alike (RemoveFile path) (Put other place more) alike = absurd alike
paths_alike (RemoveFile path) (Remove place) alike = absurd alike
paths_alike (RemoveFile path) (RemoveFile place) alike = refl
paths_alike (RemoveFile path) (Graft place source other) alike = absurd alike
paths_alike (Graft path source other) (Put kind place bytes) alike = absurd alike
paths_alike (Graft path source other) (Remove place) alike = absurd alike
paths_alike (Graft path source other) (RemoveFile place) alike = absurd alike
paths_alike (Graft path source other) (Graft place from files) (p, s, o) = λ i. grafted_paths (Graft (p i) (s i) (o i))

nothing_alike : (x y : Edit) → IsAlike x y → grafts_nothing x ≡ grafts_nothing y
nothing_alike (Put kind path bytes) (Put other place more) alike = refl
nothing_alike (Put kind path bytes) (Remove place) alike = absurd alike
nothing_alike (Put kind path bytes) (RemoveFile place) alike = absurd alike
nothing_alike (Put kind path bytes) (Graft place source other) alike = absurd alike
nothing_alike (Remove path) (Put other place more) alike = absurd alike
nothing_alike (Remove path) (Remove place) alike = refl
nothing_alike (Remove path) (RemoveFile place) alike = absurd alike
nothing_alike (Remove path) (Graft place source other) alike = absurd alike
nothing_alike (RemoveFile path) (Put other place more) alike = absurd alike
nothing_alike (RemoveFile path) (Remove place) alike = absurd alike
nothing_alike (RemoveFile path) (RemoveFile place) alike = refl
nothing_alike (RemoveFile path) (Graft place source other) alike = absurd alike
nothing_alike (Graft path source other) (Put kind place bytes) alike = absurd alike
nothing_alike (Graft path source other) (Remove place) alike = absurd alike
nothing_alike (Graft path source other) (RemoveFile place) alike = absurd alike
nothing_alike (Graft path source other) (Graft place from files) (p, s, o) = λ i. grafts_nothing (Graft (p i) (s i) (o i))

pub all_paths_alike : (xs ys : List Edit) → AllZip IsAlike xs ys → flat_map grafted_paths xs ≡ flat_map grafted_paths ys
all_paths_alike [] [] alike = refl
all_paths_alike [] (y ∷ ys) alike = absurd alike
all_paths_alike (x ∷ xs) [] alike = absurd alike
all_paths_alike (x ∷ xs) (y ∷ ys) alike = λ i. paths_alike x y alike.0 i ++ all_paths_alike xs ys alike.1 i

pub all_nothing_alike : (xs ys : List Edit) → AllZip IsAlike xs ys → list_any grafts_nothing xs ≡ list_any grafts_nothing ys
all_nothing_alike [] [] alike = refl
all_nothing_alike [] (y ∷ ys) alike = absurd alike
all_nothing_alike (x ∷ xs) [] alike = absurd alike
all_nothing_alike (x ∷ xs) (y ∷ ys) alike = λ i. nothing_alike x y alike.0 i || all_nothing_alike xs ys alike.1 i

-- What trees have under names, as it is kept.
use Rattle.std.proofs.Common.{◌≡◌, ◌⊎◌, ◌∙◌, ℕ, zero, suc, ◌+◌, ◌<◌, ◌≤◌, Bool, true, false, cond, List, [], ◌∷◌, ◌++◌, map, take, get_or, Bor, Vec, length, codes, refl, sym, ap, subst, arith, inl, inr, Option, Some, None, option_map, Contains, bytes_eq, append-nil, append_assoc}
use Rattle.std.specs.Prelude.{Err, Ok, OnOk, Result}
use Rattle.std.specs.BTreeMap.{BTreeMap, get_by, is_at}
use Rattle.std.specs.List.{flat_map}
use Rattle.std.specs.Map.{lookup}
use Rattle.std.specs.Ordering.{nat_cmp}
use Rattle.std.specs.Cmp.Lexicographic.{slice_cmp}
use Rattle.std.specs.declared.alloc.Global.{Global}
use Rattle.std.proofs.lemmas.List.{length-map, map-append, take_all, take_more}
use Rattle.std.proofs.lemmas.Option.{same_Some}
use Rattle.gix_hash.specs.Id.{Id, id_of}
use Rattle.gix_hash.specs.Order.{id_cmp}
use Rattle.gix_hash.specs.declared.kind.Kind.{Kind}
use Rattle.gix_hash.specs.declared.object_id.ObjectId.{ObjectId}
use Rattle.gix_object_lookup.specs.Table.{Table}
use Rattle.history_model.specs.Bytes.{Bytes}
use Rattle.history_model.specs.FileMap.{components}
use Rattle.history_model.proofs.WholeLists.{In, either, in_either, in_flat, none_is_some, same_text, texts_differ}
use Rattle.history_model.proofs.WholeSteps.{contains_in, in_contains}
use Rattle.history_files.specs.NamedTrees.{AreAnswers, AreAt, CanFollow, CanFollowEach, HasNamed, IsNext, Named, TellsNames, at_name, found_or_none, or_found, texts}
use Rattle.history_files.specs.Reading.{OfFiles, entry_of}
use Rattle.history_files.specs.declared.found.Found.{Found}
use Rattle.history_files.specs.declared.found.Found.TheVariants.{File, Folder}
use Rattle.history_files.specs.declared.named_trees.Answers.{Answers}
use Rattle.history_files.proofs.AtNames.{Leads, leads_none, leads_on, root_there}

-- ---- one tree

abbrev Entry : Type 0
Entry = Bytes × Id

-- what was found at a place is what is under the name there
at_place : (at : Bytes → Option Entry) (names : List (Bor (List ℕ))) (found : List (Option Found)) → AreAt at names found → (i : ℕ) (d : Bor (List ℕ)) → i < length names
    → option_map entry_of (found_or_none found i) ≡ at (get_or names i d).now
at_place at [] found are i d less = absurd (omega arith)
at_place at (name ∷ names) [] are i d less = cc
at_place at (name ∷ names) (there ∷ found) are zero d less = first are
  where
    first : {x y : Option Entry} {xs ys : List (Option Entry)} → x ∷ xs ≡ y ∷ ys → x ≡ y
    first e = cc
at_place at (name ∷ names) (there ∷ found) are (suc i) d less = at_place at names found (rest are) i d (omega arith)
  where
    rest : {x y : Option Entry} {xs ys : List (Option Entry)} → x ∷ xs ≡ y ∷ ys → xs ≡ ys
    rest e = cc

-- what is kept is there, and of these names nothing is left out
pub record SoFar (at : Bytes → Option Entry) (names : List (Bor (List ℕ))) (named : Named) : Type 0 where
  pub there : (name : Bytes) (found : Found) → at_name named name ≡ Some found → Some (entry_of found) ≡ at name
  pub all : (name : Bytes) → In name (texts names) → at_name named name ≡ None → at name ≡ None

pub tells : (at : Bytes → Option Entry) (names : List (Bor (List ℕ))) (named : Named) → SoFar at names named → TellsNames at names named
tells at names named so name among = go (at_name named name) refl
  where
    go : (found : Option Found) → at_name named name ≡ found → option_map entry_of found ≡ at name
    go None is = sym (so.all name (contains_in (texts names) name among) is)
    go (Some found) is = so.there name found is

one_more : (names : List (Bor (List ℕ))) (x : Bor (List ℕ)) → texts (names ++ x ∷ []) ≡ texts names ++ x.now ∷ []
one_more names x = map-append (λ (n : Bor (List ℕ)). n.now) names (x ∷ [])

among_more : (names : List (Bor (List ℕ))) (x : Bor (List ℕ)) (name : Bytes) → In name (texts (names ++ x ∷ [])) → In name (texts names) ⊎ (name ≡ x.now)
among_more names x name i = elim (in_either name (texts names) (x.now ∷ []) (subst (In name) (one_more names x) i)) [
  | inl there ↦ inl there
  | inr (inl same) ↦ inr same
  | inr (inr none) ↦ absurd none
]

pub nothing_yet : (at : Bytes → Option Entry) (named : Named) → named.entries ≡ [] → SoFar at [] named
nothing_yet at named empty = record {
  there = λ name found is. none_is_some found (sym (ap (lookup (is_at (λ (key : Bor (List ℕ)). slice_cmp nat_cmp name key.now))) empty) ∙ is);
  all = λ name i. absurd i;
}

module _ (at : Bytes → Option Entry) (names : List (Bor (List ℕ))) (old new : Named) (so : SoFar at names old) (x : Bor (List ℕ)) where
  -- nothing is under the name
  left_out : None ≡ at x.now → ((other : Bytes) → at_name new other ≡ at_name old other) → SoFar at (names ++ x ∷ []) new
  left_out none same = record {
    there = λ name found is. so.there name found (sym (same name) ∙ is);
    all = λ name i missing. elim (among_more names x name i) [
      | inl before ↦ so.all name before (sym (same name) ∙ missing)
      | inr own ↦ ap at own ∙ sym none
    ];
  }

  -- what is under the name is kept
  put_more : (found : Found) → Some (entry_of found) ≡ at x.now → ((other : Bytes) → at_name new other ≡ cond (bytes_eq x.now other) (Some found) (at_name old other)) → SoFar at (names ++ x ∷ []) new
  put_more found is put = record {
    there = λ name kept stands. there name kept stands (either (bytes_eq x.now name));
    all = λ name i missing. all name (among_more names x name i) missing (either (bytes_eq x.now name));
  }
    where
      after : (b : Bool) (other : Bytes) → bytes_eq x.now other ≡ b → at_name new other ≡ cond b (Some found) (at_name old other)
      after b other e = put other ∙ ap (λ c. cond c (Some found) (at_name old other)) e

      there : (name : Bytes) (kept : Found) → at_name new name ≡ Some kept → (bytes_eq x.now name ≡ true) ⊎ (bytes_eq x.now name ≡ false) → Some (entry_of kept) ≡ at name
      there name kept stands (inl e) =
          ap (λ (f : Found). Some (entry_of f)) (same_Some kept found (sym stands ∙ after true name e)) ∙ is ∙ ap at (same_text x.now name e)
      there name kept stands (inr e) = so.there name kept (sym (after false name e) ∙ stands)

      all : (name : Bytes) → In name (texts names) ⊎ (name ≡ x.now) → at_name new name ≡ None → (bytes_eq x.now name ≡ true) ⊎ (bytes_eq x.now name ≡ false) → at name ≡ None
      all name among missing (inl e) = none_is_some found (sym missing ∙ after true name e)
      all name (inl before) missing (inr e) = so.all name before (sym (after false name e) ∙ missing)
      all name (inr own) missing (inr e) = texts_differ x.now name e (sym own)

-- one name more
pub put_next : (at : Bytes → Option Entry) (names : List (Bor (List ℕ))) (found : List (Option Found)) → AreAt at names found → (i : ℕ) (d : Bor (List ℕ)) → i < length names → (old new : Named) → SoFar at (take i names) old → (there : Option Found) → there ≡ found_or_none found i
    → ((other : Bytes) → at_name new other ≡ or_found (bytes_eq (get_or names i d).now other) there (at_name old other)) → SoFar at (take (i + 1) names) new
put_next at names found are i d less old new so there same put =
    subst (λ ns. SoFar at ns new) (sym (take_more names i d less)) (by_found there (ap (option_map entry_of) same ∙ at_place at names found are i d less) put)
  where
    name : Bor (List ℕ)
    name = get_or names i d

    by_found : (there : Option Found) → option_map entry_of there ≡ at name.now → ((other : Bytes) → at_name new other ≡ or_found (bytes_eq name.now other) there (at_name old other)) → SoFar at (take i names ++ name ∷ []) new
    by_found None none put = left_out at (take i names) old new so name none put
    by_found (Some f) stands put = put_more at (take i names) old new so name f stands put

-- ---- the names of some paths

abbrev pub Parts : Type 0
Parts = Vec (Bor (List ℕ)) Global

abbrev pub parts_of : Bor (List ℕ) → List Bytes
parts_of path = components path.now

abbrev pub AreSplit : List Parts → List (Bor (List ℕ)) → Type 0
AreSplit split paths = map (λ (p : Parts). texts p.items) split ≡ map parts_of paths

-- the path of which there are names
pub path_at : (split : List Parts) (paths : List (Bor (List ℕ))) → AreSplit split paths → (i : ℕ) (p : Parts) → i < length split → (path : Bor (List ℕ)) × (texts (get_or split i p).items ≡ parts_of path) × In path paths
    × (take (suc i) paths ≡ take i paths ++ path ∷ [])
path_at [] paths same i p less = absurd (omega arith)
path_at (s ∷ split) [] same i p less = cc
path_at (s ∷ split) (path ∷ paths) same zero p less = (path, first same, inl refl, refl)
  where
    first : {x y : List Bytes} {xs ys : List (List Bytes)} → x ∷ xs ≡ y ∷ ys → x ≡ y
    first e = cc
path_at (s ∷ split) (path ∷ paths) same (suc i) p less =
    let there = path_at split paths (rest same) i p (omega arith) in
    (there.0, there.1, inr there.2, ap (λ ps. path ∷ ps) there.3)
  where
    rest : {x y : List Bytes} {xs ys : List (List Bytes)} → x ∷ xs ≡ y ∷ ys → xs ≡ ys
    rest e = cc

pub all_taken : (split : List Parts) (paths : List (Bor (List ℕ))) → AreSplit split paths → (i : ℕ) → length split ≤ i → take i paths ≡ paths
all_taken split paths same i over =
    let long : length split ≡ length paths =
    sym (length-map split (λ (p : Parts). texts p.items)) ∙ ap (λ (xs : List (List Bytes)). length xs) same ∙ length-map paths parts_of in
    take_all i paths (omega arith)

-- the names of one of the paths are among all
pub among_all : (names : List Bytes) (paths : List (Bor (List ℕ))) → names ≡ flat_map parts_of paths → (path : Bor (List ℕ)) → In path paths → (parts : List Bytes) → parts ≡ parts_of path → (name : Bytes) → Contains parts name
    → Contains names name
among_all names paths all path among parts split name i =
    subst (λ ns. Contains ns name) (sym all)
    (in_contains (flat_map parts_of paths) name (in_flat parts_of name path paths among (subst (In name) split (contains_in parts name i))))

flat-last : (paths : List (Bor (List ℕ))) (path : Bor (List ℕ)) → flat_map parts_of (paths ++ path ∷ []) ≡ flat_map parts_of paths ++ parts_of path
flat-last [] path = append-nil (parts_of path)
flat-last (p ∷ paths) path = ap (λ rest. parts_of p ++ rest) (flat-last paths path) ∙ sym (append_assoc (parts_of p) (flat_map parts_of paths) (parts_of path))

-- one path more is split
module _ (paths : List (Bor (List ℕ))) (i : ℕ) (d : Bor (List ℕ)) (less : i < length paths) (parts : Parts) (of : texts parts.items ≡ parts_of (get_or paths i d)) where
  pub split_more : (split more : List Parts) → more ≡ split ++ parts ∷ [] → AreSplit split (take i paths) → AreSplit more (take (i + 1) paths)
  split_more split more added are =
      ap (map (λ (p : Parts). texts p.items)) added ∙ map-append (λ (p : Parts). texts p.items) split (parts ∷ []) ∙ (λ k. are k ++ of k ∷ [])
      ∙ sym (map-append parts_of (take i paths) (get_or paths i d ∷ [])) ∙ ap (map parts_of) (sym (take_more paths i d less))

  pub names_more : (names more : List (Bor (List ℕ))) → more ≡ names ++ parts.items → texts names ≡ flat_map parts_of (take i paths) → texts more ≡ flat_map parts_of (take (i + 1) paths)
  names_more names more added are =
      ap texts added ∙ map-append (λ (n : Bor (List ℕ)). n.now) names parts.items ∙ (λ k. are k ++ of k)
      ∙ sym (flat-last (take i paths) (get_or paths i d)) ∙ ap (flat_map parts_of) (sym (take_more paths i d less))

-- ---- all trees that were read

pub none_kept : (table : Table) (names : List (Bor (List ℕ))) (named : BTreeMap ObjectId Named) → named.entries ≡ [] → (tree : ObjectId) (its : Named) → get_by (λ key. id_cmp (id_of tree) (id_of key)) named ≡ Some its → HasNamed table names (id_of tree) its
none_kept table names named empty = λ tree its is. none_is_some its (sym (ap (lookup (is_at (λ key. id_cmp (id_of tree) (id_of key)))) empty) ∙ is)

-- what other answers keep under the same names can be followed too
pub follow_more : (table : Table) (paths : List (Bor (List ℕ))) (split : List Parts) (answers new : Answers) → CanFollowEach table paths split answers → new.names.items ≡ answers.names.items → AreAnswers table new → CanFollowEach table paths split new
follow_more table paths split answers new can same kept = record {
  each = can.each;
  names = ap texts same ∙ can.names;
  kept = kept;
}

pub kept_on : {T E : Type 0} (table : Table) (paths : List (Bor (List ℕ))) (split : List Parts) (answers new : Answers) → CanFollowEach table paths split answers → new.names.items ≡ answers.names.items → (result : Result T E) → OnOk result (AreAnswers table new)
    → OnOk result (CanFollowEach table paths split new)
kept_on table paths split answers new can same (Ok value) kept = follow_more table paths split answers new can same kept
kept_on table paths split answers new can same (Err error) kept = kept

-- the next path can be followed
pub follow_next : (table : Table) (paths : List (Bor (List ℕ))) (split : List Parts) (answers : Answers) → CanFollowEach table paths split answers → (i : ℕ) (p : Parts) → i < length split → (parts : List (Bor (List ℕ))) → parts ≡ (get_or split i p).items
    → (path : Bor (List ℕ)) × CanFollow table answers parts path.now × (take (i + 1) paths ≡ take i paths ++ path ∷ [])
follow_next table paths split answers can i p less parts own =
    let on : i + 1 ≡ suc i = omega arith in
    let there = path_at split paths can.each i p less in
    let is = ap texts own ∙ there.1 in (
      there.0,
      record {
        kept = can.kept;
        among = λ name k. among_all (texts answers.names.items) paths can.names there.0 there.2 (texts parts) is name k;
        split = is;
      },
      ap (λ n. take n paths) on ∙ there.3,
    )

pub found_more : (at : Bor (List ℕ) → Option Entry) (paths : List (Bor (List ℕ))) (i : ℕ) (path : Bor (List ℕ)) → take (i + 1) paths ≡ take i paths ++ path ∷ [] → (found : List (Option Found)) (there : Option Found) (more : List (Option Found)) → more ≡ found ++ there ∷ []
    → map (option_map entry_of) found ≡ map at (take i paths) → option_map entry_of there ≡ at path → map (option_map entry_of) more ≡ map at (take (i + 1) paths)
found_more at paths i path taken found there more added before is =
    ap (map (option_map entry_of)) added ∙ map-append (option_map entry_of) found (there ∷ []) ∙ (λ k. before k ++ is k ∷ [])
    ∙ sym (map-append at (take i paths) (path ∷ [])) ∙ ap (map at) (sym taken)

-- ---- from name to name

module _ (table : Table) (kind : Kind) where
  pub next_none : (found : Found) (name : Bytes) (rest : List Bytes) (answer : Option Entry) → Leads table kind found (name ∷ rest) answer → IsNext table found name None → answer ≡ None
  next_none (File k id) name rest answer leads next = leads
  next_none (Folder id) name rest answer leads next =
      leads_none table kind id name rest answer leads (next kind leads.0 (root_there table kind id (name ∷ rest) answer leads))

  pub next_some : (found next : Found) (name : Bytes) (rest : List Bytes) (answer : Option Entry) → Leads table kind found (name ∷ rest) answer → IsNext table found name (Some next) → Leads table kind next rest answer
  next_some (File k id) next name rest answer leads is = none_is_some next (sym is)
  next_some (Folder id) next name rest answer leads is =
      leads_on table kind id next name rest answer leads (is kind leads.0 (root_there table kind id (name ∷ rest) answer leads))

  -- the fault of a tree into which names lead is the store's own
  pub own_next : (honest fault : Type 0) → honest → (found : Found) (rest : List Bytes) (answer : Option Entry) → Leads table kind found rest answer
      → ((tree : ObjectId) × (found ≡ Folder tree) × OfFiles honest table (id_of tree) (λ _ _. fault)) → fault
  own_next honest fault h found rest answer leads (tree, same, refused) = go (subst (λ f. Leads table kind f rest answer) same leads)
    where
      go : Leads table kind (Folder tree) rest answer → fault
      go there = refused h kind there.0 (root_there table kind tree rest answer there)

  -- what was found last is what is at the path
  pub last_there : (found : Found) (answer : Option Entry) → Leads table kind found [] answer → option_map entry_of (Some found) ≡ answer
  last_there (Folder id) answer (m, fits, has, same, is) = ap (λ i. Some (codes "40000", i)) same ∙ sym is
  last_there (File k id) answer is = sym is

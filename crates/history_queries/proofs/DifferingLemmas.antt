-- Which commits differ at a path from their first parents, by what is found there.
use Rattle.std.proofs.Common.{◌≡◌, ◌∙◌, ap, refl, sym, subst, ℕ, zero, suc, ◌+◌, ◌<◌, inl, inr, Bool, true, false, cond, not, ◌&&◌, ◌||◌, Bor, List, [], ◌∷◌, ◌++◌, map, filter, length, take, get_or, Option, Some, None, option_map, unwrap_or, bytes_eq, append-nil, arith}
use Rattle.std.specs.Prelude.{replicate, Contains, IsSome, Vec, option_and_then}
use Rattle.std.specs.Bool.{Decides, one_answer}
use Rattle.std.specs.List.{AllByRecursion, list_any}
use Rattle.std.specs.FinMap.{get, get-empty, get-retain_keys, empty, entries, keys, contains_key, same_entries_map, same_map, slice_cmp-IsAntisymmetric, nat_cmp-IsAntisymmetric}
use Rattle.std.specs.declared.alloc.Global.{Global}
use Rattle.std.proofs.lemmas.Bool.{and_parts}
use Rattle.std.proofs.lemmas.Cmp.{nat_list_cmp_total}
use Rattle.std.proofs.lemmas.List.{map-append, take_more}
use Rattle.std.proofs.lemmas.Slice.Eq.{bytes_eq-Decides}
use Rattle.gix_hash.specs.Id.{Id, id_of}
use Rattle.gix_hash.specs.declared.kind.Kind.{Kind}
use Rattle.gix_hash.specs.declared.object_id.ObjectId.{ObjectId}
use Rattle.gix_ref_file.specs.History.{History}
use Rattle.gix_traverse_graph.specs.Order.{At}
use Rattle.gix_traverse_graph.proofs.Lists.{contains_from_at}
use Rattle.history_files.specs.Reading.{entry_of}
use Rattle.history_files.specs.declared.found.Found.{Found}
use Rattle.history_model.specs.Answers.{differs_at, files_before, parents_at, same_entries, same_kind}
use Rattle.history_model.specs.Bytes.{Bytes, by_bytes}
use Rattle.history_model.specs.FileMap.{FileMap, Content, IsFileMap, cut_to, is_below, is_within}
use Rattle.history_model.specs.laws.Trees.{IsTreeIn}
use Rattle.history_model.specs.Meaning.{files_at, first_files}
use Rattle.history_model.specs.Objects.{CommitValue, Value, StoredCommit, StoredFolder, entry_at, folder_id}
use Rattle.history_model.specs.Repository.{HoldsCommit, IsWholeStore, as_commit}
use Rattle.history_model.specs.declared.FileKind.{FileKind}
use Rattle.history_model.specs.declared.FileKind.TheVariants.{File, Exec, Link}
use Rattle.history_model.proofs.EntryLemmas.{entries_tell_files}
use Rattle.history_walks.specs.Telling.{TellsStored}
use Rattle.history_walks.specs.declared.told.Told.{Told}
use Rattle.history_repository.specs.Stands.{Stands}
use Rattle.history_repository.specs.declared.repository.Repository.{Repository}
use Rattle.history_repository.proofs.Befores.{entries-empty, held_commit, held_files, held_root}
use Rattle.history_repository.proofs.StoredValues.{folder_paths}
use Rattle.history_queries.specs.Seen.{IsSeen, IsSeenAt}
use Rattle.history_queries.specs.declared.differing.Seen.{Seen}
use Rattle.history_model.specs.Repository as plain

-- ---- lists

cons_head : {A : Type 0} {x y : A} {xs ys : List A} → x ∷ xs ≡ y ∷ ys → x ≡ y
cons_head e = cc

cons_tail : {A : Type 0} {x y : A} {xs ys : List A} → x ∷ xs ≡ y ∷ ys → xs ≡ ys
cons_tail e = cc

-- ---- lists of files

kind_itself : (kind : FileKind) → same_kind kind kind ≡ true
kind_itself File = refl
kind_itself Exec = refl
kind_itself Link = refl

kinds_same : (j k : FileKind) → same_kind j k ≡ true → j ≡ k
kinds_same File File e = refl
kinds_same Exec Exec e = refl
kinds_same Link Link e = refl
kinds_same File Exec e = cc
kinds_same File Link e = cc
kinds_same Exec File e = cc
kinds_same Exec Link e = cc
kinds_same Link File e = cc
kinds_same Link Exec e = cc

list_itself : (files : List (Bytes × Content)) → same_entries files files ≡ true
list_itself [] = refl
list_itself (a ∷ files) = λ i.
    (bytes_eq-Decides a.0 a.0).1 refl i && kind_itself (a.1).kind i && (bytes_eq-Decides (a.1).bytes (a.1).bytes).1 refl i && list_itself files i

lists_same : (left right : List (Bytes × Content)) → same_entries left right ≡ true → left ≡ right
lists_same [] [] e = refl
lists_same [] (b ∷ right) e = cc
lists_same (a ∷ left) [] e = cc
lists_same (a ∷ left) (b ∷ right) e =
    let rest = and_parts (bytes_eq a.0 b.0 && same_kind (a.1).kind (b.1).kind && bytes_eq (a.1).bytes (b.1).bytes) (same_entries left right) e in
    let bytes = and_parts (bytes_eq a.0 b.0 && same_kind (a.1).kind (b.1).kind) (bytes_eq (a.1).bytes (b.1).bytes) rest.0 in
    let kind = and_parts (bytes_eq a.0 b.0) (same_kind (a.1).kind (b.1).kind) bytes.0 in
    let content : a.1 ≡ b.1 = λ i. record { kind = kinds_same (a.1).kind (b.1).kind kind.1 i; bytes = (bytes_eq-Decides (a.1).bytes (b.1).bytes).0 bytes.1 i } in
    λ i. ((bytes_eq-Decides a.0 b.0).0 kind.0 i, content i) ∷ lists_same left right rest.1 i

-- ---- before a commit

-- no files have nothing at a path
none_in_empty : (kind : Kind) (path : Bytes) → entry_at kind empty path ≡ None
none_in_empty kind path =
    let below : list_any (is_below path) (keys (empty {X = Content} {R = by_bytes})) ≡ false = ap (λ (es : List (Bytes × Content)). list_any (is_below path) (map (λ e. e.0) es)) entries-empty in
    rw (below, get-empty by_bytes path) refl

nothing_before : (r : plain.Repository) (paths : List (Bor Bytes)) → map (option_map entry_of) (replicate (length paths) None) ≡ map (λ path. entry_at r.kind (first_files r []) path.now) paths
nothing_before r [] = refl
nothing_before r (path ∷ paths) = λ i. sym (none_in_empty r.kind path.now) i ∷ nothing_before r paths i

-- before a commit without a parent there is nothing, and else what its first parent has
module _ (r : plain.Repository) (id : Id) (paths : List (Bor Bytes)) where
  abbrev HasBefore : List (Option Found) → List Id → Type 0
  HasBefore found ids = map (option_map entry_of) found ≡ map (λ path. entry_at r.kind (first_files r ids) path.now) paths

  pub before_none : (nothing : List (Option Found)) → parents_at r id ≡ [] → nothing ≡ replicate (length paths) None → HasBefore nothing (parents_at r id)
  before_none nothing alone none = subst (HasBefore nothing) (sym alone) (ap (map (option_map entry_of)) none ∙ nothing_before r paths)

  pub before_first : (seen : Seen) (parent : Id) (ids : List Id) → parents_at r id ≡ parent ∷ ids → IsSeenAt r paths parent seen → HasBefore seen.found.items (parents_at r id)
  before_first seen parent ids are is =
      subst (HasBefore seen.found.items) (sym are) (subst (λ (first : Id). map (option_map entry_of) seen.found.items ≡ map (λ (path : Bor Bytes). entry_at r.kind (files_at r first) path.now) paths) is.0 (is.1).found)

-- ---- a commit that is seen

module _ (r : plain.Repository) (told : Told) (is : TellsStored r told) where
  holds_so : HoldsCommit r (id_of told.id)
  holds_so = subst IsSome (sym is.stored) refl

  files_so : files_at r (id_of told.id) ≡ is.commit.files
  files_so = ap (λ (found : Option CommitValue). unwrap_or (option_map (λ (commit : CommitValue). commit.files) found) empty) is.stored

  parents_so : parents_at r (id_of told.id) ≡ is.commit.parents
  parents_so = ap (λ (found : Option CommitValue). unwrap_or (option_map (λ (commit : CommitValue). commit.parents) found) []) is.stored

  -- its root is stored
  pub told_root : IsWholeStore r → get r.objects (id_of told.tree) ≡ Some (StoredFolder is.commit.files)
  told_root store =
      let held = held_commit r store (id_of told.id) holds_so in
      let same : (held.0).files ≡ is.commit.files = sym (held_files r store (id_of told.id) holds_so) ∙ files_so in
      subst (λ (files : FileMap). get r.objects (id_of told.tree) ≡ Some (StoredFolder files)) same (held_root r store (id_of told.id) holds_so told.tree (is.tree ∙ ap (folder_id r.kind) (sym same)))

  pub seen_so : (paths : List (Bor Bytes)) (found : Vec (Option Found) Global) → map (option_map entry_of) found.items ≡ map (λ path. entry_at r.kind is.commit.files path.now) paths
      → IsSeen r paths (record { id = told.id; parents = told.parents; found = found })
  seen_so paths found are = record {
    holds = holds_so;
    parents = is.parents ∙ sym parents_so;
    found = subst (λ (files : FileMap). map (option_map entry_of) found.items ≡ map (λ (path : Bor Bytes). entry_at r.kind files path.now) paths) (sym files_so) are;
  }

-- ---- files cut to several paths

same_files : (a b : FileMap) → ((q : Bytes) → get a q ≡ get b q) → a ≡ b
same_files a b h = same_map nat_list_cmp_total (slice_cmp-IsAntisymmetric nat_cmp-IsAntisymmetric) a b h

get_cut : (paths : List Bytes) (files : FileMap) (q : Bytes) → get (cut_to paths files) q ≡ cond (list_any (λ path. is_within path q) paths) (get files q) None
get_cut paths files q =
    get-retain_keys files (λ x. list_any (λ path. is_within path x) paths) q
    (λ x e. ap (λ y. list_any (λ path. is_within path y) paths) (sym (slice_cmp-IsAntisymmetric nat_cmp-IsAntisymmetric q x e)))

get_one : (path : Bytes) (files : FileMap) (q : Bytes) → get (cut_to (path ∷ []) files) q ≡ cond (is_within path q) (get files q) None
get_one path files q = get_cut (path ∷ []) files q ∙ ap (λ b. cond b (get files q) None) (or_none (is_within path q))
  where
    or_none : (b : Bool) → (b || false) ≡ b
    or_none true = refl
    or_none false = refl

-- the files at a path and below it are those of the other map
abbrev SameAt : FileMap → FileMap → Bytes → Type 0
SameAt m n path = cut_to (path ∷ []) m ≡ cut_to (path ∷ []) n

module _ (m n : FileMap) where
  joined : (paths : List Bytes) → AllByRecursion (SameAt m n) paths → cut_to paths m ≡ cut_to paths n
  joined paths same = same_files (cut_to paths m) (cut_to paths n) (λ q. get_cut paths m q ∙ at q paths same ∙ sym (get_cut paths n q))
    where
      at : (q : Bytes) (paths : List Bytes) → AllByRecursion (SameAt m n) paths → cond (list_any (λ path. is_within path q) paths) (get m q) None ≡ cond (list_any (λ path. is_within path q) paths) (get n q) None
      at q [] same = refl
      at q (path ∷ paths) (here, rest) = go (is_within path q) refl (at q paths rest)
        where
          go : (b : Bool) → is_within path q ≡ b → cond (list_any (λ path. is_within path q) paths) (get m q) None ≡ cond (list_any (λ path. is_within path q) paths) (get n q) None
              → cond (b || list_any (λ path. is_within path q) paths) (get m q) None ≡ cond (b || list_any (λ path. is_within path q) paths) (get n q) None
          go true e rest =
              sym (ap (λ b. cond b (get m q) None) e) ∙ sym (get_one path m q) ∙ ap (λ (files : FileMap). get files q) here ∙ get_one path n q ∙ ap (λ b. cond b (get n q) None) e
          go false e rest = rest

  one_of : (paths : List Bytes) (path : Bytes) → ((q : Bytes) → is_within path q ≡ true → list_any (λ p. is_within p q) paths ≡ true) → cut_to paths m ≡ cut_to paths n → SameAt m n path
  one_of paths path among same = same_files (cut_to (path ∷ []) m) (cut_to (path ∷ []) n) (λ q. get_one path m q ∙ at q (is_within path q) refl ∙ sym (get_one path n q))
    where
      at : (q : Bytes) (b : Bool) → is_within path q ≡ b → cond b (get m q) None ≡ cond b (get n q) None
      at q false e = refl
      at q true e =
          let there = among q e in
          sym (ap (λ b. cond b (get m q) None) there) ∙ sym (get_cut paths m q) ∙ ap (λ (files : FileMap). get files q) same ∙ get_cut paths n q ∙ ap (λ b. cond b (get n q) None) there

  each_of : (all paths : List Bytes) → ((q : Bytes) → list_any (λ p. is_within p q) paths ≡ true → list_any (λ p. is_within p q) all ≡ true) → cut_to all m ≡ cut_to all n → AllByRecursion (SameAt m n) paths
  each_of all [] among same = tt
  each_of all (path ∷ paths) among same = (
    one_of all path (λ q e. among q (or_left (is_within path q) (list_any (λ p. is_within p q) paths) e)) same,
    each_of all paths (λ q e. among q (or_right (is_within path q) (list_any (λ p. is_within p q) paths) e)) same,
  )
    where
      or_left : (a b : Bool) → a ≡ true → (a || b) ≡ true
      or_left a b e = ap (λ c. c || b) e

      or_right : (a b : Bool) → b ≡ true → (a || b) ≡ true
      or_right true b e = refl
      or_right false b e = e

module _ {F : Type 0} (IsHonest : F → Type 0) (history : F → History) (repository : Repository F) (r : plain.Repository) (stands : Stands IsHonest history repository r) where
  of_commit : (id : Id) → HoldsCommit r id → IsFileMap (files_at r id) × IsTreeIn r (files_at r id)
  of_commit id holds =
      let store = stands.whole.whole.store in
      let held = held_commit r store id holds in
      let at = (store.closed id (StoredCommit held.0) held.1).1 in
      subst (λ (files : FileMap). IsFileMap files × IsTreeIn r files) (sym (held_files r store id holds))
      (folder_paths IsHonest history repository r stands _ held.0.files at, inr (_, at))

  of_first : (ids : List Id) → AllByRecursion (HoldsCommit r) ids → IsFileMap (first_files r ids) × IsTreeIn r (first_files r ids)
  of_first [] hold = (
    record {
      paths = λ p there. absurd (none_there p there);
      apart = λ p q there also. absurd (none_there p there);
    },
    inl refl,
  )
    where
      none_there : (p : Bytes) → contains_key (empty {X = Content} {R = by_bytes}) p ≡ true → ⊥
      none_there p there = let none = get-empty {X = Content} by_bytes p in cc
  of_first (id ∷ ids) hold = of_commit id hold.0

  held_parents : (id : Id) → (holds : HoldsCommit r id) → parents_at r id ≡ ((held_commit r stands.whole.whole.store id holds).0).parents
  held_parents id holds =
      ap (λ (found : Option Value). unwrap_or (option_map (λ (commit : CommitValue). commit.parents) (option_and_then as_commit found)) [])
      (held_commit r stands.whole.whole.store id holds).1

  pub parents_held : (id : Id) → (holds : HoldsCommit r id) → AllByRecursion (HoldsCommit r) (parents_at r id)
  parents_held id holds =
      let held = held_commit r stands.whole.whole.store id holds in
      subst (AllByRecursion (HoldsCommit r)) (sym (held_parents id holds)) (stands.whole.whole.store.closed id (StoredCommit held.0) held.1).0

  -- the test of what is found at the path is that of the files
  pub differs_told : (paths : List (Bor Bytes)) (id : Id) (found before : List (Option Found)) (same : Bool) → HoldsCommit r id → map (option_map entry_of) found ≡ map (λ path. entry_at r.kind (files_at r id) path.now) paths
      → map (option_map entry_of) before ≡ map (λ path. entry_at r.kind (files_before r id) path.now) paths → Decides same (map (option_map entry_of) found ≡ map (option_map entry_of) before) → not same ≡ differs_at r (map (λ path. path.now) paths) id
  differs_told paths id found before same holds here there decides = ap not (one_answer same _ decides (to, from))
    where
      own : FileMap
      own = files_at r id

      its : FileMap
      its = files_before r id

      texts : List (Bor Bytes) → List Bytes
      texts some = map {A = Bor Bytes} {B = Bytes} (λ path. path.now) some

      law : (path : Bytes) → (entry_at r.kind own path ≡ entry_at r.kind its path → SameAt own its path) × (SameAt own its path → entry_at r.kind own path ≡ entry_at r.kind its path)
      law path =
          let a = of_commit id holds in
          let b = of_first (parents_at r id) (parents_held id holds) in
          entries_tell_files r own its path stands.whole.whole a.0 b.0 a.1 b.1

      each_same : (some : List (Bor Bytes)) → map (λ path. entry_at r.kind own path.now) some ≡ map (λ path. entry_at r.kind its path.now) some → AllByRecursion (SameAt own its) (texts some)
      each_same [] e = tt
      each_same (path ∷ some) e = ((law path.now).0 (cons_head e), each_same some (cons_tail e))

      each_told : (some : List (Bor Bytes)) → AllByRecursion (SameAt own its) (texts some) → map (λ path. entry_at r.kind own path.now) some ≡ map (λ path. entry_at r.kind its path.now) some
      each_told [] same = refl
      each_told (path ∷ some) (head, rest) = λ i. (law path.now).1 head i ∷ each_told some rest i

      to : same_entries (entries (cut_to (texts paths) own)) (entries (cut_to (texts paths) its)) ≡ true → map (option_map entry_of) found ≡ map (option_map entry_of) before
      to e = here ∙ each_told paths (each_of own its (texts paths) (texts paths) (λ q k. k) (same_entries_map (cut_to (texts paths) own) (cut_to (texts paths) its) (lists_same (entries (cut_to (texts paths) own)) (entries (cut_to (texts paths) its)) e))) ∙ sym there

      from : map (option_map entry_of) found ≡ map (option_map entry_of) before → same_entries (entries (cut_to (texts paths) own)) (entries (cut_to (texts paths) its)) ≡ true
      from e = ap (λ (files : FileMap). same_entries (entries (cut_to (texts paths) own)) (entries files)) (sym (joined own its (texts paths) (each_same paths (sym here ∙ e ∙ there)))) ∙ list_itself (entries (cut_to (texts paths) own))

-- ---- one commit more

filter-last : (test : Id → Bool) (ids : List Id) (id : Id) → filter test (ids ++ id ∷ []) ≡ filter test ids ++ cond (test id) (id ∷ []) []
filter-last test [] id = refl
filter-last test (x ∷ ids) id = go (test x) (filter-last test ids id)
  where
    go : (b : Bool) → filter test (ids ++ id ∷ []) ≡ filter test ids ++ cond (test id) (id ∷ []) [] → cond b (x ∷ filter test (ids ++ id ∷ [])) (filter test (ids ++ id ∷ [])) ≡ cond b (x ∷ filter test ids) (filter test ids) ++ cond (test id) (id ∷ []) []
    go true e = ap (λ rest. x ∷ rest) e
    go false e = e

module _ (test : Id → Bool) (ids : List ObjectId) (i : ℕ) (d : ObjectId) (less : i < length ids) where
  one_more : filter test (map id_of (take (i + 1) ids)) ≡ filter test (map id_of (take i ids)) ++ cond (test (id_of (get_or ids i d))) (id_of (get_or ids i d) ∷ []) []
  one_more =
      ap (λ (xs : List ObjectId). filter test (map id_of xs)) (take_more ids i d less) ∙ ap (filter test) (map-append id_of (take i ids) (get_or ids i d ∷ []))
      ∙ filter-last test (map id_of (take i ids)) (id_of (get_or ids i d))

  pub id_kept : (so_far more : List ObjectId) → test (id_of (get_or ids i d)) ≡ true → more ≡ so_far ++ get_or ids i d ∷ [] → map id_of so_far ≡ filter test (map id_of (take i ids)) → map id_of more ≡ filter test (map id_of (take (i + 1) ids))
  id_kept so_far more differs added kept =
      ap (map id_of) added ∙ map-append id_of so_far (get_or ids i d ∷ []) ∙ ap (λ front. front ++ id_of (get_or ids i d) ∷ []) kept
      ∙ sym (one_more ∙ ap (λ b. filter test (map id_of (take i ids)) ++ cond b (id_of (get_or ids i d) ∷ []) []) differs)

  pub id_dropped : (so_far : List ObjectId) → test (id_of (get_or ids i d)) ≡ false → map id_of so_far ≡ filter test (map id_of (take i ids)) → map id_of so_far ≡ filter test (map id_of (take (i + 1) ids))
  id_dropped so_far same kept = kept ∙ sym (one_more ∙ ap (λ b. filter test (map id_of (take i ids)) ++ cond b (id_of (get_or ids i d) ∷ []) []) same ∙ append-nil _)

pub among : (ids : List ObjectId) (i : ℕ) (d : ObjectId) → i < length ids → Contains ids (get_or ids i d)
among ids i d less = contains_from_at ids i (get_or ids i d) (at ids i less)
  where
    at : (ids : List ObjectId) (i : ℕ) → i < length ids → At ids i (get_or ids i d)
    at [] i less = absurd (omega (arith, less))
    at (id ∷ ids) zero less = refl
    at (id ∷ ids) (suc i) less = at ids i (omega (arith, less))

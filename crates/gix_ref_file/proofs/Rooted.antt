-- Trees in which each path is in a folder, and how changes keep this.
use Rattle.std.proofs.Common.{◌≡◌, ◌⊎◌, inl, inr, ⊎_elim, ℕ, Bool, true, false, cond, not, ◌&&◌, ◌||◌, List, [], ◌∷◌, ◌++◌, Option, Some, None, take, refl, sym, ◌∙◌, ap, subst}
use Rattle.std.specs.Prelude.{IsTrue, IsFalse, IsSome, is_some, Result}
use Rattle.std.specs.List.{list_any, AllByRecursion}
use Rattle.std.specs.FinMap.{insert, remove, get, keys, contains_key-keys}
use Rattle.gix_ref_file.specs.declared.files.FileError.{FileError}
use Rattle.gix_ref_file.specs.Tree.{Tree, Node, file, folder, same_path, is_path, parent, node_at, bytes_of, bytes_at, is_folder, IsRooted}
use Rattle.gix_ref_file.specs.Changes.{Change, to_create, to_write, to_append, to_shorten, to_rename, to_remove_file, to_make_folder, to_remove_folder, may_hold_file, is_file_at, is_empty_at, allows, after, cut, MayLeave}
use Rattle.gix_ref_file.specs.History.{History, trees, Adds, Makes}
use Rattle.gix_ref_file.proofs.Trees.{one_path, get-inserted, get-removed, no_folder, room_after_remove}

pub both : (a b : Bool) → IsTrue (a && b) → IsTrue a × IsTrue b
both true b h = (refl, h)
both false b h = absurd (cc h)

pub first : (a b : Bool) → IsTrue (a && b) → IsTrue a
first a b h = (both a b h).0

-- a path that may hold a file is one, in a folder
path_may : (t : Tree) (p : List ℕ) → IsTrue (may_hold_file t p) → IsTrue (is_path p) × IsTrue (is_folder (node_at t (parent p)))
path_may t p may = both _ _ (first _ _ may)

-- folders stay, and each path is an old one or is in an old folder
rooted_by : (t u : Tree) → IsRooted t → ((q : List ℕ) → IsTrue (is_folder (node_at t q)) → IsTrue (is_folder (node_at u q)))
    → ((q : List ℕ) → IsSome (get u q) → IsSome (get t q) ⊎ (IsTrue (is_path q) × IsTrue (is_folder (node_at t (parent q))))) → IsRooted u
rooted_by t u rooted stay old q there = ⊎_elim (λ was. ((rooted q was).0, stay (parent q) (rooted q was).1)) (λ new. (new.0, stay (parent q) new.1)) (old q there)

insert_stays : (t : Tree) (p : List ℕ) (n : Node) → IsTrue (may_hold_file t p) → (q : List ℕ) → IsTrue (is_folder (node_at t q)) → IsTrue (is_folder (node_at (insert t p n) q))
insert_stays t p n may [] h = refl
insert_stays t p n may (b ∷ q) h = ap is_folder (get-inserted t p n (b ∷ q)) ∙ by_case (same_path (b ∷ q) p) refl
  where
    by_case : (same : Bool) → same_path (b ∷ q) p ≡ same → is_folder (cond same (Some n) (get t (b ∷ q))) ≡ true
    by_case false apart = h
    by_case true same = absurd (cc (sym h ∙ ap (λ x. is_folder (node_at t x)) (one_path (b ∷ q) p same), no_folder t p may))

pub rooted_insert : (t : Tree) (p : List ℕ) (n : Node) → IsRooted t → IsTrue (may_hold_file t p) → IsRooted (insert t p n)
rooted_insert t p n rooted may = rooted_by t (insert t p n) rooted (insert_stays t p n may) (λ q there. by_case q (same_path q p) refl there)
  where
    by_case : (q : List ℕ) (same : Bool) → same_path q p ≡ same → IsSome (get (insert t p n) q) → IsSome (get t q) ⊎ (IsTrue (is_path q) × IsTrue (is_folder (node_at t (parent q))))
    by_case q true same there = inr (subst (λ x. IsTrue (is_path x) × IsTrue (is_folder (node_at t (parent x)))) (sym (one_path q p same)) (path_may t p may))
    by_case q false apart there = inl (sym (ap is_some (get-inserted t p n q ∙ ap (λ b. cond b (Some n) (get t q)) apart)) ∙ there)

-- what is left was there
left_was : (t : Tree) (p q : List ℕ) → IsSome (get (remove t p) q) → IsSome (get t q) × IsFalse (same_path q p)
left_was t p q there = by_case (same_path q p) refl
  where
    by_case : (same : Bool) → same_path q p ≡ same → IsSome (get t q) × IsFalse (same_path q p)
    by_case true same = absurd (cc (sym there ∙ ap is_some (get-removed t p q ∙ ap (λ b. cond b None (get t q)) same)))
    by_case false apart = (sym (ap is_some (get-removed t p q ∙ ap (λ b. cond b None (get t q)) apart)) ∙ there, apart)

remove_stays : (t : Tree) (p q : List ℕ) → IsFalse (same_path q p) → IsTrue (is_folder (node_at t q)) → IsTrue (is_folder (node_at (remove t p) q))
remove_stays t p [] apart h = refl
remove_stays t p (b ∷ q) apart h = ap is_folder (get-removed t p (b ∷ q) ∙ ap (λ x. cond x None (get t (b ∷ q))) apart) ∙ h

-- a file's path is no folder's
pub file_no_folder : (o : Option Node) → IsTrue (is_some (bytes_of o)) → IsFalse (is_folder o)
file_no_folder None h = cc
file_no_folder (Some (file bytes)) h = refl
file_no_folder (Some folder) h = cc

not_same : (t : Tree) (p q : List ℕ) → IsTrue (is_folder (node_at t q)) → IsFalse (is_folder (node_at t p)) → IsFalse (same_path q p)
not_same t p q is isnt = by_case (same_path q p) refl
  where
    by_case : (same : Bool) → same_path q p ≡ same → IsFalse (same_path q p)
    by_case false apart = apart
    by_case true same = absurd (cc (sym is ∙ ap (λ x. is_folder (node_at t x)) (one_path q p same), isnt))

-- where a file is, one may be
pub file_room : (t : Tree) (p : List ℕ) → IsRooted t → IsTrue (is_file_at t p) → IsTrue (may_hold_file t p)
file_room t [] rooted is_file = absurd (cc is_file)
file_room t (b ∷ p) rooted is_file =
    let stands = rooted (b ∷ p) (stands_at (get t (b ∷ p)) is_file) in
    λ i. stands.0 i && stands.1 i && not (file_no_folder (get t (b ∷ p)) is_file i)
  where
    stands_at : (o : Option Node) → IsTrue (is_some (bytes_of o)) → IsSome o
    stands_at None h = absurd (cc h)
    stands_at (Some n) h = refl

-- in a folder a path may hold a file unless it is a folder
pub room : (t : Tree) (p : List ℕ) → (is_path p && is_folder (node_at t (parent p))) ≡ true → not (is_folder (get t p)) ≡ true → IsTrue (may_hold_file t p)
room t [] inside free = cc
room t (b ∷ p) inside free = λ i. inside i && free i

-- the root isn't among the paths of the tree
pub bytes_stand : (t : Tree) (p : List ℕ) → IsRooted t → bytes_of (get t p) ≡ bytes_of (node_at t p)
bytes_stand t [] rooted = by_case (get t []) refl
  where
    by_case : (o : Option Node) → get t [] ≡ o → bytes_of o ≡ None
    by_case None none = refl
    by_case (Some n) is = absurd (cc (rooted [] (ap is_some is)).0)
bytes_stand t (b ∷ p) rooted = refl

pub rooted_remove_file : (t : Tree) (p : List ℕ) → IsRooted t → IsTrue (is_file_at t p) → IsRooted (remove t p)
rooted_remove_file t p rooted is_file q there =
    let was = left_was t p q there in
    let above = rooted q was.0 in
    (above.0, remove_stays t p (parent q) (not_same t p (parent q) above.1 (file_no_folder _ is_file)) above.1)

-- a key has a property that one of the keys has
any_at : (q p : List ℕ) (ks : List (List ℕ)) → list_any (same_path q) ks ≡ true → same_path (parent q) p ≡ true → list_any (λ k. same_path (parent k) p) ks ≡ true
any_at q p [] found same = absurd (cc found)
any_at q p (k ∷ ks) found same = by_case (same_path q k) refl (any_at q p ks)
  where
    by_case : (here : Bool) → same_path q k ≡ here → (list_any (same_path q) ks ≡ true → same_path (parent q) p ≡ true → list_any (λ x. same_path (parent x) p) ks ≡ true)
        → (same_path (parent k) p || list_any (λ x. same_path (parent x) p) ks) ≡ true
    by_case true here rest = ap (λ b. b || list_any (λ x. same_path (parent x) p) ks) (ap (λ x. same_path (parent x) p) (sym (one_path q k here)) ∙ same)
    by_case false apart rest = ap (λ b. same_path (parent k) p || b) (rest (sym (ap (λ b. b || list_any (same_path q) ks) apart) ∙ found) same) ∙ or_true (same_path (parent k) p)
      where
        or_true : (b : Bool) → (b || true) ≡ true
        or_true true = refl
        or_true false = refl

pub rooted_remove_folder : (t : Tree) (p : List ℕ) → IsRooted t → IsTrue (is_empty_at t p) → IsRooted (remove t p)
rooted_remove_folder t p rooted empty q there =
    let was = left_was t p q there in
    let above = rooted q was.0 in
    (above.0, remove_stays t p (parent q) (apart (same_path (parent q) p) refl was.0) above.1)
  where
    apart : (same : Bool) → same_path (parent q) p ≡ same → IsSome (get t q) → IsFalse (same_path (parent q) p)
    apart false is was = is
    apart true is was = absurd (cc (ap not (any_at q p (keys t) (sym (contains_key-keys t q) ∙ was) is), empty))

file_may : (t : Tree) (p : List ℕ) → IsRooted t → IsTrue (is_file_at t p) → IsTrue (may_hold_file t p)
file_may t [] rooted is_file = cc
file_may t (b ∷ p) rooted is_file =
    let above = rooted (b ∷ p) (there (get t (b ∷ p)) is_file) in
    let no_one = file_no_folder (get t (b ∷ p)) is_file in
    λ i. above.0 i && above.1 i && not (no_one i)
  where
    there : (o : Option Node) → IsTrue (is_some (bytes_of o)) → IsSome o
    there None h = cc
    there (Some n) h = refl

-- ---- each change keeps it, and so what it may leave
rooted_create : (t : Tree) (p bytes : List ℕ) → IsRooted t → IsTrue (allows t (to_create p bytes)) → IsRooted (after (to_create p bytes) t)
rooted_create t p bytes rooted may = by_case (is_some (node_at t p)) may
  where
    by_case : (there : Bool) → IsTrue (there || may_hold_file t p) → IsRooted (cond there t (insert t p (file bytes)))
    by_case true h = rooted
    by_case false h = rooted_insert t p (file bytes) rooted h

pub rooted_after : (n : ℕ) (change : Change) (t : Tree) → IsRooted t → IsTrue (allows t change) → IsRooted (after (cut n change) t)
rooted_after n (to_create path bytes) t rooted may = rooted_create t path (take n bytes) rooted may
rooted_after n (to_write path bytes) t rooted may = rooted_insert t path (file (take n bytes)) rooted may
rooted_after n (to_append path bytes) t rooted may = rooted_insert t path (file (bytes_at t path ++ take n bytes)) rooted may
rooted_after n (to_shorten path count) t rooted may =
    rooted_insert t path (file (take count (bytes_at t path))) rooted (file_may t path rooted (both _ _ may).0)
rooted_after n (to_rename from to) t rooted may =
    let parts = both _ _ may in
    rooted_insert (remove t from) to (file (bytes_at t from)) (rooted_remove_file t from rooted parts.0) (room_after_remove t from (file_may t from rooted parts.0) to ∙ parts.1)
rooted_after n (to_remove_file path) t rooted may = rooted_remove_file t path rooted may
rooted_after n (to_make_folder path) t rooted may = rooted_insert t path folder rooted (both _ _ may).1
rooted_after n (to_remove_folder path) t rooted may = rooted_remove_folder t path rooted (both _ _ may).1

pub rooted_left : (change : Change) (t u : Tree) → IsRooted t → MayLeave change t u → IsRooted u
rooted_left change t u rooted (inl same) = subst IsRooted (sym same) rooted
rooted_left change t u rooted (inr (n, may, is)) = subst IsRooted (sym is) (rooted_after n change t rooted may)

-- ---- the tree after a call
abbrev last : Tree → List Tree → Tree
last t [] = t
last t (u ∷ us) = last u us

last_trees : (past : List Tree) (t d : Tree) → last d (past ++ t ∷ []) ≡ t
last_trees [] t d = refl
last_trees (u ∷ past) t d = last_trees past t u

last_added : (P : Tree → Type 0) (past : List Tree) (t d : Tree) (during : List Tree) → AllByRecursion P during → (last d ((past ++ t ∷ []) ++ during) ≡ t) ⊎ P (last d ((past ++ t ∷ []) ++ during))
last_added P (u ∷ past) t d during all = last_added P past t u during all
last_added P [] t d during all = from t during all (inl refl)
  where
    from : (x : Tree) (ts : List Tree) → AllByRecursion P ts → (x ≡ t) ⊎ P x → (last x ts ≡ t) ⊎ P (last x ts)
    from x [] all so_far = so_far
    from x (y ∷ ts) all so_far = from y ts all.1 (inr all.0)

-- the tree after it is as it was, or one that it added
pub adds_now : (P : Tree → Type 0) (old new : History) → Adds P old new → (new.tree ≡ old.tree) ⊎ P new.tree
adds_now P old new adds =
    let now : last new.tree (trees old ++ adds.during) ≡ new.tree = ap (last new.tree) (sym adds.added) ∙ last_trees new.past new.tree new.tree in
    ⊎_elim (λ same. inl (sym now ∙ same)) (λ p. inr (subst P now p)) (last_added P old.past old.tree new.tree adds.during adds.all)

pub rooted_made : {T : Type 0} (change : Change) (old new : History) (r : Result T FileError) → Makes change old new r → IsRooted old.tree → IsRooted new.tree
rooted_made change old new r makes rooted =
    ⊎_elim (λ same. subst IsRooted (sym same) rooted) (rooted_left change old.tree new.tree rooted) (adds_now (MayLeave change old.tree) old new makes.moments)

-- What is left while one file changes.
use Rattle.std.proofs.Common.{◌≡◌, ◌≢◌, ◌⊎◌, inl, inr, refl, sym, ◌∙◌, ap, ℕ, Bool, true, false, cond, ◌||◌, [], ◌∷◌, ◌++◌, take}
use Rattle.std.specs.Prelude.{IsTrue, Option, Some, None, is_some, is_none, Result, IsErrOf}
use Rattle.std.specs.FinMap.{get, insert, remove}
use Rattle.gix_ref_file.specs.Tree.{Tree, Node, file, same_path, node_at, bytes_of, bytes_at, is_folder}
use Rattle.gix_ref_file.specs.Changes.{to_create, to_write, to_append, to_remove_file, allows, after, may_hold_file, MayLeave}
use Rattle.gix_ref_file.specs.History.{History, Adds, HasCause, HasRisen}
use Rattle.gix_ref_file.specs.declared.files.FileError.{FileError}
use Rattle.gix_ref_file.specs.declared.files.FileError.TheVariants.{Failed}
use Rattle.gix_ref_file.proofs.Histories.{adds_weaker, adds_joined}
use Rattle.gix_ref_file.proofs.Rooted.{adds_now}
use Rattle.gix_ref_file.proofs.Trees.{get-inserted, get-removed, node_at_path, one_path, room_after_remove, same_path_itself, same_tree}
use Rattle.gix_ref_way.specs.Ways.{Bytes, file_at, SameFolders, KeepsFolders, ChangesOneFile}
use Rattle.gix_ref_way.proofs.Above.{BringsNone}
use Rattle.gix_ref_way.proofs.FoldersStay as stay
use Rattle.gix_ref_way.proofs.Stored.{other_path}

-- ---- one change
inserted_apart : (t : Tree) (k : Bytes) (n : Node) (q : Bytes) → q ≢ k → get (insert t k n) q ≡ get t q
inserted_apart t k n q apart = get-inserted t k n q ∙ ap (λ b. cond b (Some n) (get t q)) (other_path q k apart)

removed_apart : (t : Tree) (k q : Bytes) → q ≢ k → get (remove t k) q ≡ get t q
removed_apart t k q apart = get-removed t k q ∙ ap (λ b. cond b None (get t q)) (other_path q k apart)

pub same_one : (k : Bytes) (t x : Tree) → x ≡ t → ChangesOneFile k t x
same_one k t x same = record { others = λ q apart. ap (λ y. get y q) same; here = ap (λ y. is_folder (get y k)) same }

pub created_one : (k bytes : Bytes) (t x : Tree) → MayLeave (to_create k bytes) t x → ChangesOneFile k t x
created_one k bytes t x (inl same) = same_one k t x same
created_one k bytes t x (inr (n, may, is)) = record { others = by_case (is_some (node_at t k)) is; here = stay.while_created k bytes t x (inr (n, may, is)) k }
  where
    by_case : (b : Bool) → x ≡ cond b t (insert t k (file (take n bytes))) → (q : Bytes) → q ≢ k → get x q ≡ get t q
    by_case true is q apart = ap (λ y. get y q) is
    by_case false is q apart = ap (λ y. get y q) is ∙ inserted_apart t k (file (take n bytes)) q apart

pub appended_one : (k bytes : Bytes) (t x : Tree) → MayLeave (to_append k bytes) t x → ChangesOneFile k t x
appended_one k bytes t x (inl same) = same_one k t x same
appended_one k bytes t x (inr (n, may, is)) = record {
  others = λ q apart. ap (λ y. get y q) is ∙ inserted_apart t k (file (bytes_at t k ++ take n bytes)) q apart;
  here = stay.while_appended k bytes t x (inr (n, may, is)) k;
}

pub removed_one : (k : Bytes) (t x : Tree) → MayLeave (to_remove_file k) t x → ChangesOneFile k t x
removed_one k t x (inl same) = same_one k t x same
removed_one k t x (inr (n, may, is)) = record {
  others = λ q apart. ap (λ y. get y q) is ∙ removed_apart t k q apart;
  here = stay.while_removed k t x (inr (n, may, is)) k;
}

-- ---- one after another
pub one_then_one : (k : Bytes) (t u x : Tree) → ChangesOneFile k t u → ChangesOneFile k u x → ChangesOneFile k t x
one_then_one k t u x first second = record { others = λ q apart. second.others q apart ∙ first.others q apart; here = second.here ∙ first.here }

pub one_now : (k : Bytes) (old new : History) → Adds (ChangesOneFile k old.tree) old new → ChangesOneFile k old.tree new.tree
one_now k old new adds = from_now (adds_now _ old new adds)
  where
    from_now : (new.tree ≡ old.tree) ⊎ ChangesOneFile k old.tree new.tree → ChangesOneFile k old.tree new.tree
    from_now (inl same) = same_one k old.tree new.tree same
    from_now (inr one) = one

pub ones_joined : (k : Bytes) (old mid new : History) → Adds (ChangesOneFile k old.tree) old mid → Adds (ChangesOneFile k mid.tree) mid new → Adds (ChangesOneFile k old.tree) old new
ones_joined k old mid new first second = adds_joined old mid new first (adds_weaker mid new second (λ x one. one_then_one k old.tree mid.tree x (one_now k old mid first) one))

pub created_ones : (k bytes : Bytes) (old new : History) → Adds (MayLeave (to_create k bytes) old.tree) old new → Adds (ChangesOneFile k old.tree) old new
created_ones k bytes old new adds = adds_weaker old new adds (created_one k bytes old.tree)

pub then_created : (k bytes : Bytes) (old mid new : History) → Adds (ChangesOneFile k old.tree) old mid → Adds (MayLeave (to_create k bytes) mid.tree) mid new → Adds (ChangesOneFile k old.tree) old new
then_created k bytes old mid new first second = ones_joined k old mid new first (created_ones k bytes mid new second)

pub then_appended : (k bytes : Bytes) (old mid new : History) → Adds (ChangesOneFile k old.tree) old mid → Adds (MayLeave (to_append k bytes) mid.tree) mid new → Adds (ChangesOneFile k old.tree) old new
then_appended k bytes old mid new first second = ones_joined k old mid new first (adds_weaker mid new second (appended_one k bytes mid.tree))

pub then_removed : (k : Bytes) (old mid new : History) → Adds (ChangesOneFile k old.tree) old mid → Adds (MayLeave (to_remove_file k) mid.tree) mid new → Adds (ChangesOneFile k old.tree) old new
then_removed k old mid new first second = ones_joined k old mid new first (adds_weaker mid new second (removed_one k mid.tree))

-- ---- what it says of files and folders
pub one_folders : (k : Bytes) (t x : Tree) → ChangesOneFile k t x → SameFolders t x
one_folders k t x one q = by_test (same_path q k) refl
  where
    by_test : (same : Bool) → same_path q k ≡ same → is_folder (get x q) ≡ is_folder (get t q)
    by_test true same = ap (λ p. is_folder (get x p)) (one_path q k same) ∙ one.here ∙ sym (ap (λ p. is_folder (get t p)) (one_path q k same))
    by_test false other = ap is_folder (one.others q (λ same. apart q k other same))
      where
        apart : (q k : Bytes) → same_path q k ≡ false → q ≡ k → ⊥
        apart q k other same = let wrong : true ≡ false = sym (ap (λ p. same_path q p) (sym same) ∙ same_path_itself q) ∙ other in cc wrong

pub one_files : (k : Bytes) (t x : Tree) → ChangesOneFile k t x → (q : Bytes) → q ≢ k → file_at x q ≡ file_at t q
one_files k t x one [] apart = refl
one_files k t x one (b ∷ q) apart = ap bytes_of (one.others (b ∷ q) apart)

pub one_stay : (k : Bytes) (t x : Tree) → ChangesOneFile k t x → KeepsFolders t x
one_stay k t x one = stay.same_stay t x (one_folders k t x one)

pub one_brings : (k : Bytes) (t x : Tree) → ChangesOneFile k t x → BringsNone t x
one_brings k t x one = stay.same_stood t x (one_folders k t x one)

-- ---- a file in the place of one that was removed
no_node : (o : Option Node) → is_none o ≡ true → is_some o ≡ false
no_node None e = refl
no_node (Some n) e = cc

some_node : (o : Option Node) → is_none o ≡ false → is_some o ≡ true
some_node None e = cc
some_node (Some n) e = refl

put_new : (k bytes : Bytes) (t x : Tree) → is_none (node_at t k) ≡ true → x ≡ after (to_create k bytes) t → x ≡ after (to_write k bytes) t
put_new k bytes t x none is = is ∙ ap (λ b. cond b t (insert t k (file bytes))) (no_node (node_at t k) none)

cond_twice : {A : Type 0} (b : Bool) (x y z : A) → cond b x (cond b y z) ≡ cond b x z
cond_twice true x y z = refl
cond_twice false x y z = refl

pub insert-remove : (t : Tree) (k : Bytes) (n : Node) → insert (remove t k) k n ≡ insert t k n
insert-remove t k n = same_tree _ _ (λ q.
    get-inserted (remove t k) k n q
    ∙ ap (cond (same_path q k) (Some n)) (get-removed t k q)
    ∙ cond_twice (same_path q k) (Some n) None (get t q)
    ∙ sym (get-inserted t k n q))

-- nothing was made where something was
pub stays : (k bytes : Bytes) (old first : Tree) → is_none (node_at old k) ≡ false → first ≡ after (to_create k bytes) old → first ≡ old
stays k bytes old first there made = made ∙ ap (λ b. cond b old (insert old k (file bytes))) (some_node (node_at old k) there)

pub put_back : (k bytes : Bytes) (old first gone last : Tree) → is_none (node_at old k) ≡ false → first ≡ after (to_create k bytes) old → gone ≡ after (to_remove_file k) first
    → is_none (node_at gone k) ≡ true → last ≡ after (to_create k bytes) gone → last ≡ after (to_write k bytes) old
put_back k bytes old first gone last there made removed none is =
    put_new k bytes gone last none is
    ∙ ap (λ t. insert t k (file bytes)) (removed ∙ ap (λ t. remove t k) (stays k bytes old first there made))
    ∙ insert-remove old k (file bytes)

-- and where it was removed a file may be made
pub none_left : (k : Bytes) (first gone : Tree) → IsTrue (may_hold_file first k) → gone ≡ after (to_remove_file k) first → is_none (node_at gone k) ≡ true
none_left k first gone may is =
    ap (λ t. is_none (node_at t k)) is ∙ ap is_none (node_at_path first (remove first k) k may ∙ get-removed first k k ∙ ap (λ b. cond b None (get first k)) (same_path_itself k))

pub may_make : (k bytes : Bytes) (first gone : Tree) → IsTrue (may_hold_file first k) → gone ≡ after (to_remove_file k) first → allows gone (to_create k bytes) ≡ true
may_make k bytes first gone may is =
    ap (λ b. b || may_hold_file gone k) (no_node (node_at gone k) (none_left k first gone may is)) ∙ ap (λ t. may_hold_file t k) is ∙ room_after_remove first k may k ∙ may

pub risen : {T : Type 0} (allowed : Bool) (before now : ℕ) (r : Result T FileError) → allowed ≡ true → HasCause allowed before now r → IsErrOf r Failed → HasRisen before now
risen allowed before now r may cause failed = from_cause (cause failed)
  where
    from_cause : HasRisen before now ⊎ (allowed ≡ false) → HasRisen before now
    from_cause (inl rose) = rose
    from_cause (inr barred) = let wrong : true ≡ false = sym may ∙ barred in absurd (cc wrong)

pub insert-insert : (t : Tree) (k : Bytes) (m n : Node) → insert (insert t k m) k n ≡ insert t k n
insert-insert t k m n = same_tree _ _ (λ q.
    get-inserted (insert t k m) k n q
    ∙ ap (cond (same_path q k) (Some n)) (get-inserted t k m q)
    ∙ cond_twice (same_path q k) (Some n) (Some m) (get t q)
    ∙ sym (get-inserted t k n q))

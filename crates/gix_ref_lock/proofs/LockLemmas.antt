-- What there is while a lock is made, filled, removed or put in its place.
use Rattle.std.proofs.Common.{◌≡◌, ◌≢◌, ◌⊎◌, inl, inr, refl, sym, ◌∙◌, ap, ℕ, ◌+◌, ◌-◌, Bool, true, false, cond, not, ◌&&◌, ◌||◌, List, [], ◌∷◌, take, arith, length}
use Rattle.std.specs.Prelude.{Option, Some, None, IsTrue, IsFalse, is_some, is_none, codes, Result, Ok, Err, OnOk, IsErrOf}
use Rattle.std.specs.List.{list_any, prefix_len, suffix_len}
use Rattle.std.specs.FinMap.{get, insert, remove}
use Rattle.std.proofs.lemmas.Bool.{and_parts}
use Rattle.std.proofs.lemmas.List.{length-append, reverse-append, take-append-le}
use Rattle.gix_ref_file.specs.Tree.{Tree, Node, file, is_folder, is_path, parent, node_at, bytes_of, bytes_at, same_path}
use Rattle.gix_ref_file.specs.Changes.{to_create, to_write, to_rename, to_remove_file, allows, after, may_hold_file, is_file_at, MayLeave}
use Rattle.gix_ref_file.specs.History.{History, Adds, HasRisen, HasCause}
use Rattle.gix_ref_file.specs.declared.files.FileError.{FileError}
use Rattle.gix_ref_file.specs.declared.files.FileError.TheVariants.{Failed}
use Rattle.gix_ref_file.proofs.Below.{inside}
use Rattle.gix_ref_file.proofs.Histories.{adds_weaker, adds_joined}
use Rattle.gix_ref_file.proofs.Others.{others_stay, rename_gone}
use Rattle.gix_ref_file.proofs.Rooted.{adds_now}
use Rattle.gix_ref_file.proofs.Trees.{get-removed, get_inserted, node_at_path, one_path, same_path_itself}
use Rattle.gix_ref_way.specs.Ways.{SameFolders}
use Rattle.gix_ref_lock.specs.Locks.{lock_of, OthersStay, KeepsHeld, IsTaken, MayBePut, IsPut}

clash : {A : Type 0} → true ≡ false → A
clash e = absurd (go e)
  where
    go : true ≡ false → ⊥
    go e = cc

apart_test : (p q : List ℕ) → p ≢ q → same_path p q ≡ false
apart_test p q apart = go (same_path p q) refl
  where
    go : (b : Bool) → same_path p q ≡ b → same_path p q ≡ false
    go true is = absurd (apart (one_path p q is))
    go false is = is

pub one_other : (p q : List ℕ) → p ≢ q → IsFalse (list_any (same_path p) (q ∷ []))
one_other p q apart = ap (λ b. b || false) (apart_test p q apart)

-- ---- one change

pub created_others : (lock : List ℕ) (old x : Tree) → MayLeave (to_create lock []) old x → OthersStay lock old x
created_others lock old x (inl same) = λ path apart. ap (λ t. node_at t path) same
created_others lock old x (inr (n, may, is)) = λ path apart. ap (λ t. node_at t path) is ∙ others_stay (to_create lock (take n [])) old path (one_other path lock apart)

pub written_others : (lock bytes : List ℕ) (old x : Tree) → MayLeave (to_write lock bytes) old x → OthersStay lock old x
written_others lock bytes old x (inl same) = λ path apart. ap (λ t. node_at t path) same
written_others lock bytes old x (inr (n, may, is)) = λ path apart. ap (λ t. node_at t path) is ∙ others_stay (to_write lock (take n bytes)) old path (one_other path lock apart)

pub removed_others : (lock : List ℕ) (old x : Tree) → MayLeave (to_remove_file lock) old x → OthersStay lock old x
removed_others lock old x (inl same) = λ path apart. ap (λ t. node_at t path) same
removed_others lock old x (inr (n, may, is)) = λ path apart. ap (λ t. node_at t path) is ∙ others_stay (to_remove_file lock) old path (one_other path lock apart)

two_others : (p q r : List ℕ) → p ≢ q → p ≢ r → IsFalse (list_any (same_path p) (q ∷ r ∷ []))
two_others p q r one other = (λ i. apart_test p q one i || (apart_test p r other i || false))

second : (a b : Bool) → IsTrue (a && b) → IsTrue b
second true b h = h
second false b h = absurd (cc h)

renamed_there : (lock place : List ℕ) (old : Tree) → IsTrue (allows old (to_rename lock place)) → node_at (after (to_rename lock place) old) place ≡ Some (file (bytes_at old lock))
renamed_there lock place old may =
    node_at_path old (after (to_rename lock place) old) place (second (is_file_at old lock) (may_hold_file old place) may)
    ∙ get_inserted (remove old lock) place (file (bytes_at old lock))

pub renamed_put : (lock place : List ℕ) (old x : Tree) → MayLeave (to_rename lock place) old x → MayBePut place lock (bytes_at old lock) old x
renamed_put lock place old x (inl same) = record { here = inl (ap (λ t. node_at t place) same); others = λ path one other. ap (λ t. node_at t path) same }
renamed_put lock place old x (inr (n, may, is)) = record {
  here = inr (ap (λ t. node_at t place) is ∙ renamed_there lock place old may);
  others = λ path one other. ap (λ t. node_at t path) is ∙ others_stay (to_rename lock place) old path (two_others path lock place other one);
}

-- a lock that exists isn't made
pub created_held : (lock : List ℕ) (old x : Tree) → MayLeave (to_create lock []) old x → KeepsHeld lock old x
created_held lock old x (inl same) = λ stood. ap (λ t. node_at t lock) same
created_held lock old x (inr (n, may, is)) = λ stood. ap (λ t. node_at t lock) (is ∙ by_node (node_at old lock) refl stood)
  where
    by_node : (o : Option Node) → node_at old lock ≡ o → node_at old lock ≢ None → after (to_create lock (take n [])) old ≡ old
    by_node None none stood = absurd (stood none)
    by_node (Some x) some stood = ap (λ o. cond (is_some o) old (insert old lock (file (take n [])))) some

-- ---- what is at a lock

pub none_of : (o : Option Node) → is_none o ≡ true → o ≡ None
none_of None is = refl
none_of (Some n) is = clash (sym is)

pub taken_by : (lock : List ℕ) (old new : Tree) → is_none (node_at old lock) ≡ true → IsTrue (allows old (to_create lock [])) → new ≡ after (to_create lock []) old → IsTaken lock old new
taken_by lock old new free may is =
    let none : node_at old lock ≡ None = none_of (node_at old lock) free in
    let room : may_hold_file old lock ≡ true = sym (ap (λ o. is_some o || may_hold_file old lock) none) ∙ may in
    let made : new ≡ insert old lock (file []) = is ∙ ap (λ o. cond (is_some o) old (insert old lock (file []))) none in
    record {
      free = none;
      held = ap (λ t. node_at t lock) made ∙ node_at_path old (insert old lock (file [])) lock room ∙ get_inserted old lock (file []);
    }

pub filled_by : (lock bytes : List ℕ) (old new : Tree) → IsTrue (allows old (to_write lock bytes)) → new ≡ after (to_write lock bytes) old → node_at new lock ≡ Some (file bytes)
filled_by lock bytes old new may is =
    ap (λ t. node_at t lock) is ∙ node_at_path old (after (to_write lock bytes) old) lock may ∙ get_inserted old lock (file bytes)

pub given_back : (lock : List ℕ) (old new : Tree) → IsTrue (allows old (to_remove_file lock)) → new ≡ after (to_remove_file lock) old → node_at new lock ≡ None
given_back [] old new may is = absurd (go may)
  where
    go : false ≡ true → ⊥
    go e = cc
given_back (b ∷ lock) old new may is =
    ap (λ t. get t (b ∷ lock)) is ∙ get-removed old (b ∷ lock) (b ∷ lock) ∙ ap (λ same. cond same None (get old (b ∷ lock))) (same_path_itself (b ∷ lock))

-- a lock isn't its place
pub lock_apart : (place : List ℕ) → lock_of place ≢ place
lock_apart place same =
    let long : length (lock_of place) ≡ length place = ap length same in
    omega (arith, long, length-append place (codes ".lock"))

pub put_by : (lock place : List ℕ) (old new : Tree) → lock ≡ lock_of place → IsTrue (allows old (to_rename lock place)) → new ≡ after (to_rename lock place) old → IsPut place lock (bytes_at old lock) new
put_by lock place old new is_lock may is = record {
  here = ap (λ t. node_at t place) is ∙ renamed_there lock place old may;
  gone = ap (λ t. node_at t lock) is ∙ rename_gone old lock place may (apart_test lock place (λ same. lock_apart place (sym is_lock ∙ same)));
}

-- a change that the tree allows fails only where a failure is counted
pub must_rise : {T : Type 0} (allowed : Bool) (before now : ℕ) (r : Result T FileError) → IsTrue allowed → HasCause allowed before now r → IsErrOf r Failed → HasRisen before now
must_rise allowed before now r may cause failed = by_case (cause failed)
  where
    by_case : HasRisen before now ⊎ (allowed ≡ false) → HasRisen before now
    by_case (inl risen) = risen
    by_case (inr barred) = clash (sym may ∙ barred)

pub on_ok_both : {T E P Q R : Type 0} (r : Result T E) → (P → Q → R) → OnOk r P → OnOk r Q → OnOk r R
on_ok_both (Ok x) f p q = f p q
on_ok_both (Err e) f p q = tt

-- ---- one change after another

pub now_stays : (lock : List ℕ) (old mid : History) → Adds (OthersStay lock old.tree) old mid → OthersStay lock old.tree mid.tree
now_stays lock old mid first = from_now (adds_now (OthersStay lock old.tree) old mid first)
  where
    from_now : (mid.tree ≡ old.tree) ⊎ OthersStay lock old.tree mid.tree → OthersStay lock old.tree mid.tree
    from_now (inl same) = λ path apart. ap (λ t. node_at t path) same
    from_now (inr stays) = stays

pub others_joined : (lock : List ℕ) (old mid new : History) → Adds (OthersStay lock old.tree) old mid → Adds (OthersStay lock mid.tree) mid new → Adds (OthersStay lock old.tree) old new
others_joined lock old mid new first second =
    adds_joined old mid new first (adds_weaker mid new second (λ x stays path apart. stays path apart ∙ now_stays lock old mid first path apart))

now_put : (place lock text : List ℕ) (old mid : History) → Adds (MayBePut place lock text old.tree) old mid → MayBePut place lock text old.tree mid.tree
now_put place lock text old mid first = from_now (adds_now (MayBePut place lock text old.tree) old mid first)
  where
    from_now : (mid.tree ≡ old.tree) ⊎ MayBePut place lock text old.tree mid.tree → MayBePut place lock text old.tree mid.tree
    from_now (inl same) = record { here = inl (ap (λ t. node_at t place) same); others = λ path one other. ap (λ t. node_at t path) same }
    from_now (inr may) = may

pub put_then_back : (place lock text : List ℕ) (old mid new : History) → lock ≡ lock_of place → Adds (MayBePut place lock text old.tree) old mid → Adds (OthersStay lock mid.tree) mid new
    → Adds (MayBePut place lock text old.tree) old new
put_then_back place lock text old mid new is_lock first second =
    adds_joined old mid new first (adds_weaker mid new second (λ x stays. record {
      here = still x (stays place away) (now_put place lock text old mid first).here;
      others = λ path one other. stays path other ∙ (now_put place lock text old mid first).others path one other;
    }))
  where
    away : place ≢ lock
    away same = lock_apart place (sym is_lock ∙ sym same)

    still : (x : Tree) → node_at x place ≡ node_at mid.tree place → (node_at mid.tree place ≡ node_at old.tree place) ⊎ (node_at mid.tree place ≡ Some (file text))
        → (node_at x place ≡ node_at old.tree place) ⊎ (node_at x place ≡ Some (file text))
    still x same (inl kept) = inl (same ∙ kept)
    still x same (inr put) = inr (same ∙ put)

-- what is given back is put nowhere
pub back_puts : (place lock text : List ℕ) (old new : History) → lock ≡ lock_of place → Adds (OthersStay lock old.tree) old new → Adds (MayBePut place lock text old.tree) old new
back_puts place lock text old new is_lock first = adds_weaker old new first (λ x stays. record {
  here = inl (stays place (λ same. lock_apart place (sym is_lock ∙ sym same)));
  others = λ path one other. stays path other;
})

folders_now : (old mid : History) → Adds (SameFolders old.tree) old mid → SameFolders old.tree mid.tree
folders_now old mid first = from_now (adds_now (SameFolders old.tree) old mid first)
  where
    from_now : (mid.tree ≡ old.tree) ⊎ SameFolders old.tree mid.tree → SameFolders old.tree mid.tree
    from_now (inl same) = λ path. ap (λ t. is_folder (get t path)) same
    from_now (inr stay) = stay

pub folders_joined : (old mid new : History) → Adds (SameFolders old.tree) old mid → Adds (SameFolders mid.tree) mid new → Adds (SameFolders old.tree) old new
folders_joined old mid new first second = adds_joined old mid new first (adds_weaker mid new second (λ x stay path. stay path ∙ folders_now old mid first path))

-- ---- what holds of a lock whatever comes of a call

-- a lock that is written stays
pub written_stays : (lock bytes : List ℕ) (old new : History) → Adds (MayLeave (to_write lock bytes) old.tree) old new → IsTrue (is_file_at old.tree lock) → IsTrue (is_file_at new.tree lock)
written_stays lock bytes old new adds is = from_now (adds_now (MayLeave (to_write lock bytes) old.tree) old new adds)
  where
    from_now : (new.tree ≡ old.tree) ⊎ MayLeave (to_write lock bytes) old.tree new.tree → IsTrue (is_file_at new.tree lock)
    from_now (inl same) = ap (λ t. is_file_at t lock) same ∙ is
    from_now (inr (inl same)) = ap (λ t. is_file_at t lock) same ∙ is
    from_now (inr (inr (n, may, made))) = ap (λ o. is_some (bytes_of o)) (filled_by lock (take n bytes) old.tree new.tree may made)

-- a lock is in the folder of its place
lock_parent : (place : List ℕ) → parent (lock_of place) ≡ parent place
lock_parent place =
    let skipped : suffix_len inside (lock_of place) ≡ 1 + (1 + (1 + (1 + (1 + suffix_len inside place)))) = ap (prefix_len inside) (reverse-append place (codes ".lock")) in
    let long = length-append place (codes ".lock") in
    let end : length (lock_of place) - suffix_len inside (lock_of place) - 1 ≡ length place - suffix_len inside place - 1 = omega (arith, skipped, long) in
    ap (λ n. take n (lock_of place)) end ∙ take-append-le (length place - suffix_len inside place - 1) place (codes ".lock") (omega arith)

-- so it can be made if its path is one
pub blamed_by : (place : List ℕ) (tree : Tree) → IsTrue (may_hold_file tree place) → allows tree (to_create (lock_of place) []) ≡ false → is_path (lock_of place) ≡ false
blamed_by place tree may barred = by_path (is_path (lock_of place)) refl
  where
    there : IsTrue (is_folder (node_at tree (parent (lock_of place))))
    there =
        let parts = and_parts (is_path place && is_folder (node_at tree (parent place))) (not (is_folder (node_at tree place))) may in
        ap (λ p. is_folder (node_at tree p)) (lock_parent place) ∙ (and_parts (is_path place) (is_folder (node_at tree (parent place))) parts.0).1

    by_node : (o : Option Node) → is_path (lock_of place) ≡ true → (is_some o || (is_path (lock_of place) && is_folder (node_at tree (parent (lock_of place))) && not (is_folder o))) ≡ false → ⊥
    by_node (Some n) is none = clash none
    by_node None is none = clash (sym (λ i. is i && there i && true) ∙ none)

    by_path : (b : Bool) → is_path (lock_of place) ≡ b → is_path (lock_of place) ≡ false
    by_path false is = is
    by_path true is = absurd (by_node (node_at tree (lock_of place)) is barred)

-- a call fails for a cause that is counted, or since the path is none
pub blamed : {T : Type 0} (place : List ℕ) (tree : Tree) (before now : ℕ) (r : Result T FileError) → IsTrue (may_hold_file tree place) → HasCause (allows tree (to_create (lock_of place) [])) before now r → IsErrOf r Failed
    → HasRisen before now ⊎ (is_path (lock_of place) ≡ false)
blamed place tree before now r may cause failed = by_cause (cause failed)
  where
    by_cause : HasRisen before now ⊎ (allows tree (to_create (lock_of place) []) ≡ false) → HasRisen before now ⊎ (is_path (lock_of place) ≡ false)
    by_cause (inl risen) = inl risen
    by_cause (inr barred) = inr (blamed_by place tree may barred)

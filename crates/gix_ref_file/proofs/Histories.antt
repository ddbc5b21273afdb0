-- How histories go on.
use Rattle.std.proofs.Common.{◌≡◌, inl, inr, ⊎_elim, ℕ, zero, suc, List, [], ◌∷◌, ◌++◌, length, take, drop, ◌+◌, ◌≤◌, refl, sym, ◌∙◌, ap, subst, cond, arith, append_assoc, length-append}
use Rattle.std.specs.Prelude.{Result, Ok, Err, OnOk, IsTrue, is_some}
use Rattle.std.specs.FinMap.{insert}
use Rattle.std.proofs.lemmas.List.{append_cancel_left, append-nil, take_all, drop_at, take-append-le}
use Rattle.std.specs.List.{AllByRecursion}
use Rattle.gix_ref_file.specs.declared.files.FileError.{FileError}
use Rattle.gix_ref_file.specs.Tree.{Tree, file, node_at, bytes_at}
use Rattle.gix_ref_file.specs.Changes.{Change, to_create, to_write, to_append, to_shorten, to_rename, to_remove_file, to_make_folder, to_remove_folder, allows, after, cut, MayLeave}
use Rattle.gix_ref_file.specs.History.{History, trees, moment, stood_between, Adds, Makes, Steps}

all_weaker : {P Q : Tree → Type 0} → ((t : Tree) → P t → Q t) → (ts : List Tree) → AllByRecursion P ts → AllByRecursion Q ts
all_weaker f [] all = all
all_weaker f (t ∷ ts) all = (f t all.0, all_weaker f ts all.1)

all_joined : (P : Tree → Type 0) (ss ts : List Tree) → AllByRecursion P ss → AllByRecursion P ts → AllByRecursion P (ss ++ ts)
all_joined P [] ts first second = second
all_joined P (s ∷ ss) ts first second = (first.0, all_joined P ss ts first.1 second)

pub adds_weaker : {P Q : Tree → Type 0} (old new : History) → Adds P old new → ((t : Tree) → P t → Q t) → Adds Q old new
adds_weaker old new adds f = record { during = adds.during; added = adds.added; all = all_weaker f adds.during adds.all }

pub adds_joined : {P : Tree → Type 0} (old mid new : History) → Adds P old mid → Adds P mid new → Adds P old new
adds_joined old mid new first second = record {
  during = first.during ++ second.during;
  added = second.added ∙ ap (λ ts. ts ++ second.during) first.added ∙ append_assoc (trees old) first.during second.during;
  all = all_joined _ first.during second.during first.all second.all;
}

pub adds_nothing : {P : Tree → Type 0} (old : History) → Adds P old old
adds_nothing old = record { during = []; added = sym (append-nil (trees old)); all = tt }

pub all_both : (P Q : Tree → Type 0) (ts : List Tree) → AllByRecursion P ts → AllByRecursion Q ts → AllByRecursion (λ t. P t × Q t) ts
all_both P Q [] p q = tt
all_both P Q (t ∷ ts) p q = ((p.0, q.0), all_both P Q ts p.1 q.1)

-- each tree that came has what each has
pub adds_both : {P Q : Tree → Type 0} (old new : History) → Adds P old new → Adds Q old new → Adds (λ t. P t × Q t) old new
adds_both {P = P} {Q = Q} old new a b = record {
  during = a.during;
  added = a.added;
  all = all_both P Q a.during a.all (subst (AllByRecursion Q) (append_cancel_left (trees old) b.during a.during (sym b.added ∙ a.added)) b.all);
}

-- ---- changes that are made at once
on_ok : {T E : Type 0} (P : Type 0) (r : Result T E) → P → OnOk r P
on_ok P (Ok x) p = p
on_ok P (Err e) p = tt

-- all the bytes are a beginning of them
whole : (change : Change) (tree : Tree) → (n : ℕ) × (after (cut n change) tree ≡ after change tree)
whole (to_create path bytes) tree = (length bytes, ap (λ bs. cond (is_some (node_at tree path)) tree (insert tree path (file bs))) (take_all (length bytes) bytes (omega arith)))
whole (to_write path bytes) tree = (length bytes, ap (λ bs. insert tree path (file bs)) (take_all (length bytes) bytes (omega arith)))
whole (to_append path bytes) tree = (length bytes, ap (λ bs. insert tree path (file (bytes_at tree path ++ bs))) (take_all (length bytes) bytes (omega arith)))
whole (to_shorten path count) tree = (0, refl)
whole (to_rename from to) tree = (0, refl)
whole (to_remove_file path) tree = (0, refl)
whole (to_make_folder path) tree = (0, refl)
whole (to_remove_folder path) tree = (0, refl)

pub makes : {T : Type 0} (change : Change) (old new : History) (r : Result T FileError) → IsTrue (allows old.tree change) → Steps old new (after change old.tree) → Makes change old new r
makes change old new r may steps =
    let all = whole change old.tree in
    record {
      allowed = on_ok _ r may;
      made = on_ok _ r steps.made;
      moments = record {
        during = new.tree ∷ [];
        added = ap (λ ts. ts ++ new.tree ∷ []) steps.kept;
        all = (inr (all.0, may, steps.made ∙ sym all.1), tt);
      };
    }

-- a change that the tree as it is already meets
pub makes_none : {T : Type 0} (change : Change) (history : History) (r : Result T FileError) → IsTrue (allows history.tree change) → after change history.tree ≡ history.tree → Makes change history history r
makes_none change history r may same = record { allowed = on_ok _ r may; made = on_ok _ r (sym same); moments = adds_nothing history }

-- a write where there are no bytes is an append
onto_ok : {T E : Type 0} (P Q : Type 0) (r : Result T E) → (P → Q) → OnOk r P → OnOk r Q
onto_ok P Q (Ok x) f p = f p
onto_ok P Q (Err e) f p = tt

pub append_by_write : {T : Type 0} (path bytes : List ℕ) (old new : History) (r : Result T FileError) → bytes_at old.tree path ≡ [] → Makes (to_write path bytes) old new r → Makes (to_append path bytes) old new r
append_by_write path bytes old new r none makes =
    let same = λ (bs : List ℕ). ap (λ front. insert old.tree path (file (front ++ bs))) (sym none) in
    record {
      allowed = makes.allowed;
      made = onto_ok _ _ r (λ made. made ∙ same bytes) makes.made;
      moments = adds_weaker old new makes.moments (λ t may. ⊎_elim (λ stayed. inl stayed) (λ left. inr (left.0, left.1, left.2 ∙ same (take left.0 bytes))) may);
    }

pub steps_to : (old new : History) (tree other : Tree) → Steps old new tree → tree ≡ other → Steps old new other
steps_to old new tree other steps same = record { made = steps.made ∙ same; kept = steps.kept }

-- ---- moments
length-trees : (h : History) → length (trees h) ≡ moment h + 1
length-trees h = length-append h.past (h.tree ∷ [])

-- the trees there were while trees were added to a history are the tree before them and they
pub added_stood : (old new : History) (during : List Tree) → trees new ≡ trees old ++ during → stood_between new (moment old) (moment new) ≡ old.tree ∷ during
added_stood old new during added =
    ap (drop (moment old)) (take_all (moment new + 1) (trees new) (omega (arith, length-trees new)))
    ∙ ap (drop (moment old)) (added ∙ append_assoc old.past (old.tree ∷ []) during)
    ∙ drop_at old.past (old.tree ∷ during) (moment old) refl

-- and they leave the trees between earlier moments
pub past_stays : (old new : History) (during : List Tree) (from to : ℕ) → trees new ≡ trees old ++ during → to ≤ moment old → stood_between new from to ≡ stood_between old from to
past_stays old new during from to added early =
    ap (drop from) (ap (take (to + 1)) added ∙ take-append-le (to + 1) (trees old) during (omega (arith, length-trees old)))

-- ---- changes that are stopped
taken_twice : (m n : ℕ) (bytes : List ℕ) → (k : ℕ) × (take m (take n bytes) ≡ take k bytes)
taken_twice zero n bytes = (0, refl)
taken_twice (suc m) zero bytes = (0, refl)
taken_twice (suc m) (suc n) [] = (0, refl)
taken_twice (suc m) (suc n) (b ∷ bytes) = let rest = taken_twice m n bytes in (suc rest.0, ap (λ bs. b ∷ bs) rest.1)

cut_twice : (m n : ℕ) (change : Change) (tree : Tree) → (k : ℕ) × (after (cut m (cut n change)) tree ≡ after (cut k change) tree)
cut_twice m n (to_create path bytes) tree = let k = taken_twice m n bytes in (k.0, ap (λ bs. cond (is_some (node_at tree path)) tree (insert tree path (file bs))) k.1)
cut_twice m n (to_write path bytes) tree = let k = taken_twice m n bytes in (k.0, ap (λ bs. insert tree path (file bs)) k.1)
cut_twice m n (to_append path bytes) tree = let k = taken_twice m n bytes in (k.0, ap (λ bs. insert tree path (file (bytes_at tree path ++ bs))) k.1)
cut_twice m n (to_shorten path count) tree = (0, refl)
cut_twice m n (to_rename from to) tree = (0, refl)
cut_twice m n (to_remove_file path) tree = (0, refl)
cut_twice m n (to_make_folder path) tree = (0, refl)
cut_twice m n (to_remove_folder path) tree = (0, refl)

-- how many bytes there are has no part in it
allows-cut : (n : ℕ) (change : Change) (tree : Tree) → allows tree (cut n change) ≡ allows tree change
allows-cut n (to_create path bytes) tree = refl
allows-cut n (to_write path bytes) tree = refl
allows-cut n (to_append path bytes) tree = refl
allows-cut n (to_shorten path count) tree = refl
allows-cut n (to_rename from to) tree = refl
allows-cut n (to_remove_file path) tree = refl
allows-cut n (to_make_folder path) tree = refl
allows-cut n (to_remove_folder path) tree = refl

left_by_cut : (n : ℕ) (change : Change) (old new : Tree) → MayLeave (cut n change) old new → MayLeave change old new
left_by_cut n change old new (inl same) = inl same
left_by_cut n change old new (inr (m, may, is)) = let k = cut_twice m n change old in inr (k.0, sym (allows-cut n change old) ∙ may, is ∙ k.1)

pub stopped : {T U : Type 0} (n : ℕ) (change : Change) (old mid new : History) (r : Result U FileError) (e : FileError) → Makes (cut n change) old mid r → new ≡ mid → Makes {T = T} change old new (Err e)
stopped n change old mid new r e makes same = record {
  allowed = tt;
  made = tt;
  moments = adds_weaker old new (record { during = makes.moments.during; added = ap trees same ∙ makes.moments.added; all = makes.moments.all }) (left_by_cut n change old.tree);
}

pub stopped_before : {T : Type 0} (change : Change) (old new : History) (e : FileError) → new ≡ old → Makes {T = T} change old new (Err e)
stopped_before change old new e same = record { allowed = tt; made = tt; moments = record { during = []; added = ap trees same ∙ sym (append-nil (trees old)); all = tt } }

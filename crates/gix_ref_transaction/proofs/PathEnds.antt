-- The places of names and of their logs don't end as locks do.
use Rattle.std.proofs.Math.ListN.{get_or}
use Rattle.std.proofs.Common.{◌≡◌, refl, sym, ◌∙◌, ap, ℕ, zero, suc, arith, Bool, true, false, cond, not, ◌&&◌, ◌||◌, ◌==◌, ◌-◌, [], ◌∷◌, ◌++◌, length, take, drop, append_assoc, codes, bytes_eq, Option, Some, None}
use Rattle.std.specs.List.{list_any}
use Rattle.std.proofs.lemmas.List.Folds.{list_any-append}
use Rattle.std.proofs.lemmas.Slice.Eq.{bytes_eq-Decides}
use Rattle.gix_object_lines.specs.NameTest.{begins, ends, holds, is_barred, has_slash, is_full_name, is_partial_name, is_capitals}
use Rattle.gix_ref_file.specs.Tree.{under}
use Rattle.gix_ref_way.specs.Ways.{Bytes}
use Rattle.gix_ref_format.specs.Lookup.{is_own, behind_slash}
use Rattle.gix_ref_lock.specs.Moments.{is_lock}
use Rattle.gix_ref_lock.proofs.LockPaths.{lock_is_lock}
use Rattle.gix_ref_store.specs.Places.{Base, Home, place, log_place, packed_place, home, main_home, linked_home, front_of}

clash : {A : Type 0} → true ≡ false → A
clash e = absurd (go e)
  where
    go : true ≡ false → ⊥
    go e = cc

pub taken_apart : (n : ℕ) (text : Bytes) → text ≡ take n text ++ drop n text
taken_apart zero text = refl
taken_apart (suc n) [] = refl
taken_apart (suc n) (b ∷ text) = ap (λ t. b ∷ t) (taken_apart n text)

-- what ends as locks do
pub lock_parts : (text : Bytes) → is_lock text ≡ true → (front : Bytes) × (text ≡ front ++ codes ".lock")
lock_parts text is =
    let at = length text - 5 in
    (take at text, taken_apart at text ∙ ap (λ t. take at text ++ t) (sym ((bytes_eq-Decides (codes ".lock") (drop at text)).0 is)))

or_true : (b : Bool) → (b || true) ≡ true
or_true true = refl
or_true false = refl

-- the slash comes before all of `.lock`
behind : (front ahead path : Bytes) → front ++ 47 ∷ path ≡ ahead ++ codes ".lock" → (rest : Bytes) × (path ≡ rest ++ codes ".lock")
behind [] [] path is = let wrong : 47 ≡ 46 = ap (λ t. get_or t 0 0) is in absurd (omega (arith, wrong))
behind [] (a ∷ ahead) path is = (ahead, ap (drop 1) is)
behind (f ∷ front) [] path is =
    let tail : front ++ 47 ∷ path ≡ codes "lock" = ap (drop 1) is in
    clash (sym (list_any-append (λ b. b == 47) front (47 ∷ path) ∙ or_true (list_any (λ b. b == 47) front)) ∙ ap (list_any (λ b. b == 47)) tail)
behind (f ∷ front) (a ∷ ahead) path is = behind front ahead path (ap (drop 1) is)

by_end : (text : Bytes) → ((front : Bytes) → text ≡ front ++ codes ".lock" → true ≡ false) → is_lock text ≡ false
by_end text none = go (is_lock text) refl
  where
    go : (b : Bool) → is_lock text ≡ b → is_lock text ≡ false
    go true is = let parts = lock_parts text is in clash (none parts.0 parts.1)
    go false is = is

ends_so : (text front : Bytes) → text ≡ front ++ codes ".lock" → is_lock text ≡ false → true ≡ false
ends_so text front is none = sym (ap is_lock is ∙ lock_is_lock front) ∙ none

below_free : (front path : Bytes) → is_lock path ≡ false → is_lock (front ++ 47 ∷ path) ≡ false
below_free front path none = by_end (front ++ 47 ∷ path) (λ ahead is. let rest = behind front ahead path is in ends_so path rest.0 rest.1 none)

pub under_free : (folder path : Bytes) → is_lock path ≡ false → is_lock (under folder path) ≡ false
under_free [] path none = none
under_free (b ∷ folder) path none = below_free (b ∷ folder) path none

-- what ends a text that doesn't end so
end_free : (front rest : Bytes) → is_lock (front ++ rest) ≡ false → is_lock rest ≡ false
end_free front rest none = by_end rest (λ ahead is. ends_so (front ++ rest) (front ++ ahead) (ap (λ t. front ++ t) is ∙ sym (append_assoc front ahead (codes ".lock"))) none)

drop_free : (n : ℕ) (text : Bytes) → is_lock text ≡ false → is_lock (drop n text) ≡ false
drop_free n text none = end_free (take n text) (drop n text) (ap is_lock (sym (taken_apart n text)) ∙ none)

slash_free : (text rest : Bytes) → behind_slash text ≡ Some rest → is_lock text ≡ false → is_lock rest ≡ false
slash_free [] rest is none = absurd (cc is)
slash_free (b ∷ text) rest is none = go (b == 47) is (λ e. slash_free text rest e (drop_free 1 (b ∷ text) none))
  where
    inner : {r s : Bytes} → Some r ≡ Some s → r ≡ s
    inner e = cc

    go : (slash : Bool) → cond slash (Some text) (behind_slash text) ≡ Some rest → (behind_slash text ≡ Some rest → is_lock rest ≡ false) → is_lock rest ≡ false
    go true e later = ap is_lock (sym (inner e)) ∙ drop_free 1 (b ∷ text) none
    go false e later = later e

-- ---- the homes of names
path_free : (b : Base) (name : Bytes) → is_lock name ≡ false → is_lock (home b name).path ≡ false
path_free b name none = by_own (is_own name)
  where
    by_main : (c : Bool) (rest : Bytes) → is_lock rest ≡ false → is_lock (cond {A = Home} c (record { folder = b.common; path = rest }) (record { folder = b.common; path = name })).path ≡ false
    by_main true rest free = free
    by_main false rest free = none

    by_refs : (c : Bool) (rest : Bytes) → is_lock rest ≡ false → is_lock (cond {A = Home} c (record { folder = b.common; path = rest }) (record { folder = b.common; path = name })).path ≡ false
    by_refs true rest free = free
    by_refs false rest free = none

    by_linked : (own : Bool) (rest : Bytes) → is_lock rest ≡ false → is_lock (cond {A = Home} own (record { folder = under b.common (front_of name rest); path = rest })
        (cond {A = Home} (begins (codes "refs/") rest) (record { folder = b.common; path = rest }) (record { folder = b.common; path = name }))).path ≡ false
    by_linked true rest free = free
    by_linked false rest free = by_refs (begins (codes "refs/") rest) rest free

    linked : (o : Option Bytes) → behind_slash (drop 10 name) ≡ o → is_lock (linked_home b name o).path ≡ false
    linked None is = none
    linked (Some rest) is = by_linked (is_own rest) rest (slash_free (drop 10 name) rest is (drop_free 10 name none))

    by_worktrees : (c : Bool) → is_lock (cond {A = Home} c (linked_home b name (behind_slash (drop 10 name))) (record { folder = b.common; path = name })).path ≡ false
    by_worktrees true = linked (behind_slash (drop 10 name)) refl
    by_worktrees false = none

    by_mains : (c : Bool) → is_lock (cond {A = Home} c (main_home b name (drop 14 name)) (cond {A = Home} (begins (codes "worktrees/") name) (linked_home b name (behind_slash (drop 10 name))) (record { folder = b.common; path = name }))).path ≡ false
    by_mains true = by_main (is_capitals (drop 14 name) || begins (codes "refs/") (drop 14 name)) (drop 14 name) (drop_free 14 name none)
    by_mains false = by_worktrees (begins (codes "worktrees/") name)

    by_own : (c : Bool) → is_lock (cond {A = Home} c (record { folder = b.git; path = name }) (cond {A = Home} (begins (codes "main-worktree/") name) (main_home b name (drop 14 name))
        (cond {A = Home} (begins (codes "worktrees/") name) (linked_home b name (behind_slash (drop 10 name))) (record { folder = b.common; path = name })))).path ≡ false
    by_own true = none
    by_own false = by_mains (begins (codes "main-worktree/") name)

abbrev further : Bytes → Bool
further name =
    not (holds (codes ".lock/") name)
    && (not (holds (codes "..") name)
    && (not (list_any is_barred name)
    && (not (begins (codes "/") name)
    && (not (ends (codes "/") name)
    && (not (holds (codes "//") name)
    && (not (ends (codes ".") name)
    && (not (holds (codes "@{") name)
    && not (bytes_eq name (codes "@")))))))))

fourth : (a b c l d : Bool) → l ≡ true → (a && (b && (c && (not l && d)))) ≡ false
fourth false b c l d is = refl
fourth true false c l d is = refl
fourth true true false l d is = refl
fourth true true true l d is = ap (λ x. not x && d) is

full_free : (name : Bytes) → is_full_name name ≡ true → is_lock name ≡ false
full_free name full = go (is_lock name) refl
  where
    broken : is_lock name ≡ true → is_partial_name name ≡ false
    broken is = fourth (not (bytes_eq name [])) (not (begins (codes ".") name)) (not (holds (codes "/.") name)) (is_lock name) (further name) is

    go : (l : Bool) → is_lock name ≡ l → is_lock name ≡ false
    go false is = is
    go true is = clash (sym full ∙ ap (λ p. p && (has_slash name || is_capitals name)) (broken is))

pub place_free : (b : Base) (name : Bytes) → is_full_name name ≡ true → is_lock (place b name) ≡ false
place_free b name full = under_free (home b name).folder (home b name).path (path_free b name (full_free name full))

pub log_place_free : (b : Base) (name : Bytes) → is_full_name name ≡ true → is_lock (log_place b name) ≡ false
log_place_free b name full = under_free (under (home b name).folder (codes "logs")) (home b name).path (path_free b name (full_free name full))

pub packed_place_free : (b : Base) → is_lock (packed_place b) ≡ false
packed_place_free b = under_free b.common (codes "packed-refs") refl

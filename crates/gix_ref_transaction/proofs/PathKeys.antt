-- The files of names that may have a record are in the shared folder, at the path of the record's
-- name.
use Rattle.std.proofs.Common.{◌≡◌, refl, sym, ◌∙◌, ap, subst, Bool, true, false, cond, ◌||◌, ◌++◌, take, drop, codes, Option, Some, None}
use Rattle.std.proofs.lemmas.Bool.{or_parts}
use Rattle.std.proofs.lemmas.Slice.Eq.{bytes_eq-Decides}
use Rattle.gix_object_lines.specs.NameTest.{begins, is_capitals}
use Rattle.gix_ref_file.specs.Tree.{under}
use Rattle.gix_ref_way.specs.Ways.{Bytes}
use Rattle.gix_ref_format.specs.Lookup.{is_own, behind_slash, in_worktree, key_by, packed_key}
use Rattle.gix_ref_store.specs.Places.{Base, Home, place, place_in, home, main_home, linked_home, shared_home, front_of}
use Rattle.gix_ref_transaction.proofs.PathEnds.{taken_apart}

-- a text that begins so is the beginning and the rest
main_parts : (name : Bytes) → begins (codes "main-worktree/") name ≡ true → name ≡ codes "main-worktree/" ++ drop 14 name
main_parts name is = taken_apart 14 name ∙ ap (λ t. t ++ drop 14 name) (sym ((bytes_eq-Decides (codes "main-worktree/") (take 14 name)).0 is))

linked_parts : (name : Bytes) → begins (codes "worktrees/") name ≡ true → name ≡ codes "worktrees/" ++ drop 10 name
linked_parts name is = taken_apart 10 name ∙ ap (λ t. t ++ drop 10 name) (sym ((bytes_eq-Decides (codes "worktrees/") (take 10 name)).0 is))

main_not_own : (name : Bytes) → begins (codes "main-worktree/") name ≡ true → is_own name ≡ false
main_not_own name is = ap is_own (main_parts name is)

linked_not_own : (name : Bytes) → begins (codes "worktrees/") name ≡ true → is_own name ≡ false
linked_not_own name is = ap is_own (linked_parts name is)

no_capitals : (rest : Bytes) → is_own rest ≡ false → is_capitals rest ≡ false
no_capitals rest none = (or_parts (is_capitals rest) _ (or_parts _ _ (or_parts _ _ none).0).0).0

abbrev OfWorktree : Base → Bytes → Home
OfWorktree b name =
    cond {A = Home} (begins (codes "main-worktree/") name) (main_home b name (drop 14 name))
    (cond {A = Home} (begins (codes "worktrees/") name) (linked_home b name (behind_slash (drop 10 name))) (shared_home b name))

not_own_home : (b : Base) (name : Bytes) → is_own name ≡ false → home b name ≡ OfWorktree b name
not_own_home b name own = ap (λ c. cond {A = Home} c (record { folder = b.git; path = name }) (OfWorktree b name)) own

-- ---- of names after a worktree's front
inner : {r s : Bytes} → Some r ≡ Some s → r ≡ s
inner e = cc

main_rest : (b : Base) (name rest k : Bytes) (own below : Bool) → is_own rest ≡ own → begins (codes "refs/") rest ≡ below → cond own None (cond below (Some rest) (Some name)) ≡ Some k → main_home b name rest ≡ shared_home b k
main_rest b name rest k true below is_o is_b key = cc
main_rest b name rest k false true is_o is_b key =
    (λ i. cond {A = Home} (no_capitals rest is_o i || is_b i) (shared_home b rest) (shared_home b name)) ∙ ap (shared_home b) (inner key)
main_rest b name rest k false false is_o is_b key =
    (λ i. cond {A = Home} (no_capitals rest is_o i || is_b i) (shared_home b rest) (shared_home b name)) ∙ ap (shared_home b) (inner key)

linked_rest : (b : Base) (name rest k : Bytes) (own below : Bool) → is_own rest ≡ own → begins (codes "refs/") rest ≡ below → cond own None (cond below (Some rest) (Some name)) ≡ Some k → linked_home b name (Some rest) ≡ shared_home b k
linked_rest b name rest k true below is_o is_b key = cc
linked_rest b name rest k false true is_o is_b key =
    (λ i. cond {A = Home} (is_o i) (record { folder = under b.common (front_of name rest); path = rest }) (cond {A = Home} (is_b i) (shared_home b rest) (shared_home b name))) ∙ ap (shared_home b) (inner key)
linked_rest b name rest k false false is_o is_b key =
    (λ i. cond {A = Home} (is_o i) (record { folder = under b.common (front_of name rest); path = rest }) (cond {A = Home} (is_b i) (shared_home b rest) (shared_home b name))) ∙ ap (shared_home b) (inner key)

plain : (b : Base) (name k : Bytes) (own : Bool) → is_own name ≡ own → cond own None (Some name) ≡ Some k → (own ≡ false) × (shared_home b name ≡ shared_home b k)
plain b name k true is key = cc
plain b name k false is key = (refl, ap (shared_home b) (inner key))

linked_opt : (b : Base) (name k : Bytes) (o : Option Bytes) → is_own name ≡ false → key_by name o ≡ Some k → linked_home b name o ≡ shared_home b k
linked_opt b name k None own key = (plain b name k false own (sym (ap (λ c. cond c None (Some name)) own) ∙ key)).1
linked_opt b name k (Some rest) own key = linked_rest b name rest k (is_own rest) (begins (codes "refs/") rest) refl refl key

pub home_key : (b : Base) (name k : Bytes) → packed_key name ≡ Some k → home b name ≡ shared_home b k
home_key b name k key = by_main (begins (codes "main-worktree/") name) refl
  where
    by_linked : (linked : Bool) → begins (codes "main-worktree/") name ≡ false → begins (codes "worktrees/") name ≡ linked → home b name ≡ shared_home b k
    by_linked true main is =
        let own = linked_not_own name is in
        let worktree : in_worktree name ≡ behind_slash (drop 10 name) = λ i. cond (main i) (Some (drop 14 name)) (cond (is i) (behind_slash (drop 10 name)) None) in
        not_own_home b name own
        ∙ (λ i. cond {A = Home} (main i) (main_home b name (drop 14 name)) (cond {A = Home} (is i) (linked_home b name (behind_slash (drop 10 name))) (shared_home b name)))
        ∙ linked_opt b name k (behind_slash (drop 10 name)) own (sym (ap (key_by name) worktree) ∙ key)
    by_linked false main is =
        let worktree : in_worktree name ≡ None = λ i. cond (main i) (Some (drop 14 name)) (cond (is i) (behind_slash (drop 10 name)) None) in
        let own = plain b name k (is_own name) refl (sym (ap (key_by name) worktree) ∙ key) in
        not_own_home b name own.0
        ∙ (λ i. cond {A = Home} (main i) (main_home b name (drop 14 name)) (cond {A = Home} (is i) (linked_home b name (behind_slash (drop 10 name))) (shared_home b name)))
        ∙ own.1

    by_main : (main : Bool) → begins (codes "main-worktree/") name ≡ main → home b name ≡ shared_home b k
    by_main true is =
        let own = main_not_own name is in
        let worktree : in_worktree name ≡ Some (drop 14 name) = ap (λ c. cond c (Some (drop 14 name)) (cond (begins (codes "worktrees/") name) (behind_slash (drop 10 name)) None)) is in
        not_own_home b name own
        ∙ ap (λ c. cond {A = Home} c (main_home b name (drop 14 name)) (cond {A = Home} (begins (codes "worktrees/") name) (linked_home b name (behind_slash (drop 10 name))) (shared_home b name))) is
        ∙ main_rest b name (drop 14 name) k (is_own (drop 14 name)) (begins (codes "refs/") (drop 14 name)) refl refl (sym (ap (key_by name) worktree) ∙ key)
    by_main false is = by_linked (begins (codes "worktrees/") name) is refl

-- so two names that may have the same record have one place
pub one_place : (b : Base) (name other k : Bytes) → packed_key name ≡ Some k → packed_key other ≡ Some k → place b name ≡ place b other
one_place b name other k one two = ap place_in (home_key b name k one ∙ sym (home_key b other k two))

-- ---- a record's name is its own key
refs_parts : (name : Bytes) → begins (codes "refs/") name ≡ true → name ≡ codes "refs/" ++ drop 5 name
refs_parts name is = taken_apart 5 name ∙ ap (λ t. t ++ drop 5 name) (sym ((bytes_eq-Decides (codes "refs/") (take 5 name)).0 is))

refs_key : (name : Bytes) → is_own name ≡ false → begins (codes "refs/") name ≡ true → packed_key name ≡ Some name
refs_key name own refs = ap (key_by name) (ap in_worktree (refs_parts name refs)) ∙ ap (λ o. cond o None (Some name)) own

pub key_again : (name k : Bytes) → packed_key name ≡ Some k → packed_key k ≡ Some k
key_again name k key = by_front (in_worktree name) refl key
  where
    itself : name ≡ k → packed_key k ≡ Some k
    itself same = subst (λ n. packed_key n ≡ Some k) same key

    plain : (own : Bool) → cond own None (Some name) ≡ Some k → packed_key k ≡ Some k
    plain true is = cc
    plain false is = itself (inner is)

    inside : (rest : Bytes) (own below : Bool) → is_own rest ≡ own → begins (codes "refs/") rest ≡ below → cond own None (cond below (Some rest) (Some name)) ≡ Some k → packed_key k ≡ Some k
    inside rest true below is_o is_b is = cc
    inside rest false true is_o is_b is = subst (λ n. packed_key n ≡ Some n) (inner is) (refs_key rest is_o is_b)
    inside rest false false is_o is_b is = itself (inner is)

    by_front : (front : Option Bytes) → in_worktree name ≡ front → key_by name front ≡ Some k → packed_key k ≡ Some k
    by_front None at is = plain (is_own name) is
    by_front (Some rest) at is = inside rest (is_own rest) (begins (codes "refs/") rest) refl refl is

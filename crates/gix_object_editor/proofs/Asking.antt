-- Counting the trees that an edit looks up.
use Rattle.std.proofs.Common.{ℕ, zero, suc, ◌≡◌, ◌≢◌, ◌<◌, ◌+◌, ◌&&◌, ◌⊎◌, inl, inr, Bool, true, false, List, [], ◌∷◌, ◌++◌, Option, Some, None, refl, sym, ap, subst, ◌∙◌, arith, length, drop, get_or, add-one, if◌then◌else◌}
use Rattle.std.specs.Prelude.{not, Result, Ok, Err, ⊤}
use Rattle.std.specs.List.{All, Contains}
use Rattle.std.specs.Borrow.{Bor}
use Rattle.std.proofs.lemmas.List.{append_assoc, append-nil, length-append, get_or-map}
use Rattle.std.proofs.lemmas.Bool.{cases_eq}
use Rattle.std.proofs.lemmas.List.Elements.{All-append, Contains-get_or}
use Rattle.gix_hash.specs.Id.{Id}
use Rattle.gix_object_tree.specs.Entry.{Item}
use Rattle.gix_object_tree.specs.Mode.{is_tree_value}
use Rattle.gix_object_lookup.specs.Table.{Table}
use Rattle.gix_object_editor.specs.declared.tree.editor.error.Error.{Error}
use Rattle.gix_object_editor.specs.declared.tree.editor.error.Error.TheVariants.{EmptyPathComponent, FindExistingObject, CannotRemoveNonLeaf, MalformedTree, EmptyTree, Memory}
use Rattle.gix_object_nodes.specs.declared.node.NodeId.{NodeId}
use Rattle.gix_object_nodes.specs.declared.node.Slot.{Slot}
use Rattle.gix_object_nodes.specs.Files.{Bytes, Path, Leaf, Trees, is_null, leads_on, leaf_of, named, through}
use Rattle.gix_object_nodes.specs.Nodes.{Slots, leaf_in, child_or, child_of, StandsFor, Way, onto, LeadsTo}
use Rattle.gix_object_editor.specs.Refusals.{OpeningFault, FolderFault}
use Rattle.gix_object_editor.specs.Asked.{front_of, ids_from, trees_into, slot_into, unopened_into, found_into, IsStoredTree, CountsUp, Asks, AsksTo, AsksUpTo, AsksAll, AsksFor, AsksSome, StopsAt}
use Rattle.gix_object_editor.proofs.Walked.{names, names_length, last_name}
use Rattle.gix_object_editor.proofs.Edits.{last_split}
use Rattle.gix_object_editor.proofs.Folders.{below_base}

-- ---- one lookup after another

counts_then : (was mid now n m : ℕ) → CountsUp was mid n → CountsUp mid now m → CountsUp was now (n + m)
counts_then was mid now n m first second fit =
    let one : mid ≡ was + n = first (omega arith) in
    let two : now ≡ mid + m = second (omega arith) in
    omega arith

pub asks_none : (table : Table) (ids : List Id) (n : ℕ) → AsksUpTo table ids ids n n
asks_none table ids n = record { front = []; split = refl; good = λ k d lt. absurd (omega arith); counted = λ fit. omega arith }

pub asks_same : (table : Table) (ids left : List Id) (was now : ℕ) → ids ≡ left → now ≡ was → AsksUpTo table ids left was now
asks_same table ids left was now e n = subst (λ l. AsksUpTo table ids l was now) e (subst (AsksUpTo table ids ids was) (sym n) (asks_none table ids was))

pub asks_then : (table : Table) (ids left rest : List Id) (was mid now : ℕ) → AsksUpTo table ids left was mid → AsksUpTo table left rest mid now → AsksUpTo table ids rest was now
asks_then table ids left rest was mid now a b = record {
  front = a.front ++ b.front;
  split = append_assoc a.front b.front rest ∙ ap (λ l. a.front ++ l) b.split ∙ a.split;
  good = All-append (IsStoredTree table) a.front b.front a.good b.good;
  counted = subst (CountsUp was now) (sym (length-append a.front b.front)) (counts_then was mid now (length a.front) (length b.front) a.counted b.counted);
}

pub asks_done : (table : Table) (ids : List Id) (was now : ℕ) → AsksUpTo table ids [] was now → AsksAll table ids was now
asks_done table ids was now a =
    let whole : a.front ≡ ids = sym (append-nil a.front) ∙ a.split in
    (subst (All (IsStoredTree table)) whole a.good, subst (λ (l : List Id). CountsUp was now (length l)) whole a.counted)

pub all_asked : (table : Table) (ids : List Id) (was now : ℕ) → AsksAll table ids was now → AsksUpTo table ids [] was now
all_asked table ids was now h = record { front = ids; split = append-nil ids; good = h.0; counted = h.1 }

pub all_then : (table : Table) (ids left : List Id) (was mid now : ℕ) → AsksUpTo table ids left was mid → AsksAll table left mid now → AsksAll table ids was now
all_then table ids left was mid now a h = asks_done table ids was now (asks_then table ids left [] was mid now a (all_asked table left mid now h))

pub asks_one : (table : Table) (id : Id) (ids left : List Id) (was now : ℕ) → ids ≡ id ∷ left → IsStoredTree table id → CountsUp was now 1 → AsksUpTo table ids left was now
asks_one table id ids left was now e good counted = record {
  front = id ∷ [];
  split = sym e;
  good = only;
  counted = counted;
}
  where
    only : All (IsStoredTree table) (id ∷ [])
    only zero d lt = good
    only (suc k) d lt = absurd (omega (arith, lt))

for_then : (table : Table) (ids left : List Id) (was mid now : ℕ) (id : Id) → AsksUpTo table ids left was mid → AsksFor table left mid now id → AsksFor table ids was now id
for_then table ids left was mid now id a b = record {
  front = a.front ++ b.front;
  rest = b.rest;
  split = append_assoc a.front b.front (id ∷ b.rest) ∙ ap (λ l. a.front ++ l) b.split ∙ a.split;
  good = All-append (IsStoredTree table) a.front b.front a.good b.good;
  counted = λ fit.
      let n : length (a.front ++ b.front) ≡ length a.front + length b.front = length-append a.front b.front in
      let one : mid ≡ was + length a.front = a.counted (omega arith) in
      let two : now ≡ mid + suc (length b.front) = b.counted (omega arith) in
      omega arith;
}

some_then : (table : Table) (ids left : List Id) (was mid now : ℕ) → AsksUpTo table ids left was mid → AsksSome left mid now → AsksSome ids was now
some_then table ids left was mid now a b = record {
  front = a.front ++ b.front;
  rest = b.rest;
  split = append_assoc a.front b.front b.rest ∙ ap (λ l. a.front ++ l) b.split ∙ a.split;
  counted = subst (CountsUp was now) (sym (length-append a.front b.front)) (counts_then was mid now (length a.front) (length b.front) a.counted b.counted);
}

-- the cause isn't one of those that are found before a tree is looked up
abbrev pub IsLate : Error → Type 0
IsLate EmptyPathComponent = ⊥
IsLate (FindExistingObject error) = ⊤
IsLate (CannotRemoveNonLeaf filename) = ⊤
IsLate (MalformedTree oid) = ⊤
IsLate EmptyTree = ⊥
IsLate Memory = ⊤

-- if a cause stops an edit after others
pub stops_then : (honest may_fail : Type 0) (table : Table) (ids left : List Id) (was mid now : ℕ) (e : Error) → IsLate e → AsksUpTo table ids left was mid → StopsAt honest may_fail table left mid now e
    → StopsAt honest may_fail table ids was now e
stops_then honest may_fail table ids left was mid now EmptyPathComponent late a h = absurd late
stops_then honest may_fail table ids left was mid now (FindExistingObject error) late a h = (h.0, for_then table ids left was mid now h.0 a h.1, h.2)
stops_then honest may_fail table ids left was mid now (CannotRemoveNonLeaf filename) late a h = all_then table ids left was mid now a h
stops_then honest may_fail table ids left was mid now (MalformedTree oid) late a h = (h.0, for_then table ids left was mid now h.0 a h.1, h.2)
stops_then honest may_fail table ids left was mid now EmptyTree late a h = absurd late
stops_then honest may_fail table ids left was mid now Memory late a h = some_then table ids left was mid now a h

pub late_opening : (honest may_fail : Type 0) (table : Table) (id : Id) (e : Error) → OpeningFault honest may_fail table id e → IsLate e
late_opening honest may_fail table id EmptyPathComponent h = h
late_opening honest may_fail table id (FindExistingObject error) h = tt
late_opening honest may_fail table id (CannotRemoveNonLeaf filename) h = tt
late_opening honest may_fail table id (MalformedTree oid) h = tt
late_opening honest may_fail table id EmptyTree h = h
late_opening honest may_fail table id Memory h = tt

pub late_folder : (honest may_fail : Type 0) (table : Table) (slots : Slots) (at : ℕ) (name : Bytes) (e : Error) → FolderFault honest may_fail table slots at name e → IsLate e
late_folder honest may_fail table slots at name EmptyPathComponent h = h
late_folder honest may_fail table slots at name (FindExistingObject error) h = tt
late_folder honest may_fail table slots at name (CannotRemoveNonLeaf filename) h = tt
late_folder honest may_fail table slots at name (MalformedTree oid) h = tt
late_folder honest may_fail table slots at name EmptyTree h = h
late_folder honest may_fail table slots at name Memory h = tt

-- a tree that isn't opened, for this cause
pub stops_opening : (honest may_fail : Type 0) (table : Table) (id : Id) (ids left : List Id) (was now : ℕ) (e : Error) → ids ≡ id ∷ left → CountsUp was now 1 → OpeningFault honest may_fail table id e
    → StopsAt honest may_fail table ids was now e
stops_opening honest may_fail table id ids left was now EmptyPathComponent split counted h = absurd h
stops_opening honest may_fail table id ids left was now (FindExistingObject error) split counted h =
    (id, record { front = []; rest = left; split = sym split; good = λ k d lt. absurd (omega arith); counted = counted }, h)
stops_opening honest may_fail table id ids left was now (CannotRemoveNonLeaf filename) split counted h = absurd h
stops_opening honest may_fail table id ids left was now (MalformedTree oid) split counted h =
    (id, record { front = []; rest = left; split = sym split; good = λ k d lt. absurd (omega arith); counted = counted }, h)
stops_opening honest may_fail table id ids left was now EmptyTree split counted h = absurd h
stops_opening honest may_fail table id ids left was now Memory split counted h = record { front = id ∷ []; rest = left; split = sym split; counted = counted }

-- ---- what a slot leads into

pub no_slot : (trees : Trees) (slots : Slots) (at : ℕ) (name : Bytes) (rest : Path) → slots at name ≡ None → unopened_into trees slots at (name ∷ rest) ≡ []
no_slot trees slots at name rest none = ap (λ o. ids_from o (slot_into trees slots rest)) none

pub of_slot : (trees : Trees) (slots : Slots) (at : ℕ) (name : Bytes) (rest : Path) (s : Slot) → slots at name ≡ Some s → unopened_into trees slots at (name ∷ rest) ≡ slot_into trees slots rest s
of_slot trees slots at name rest s stood = ap (λ o. ids_from o (slot_into trees slots rest)) stood

opened_by : (trees : Trees) (slots : Slots) (name : Bytes) (rest : Path) (child : Option NodeId) (c : NodeId) (x : List Id) → child ≡ Some c
    → child_or child (λ k. ids_from (slots k name) (slot_into trees slots rest)) x ≡ unopened_into trees slots c.0 (name ∷ rest)
opened_by trees slots name rest child c x e = ap (λ o. child_or o (λ k. ids_from (slots k name) (slot_into trees slots rest)) x) e

pub opened_slot : (trees : Trees) (slots : Slots) (rest : Path) (s : Slot) (c : NodeId) → s.child ≡ Some c → slot_into trees slots rest s ≡ unopened_into trees slots c.0 rest
opened_slot trees slots [] s c e = ap (λ o. child_or o (λ k. []) (trees_into trees [] (leaf_in s))) e
opened_slot trees slots (n ∷ rest) s c e = opened_by trees slots n rest s.child c (trees_into trees (n ∷ rest) (leaf_in s)) e

pub closed_slot : (trees : Trees) (slots : Slots) (rest : Path) (s : Slot) → s.child ≡ None → slot_into trees slots rest s ≡ trees_into trees rest (leaf_in s)
closed_slot trees slots [] s e = ap (λ o. child_or o (λ k. []) (trees_into trees [] (leaf_in s))) e
closed_slot trees slots (n ∷ rest) s e = ap (λ o. child_or o (λ k. ids_from (slots k n) (slot_into trees slots rest)) (trees_into trees (n ∷ rest) (leaf_in s))) e

pub plain_into : (trees : Trees) (rest : Path) (leaf : Leaf) → leads_on leaf ≡ false → trees_into trees rest leaf ≡ []
plain_into trees [] leaf e = ap (λ b. if b then leaf.id ∷ [] else []) e
plain_into trees (n ∷ rest) leaf e = ap (λ b. if b then leaf.id ∷ ids_from (through (trees leaf.id) (named n)) (λ item. trees_into trees rest (leaf_of item)) else []) e

pub isnt_tree : (leaf : Leaf) → (is_tree_value leaf.mode.value ≡ false) ⊎ (is_null leaf.id ≡ true) → leads_on leaf ≡ false
isnt_tree leaf (inl file) = ap (λ b. b && not (is_null leaf.id)) file
isnt_tree leaf (inr null) = ap (λ b. is_tree_value leaf.mode.value && not b) null ∙ no_more (is_tree_value leaf.mode.value)
  where
    no_more : (b : Bool) → (b && false) ≡ false
    no_more true = refl
    no_more false = refl

pub is_tree : (leaf : Leaf) → is_tree_value leaf.mode.value ≡ true → is_null leaf.id ≡ false → leads_on leaf ≡ true
is_tree leaf tree some = ap (λ b. b && not (is_null leaf.id)) tree ∙ ap not some

-- what a tree's slots lead into is what its entries do
module _ (trees : Trees) (new : Slots) where
  one_stands : (rest : Path) (u : Slot) (item : Item) → leaf_in u ≡ leaf_of item → u.child ≡ None → slot_into trees new rest u ≡ trees_into trees rest (leaf_of item)
  one_stands rest u item same none = closed_slot trees new rest u none ∙ ap (trees_into trees rest) same

  stands_into : (rest : Path) (o : Option Slot) (p : Option Item) → StandsFor o p → ids_from p (λ item. trees_into trees rest (leaf_of item)) ≡ ids_from o (slot_into trees new rest)
  stands_into rest None None h = refl
  stands_into rest None (Some item) h = absurd h
  stands_into rest (Some u) None h = absurd h
  stands_into rest (Some u) (Some item) h = sym (one_stands rest u item h.0 h.1)

  -- a tree that is opened leads on as its entry did
  pub tree_opened : (rest : Path) (leaf : Leaf) (c : ℕ) (items : List Item) → leads_on leaf ≡ true → trees leaf.id ≡ Some items → ((m : Bytes) → StandsFor (new c m) (named m items))
      → trees_into trees rest leaf ≡ leaf.id ∷ unopened_into trees new c rest
  tree_opened [] leaf c items folder stored stands = ap (λ b. if b then leaf.id ∷ [] else []) folder
  tree_opened (n ∷ rest) leaf c items folder stored stands =
      ap (λ b. if b then leaf.id ∷ ids_from (through (trees leaf.id) (named n)) (λ item. trees_into trees rest (leaf_of item)) else []) folder
      ∙ ap (λ o. leaf.id ∷ ids_from (through o (named n)) (λ item. trees_into trees rest (leaf_of item))) stored
      ∙ ap (λ l. leaf.id ∷ l) (stands_into rest (new c n) (named n items) (stands n))

-- a tree's entry leads into its tree first
pub tree_first : (trees : Trees) (rest : Path) (leaf : Leaf) → leads_on leaf ≡ true → (left : List Id) × (trees_into trees rest leaf ≡ leaf.id ∷ left)
tree_first trees [] leaf folder = ([], ap (λ b. if b then leaf.id ∷ [] else []) folder)
tree_first trees (n ∷ rest) leaf folder =
    let left = ids_from (through (trees leaf.id) (named n)) (λ item. trees_into trees rest (leaf_of item)) in
    (left, ap (λ b. if b then leaf.id ∷ left else []) folder)

-- ---- names

pub front_pushed : (front : Path) (name : Bytes) → front_of (front ++ name ∷ []) ≡ front
front_pushed [] name = refl
front_pushed (a ∷ []) name = refl
front_pushed (a ∷ b ∷ front) name = ap (λ p. a ∷ p) (front_pushed (b ∷ front) name)

-- names below a cursor
child_into : (trees : Trees) (slots : Slots) (p : Path) (o : Option Slot) (c : ℕ) → child_of o ≡ Some c → ids_from o (slot_into trees slots p) ≡ unopened_into trees slots c p
child_into trees slots p None c e = absurd (cc e)
child_into trees slots p (Some s) c e = by_child p s.child refl e
  where
    by_child : (p : Path) (child : Option NodeId) → s.child ≡ child → child_or child (λ k. Some k) None ≡ Some c → slot_into trees slots p s ≡ unopened_into trees slots c p
    by_child p None is e = absurd (cc e)
    by_child p (Some k) is e = let same : k.0 ≡ c = cc in opened_slot trees slots p s k is ∙ ap (λ n. unopened_into trees slots n p) same

pub way_into : (trees : Trees) (slots : Slots) (way : Path) (at : ℕ) (p : Path) → Way slots way at → unopened_into trees slots 0 (onto way p) ≡ unopened_into trees slots at p
way_into trees slots [] at p w = ap (λ k. unopened_into trees slots k p) w
way_into trees slots (n ∷ way) at p w = way_into trees slots way w.0 (n ∷ p) w.1 ∙ child_into trees slots p (slots w.0 n) at w.2

-- ---- a slot that is looked up

pub folder_split : (trees : Trees) (slots : Slots) (at : ℕ) (name : Bytes) (rest : Path) (s : Slot) → slots at name ≡ Some s → s.child ≡ None → leads_on (leaf_in s) ≡ true
    → (left : List Id) × (unopened_into trees slots at (name ∷ rest) ≡ (leaf_in s).id ∷ left)
folder_split trees slots at name rest s stood closed folder =
    let first = tree_first trees rest (leaf_in s) folder in
    (first.0, of_slot trees slots at name rest s stood ∙ closed_slot trees slots rest s closed ∙ first.1)

pub plain_split : (trees : Trees) (slots : Slots) (at : ℕ) (name : Bytes) (rest : Path) (s : Slot) → slots at name ≡ Some s → s.child ≡ None → leads_on (leaf_in s) ≡ false
    → unopened_into trees slots at (name ∷ rest) ≡ []
plain_split trees slots at name rest s stood closed plain =
    of_slot trees slots at name rest s stood ∙ closed_slot trees slots rest s closed ∙ plain_into trees rest (leaf_in s) plain

pub loaded_split : (trees : Trees) (slots new : Slots) (at : ℕ) (name : Bytes) (rest : Path) (s : Slot) (c : ℕ) (items : List Item) → slots at name ≡ Some s → s.child ≡ None → leads_on (leaf_in s) ≡ true
    → trees (leaf_in s).id ≡ Some items → ((m : Bytes) → StandsFor (new c m) (named m items)) → unopened_into trees slots at (name ∷ rest) ≡ (leaf_in s).id ∷ unopened_into trees new c rest
loaded_split trees slots new at name rest s c items stood closed folder stored stands =
    of_slot trees slots at name rest s stood ∙ closed_slot trees slots rest s closed ∙ tree_opened trees new rest (leaf_in s) c items folder stored stands

pub child_split : (trees : Trees) (slots : Slots) (at : ℕ) (name : Bytes) (rest : Path) (s : Slot) (child : Option NodeId) → slots at name ≡ Some s → s.child ≡ child → child ≢ None
    → unopened_into trees slots at (name ∷ rest) ≡ found_into trees slots child rest
child_split trees slots at name rest s None stood is some = absurd (some refl)
child_split trees slots at name rest s (Some c) stood is some = of_slot trees slots at name rest s stood ∙ opened_slot trees slots rest s c is

-- ---- names that are left

front_next : (path : List (Bor (List ℕ))) (i : ℕ) (d : Bor (List ℕ)) → suc i < length path → front_of (names (drop i path)) ≡ (get_or path i d).now ∷ front_of (names (drop (suc i) path))
front_next [] i d lt = absurd (omega arith)
front_next (p ∷ []) i d lt = absurd (omega arith)
front_next (p ∷ q ∷ path) zero d lt = refl
front_next (p ∷ q ∷ path) (suc i) d lt = let less : suc i < length (q ∷ path) = omega arith in front_next (q ∷ path) i d less

pub front_step : (path : List (Bor (List ℕ))) (i : ℕ) (d : Bor (List ℕ)) (more : Path) → i + 1 < length path
    → front_of (names (drop i path)) ++ more ≡ (get_or path i d).now ∷ (front_of (names (drop (i + 1) path)) ++ more)
front_step path i d more lt =
    let less : suc i < length path = omega arith in
    ap (λ p. p ++ more) (front_next path i d less ∙ ap (λ k. (get_or path i d).now ∷ front_of (names (drop k path))) (sym (add-one i)))

pub front_ends : (path : List (Bor (List ℕ))) (i : ℕ) (more : Path) → i + 1 ≡ length path → front_of (names (drop i path)) ++ more ≡ more
front_ends [] i more e = absurd (omega arith)
front_ends (p ∷ path) i more e = ap (λ q. front_of q ++ more) (last_name (p ∷ path) i p e)

-- the names but the last, and that one
pub front_whole : (path : List (Bor (List ℕ))) (i : ℕ) (d : Bor (List ℕ)) → i + 1 ≡ length path → front_of (names path) ++ (get_or path i d).now ∷ [] ≡ names path
front_whole path i d e =
    let split = last_split path i d e in
    ap (λ p. front_of p ++ (get_or path i d).now ∷ []) split.1 ∙ ap (λ p. p ++ (get_or path i d).now ∷ []) (front_pushed split.0 (get_or path i d).now) ∙ sym split.1

pub last_of : (path : Path) → 0 < length path → (name : Bytes) × (front_of path ++ name ∷ [] ≡ path)
last_of [] some = absurd (omega arith)
last_of (a ∷ []) some = (a, refl)
last_of (a ∷ b ∷ path) some = let rest = last_of (b ∷ path) (omega arith) in (rest.0, ap (λ p. a ∷ p) rest.1)

-- those of a name but the last
pub front_has : (p : Path) (i : ℕ) → suc i < length p → Contains (front_of p) (get_or p i [])
front_has [] i lt = absurd (omega arith)
front_has (a ∷ []) i lt = absurd (omega arith)
front_has (a ∷ b ∷ p) zero lt = Contains-get_or (a ∷ front_of (b ∷ p)) 0 [] (omega arith)
front_has (a ∷ b ∷ p) (suc i) lt =
    let less : suc i < length (b ∷ p) = omega arith in
    let h = front_has (b ∷ p) i less in
    let more : suc h.0 < length (a ∷ front_of (b ∷ p)) = omega (arith, h.1) in
    (suc h.0, more, h.2)

-- ---- one step of a walk

module _ (table : Table) (trees : Trees) (old new : Slots) (at : ℕ) (path : List (Bor (List ℕ))) (i : ℕ) (d : Bor (List ℕ)) (more : Path) (ids : List Id) (was mid now : ℕ) (lt : i + 1 < length path)
    (before : AsksUpTo table ids (unopened_into trees old at (front_of (names (drop i path)) ++ more)) was mid) where
  stepped : AsksUpTo table ids (unopened_into trees old at ((get_or path i d).now ∷ (front_of (names (drop (i + 1) path)) ++ more))) was mid
  stepped = subst (λ (p : Path). AsksUpTo table ids (unopened_into trees old at p) was mid) (front_step path i d more lt) before

  pub walk_step : (o : Option NodeId) (c : NodeId) → o ≡ Some c → ((rest : Path) → AsksUpTo table (unopened_into trees old at ((get_or path i d).now ∷ rest)) (found_into trees new o rest) mid now)
      → AsksUpTo table ids (unopened_into trees new c.0 (front_of (names (drop (i + 1) path)) ++ more)) was now
  walk_step o c is asked =
      let rest = front_of (names (drop (i + 1) path)) ++ more in
      asks_then table ids (unopened_into trees old at ((get_or path i d).now ∷ rest)) (unopened_into trees new c.0 rest) was mid now stepped
      (subst (λ (x : Option NodeId). AsksUpTo table (unopened_into trees old at ((get_or path i d).now ∷ rest)) (found_into trees new x rest) mid now) is (asked rest))

  pub walk_stops : (honest may_fail : Type 0) (id : Id) (e : Error) → OpeningFault honest may_fail table id e
      → ((rest : Path) → StopsAt honest may_fail table (unopened_into trees old at ((get_or path i d).now ∷ rest)) mid now e) → StopsAt honest may_fail table ids was now e
  walk_stops honest may_fail id e fault stops =
      let rest = front_of (names (drop (i + 1) path)) ++ more in
      stops_then honest may_fail table ids (unopened_into trees old at ((get_or path i d).now ∷ rest)) was mid now e (late_opening honest may_fail table id e fault) stepped (stops rest)

-- ---- what was looked up, in the end

pub found_none : (trees : Trees) (slots : Slots) (o : Option NodeId) → found_into trees slots o [] ≡ []
found_none trees slots None = refl
found_none trees slots (Some c) = refl

pub asked_whole : (table : Table) (trees : Trees) (slots : Slots) (o : Option NodeId) (ids : List Id) (was now : ℕ) → AsksUpTo table ids (found_into trees slots o []) was now → AsksAll table ids was now
asked_whole table trees slots o ids was now a = asks_done table ids was now (subst (λ (l : List Id). AsksUpTo table ids l was now) (found_none trees slots o) a)

pub some_all : (table : Table) (ids : List Id) (was now : ℕ) → AsksAll table ids was now → AsksSome ids was now
some_all table ids was now h = record { front = ids; rest = []; split = append-nil ids; counted = h.1 }

-- of one name, whatever follows it
pub asks_below : (honest may_fail : Type 0) (table : Table) (old new : Slots) (at : ℕ) (n m : Bytes) (r : Result (Option NodeId) Error) (was now : ℕ) → n ≡ m
    → AsksTo honest may_fail table (λ trees rest. unopened_into trees old at (n ∷ rest)) (λ found trees. found_into trees new found) was now r
    → Asks honest may_fail table (λ trees. unopened_into trees old at (m ∷ [])) was now r
asks_below honest may_fail table old new at n m (Ok found) was now e h = λ honest_now trees has.
    asked_whole table trees new found (unopened_into trees old at (m ∷ [])) was now (subst (λ (x : Bytes). AsksUpTo table (unopened_into trees old at (x ∷ [])) (found_into trees new found []) was now) e (h honest_now trees has []))
asks_below honest may_fail table old new at n m (Err x) was now e h = λ honest_now trees has.
    subst (λ (y : Bytes). StopsAt honest may_fail table (unopened_into trees old at (y ∷ [])) was now x) e (h honest_now trees has [])

-- ---- whole paths

pub last_whole : (path : List (Bor (List ℕ))) (i : ℕ) → i + 1 ≡ length path → front_of (names path) ++ get_or (names path) i [] ∷ [] ≡ names path
last_whole path i e =
    let less : i < length path = omega arith in
    by_name path i less e
  where
    by_name : (path : List (Bor (List ℕ))) (i : ℕ) → i < length path → i + 1 ≡ length path → front_of (names path) ++ get_or (names path) i [] ∷ [] ≡ names path
    by_name [] i lt e = absurd (omega (arith, lt))
    by_name (p ∷ path) i lt e =
        ap (λ n. front_of (names (p ∷ path)) ++ n ∷ []) (get_or-map (λ (x : Bor (List ℕ)). x.now) (p ∷ path) i p [] lt) ∙ front_whole (p ∷ path) i p e

-- the names but the last that a walk left lead on to nothing
front_left : (trees : Trees) (mid : Slots) (at : ℕ) (path : List (Bor (List ℕ))) (i : ℕ) → i < length path → (i + 1 < length path → (rest : Path) → unopened_into trees mid at (get_or (names path) i [] ∷ rest) ≡ [])
    → unopened_into trees mid at (front_of (names (drop i path)) ++ []) ≡ []
front_left trees mid at path i within none = elim (cases_eq (i + 1) (length path)) [
  | inl e ↦ ap (unopened_into trees mid at) (front_ends path i [] e)
  | inr ne ↦
      let lt : i + 1 < length path = omega (arith, within, ne) in
      let d : Bor (List ℕ) = record { ref_ptr = (0, 0); now = [] } in
      ap (unopened_into trees mid at) (front_step path i d [] lt ∙ ap (λ n. n ∷ (front_of (names (drop (i + 1) path)) ++ [])) (sym (get_or-map (λ (x : Bor (List ℕ)). x.now) path i d [] within)))
      ∙ none lt (front_of (names (drop (i + 1) path)) ++ [])
]

-- with the last, they lead on as the first alone does
last_left : (trees : Trees) (mid : Slots) (at : ℕ) (path : List (Bor (List ℕ))) (i : ℕ) (n : Bytes) → i < length path → (i + 1 < length path → (rest : Path) → unopened_into trees mid at (get_or (names path) i [] ∷ rest) ≡ [])
    → (i + 1 ≡ length path → n ≡ get_or (names path) i []) → unopened_into trees mid at (front_of (names (drop i path)) ++ n ∷ []) ≡ unopened_into trees mid at (get_or (names path) i [] ∷ [])
last_left trees mid at path i n within none last = elim (cases_eq (i + 1) (length path)) [
  | inl e ↦ ap (unopened_into trees mid at) (front_ends path i (n ∷ []) e ∙ ap (λ m. m ∷ []) (last e))
  | inr ne ↦
      let lt : i + 1 < length path = omega (arith, within, ne) in
      let d : Bor (List ℕ) = record { ref_ptr = (0, 0); now = [] } in
      ap (unopened_into trees mid at) (front_step path i d (n ∷ []) lt ∙ ap (λ m. m ∷ (front_of (names (drop (i + 1) path)) ++ n ∷ [])) (sym (get_or-map (λ (x : Bor (List ℕ)). x.now) path i d [] within)))
      ∙ none lt (front_of (names (drop (i + 1) path)) ++ n ∷ []) ∙ sym (none lt [])
]

module _ (table : Table) (trees : Trees) (old mid : Slots) (from at : ℕ) (path : List (Bor (List ℕ))) (i : ℕ) (was between now : ℕ) (within : i < length path)
    (none : i + 1 < length path → (rest : Path) → unopened_into trees mid at (get_or (names path) i [] ∷ rest) ≡ [])
    (asked : (more : Path) → AsksUpTo table (unopened_into trees old from (front_of (names path) ++ more)) (unopened_into trees mid at (front_of (names (drop i path)) ++ more)) was between) where
  -- through a path
  pub through_asked : AsksAll table (unopened_into trees old from (front_of (names path))) was between
  through_asked =
      subst (λ (p : Path). AsksAll table (unopened_into trees old from p) was between) (append-nil (front_of (names path)))
      (asks_done table (unopened_into trees old from (front_of (names path) ++ [])) was between
      (subst (λ l. AsksUpTo table (unopened_into trees old from (front_of (names path) ++ [])) l was between) (front_left trees mid at path i within none) (asked [])))

  -- up to the tree at its end
  asked_last : AsksUpTo table (unopened_into trees old from (names path)) (unopened_into trees mid at (get_or (names path) i [] ∷ [])) was between
  asked_last =
      let end = last_of (names path) (omega (arith, names_length path, within)) in
      let name_is : i + 1 ≡ length path → end.0 ≡ get_or (names path) i [] = λ last. same_last (front_of (names path)) end.0 (get_or (names path) i []) (end.1 ∙ sym (last_whole path i last)) in
      subst (λ (p : Path). AsksUpTo table (unopened_into trees old from p) (unopened_into trees mid at (get_or (names path) i [] ∷ [])) was between) end.1
      (subst (λ l. AsksUpTo table (unopened_into trees old from (front_of (names path) ++ end.0 ∷ [])) l was between) (last_left trees mid at path i end.0 within none name_is) (asked (end.0 ∷ [])))
    where
      same_last : (p : Path) (m n : Bytes) → p ++ m ∷ [] ≡ p ++ n ∷ [] → m ≡ n
      same_last [] m n e = cc e
      same_last (k ∷ p) m n e = same_last p m n (tail_of k (p ++ m ∷ []) (p ++ n ∷ []) e)
        where
          tail_of : (k : Bytes) (x y : Path) → k ∷ x ≡ k ∷ y → x ≡ y
          tail_of k x y h = cc h

  -- and into it
  pub into_asked : (n : Bytes) → n ≡ get_or (names path) i [] → AsksAll table (unopened_into trees mid at (n ∷ [])) between now → AsksAll table (unopened_into trees old from (names path)) was now
  into_asked n is all =
      all_then table (unopened_into trees old from (names path)) (unopened_into trees mid at (get_or (names path) i [] ∷ [])) was between now asked_last
      (subst (λ (m : Bytes). AsksAll table (unopened_into trees mid at (m ∷ [])) between now) is all)

  pub into_stops : (honest may_fail : Type 0) (e : Error) → IsLate e → (n : Bytes) → n ≡ get_or (names path) i []
      → StopsAt honest may_fail table (unopened_into trees mid at (n ∷ [])) between now e → StopsAt honest may_fail table (unopened_into trees old from (names path)) was now e
  into_stops honest may_fail e late n is stops =
      stops_then honest may_fail table (unopened_into trees old from (names path)) (unopened_into trees mid at (get_or (names path) i [] ∷ [])) was between now e late asked_last
      (subst (λ (m : Bytes). StopsAt honest may_fail table (unopened_into trees mid at (m ∷ [])) between now e) is stops)

module _ (honest may_fail : Type 0) (table : Table) (trees : Trees) (old : Slots) (from : ℕ) (path : List (Bor (List ℕ))) (was now : ℕ) (e : Error)
    (stops : (more : Path) → StopsAt honest may_fail table (unopened_into trees old from (front_of (names path) ++ more)) was now e) where
  pub through_stops : StopsAt honest may_fail table (unopened_into trees old from (front_of (names path))) was now e
  through_stops = subst (λ (p : Path). StopsAt honest may_fail table (unopened_into trees old from p) was now e) (append-nil (front_of (names path))) (stops [])

  pub walk_into_stops : 0 < length path → StopsAt honest may_fail table (unopened_into trees old from (names path)) was now e
  walk_into_stops some =
      let end = last_of (names path) (omega (arith, names_length path, some)) in
      subst (λ (p : Path). StopsAt honest may_fail table (unopened_into trees old from p) was now e) end.1 (stops (end.0 ∷ []))

pub some_names : (path : List (Bor (List ℕ))) → names path ≢ [] → 0 < length path
some_names [] some = absurd (some refl)
some_names (p ∷ path) some = omega arith

-- what a path below a cursor leads into
pub asked_below : (slots : Slots) (base : Path) (at : ℕ) (p : Path) → LeadsTo slots base at [] → ◌≡◌ {A = Trees → List Id} (λ trees. unopened_into trees slots at p) (λ trees. unopened_into trees slots 0 (base ++ p))
asked_below slots base at p stands = as_ids (λ trees. sym (way_into trees slots stands.0 at p stands.1) ∙ ap (unopened_into trees slots 0) (below_base stands.0 base p stands.2))
  where
    as_ids : {f g : Trees → List Id} → ((trees : Trees) → f trees ≡ g trees) → f ≡ g
    as_ids h = λ i. λ trees. h trees i

-- Names that are looked up by their bytes, and names that collide.
use Rattle.std.proofs.Common.{◌≡◌, ℕ, ◌+◌, ◌<◌, ◌≤◌, Bool, true, false, cond, not, ◌&&◌, ◌||◌, List, [], ◌∷◌, ◌++◌, map, filter, take, length, get_or, refl, sym, ◌∙◌, ap, subst, bytes_eq, arith}
use Rattle.std.specs.Prelude.{nat_le}
use Rattle.std.specs.Borrow.{Bor}
use Rattle.std.specs.List.{list_any}
use Rattle.std.specs.FinMap.{keys}
use Rattle.std.specs.Ordering.{is_eq, nat_cmp}
use Rattle.std.specs.Cmp.Lexicographic.{slice_cmp}
use Rattle.std.proofs.lemmas.Bool.{not-false, not-true}
use Rattle.std.proofs.lemmas.Bool.Decides.{nat_tests}
use Rattle.std.proofs.lemmas.List.Folds.{list_any-append}
use Rattle.std.proofs.lemmas.Map.Text.{is_eq-slice_cmp}
use Rattle.std.proofs.lemmas.Slice.Eq.{bytes_eq-Decides}
use borrow.Author.Tests.{leb-true}
use Rattle.history_model.specs.Bytes.{Bytes, has_twice}
use Rattle.history_model.specs.Causes.{do_collide, some_collide}
use Rattle.history_model.specs.Commands.{Move, MoveCommand, To}
use Rattle.history_model.specs.FileMap.{is_below}
use Rattle.history_model.specs.Repository.{stands}
use Rattle.history_model.proofs.WholeLists.{In, one_passes, passes_one}
use Rattle.gix_ref_way.specs.Ways.{IsAbove}
use Rattle.gix_ref_way.proofs.FoldersMade.{above_shorter, front_of}
use Rattle.history_plans.specs.Apart.{HaveAll, do_lines_collide, is_made, made_names, names_in, reaches}
use Rattle.history_plans.specs.Moving.{AreLines, bars, line_name}
use Rattle.history_plans.specs.declared.moving.Line.{Line}
use Rattle.history_repository.proofs.WordCauses.{any_map}
use Rattle.history_plans.proofs.Collisions.{above_it, is_below_it}
use Rattle.history_plans.proofs.LineLemmas.{any_filter, line_names, line_stands, name_of, not_there}
use Rattle.history_plans.proofs.NewFolders.{none_pass}
use Rattle.history_model.specs.Repository as plain

-- ---- lists

any_same : {X : Type 0} (p q : X → Bool) (xs : List X) → ((x : X) → p x ≡ q x) → list_any p xs ≡ list_any q xs
any_same p q [] same = refl
any_same p q (x ∷ xs) same = λ i. same x i || any_same p q xs same i

any_or : {X : Type 0} (p q : X → Bool) (xs : List X) → list_any (λ x. p x || q x) xs ≡ (list_any p xs || list_any q xs)
any_or p q [] = refl
any_or {X} p q (x ∷ xs) = ap (λ b. (p x || q x) || b) (any_or p q xs) ∙ four (p x) (q x) (list_any p xs) (list_any q xs)
  where
    four : (a b c d : Bool) → ((a || b) || (c || d)) ≡ ((a || c) || (b || d))
    four true b c d = refl
    four false true true d = refl
    four false true false d = refl
    four false false c d = refl

any_and : {X : Type 0} (b : Bool) (p : X → Bool) (xs : List X) → list_any (λ x. b && p x) xs ≡ (b && list_any p xs)
any_and true p xs = refl
any_and false p [] = refl
any_and false p (x ∷ xs) = any_and false p xs

any_none : {X : Type 0} (xs : List X) → list_any (λ x. false) xs ≡ false
any_none [] = refl
any_none (x ∷ xs) = any_none xs

-- one of these with one of those, or one of those with one of these
exchanged : {X Y : Type 0} (p : X → Y → Bool) (xs : List X) (ys : List Y) → list_any (λ x. list_any (p x) ys) xs ≡ list_any (λ y. list_any (λ x. p x y) xs) ys
exchanged p [] ys = sym (any_none ys)
exchanged p (x ∷ xs) ys = ap (λ b. list_any (p x) ys || b) (exchanged p xs ys) ∙ sym (any_or (p x) (λ y. list_any (λ x. p x y) xs) ys)

and_or : (a b c : Bool) → (a && (b || c)) ≡ ((a && b) || (a && c))
and_or true b c = refl
and_or false b c = refl

bytes_turned : (a b : Bytes) → bytes_eq a b ≡ bytes_eq b a
bytes_turned a b = go (bytes_eq a b) (bytes_eq b a) refl refl
  where
    go : (x y : Bool) → bytes_eq a b ≡ x → bytes_eq b a ≡ y → x ≡ y
    go true true e f = refl
    go false false e f = refl
    go true false e f = sym ((bytes_eq-Decides b a).1 (sym ((bytes_eq-Decides a b).0 e))) ∙ f
    go false true e f = sym e ∙ (bytes_eq-Decides a b).1 (sym ((bytes_eq-Decides b a).0 f))

-- ---- names that are kept

abbrev pub has : List (Bor (List ℕ)) → Bytes → Bool
has kept name = list_any (bytes_eq name) (names_in kept)

pub found_by_bytes : (kept : List (Bor (List ℕ))) (name : Bytes) → list_any (λ k. is_eq (slice_cmp nat_cmp name k.now)) kept ≡ has kept name
found_by_bytes [] name = refl
found_by_bytes (k ∷ kept) name = λ i. is_eq-slice_cmp name k.now i || found_by_bytes kept name i

abbrev pub Puts : List (Bor (List ℕ)) → List (Bor (List ℕ)) → Bor (List ℕ) → Type 0
Puts old new key = (q : Bor (List ℕ)) → list_any (λ k. is_eq (slice_cmp nat_cmp q.now k.now)) new
    ≡ cond (is_eq (slice_cmp nat_cmp key.now q.now)) true (list_any (λ k. is_eq (slice_cmp nat_cmp q.now k.now)) old)

pub one_put : (old new : List (Bor (List ℕ))) (key : Bor (List ℕ)) (added : Bytes) → key.now ≡ added → Puts old new key → (name : Bytes) → has new name ≡ (bytes_eq name added || has old name)
one_put old new key added same puts name =
    sym (found_by_bytes new name) ∙ puts (record { ref_ptr = (0, 0); now = name })
    ∙ either (is_eq (slice_cmp nat_cmp key.now name)) (list_any (λ k. is_eq (slice_cmp nat_cmp name k.now)) old)
    ∙ (λ i. (is_eq-slice_cmp key.now name ∙ ap (λ k. bytes_eq k name) same ∙ bytes_turned added name) i || found_by_bytes old name i)
  where
    either : (a b : Bool) → cond a true b ≡ (a || b)
    either true b = refl
    either false b = refl

-- what a call that puts a name in says of those before it
abbrev pub IsAdded : Bool → List (Bor (List ℕ)) → Bor (List ℕ) → Type 0
IsAdded added kept key = added ≡ not (list_any (λ k. is_eq (slice_cmp nat_cmp key.now k.now)) kept)

pub was_kept : (kept : List (Bor (List ℕ))) (key : Bor (List ℕ)) (name : Bytes) (added : Bool) → key.now ≡ name → IsAdded added kept key → added ≡ false → has kept name ≡ true
was_kept kept key name added same is none =
    ap (has kept) (sym same) ∙ sym (found_by_bytes kept key.now) ∙ not-false (list_any (λ k. is_eq (slice_cmp nat_cmp key.now k.now)) kept) (sym is ∙ none)

pub was_new : (kept : List (Bor (List ℕ))) (key : Bor (List ℕ)) (name : Bytes) (added : Bool) → key.now ≡ name → IsAdded added kept key → added ≡ true → has kept name ≡ false
was_new kept key name added same is one =
    ap (has kept) (sym same) ∙ sym (found_by_bytes kept key.now) ∙ not-true (list_any (λ k. is_eq (slice_cmp nat_cmp key.now k.now)) kept) (sym is ∙ one)

-- ---- two of one name

-- whether one of the names left is kept, or two of them are one
abbrev pub comes_again : List (Bor (List ℕ)) → List Bytes → Bool
comes_again kept names = list_any (has kept) names || has_twice bytes_eq names

pub none_kept : (kept : List (Bor (List ℕ))) (names : List Bytes) → kept ≡ [] → has_twice bytes_eq names ≡ comes_again kept names
none_kept kept names none = sym (ap (λ k. comes_again k names) none ∙ ap (λ b. b || has_twice bytes_eq names) (any_none names))

pub first_kept : (kept : List (Bor (List ℕ))) (name : Bytes) (others : List Bytes) → has kept name ≡ true → comes_again kept (name ∷ others) ≡ true
first_kept kept name others there = ap (λ b. (b || list_any (has kept) others) || has_twice bytes_eq (name ∷ others)) there

pub first_put : (old new : List (Bor (List ℕ))) (name : Bytes) (others : List Bytes) → has old name ≡ false → ((other : Bytes) → has new other ≡ (bytes_eq other name || has old other))
    → comes_again old (name ∷ others) ≡ comes_again new others
first_put old new name others absent put =
    ap (λ b. (b || list_any (has old) others) || has_twice bytes_eq (name ∷ others)) absent
    ∙ turned (list_any (has old) others) (list_any (bytes_eq name) others) (has_twice bytes_eq others)
    ∙ ap (λ b. b || has_twice bytes_eq others) (sym (any_same (has new) (λ other. bytes_eq name other || has old other) others (λ other. put other ∙ ap (λ b. b || has old other) (bytes_turned other name))
    ∙ any_or (bytes_eq name) (has old) others))
  where
    turned : (a b c : Bool) → (a || (b || c)) ≡ ((b || a) || c)
    turned true true c = refl
    turned true false c = refl
    turned false true c = refl
    turned false false c = refl

-- ---- all names

-- those that are kept and those that are left are all
abbrev pub Leaves : List (Bor (List ℕ)) → List Bytes → List Bytes → Type 0
Leaves kept rest all = (name : Bytes) → (has kept name || list_any (bytes_eq name) rest) ≡ list_any (bytes_eq name) all

pub leaves_less : (old new : List (Bor (List ℕ))) (added : Bytes) (rest others all : List Bytes) → rest ≡ added ∷ others → ((name : Bytes) → has new name ≡ (bytes_eq name added || has old name)) → Leaves old rest all → Leaves new others all
leaves_less old new added rest others all cut put so_far name =
    ap (λ b. b || list_any (bytes_eq name) others) (put name)
    ∙ turned (bytes_eq name added) (has old name) (list_any (bytes_eq name) others)
    ∙ ap (λ r. has old name || list_any (bytes_eq name) r) (sym cut) ∙ so_far name
  where
    turned : (a b c : Bool) → ((a || b) || c) ≡ (b || (a || c))
    turned true true c = refl
    turned true false c = refl
    turned false b c = refl

pub made_first : (rest others : List Line) (line : Line) → rest ≡ line ∷ others → is_made line ≡ true → made_names rest ≡ line_name line ∷ made_names others
made_first rest others line cut made = ap made_names cut ∙ ap (λ b. map line_name (cond b (line ∷ filter is_made others) (filter is_made others))) made

-- ---- folders of a name

-- none of those kept ends before this place in the name
abbrev pub NoneBefore : ℕ → Bytes → List (Bor (List ℕ)) → Type 0
NoneBefore end name kept = (place : Bytes) → IsAbove place name → length place < end → has kept place ≡ false

pub one_passed : (end : ℕ) (name : Bytes) (kept : List (Bor (List ℕ))) → NoneBefore end name kept → (get_or name end 0 ≡ 47 → has kept (take end name) ≡ false) → NoneBefore (end + 1) name kept
one_passed end name kept before here place above below = by_test (nat_le end (length place)) refl
  where
    by_test : (b : Bool) → nat_le end (length place) ≡ b → has kept place ≡ false
    by_test true far =
        let at : length place ≡ end = omega (arith, below, leb-true _ _ far) in
        subst (λ p. has kept p ≡ false) (sym ((front_of place name above).0 ∙ ap (λ n. take n name) at)) (here (ap (λ n. get_or name n 0) (sym at) ∙ (front_of place name above).1))
    by_test false near =
        let less : length place < end = grind (arith, nat_tests) in
        before place above less

abbrev folder_in : List (Bor (List ℕ)) → Bytes → Bool
folder_in kept name = list_any (λ folder. is_below folder name) (names_in kept)

pub all_passed : (end : ℕ) (name : Bytes) (kept : List (Bor (List ℕ))) → length name ≤ end → NoneBefore end name kept → folder_in kept name ≡ false
all_passed end name kept far before = none_pass (λ folder. is_below folder name) (names_in kept) (λ folder there. by_test folder there (is_below folder name) refl)
  where
    by_test : (folder : Bytes) → In folder (names_in kept) → (b : Bool) → is_below folder name ≡ b → is_below folder name ≡ false
    by_test folder there false is = is
    by_test folder there true is =
        let above = above_it folder name is in
        let some : has kept folder ≡ true = passes_one (bytes_eq folder) (names_in kept) folder there ((bytes_eq-Decides folder folder).1 refl) in
        let none = before folder above (omega (arith, far, above_shorter folder name above)) in
        absurd (cc (sym some ∙ none))

pub one_found : (place name : Bytes) (kept : List (Bor (List ℕ))) → IsAbove place name → has kept place ≡ true → folder_in kept name ≡ true
one_found place name kept above found =
    let one = one_passes (bytes_eq place) (names_in kept) found in
    passes_one (λ folder. is_below folder name) (names_in kept) one.0 one.1
    (subst (λ p. is_below p name ≡ true) ((bytes_eq-Decides place one.0).0 one.2) (is_below_it place name above))

-- ---- lines that collide

-- of two lists of the same names, one has a name that passes a test if the other has
same_any : (p : Bytes → Bool) (kept names : List Bytes) → HaveAll kept names → list_any p kept ≡ list_any p names
same_any p kept names same = go (list_any p kept) (list_any p names) refl refl
  where
    moves : (xs ys : List Bytes) → ((name : Bytes) → list_any (bytes_eq name) xs ≡ list_any (bytes_eq name) ys) → list_any p xs ≡ true → list_any p ys ≡ true
    moves xs ys alike some =
        let one = one_passes p xs some in
        let there = sym (alike one.0) ∙ passes_one (bytes_eq one.0) xs one.0 one.1 ((bytes_eq-Decides one.0 one.0).1 refl) in
        let other = one_passes (bytes_eq one.0) ys there in
        passes_one p ys other.0 other.1 (ap p (sym ((bytes_eq-Decides one.0 other.0).0 other.2)) ∙ one.2)

    go : (x y : Bool) → list_any p kept ≡ x → list_any p names ≡ y → x ≡ y
    go true true e f = refl
    go false false e f = refl
    go true false e f = sym (moves kept names same e) ∙ f
    go false true e f = sym e ∙ moves names kept (λ name. sym (same name)) f

module _ (lines : List Line) where
  abbrev own_names : List Bytes
  own_names = map line_name lines

  abbrev under : Line → Line → Bool
  under m line = is_below (line_name m) (line_name line)

  abbrev below : Line → Bool
  below line = is_made line && list_any (is_below (line_name line)) own_names

  abbrev over : Line → Bool
  over line = is_made line && list_any (λ folder. is_below folder (line_name line)) own_names

  abbrev beneath : Line → Bool
  beneath line = list_any (λ m. is_made m && under m line) lines

  by_lists : (all made : List Bytes) → HaveAll all own_names → HaveAll made (made_names lines) → (line : Line) → reaches all made line ≡ (beneath line || over line)
  by_lists all made have_all have_made line = λ i.
      (same_any (λ folder. is_below folder (line_name line)) made (made_names lines) have_made
      ∙ any_map (λ folder. is_below folder (line_name line)) line_name (filter is_made lines) ∙ any_filter (λ m. under m line) is_made lines) i
      || (is_made line && same_any (λ folder. is_below folder (line_name line)) all own_names have_all i)

  turned_over : list_any beneath lines ≡ list_any below lines
  turned_over =
      exchanged (λ line m. is_made m && under m line) lines lines
      ∙ any_same (λ m. list_any (λ line. is_made m && under m line) lines) below lines (λ m.
      any_and (is_made m) (under m) lines ∙ ap (λ b. is_made m && b) (sym (any_map (is_below (line_name m)) line_name lines)))

  both_ways : (line : Line) → (below line || over line) ≡ (is_made line && list_any (do_collide (line_name line)) own_names)
  both_ways line =
      sym (and_or (is_made line) (list_any (is_below (line_name line)) own_names) (list_any (λ folder. is_below folder (line_name line)) own_names))
      ∙ ap (λ b. is_made line && b) (sym (any_or (is_below (line_name line)) (λ folder. is_below folder (line_name line)) own_names))

  -- a pair that collides is met at the deeper of its two names
  pub lines_reached : (all made : List Bytes) → HaveAll all own_names → HaveAll made (made_names lines) → list_any (reaches all made) lines ≡ do_lines_collide lines
  lines_reached all made have_all have_made =
      any_same (reaches all made) (λ line. beneath line || over line) lines (by_lists all made have_all have_made)
      ∙ any_or beneath over lines
      ∙ ap (λ b. b || list_any over lines) turned_over
      ∙ sym (any_or below over lines)
      ∙ any_same (λ line. below line || over line) (λ line. is_made line && list_any (do_collide (line_name line)) own_names) lines both_ways

-- ---- the cause

module _ (r : plain.Repository) where
  made_orders : (names : List Bytes) (orders : List To) (lines : List Line) → AreLines r orders lines
      → list_any (λ line. is_made line && list_any (do_collide (line_name line)) names) lines ≡ list_any (λ to. not (stands r to.name) && list_any (do_collide to.name) names) orders
  made_orders names [] [] are = refl
  made_orders names [] (line ∷ lines) are = absurd are
  made_orders names (order ∷ orders) [] are = absurd are
  made_orders names (order ∷ orders) (line ∷ lines) are = λ i.
      ((sym (not_there line.held) ∙ ap not (line_stands r order line are.0)) i && list_any (do_collide ((are.0).name i)) names) || made_orders names orders lines are.1 i

  module _ (sent : MoveCommand) where
    abbrev own : To → Bool
    own to = not (stands r to.name) && list_any (do_collide to.name) (map name_of sent.to)

    turned : (a b : Bool) → (a || b) ≡ (b || a)
    turned true true = refl
    turned true false = refl
    turned false true = refl
    turned false false = refl

    abbrev meets : Bytes → Bool
    meets made = list_any (do_collide made) (keys r.names ++ map name_of sent.to)

    parted : (to : To) → (not (stands r to.name) && meets to.name) ≡ (own to || bars r to)
    parted to =
        ap (λ b. not (stands r to.name) && b) (list_any-append (do_collide to.name) (keys r.names) (map name_of sent.to))
        ∙ and_or (not (stands r to.name)) (list_any (do_collide to.name) (keys r.names)) (list_any (do_collide to.name) (map name_of sent.to))
        ∙ turned (bars r to) (own to)

    -- the names collide among themselves, or one does with those that exist
    pub collide_parts : (lines : List Line) → AreLines r sent.to lines → some_collide r (Move sent) ≡ (do_lines_collide lines || list_any (bars r) sent.to)
    collide_parts lines are =
        any_filter meets (λ name. not (stands r name)) (map name_of sent.to) ∙ any_map (λ name. not (stands r name) && meets name) name_of sent.to
        ∙ any_same (λ to. not (stands r to.name) && meets to.name) (λ to. own to || bars r to) sent.to parted
        ∙ any_or own (bars r) sent.to
        ∙ ap (λ b. b || list_any (bars r) sent.to) (sym (made_orders (map name_of sent.to) sent.to lines are)
        ∙ ap (λ ns. list_any (λ line. is_made line && list_any (do_collide (line_name line)) ns) lines) (sym (line_names r sent.to lines are)))

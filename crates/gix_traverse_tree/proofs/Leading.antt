-- Where names lead, by the numbers of what begins the paths, and how many trees are looked up.
use Rattle.std.proofs.Common.{◌≡◌, ◌≢◌, ◌∙◌, refl, sym, ap, subst, ℕ, zero, suc, ◌<◌, ◌≤◌, ◌⊎◌, inl, inr, Bool, true, false, List, [], ◌∷◌, ◌++◌, length, map, Option, Some, None, arith}
use Rattle.std.specs.Prelude.{option_map, Contains}
use Rattle.std.specs.Bool.{MatchBool}
use Rattle.std.specs.List.{All, AllByRecursion}
use Rattle.std.proofs.lemmas.Bool.{cases_eq}
use Rattle.std.proofs.lemmas.Option.{same_Some}
use Rattle.gix_hash.specs.Id.{Id}
use Rattle.gix_hash.specs.declared.kind.Kind.{Kind}
use Rattle.gix_object_tree.specs.Entry.{Item, SpellsEntries}
use Rattle.gix_object_tree.specs.Order.{is_tree}
use Rattle.gix_object_tree.specs.Reading.{Place}
use Rattle.gix_object_tree.proofs.Spelled.{one_entry}
use Rattle.gix_object_lookup.specs.Path.{Path, FindsFirst, IsNamedBy, IsBelow, Follows}
use Rattle.gix_object_lookup.specs.Table.{Table, Object}
use Rattle.gix_traverse_tree.specs.AtPaths.{Answer, told_of, root_item, LeadsTo, TellsEach, BeginsOne, IsTreeAbove, AreDifferent, AsksFor, AsksForAll}
use Rattle.gix_traverse_tree.specs.Folders.{Numbers, numbers_of, Way, IsNumbered, HaveNumbers}
use Rattle.gix_traverse_tree.specs.Known.{known, item_named, told_at, StepsTo, IsAskedAt, Counted, StepsBelow}
use Rattle.gix_traverse_tree.specs.declared.folders.Folder.{Folder}
use Rattle.gix_traverse_tree.proofs.Numbering.{Name, none_is_some, within, way_one, way_past}

none_behind : (p : Path) → p ++ [] ≡ p
none_behind [] = refl
none_behind (x ∷ p) = ap (λ q. x ∷ q) (none_behind p)

-- ---- numbers on a way

-- the names that lead to a number, the last first
abbrev BackTo : Numbers → Path → ℕ → Type 0
BackTo a [] n = n ≡ 0
BackTo a (name ∷ back) n = (before : ℕ) × (a before name ≡ Some n) × BackTo a back before

abbrev onto : Path → Path → Path
onto [] back = back
onto (name ∷ path) back = onto path (name ∷ back)

onto_twice : (p back t : Path) → onto (onto p back) t ≡ onto back (p ++ t)
onto_twice [] back t = refl
onto_twice (n ∷ p) back t = onto_twice p (n ∷ back) t

back_on : (a : Numbers) (from : ℕ) (path : Path) (end : ℕ) (back : Path) → BackTo a back from → Way a from path end → BackTo a (onto path back) end
back_on a from [] end back so way = subst (BackTo a back) (sym way) so
back_on a from (name ∷ path) end back so (next, step, way) = back_on a next path end (name ∷ back) (from, step, so) way

module _ (folders : List Folder) (numbered : IsNumbered folders) where
  pub way_up : (from : ℕ) (path : Path) (end : ℕ) → Way (numbers_of folders) from path end → from ≤ end
  way_up from [] end way = let e = way in omega arith
  way_up from (name ∷ path) end (next, step, way) =
      let up = (numbered.later from next name step).0 in
      let more = way_up next path end way in
      omega arith

  back_one : (p q : Path) (n : ℕ) → BackTo (numbers_of folders) p n → BackTo (numbers_of folders) q n → p ≡ q
  back_one [] [] n one two = refl
  back_one [] (b ∷ q) n one (before, step, two) = let less = (numbered.later before n b step).0 in let e = one in absurd (omega arith)
  back_one (a ∷ p) [] n (before, step, one) two = let less = (numbered.later before n a step).0 in let e = two in absurd (omega arith)
  back_one (a ∷ p) (b ∷ q) n (before, step, one) (other, too, two) =
      let same = numbered.once before other n a b step too in
      let rest = back_one p q other (subst (BackTo (numbers_of folders) p) same.0 one) two in
      λ i. same.1 i ∷ rest i

  -- one way leads to a number
  pub ways_one : (p q : Path) (n : ℕ) → Way (numbers_of folders) 0 p n → Way (numbers_of folders) 0 q n → p ≡ q
  ways_one p q n one two =
      let same = back_one (onto p []) (onto q []) n (back_on (numbers_of folders) 0 p n [] refl one) (back_on (numbers_of folders) 0 q n [] refl two) in
      sym (none_behind p) ∙ sym (onto_twice p [] []) ∙ ap (λ back. onto back []) same ∙ onto_twice q [] [] ∙ none_behind q

-- ---- one result, if the store returns what the table has

all_head : {A : Type 0} (P : A → Type 0) (x : A) (xs : List A) → All P (x ∷ xs) → P x
all_head P x xs all = all 0 x (omega arith)

all_tail : {A : Type 0} (P : A → Type 0) (x : A) (xs : List A) → All P (x ∷ xs) → All P xs
all_tail P x xs all = λ k d lt. all (suc k) d (omega arith)

not_spelled : (text rest : List ℕ) → [] ≡ text ++ 32 ∷ rest → ⊥
not_spelled [] rest e = cc
not_spelled (x ∷ text) rest e = cc

module _ (ids : Kind) (name : Name) where
  abbrev Lacks : Item → Type 0
  Lacks item = item.name ≡ name → ⊥

  firsts : (content : List ℕ) (front more : List Item) (i j : Item) (rest other : List ℕ) → SpellsEntries ids content (front ++ i ∷ []) rest → All Lacks front → i.name ≡ name
      → SpellsEntries ids content (more ++ j ∷ []) other → All Lacks more → j.name ≡ name → i ≡ j
  firsts content [] [] i j rest other (after, one, _) lacks is (later, two, _) lack too = (one_entry ids content i j after later one two).0
  firsts content [] (m ∷ more) i j rest other (after, one, _) lacks is (later, two, _) lack too =
      let same = (one_entry ids content i m after later one two).0 in
      absurd (all_head Lacks m more lack (ap (λ (x : Item). x.name) (sym same) ∙ is))
  firsts content (f ∷ front) [] i j rest other (after, one, _) lacks is (later, two, _) lack too =
      let same = (one_entry ids content f j after later one two).0 in
      absurd (all_head Lacks f front lacks (ap (λ (x : Item). x.name) same ∙ too))
  firsts content (f ∷ front) (m ∷ more) i j rest other (after, one, spelled) lacks is (later, two, spelled2) lack too =
      let same = (one_entry ids content f m after later one two).1 in
      firsts later front more i j rest other (subst (λ c. SpellsEntries ids c (front ++ i ∷ []) rest) same spelled) (all_tail Lacks f front lacks) is
      spelled2 (all_tail Lacks m more lack) too

  missing : (content : List ℕ) (items more : List Item) (j : Item) (other : List ℕ) → SpellsEntries ids content items [] → All Lacks items
      → SpellsEntries ids content (more ++ j ∷ []) other → j.name ≡ name → ⊥
  missing content [] [] j other end lacks (later, two, _) too = not_spelled two.text _ (sym end ∙ two.spelled)
  missing content [] (m ∷ more) j other end lacks (later, two, _) too = not_spelled two.text _ (sym end ∙ two.spelled)
  missing content (i ∷ items) [] j other (after, one, _) lacks (later, two, _) too =
      let same = (one_entry ids content i j after later one two).0 in
      all_head Lacks i items lacks (ap (λ (x : Item). x.name) same ∙ too)
  missing content (i ∷ items) (m ∷ more) j other (after, one, spelled) lacks (later, two, spelled2) too =
      let same = (one_entry ids content i m after later one two).1 in
      missing later items more j other (subst (λ c. SpellsEntries ids c items []) same spelled) (all_tail Lacks i items lacks) spelled2 too

one_first : (tree : Place) (name : Name) (a b : Option Item) → FindsFirst tree name a → FindsFirst tree name b → a ≡ b
one_first tree name None None one two = refl
one_first tree name None (Some j) (items, spelled, lacks) (more, other, spelled2, lack, too) = absurd (missing tree.kind name tree.input items more j other spelled lacks spelled2 too)
one_first tree name (Some i) None (front, rest, spelled, lacks, is) (items, spelled2, lack) = absurd (missing tree.kind name tree.input items front i rest spelled2 lack spelled is)
one_first tree name (Some i) (Some j) (front, rest, spelled, lacks, is) (more, other, spelled2, lack, too) =
    ap (λ x. Some x) (firsts tree.kind name tree.input front more i j rest other spelled lacks is spelled2 lack too)

module _ (H : Type 0) (table : Table) where
  follows_none : (path : Path) (answer : Option Item) → Follows H table None path answer → answer ≡ None
  follows_none [] answer h = h
  follows_none (name ∷ path) answer h = h

  module _ (h : H) where
    one_tree : (item : Item) (a b : Place) → IsNamedBy H table item a → IsNamedBy H table item b → a ≡ b
    one_tree item a b one two =
        let kind = (one h).0 ∙ sym (two h).0 in
        let input = ap (λ (x : Object). x.content) (same_Some _ _ (sym (one h).1 ∙ (two h).1)) in
        λ i. record { kind = kind i; input = input i }

    one_below : (item : Item) (name : Name) (a b : Option Item) → IsBelow H table item name a → IsBelow H table item name b → a ≡ b
    one_below item name a b one two = go (is_tree item) one two
      where
        go : (t : Bool) → MatchBool t ((tree : Place) × IsNamedBy H table item tree × FindsFirst tree name a) (a ≡ None)
            → MatchBool t ((tree : Place) × IsNamedBy H table item tree × FindsFirst tree name b) (b ≡ None) → a ≡ b
        go true (tree, named, first) (other, too, second) = one_first other name a b (subst (λ p. FindsFirst p name a) (one_tree item tree other named too) first) second
        go false e f = e ∙ sym f

    one_answer : (found : Option Item) (path : Path) (a b : Option Item) → Follows H table found path a → Follows H table found path b → a ≡ b
    one_answer found [] a b one two = one ∙ sym two
    one_answer None (name ∷ path) a b one two = one ∙ sym two
    one_answer (Some item) (name ∷ path) a b (next, below, later) (other, too, more) =
        one_answer other path a b (subst (λ o. Follows H table o path a) (one_below item name next other below too) later) more

  -- ---- by what is known

  one_step : (place next : Option Answer) (name m : Name) (path : Path) (answer : Option Item) → StepsTo H table place m next → Follows H table (option_map (item_named m) next) path answer
      → Follows H table (option_map (item_named name) place) (m ∷ path) answer
  one_step None next name m path answer step later = follows_none path answer (subst (λ o. Follows H table (option_map (item_named m) o) path answer) step later)
  one_step (Some a) next name m path answer step later = (option_map (item_named m) next, step, later)

  module _ (folders : List Folder) (numbered : IsNumbered folders) (found : List (Option Answer)) (below : ℕ) (steps : StepsBelow H table folders found below) where
    follows : (from : ℕ) (path : Path) (end : ℕ) (name : Name) → end ≤ below → Way (numbers_of folders) from path end
        → (last : Name) × Follows H table (told_at name found from) path (told_at last found end)
    follows from [] end name le way = (name, ap (told_at name found) way)
    follows from (m ∷ path) end name le (next, step, way) =
        let up = (numbered.later from next m step).0 in
        let more = way_up folders numbered next path end way in
        let less : from < below = omega arith in
        let later = follows next path end m le way in
        (later.0, one_step (known found from) (known found next) name m path (told_at later.0 found end) (steps from next m less step) later.1)

    module _ (root : Id) (known_root : told_at [] found 0 ≡ Some (root_item root)) where
      leads : (path : Path) (end : ℕ) → end ≤ below → Way (numbers_of folders) 0 path end → (last : Name) × LeadsTo H table root path (told_at last found end)
      leads path end le way =
          let so = follows 0 path end [] le way in
          (so.0, subst (λ o. Follows H table o path (told_at so.0 found end)) known_root so.1)

      module _ (paths : List Path) (used : (i n : ℕ) (name : Name) → numbers_of folders i name ≡ Some n → (front : Path) × Way (numbers_of folders) 0 front i × BeginsOne paths front) where
        -- a tree that is looked up
        pub record Above (n : ℕ) (answer : Answer) : Type 0 where
          pub front : Path
          pub way : Way (numbers_of folders) 0 front n
          pub tree : IsTreeAbove H table root paths front
          pub last : Name
          pub is : tree.item ≡ item_named last answer

        pub above : (n : ℕ) → n ≤ below → (asked : IsAskedAt folders found n) → Above n asked.0
        above n le (answer, is, tree, (name, m, step)) =
            let (front, way, begins) = used n m name step in
            let so = leads front n le way in
            record {
              front = front;
              way = way;
              tree = record {
                begins = begins;
                item = item_named so.0 answer;
                tree = tree;
                leads = subst (λ o. LeadsTo H table root front (option_map (item_named so.0) o)) is so.1;
              };
              last = so.0;
              is = refl;
            }

        abbrev IsOf : ℕ → Path → Type 0
        IsOf k front = (n : ℕ) × (n < k) × Way (numbers_of folders) 0 front n × IsTreeAbove H table root paths front

        abbrev In : Path → List Path → Type 0
        In front [] = ⊥
        In front (other ∷ fronts) = (front ≡ other) ⊎ In front fronts

        record Gathered (k asked : ℕ) : Type 0 where
          fronts : List Path
          count : length fronts ≡ asked
          each : AllByRecursion (IsOf k) fronts
          once : AreDifferent fronts
          whole : (n : ℕ) (front : Path) → n < k → IsAskedAt folders found n → Way (numbers_of folders) 0 front n → In front fronts

        later : (k : ℕ) (fronts : List Path) → AllByRecursion (IsOf k) fronts → AllByRecursion (IsOf (suc k)) fronts
        later k [] each = tt
        later k (front ∷ fronts) ((n, lt, way, tree), each) = ((n, omega arith, way, tree), later k fronts each)

        differs : (k : ℕ) (front : Path) (fronts : List Path) → Way (numbers_of folders) 0 front k → AllByRecursion (IsOf k) fronts → AllByRecursion (λ other. other ≢ front) fronts
        differs k front [] way each = tt
        differs k front (other ∷ fronts) way ((n, lt, its, tree), each) =
            (λ e. (let same = way_one (numbers_of folders) 0 front n k (subst (λ p. Way (numbers_of folders) 0 p n) e its) way in absurd (omega arith)), differs k front fronts way each)

        gather : (k asked : ℕ) → k ≤ suc below → Counted folders found k asked → Gathered k asked
        gather zero asked le e = record { fronts = []; count = sym e; each = tt; once = tt; whole = λ n front lt. absurd (omega arith) }
        gather (suc k) asked le (before, counted, inl (is, here)) =
            let small : k ≤ suc below = omega arith in
            let inside : k ≤ below = omega arith in
            let g = gather k before small counted in
            let a = above k inside here in
            record {
              fronts = a.front ∷ g.fronts;
              count = ap suc g.count ∙ sym is;
              each = ((k, omega arith, a.way, a.tree), later k g.fronts g.each);
              once = (differs k a.front g.fronts a.way g.each, g.once);
              whole = λ n front lt asked way. elim (cases_eq n k) [
                | inl same ↦ inl (ways_one folders numbered front a.front k (subst (Way (numbers_of folders) 0 front) same way) a.way)
                | inr differs ↦ inr (g.whole n front (omega arith) asked way)
              ];
            }
        gather (suc k) asked le (before, counted, inr (is, none)) =
            let small : k ≤ suc below = omega arith in
            let g = gather k before small counted in
            record {
              fronts = g.fronts;
              count = g.count ∙ sym is;
              each = later k g.fronts g.each;
              once = g.once;
              whole = λ n front lt asked way. elim (cases_eq n k) [
                | inl same ↦ absurd (none (subst (IsAskedAt folders found) same asked))
                | inr differs ↦ g.whole n front (omega arith) asked way
              ];
            }

        trees : (k : ℕ) (fronts : List Path) → AllByRecursion (IsOf k) fronts → AllByRecursion (IsTreeAbove H table root paths) fronts
        trees k [] each = tt
        trees k (front ∷ fronts) ((n, lt, way, tree), each) = (tree, trees k fronts each)

        abbrev asks_of : (k asked : ℕ) → Gathered k asked → AsksFor H table root paths asked
        asks_of k asked g = record { fronts = g.fronts; count = g.count; once = g.once; above = trees k g.fronts g.each }

        pub asks : (k asked : ℕ) → k ≤ suc below → Counted folders found k asked → AsksFor H table root paths asked
        asks k asked le counted = asks_of k asked (gather k asked le counted)

        contains : (front : Path) (fronts : List Path) → In front fronts → Contains fronts front
        contains front [] i = absurd i
        contains front (other ∷ fronts) (inl e) = (0, omega arith, sym e)
        contains front (other ∷ fronts) (inr i) = let c = contains front fronts i in let lt = c.1 in (suc c.0, omega arith, c.2)

        begun : (some : List Path) (numbers : List ℕ) → HaveNumbers folders some numbers → (front : Path) → BeginsOne some front
            → (mid next : ℕ) × (name : Name) × Way (numbers_of folders) 0 front mid × (numbers_of folders mid name ≡ Some next)
        begun [] numbers have front h = absurd h
        begun (p ∷ some) [] have front h = absurd have
        begun (p ∷ some) (n ∷ numbers) ((lt, way), have) front (inl (name, rest, whole)) =
            let so = way_past (numbers_of folders) 0 front name rest n (subst (λ q. Way (numbers_of folders) 0 q n) (sym whole) way) in
            (so.0, so.1, name, so.2, so.3)
        begun (p ∷ some) (n ∷ numbers) (has, have) front (inr h) = begun some numbers have front h

        tree_known : (place : Option Answer) (last : Name) (item : Item) → option_map (item_named last) place ≡ Some item → is_tree item ≡ true → (answer : Answer) × (place ≡ Some answer) × (is_tree (item_named [] answer) ≡ true)
        tree_known None last item e tree = none_is_some e
        tree_known (Some answer) last item e tree = (answer, refl, ap is_tree (same_Some _ _ e) ∙ tree)

        pub asks_all : (numbers : List ℕ) → HaveNumbers folders paths numbers → (asked : ℕ) → below ≡ length folders → Counted folders found below asked → AsksForAll H table root paths asked
        asks_all numbers have asked all counted =
            let g = gather below asked (omega arith) counted in
            record {
              asks = asks_of below asked g;
              whole = λ h front tree. contains front g.fronts (member g h front tree);
            }
          where
            member : (g : Gathered below asked) → H → (front : Path) → IsTreeAbove H table root paths front → In front g.fronts
            member g h front tree =
                let (mid, next, name, way, step) = begun paths numbers have front tree.begins in
                let inside = within folders mid next name step in
                let le : mid ≤ below = omega arith in
                let so = leads front mid le way in
                let same = one_answer h (Some (root_item root)) front (told_at so.0 found mid) (Some tree.item) so.1 tree.leads in
                let known_tree = tree_known (known found mid) so.0 tree.item same tree.tree in
                g.whole mid front (omega arith) (known_tree.0, known_tree.1, known_tree.2, (name, next, step)) way

        told_same : (place : Option Answer) (name : Name) → option_map told_of place ≡ option_map (λ (item : Item). (item.mode, item.id)) (option_map (item_named name) place)
        told_same None name = refl
        told_same (Some answer) name = refl

        pub tells : (some : List Path) (numbers : List ℕ) → length folders ≤ below → HaveNumbers folders some numbers → TellsEach H table root some (map (known found) numbers)
        tells [] [] all have = tt
        tells [] (n ∷ numbers) all have = have
        tells (p ∷ some) [] all have = have
        tells (p ∷ some) (n ∷ numbers) all ((lt, way), have) =
            let le : n ≤ below = omega arith in
            let so = leads p n le way in
            ((told_at so.0 found n, so.1, told_same (known found n) so.0), tells some numbers all have)

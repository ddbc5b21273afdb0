-- The trees of all numbers, read one after another.
use Rattle.std.proofs.Common.{◌≡◌, ◌≢◌, ◌∙◌, refl, sym, subst, ℕ, zero, suc, ◌+◌, ◌<◌, ◌≤◌, inl, inr, true, List, [], ◌∷◌, length, get_or, Option, Some, None, arith}
use Rattle.std.specs.Bool.{MatchBool}
use Rattle.std.proofs.lemmas.Bool.{cases_eq}
use Rattle.gix_object_tree.specs.Order.{is_tree}
use Rattle.gix_object_tree.specs.Reading.{Place}
use Rattle.gix_object_lookup.specs.Path.{FindsFirst, IsNamedBy, IsBelow}
use Rattle.gix_object_lookup.specs.Table.{Table}
use Rattle.gix_traverse_tree.specs.AtPaths.{Answer}
use Rattle.gix_traverse_tree.specs.Folders.{number_in, numbers_of, IsNumbered}
use Rattle.gix_traverse_tree.specs.Known.{known, item_named, told_at, AwaitsNames, KeepsOthers, StepsTo, IsAskedFor, CountsAsked, ReadFault, IsAskedAt, Counted, StepsBelow, ReadsBelow, StopsReading}
use Rattle.gix_traverse_tree.specs.declared.error.Error.{Error}
use Rattle.gix_traverse_tree.specs.declared.folders.Folder.{Folder}
use Rattle.gix_traverse_tree.proofs.Numbering.{Name}

-- ---- one tree

module _ (H : Type 0) (table : Table) (folder : Folder) where
  -- the names of a tree that was read
  pub steps_read : (answer : Answer) (place : Option Answer) (tree : Place) (found : List (Option Answer)) → place ≡ Some answer → is_tree (item_named [] answer) ≡ true → IsNamedBy H table (item_named [] answer) tree
      → ((name : Name) (n : ℕ) → number_in folder name ≡ Some n → FindsFirst tree name (told_at name found n))
      → (name : Name) (n : ℕ) → number_in folder name ≡ Some n → StepsTo H table place name (known found n)
  steps_read answer place tree found is of_tree named told name n e =
      let below : IsBelow H table (item_named [] answer) name (told_at name found n) =
      subst (λ b. MatchBool b ((t : Place) × IsNamedBy H table (item_named [] answer) t × FindsFirst t name (told_at name found n)) (told_at name found n ≡ None)) (sym of_tree) (tree, named, told name n e) in
      subst (λ p. StepsTo H table p name (known found n)) (sym is) below

-- ---- all trees

counted_few : (folders : List Folder) (found : List (Option Answer)) (n asked : ℕ) → Counted folders found n asked → asked ≤ n
counted_few folders found zero asked e = omega arith
counted_few folders found (suc n) asked (before, counted, inl (is, here)) = let le = counted_few folders found n before counted in omega arith
counted_few folders found (suc n) asked (before, counted, inr (is, none)) = let le = counted_few folders found n before counted in omega arith

asked_same : (folders : List Folder) (old new : List (Option Answer)) (n : ℕ) → known new n ≡ known old n → IsAskedAt folders old n → IsAskedAt folders new n
asked_same folders old new n same (answer, is, tree, on) = (answer, same ∙ is, tree, on)

counted_same : (folders : List Folder) (old new : List (Option Answer)) (n asked : ℕ) → ((i : ℕ) → i < n → known new i ≡ known old i) → Counted folders old n asked → Counted folders new n asked
counted_same folders old new zero asked same e = e
counted_same folders old new (suc n) asked same (before, counted, inl (is, here)) =
    (before, counted_same folders old new n before (λ i lt. same i (omega arith)) counted, inl (is, asked_same folders old new n (same n (omega arith)) here))
counted_same folders old new (suc n) asked same (before, counted, inr (is, none)) =
    (before, counted_same folders old new n before (λ i lt. same i (omega arith)) counted, inr (is, λ here. none (asked_same folders new old n (sym (same n (omega arith))) here)))

module _ (H M : Type 0) (table : Table) (folders : List Folder) (numbered : IsNumbered folders) where
  -- the number whose tree is read
  module _ (k : ℕ) (folder : Folder) (there : (name : Name) → numbers_of folders k name ≡ number_in folder name) (old : List (Option Answer)) (asked : ℕ) (so : ReadsBelow H table folders old asked k) where
    child : (name : Name) (n : ℕ) → number_in folder name ≡ Some n → numbers_of folders k name ≡ Some n
    child name n e = there name ∙ e

    pub awaits : length old ≡ length folders → AwaitsNames folder old
    awaits len = record {
      within = λ name n e. (let l = (numbered.later k n name (child name n e)).1 in omega arith);
      none = λ name n e. so.none k n name (omega arith) (child name n e);
      once = λ name other n e f. (numbered.once k k n name other (child name n e) (child other n f)).1;
    }

    pub later : (name : Name) (n : ℕ) → number_in folder name ≡ Some n → k < n
    later name n e = (numbered.later k n name (child name n e)).0

    pub few : asked ≤ k
    few = counted_few folders old k asked so.counted

    module _ (new : List (Option Answer)) (keeps : KeepsOthers folder old new) where
      pub not_later : (i : ℕ) → i ≤ k → known new i ≡ known old i
      not_later i le = keeps.others i (λ name e. let lt = later name i e in absurd (omega arith))

      not_child : (i n : ℕ) (name : Name) → i ≢ k → numbers_of folders i name ≡ Some n → known new n ≡ known old n
      not_child i n name ne e = keeps.others n (λ other f. ne (numbered.once i k n name other e (child other n f)).0)

      steps_same : StepsBelow H table folders new k
      steps_same i n name lt e =
          let le : i ≤ k = omega arith in
          let ne : i ≢ k = λ same. absurd (omega arith) in
          subst (λ p. StepsTo H table p name (known new n)) (sym (not_later i le))
          (subst (StepsTo H table (known old i) name) (sym (not_child i n name ne e)) (so.steps i n name lt e))

      to_asked : (place : Option Answer) → known old k ≡ place → IsAskedFor folder place → IsAskedAt folders new k
      to_asked None is h = absurd h
      to_asked (Some answer) is (tree, (name, n, e)) = (answer, not_later k (omega arith) ∙ is, tree, (name, n, child name n e))

      from_asked : IsAskedAt folders new k → IsAskedFor folder (known old k)
      from_asked (answer, is, tree, (name, n, e)) = subst (IsAskedFor folder) (sym (sym (not_later k (omega arith)) ∙ is)) (tree, (name, n, sym (there name) ∙ e))

      counts : (now : ℕ) → CountsAsked folder (known old k) asked now → Counted folders new (suc k) now
      counts now (inl (is, here)) = (asked, counted_same folders old new k asked (λ i lt. not_later i (omega arith)) so.counted, inl (is, to_asked (known old k) refl here))
      counts now (inr (is, none)) = (asked, counted_same folders old new k asked (λ i lt. not_later i (omega arith)) so.counted, inr (is, λ here. none (from_asked here)))

      pub reads_more : (now : ℕ) → CountsAsked folder (known old k) asked now → ((name : Name) (n : ℕ) → number_in folder name ≡ Some n → StepsTo H table (known new k) name (known new n))
          → ReadsBelow H table folders new now (k + 1)
      reads_more now counted told =
          let next : suc k ≡ k + 1 = omega arith in
          record {
            steps = λ i n name lt e. elim (cases_eq i k) [
              | inl same ↦
                  let at : numbers_of folders k name ≡ Some n = subst (λ j. numbers_of folders j name ≡ Some n) same e in
                  subst (λ j. StepsTo H table (known new j) name (known new n)) (sym same) (told name n (sym (there name) ∙ at))
              | inr differs ↦ steps_same i n name (omega arith) e
            ];
            none = λ i n name le e.
                let ne : i ≢ k = λ same. absurd (omega arith) in
                not_child i n name ne e ∙ so.none i n name (omega arith) e;
            counted = subst (λ m. Counted folders new m now) next (counts now counted);
          }

      pub stops : (now : ℕ) (error : Error) → CountsAsked folder (known old k) asked now → ReadFault H M table folder (known old k) error → StopsReading H M table folders new now error
      stops now error counted fault = record {
        number = k;
        steps = steps_same;
        counted = counts now counted;
        folder = folder;
        there = there;
        fault = subst (λ p. ReadFault H M table folder p error) (sym (not_later k (omega arith))) fault;
      }

-- ---- one place

pub known_at : (found : List (Option Answer)) (n : ℕ) (d : Option Answer) → n < length found → known found n ≡ get_or found n d
known_at [] n d lt = absurd (omega arith)
known_at (x ∷ found) zero d lt = refl
known_at (x ∷ found) (suc n) d lt = let less : n < length found = omega arith in known_at found n d less

-- Which names are in the way of another, packed or not.
use Rattle.std.proofs.Common.{◌≡◌, ◌⊎◌, inl, inr, refl, sym, ◌∙◌, ap, subst, ℕ, ◌+◌, ◌<◌, ◌≤◌, Bool, true, false, cond, List, [], ◌∷◌, map, length, take, get_or, ◌==◌, Option, Some, None, is_some, not, arith}
use Rattle.std.specs.Prelude.{Result, Ok, Err, IfOk, IsSome, nat_le}
use Rattle.std.specs.FinMap.{get, find, get-entries}
use Rattle.std.proofs.lemmas.Bool.Decides.{nat_tests}
use Rattle.std.proofs.lemmas.Bool.{eqb-true}
use borrow.Author.Tests.{leb-true}
use Rattle.gix_ref_file.specs.declared.files.FileError.{FileError}
use Rattle.gix_ref_file.specs.Tree.{Tree}
use Rattle.gix_ref_file.proofs.Trees.{same_path_itself}
use Rattle.gix_hash.specs.Id.{Id, id_of}
use Rattle.gix_hash.specs.declared.kind.Kind.{Kind}
use Rattle.gix_hash.specs.declared.object_id.ObjectId.{ObjectId}
use Rattle.history_model.specs.Bytes.{Bytes, by_bytes}
use Rattle.history_model.specs.FileMap.{is_below}
use Rattle.history_model.proofs.WholePaths.{below_front, below_parts}
use Rattle.gix_ref_way.specs.Ways.{IsAbove}
use Rattle.history_store.specs.AllNames.{ListsAll, TellsHeldAbove, TellsHeldBelow, TellsMeeting, id_below, name_entry}
use Rattle.history_store.specs.Packing.{NameReads, id_read}
use Rattle.history_store.specs.declared.listed.NamedId.{NamedId}
use Rattle.gix_ref_way.proofs.FoldersMade.{above_shorter, front_of}

-- ---- above

-- no folder of the name that ends before this place in it reads as an id
abbrev pub NoneBefore : ℕ → Kind → Bytes → Tree → Type 0
NoneBefore end kind name tree = (other : Bytes) → IsAbove other name → length other < end → id_read kind tree other ≡ None

pub one_passed : (end : ℕ) (kind : Kind) (name : Bytes) (tree : Tree) → NoneBefore end kind name tree → (get_or name end 0 ≡ 47 → id_read kind tree (take end name) ≡ None) → NoneBefore (end + 1) kind name tree
one_passed end kind name tree before here other above below = by_test (nat_le end (length other)) refl
  where
    by_test : (b : Bool) → nat_le end (length other) ≡ b → id_read kind tree other ≡ None
    by_test true far =
        let at : length other ≡ end = omega (arith, below, leb-true _ _ far) in
        subst (λ p. id_read kind tree p ≡ None) (sym ((front_of other name above).0 ∙ ap (λ n. take n name) at)) (here (ap (λ n. get_or name n 0) (sym at) ∙ (front_of other name above).1))
    by_test false near =
        let less : length other < end = grind (arith, nat_tests) in
        before other above less

pub all_passed : (end : ℕ) (kind : Kind) (name : Bytes) (tree : Tree) → length name ≤ end → NoneBefore end kind name tree → TellsHeldAbove kind name tree false
all_passed end kind name tree far before other above = before other above (omega (arith, far, above_shorter other name above))

-- what was found of a name
pub some_reads : (kind : Kind) (tree : Tree) (name : Bytes) (found : Option ObjectId) → NameReads kind tree name found → is_some found ≡ true → IsSome (id_read kind tree name)
some_reads kind tree name (Some id) reads some = ap is_some (sym reads)
some_reads kind tree name None reads some = cc

pub none_reads : (kind : Kind) (tree : Tree) (name : Bytes) (found : Option ObjectId) → NameReads kind tree name found → is_some found ≡ false → id_read kind tree name ≡ None
none_reads kind tree name None reads none = sym reads
none_reads kind tree name (Some id) reads none = cc

-- ---- below

module _ (kind : Kind) (tree : Tree) (name : Bytes) where
  below_told : (other : Bytes) → IsAbove name other → id_below kind tree name other ≡ id_read kind tree other
  below_told other (rest, is) = ap (λ b. cond b (id_read kind tree other) None) (ap (is_below name) is ∙ below_front name rest)

  told_below : (other : Bytes) (id : Id) → id_below kind tree name other ≡ Some id → IsAbove name other × IsSome (id_read kind tree other)
  told_below other id holds = by_test (is_below name other) refl holds
    where
      by_test : (b : Bool) → is_below name other ≡ b → cond b (id_read kind tree other) None ≡ Some id → IsAbove name other × IsSome (id_read kind tree other)
      by_test true e holds = ((_, below_parts name other e), ap is_some holds)
      by_test false e holds = cc

  none_listed : ListsAll kind tree name [] → TellsHeldBelow kind name tree false
  none_listed lists other above = sym (below_told other above) ∙ sym (lists.each other) ∙ get-entries lists.ids other ∙ ap (find by_bytes other) (sym lists.are)

  one_listed : (first : NamedId) (rest : List NamedId) → ListsAll kind tree name (first ∷ rest) → TellsHeldBelow kind name tree true
  one_listed first rest lists =
      let key = first.name.items in
      let id = id_of first.id in
      let at : get lists.ids key ≡ Some id = get-entries lists.ids key ∙ ap (find by_bytes key) (sym lists.are) ∙ ap (λ b. cond b (Some id) (find by_bytes key (map name_entry rest))) (same_path_itself key) in
      let below = told_below key id (sym (lists.each key) ∙ at) in
      (key, below.0, below.1)

  -- whether names are listed says whether one is below
  pub listed_tells : (names : List NamedId) (found : Bool) → ListsAll kind tree name names → found ≡ not (length names == 0) → TellsHeldBelow kind name tree found
  listed_tells [] found lists is = subst (TellsHeldBelow kind name tree) (sym is) (none_listed lists)
  listed_tells (first ∷ rest) true lists is = one_listed first rest lists
  listed_tells (first ∷ rest) false lists is = absurd (omega (arith, eqb-true (length (first ∷ rest)) 0 (flip (length (first ∷ rest) == 0) is)))
    where
      flip : (b : Bool) → false ≡ not b → b ≡ true
      flip true e = refl
      flip false e = cc

-- ---- all of it

module _ (kind : Kind) (name : Bytes) (tree : Tree) where
  pub above_meets : TellsHeldAbove kind name tree true → TellsMeeting kind name tree true
  above_meets (other, above, reads) = (other, inl above, reads)

  pub meeting_told : (result : Result Bool FileError) → TellsHeldAbove kind name tree false → IfOk result (λ found. TellsHeldBelow kind name tree found) → IfOk result (λ found. TellsMeeting kind name tree found)
  meeting_told (Ok true) above (other, below, reads) = (other, inr below, reads)
  meeting_told (Ok false) above below = all
    where
      all : (other : Bytes) → IsAbove other name ⊎ IsAbove name other → id_read kind tree other ≡ None
      all other (inl over) = above other over
      all other (inr under) = below other under
  meeting_told (Err error) above below = below

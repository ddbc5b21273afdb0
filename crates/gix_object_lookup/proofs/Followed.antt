-- A path that is followed name by name.
use Rattle.std.proofs.Common.{◌≡◌, ◌∙◌, ap, refl, sym, subst, ℕ, suc, ◌+◌, ◌<◌, Bor, List, [], ◌∷◌, ◌++◌, length, map, get_or, drop, Option, Some, None, arith, append_assoc, inl}
use Rattle.std.specs.Prelude.{IsTrue}
use Rattle.std.specs.Bool.{MatchBool}
use Rattle.std.proofs.Math.Seq.{drop-cons}
use Rattle.gix_hash.specs.Id.{Id}
use Rattle.gix_object_lines.specs.declared.kind.Kind.TheVariants as kinds
use Rattle.gix_object_tree.specs.Entry.{Item}
use Rattle.gix_object_lookup.specs.Existing.{Stands}
use Rattle.gix_object_tree.specs.Order.{is_tree}
use Rattle.gix_object_tree.specs.Reading.{Place, start}
use Rattle.gix_object_lookup.specs.Path.{Path, FindsFirst, NameFault, IsNamedBy, IsBelow, Follows, BelowFault, PathFault}
use Rattle.gix_object_lookup.specs.Table.{Table}
use Rattle.gix_object_lookup.specs.declared.lookup.Error.{Error}
use Rattle.gix_object_lookup.specs.declared.lookup.Error.TheVariants.{Find, Decode, Memory}

abbrev pub texts : List (Bor (List ℕ)) → Path
texts path = map {A = Bor (List ℕ)} {B = List ℕ} (λ name. name.now) path

first_name : (path : List (Bor (List ℕ))) (at : ℕ) (d : Bor (List ℕ)) → at < length path
    → texts (drop at path) ≡ (get_or path at d).now ∷ texts (drop (at + 1) path)
first_name path at d within =
    let next : suc at ≡ at + 1 = omega arith in
    ap texts (drop-cons path at d within ∙ ap (λ n. get_or path at d ∷ drop n path) next)

module _ (honest : Type 0) (table : Table) where
  pub none_follows : (path : Path) → Follows honest table None path None
  none_follows [] = refl
  none_follows (name ∷ path) = refl

  -- from where the first names lead, on by the others
  pub follows_on : (found : Option Item) (front rest : Path) (item : Item) (answer : Option Item)
      → Follows honest table found front (Some item) → Follows honest table (Some item) rest answer
      → Follows honest table found (front ++ rest) answer
  follows_on found [] rest item answer first then =
      subst (λ o. Follows honest table o rest answer) first then
  follows_on None (name ∷ front) rest item answer first then = absurd (cc first)
  follows_on (Some start) (name ∷ front) rest item answer first then =
      (first.0, first.1, follows_on first.0 front rest item answer first.2 then)

  -- a walk from an entry along a path: the names before this one lead to an entry
  pub record IsAlong (start : Item) (path : List (Bor (List ℕ))) (at : ℕ) (item : Item) : Type 0 where
    pub front : Path
    pub split : front ++ texts (drop at path) ≡ texts path
    pub leads : Follows honest table (Some start) front (Some item)

  module _ (start : Item) (path : List (Bor (List ℕ))) (at : ℕ) (item : Item) (d : Bor (List ℕ))
      (within : at < length path) (along : IsAlong start path at item) where
    pub named_next : along.front ++ (get_or path at d).now ∷ texts (drop (at + 1) path) ≡ texts path
    named_next = ap (λ rest. along.front ++ rest) (sym (first_name path at d within)) ∙ along.split

    -- one name further
    pub along_more : (next : Item) → IsBelow honest table item (get_or path at d).now (Some next)
        → IsAlong start path (at + 1) next
    along_more next below = record {
      front = along.front ++ (get_or path at d).now ∷ [];
      split = append_assoc along.front ((get_or path at d).now ∷ []) (texts (drop (at + 1) path)) ∙ named_next;
      leads = follows_on (Some start) along.front ((get_or path at d).now ∷ []) item (Some next)
          along.leads (Some next, below, refl);
    }

    -- the next name isn't there
    pub along_none : IsBelow honest table item (get_or path at d).now None
        → Follows honest table (Some start) (texts path) None
    along_none below =
        subst (λ names. Follows honest table (Some start) names None) named_next
        (follows_on (Some start) along.front ((get_or path at d).now ∷ texts (drop (at + 1) path)) item None
        along.leads (None, below, none_follows (texts (drop (at + 1) path))))

  -- all names lead to the entry
  pub along_all : (start : Item) (path : List (Bor (List ℕ))) (at : ℕ) (item : Item)
      → texts (drop at path) ≡ [] → IsAlong start path at item
      → Follows honest table (Some start) (texts path) (Some item)
  along_all start path at item end along =
      subst (λ names. Follows honest table (Some start) names (Some item)) along.split
      (follows_on (Some start) along.front (texts (drop at path)) item (Some item) along.leads
      (subst (λ names. Follows honest table (Some item) names (Some item)) (sym end) refl))

  -- a reader of the content that is stored under an entry's id
  pub named_by : (item : Item) (tree : Place) (id : Id) → id ≡ item.id
      → (honest → (content : List ℕ) × Stands table id kinds.Tree content × (tree ≡ start id.kind content))
      → IsNamedBy honest table item tree
  named_by item tree id same reads says =
      let found = reads says in (
        ap (λ (p : Place). p.kind) found.2 ∙ ap (λ (i : Id). i.kind) same,
        subst (λ i. Stands table i kinds.Tree tree.input) same (subst (Stands table id kinds.Tree) (ap (λ (p : Place). p.input) (sym found.2)) found.1),
      )

  -- a name that was sought in the tree that an entry names
  pub below_here : (item : Item) (name : List ℕ) (tree : Place) (found : Option Item) → IsTrue (is_tree item)
      → IsNamedBy honest table item tree → FindsFirst tree name found → IsBelow honest table item name found
  below_here item name tree found is named first =
      subst (λ b. MatchBool b ((t : Place) × IsNamedBy honest table item t × FindsFirst t name found) (found ≡ None)) (sym is) (tree, named, first)

-- ---- why none is returned

module _ (honest may_fail : Type 0) (table : Table) where
  pub below_fault : (item : Item) (name : List ℕ) (tree : Place) (error : Error) → IsTrue (is_tree item)
      → IsNamedBy honest table item tree → NameFault tree name error
      → BelowFault honest may_fail table item name error
  below_fault item name tree (Find error) is named h = absurd h
  below_fault item name tree (Decode cause) is named h = (is, (tree, named, h))
  below_fault item name tree Memory is named h = tt

  pub memory_fault : (tree : Place) (path : Path) → PathFault honest may_fail table tree path Memory
  memory_fault tree [] = refl
  memory_fault tree (name ∷ path) = inl tt

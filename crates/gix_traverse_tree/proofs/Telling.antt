-- The names of a folder, recorded from the entries of its tree.
use Rattle.std.proofs.Common.{◌≡◌, ◌∙◌, refl, sym, ap, subst, ℕ, ◌<◌, inl, inr, true, false, cond, List, [], ◌∷◌, ◌++◌, length, Option, Some, None, Ok, Err, bytes_eq}
use Rattle.std.specs.Prelude.{option_map}
use Rattle.std.proofs.lemmas.List.Elements.{All-push, All-nil}
use Rattle.gix_hash.specs.declared.kind.Kind.{Kind}
use Rattle.gix_object_lines.specs.declared.decode.Error as decode
use Rattle.gix_object_tree.specs.Entry.{Item, item_of, SpellsEntry, SpellsNoEntry, SpellsEntries, SpellsTree, EntryFault}
use Rattle.gix_object_tree.specs.Reading.{Place, start, Steps}
use Rattle.gix_object_tree.specs.declared.tree.entry.EntryRef.{EntryRef}
use Rattle.gix_object_tree.proofs.Spelled.{entries_more}
use Rattle.gix_object_lookup.specs.Path.{FindsFirst, LackName}
use Rattle.gix_traverse_tree.specs.AtPaths.{Answer, IsUnread}
use Rattle.gix_traverse_tree.specs.Folders.{number_in}
use Rattle.gix_traverse_tree.specs.Known.{known, item_named, told_at, named, else_this, AwaitsNames, KeepsOthers}
use Rattle.gix_traverse_tree.specs.declared.folders.Folder.{Folder}
use Rattle.gix_traverse_tree.proofs.Numbering.{Name, name_cases}

-- ---- the first entry of a name

named_last : (name : Name) (items : List Item) (item : Item) → bytes_eq name item.name ≡ true → named name (items ++ item ∷ []) ≡ else_this (named name items) item
named_last name [] item t = ap (λ b. cond b (Some item) None) t
named_last name (i ∷ items) item t = elim (name_cases name i.name) [
  | inl is ↦
      ap (λ b. cond b (Some i) (named name (items ++ item ∷ []))) is.1
      ∙ sym (ap (λ b. else_this (cond b (Some i) (named name items)) item) is.1)
  | inr isnt ↦
      ap (λ b. cond b (Some i) (named name (items ++ item ∷ []))) isnt.1 ∙ named_last name items item t
      ∙ sym (ap (λ b. else_this (cond b (Some i) (named name items)) item) isnt.1)
]

named_not_last : (name : Name) (items : List Item) (item : Item) → bytes_eq name item.name ≡ false → named name (items ++ item ∷ []) ≡ named name items
named_not_last name [] item f = ap (λ b. cond b (Some item) None) f
named_not_last name (i ∷ items) item f = ap (λ o. cond (bytes_eq name i.name) (Some i) o) (named_not_last name items item f)

-- it is found among entries that a content spells
finds : (ids : Kind) (content mid : List ℕ) (name : Name) (front items : List Item) → LackName name front → SpellsEntries ids content front mid → SpellsEntries ids mid items []
    → FindsFirst (start ids content) name (named name items)
finds ids content mid name front [] lacks spelled rest = (front, subst (SpellsEntries ids content front) rest spelled, lacks)
finds ids content mid name front (item ∷ items) lacks spelled (after, first, rest) = elim (name_cases name item.name) [
  | inl is ↦
      subst (FindsFirst (start ids content) name) (sym (ap (λ b. cond b (Some item) (named name items)) is.1))
      (front, after, entries_more ids content front mid item after spelled first, lacks, sym is.0)
  | inr isnt ↦
      subst (FindsFirst (start ids content) name) (sym (ap (λ b. cond b (Some item) (named name items)) isnt.1))
      (finds ids content after name (front ++ item ∷ []) items (All-push (λ (i : Item). i.name ≡ name → ⊥) front item lacks (λ e. isnt.0 (sym e))) (entries_more ids content front mid item after spelled first) rest)
]

pub finds_named : (ids : Kind) (content : List ℕ) (name : Name) (items : List Item) → SpellsTree ids content items → FindsFirst (start ids content) name (named name items)
finds_named ids content name items spelled = finds ids content content name [] items (All-nil (λ (i : Item). i.name ≡ name → ⊥)) refl spelled

-- ---- a whole tree

-- what is recorded of the entries before the place
pub record Told (from now : Place) (folder : Folder) (old new : List (Option Answer)) : Type 0 where
  pub items : List Item
  pub kind : now.kind ≡ from.kind
  pub spelled : SpellsEntries from.kind from.input items now.input
  pub told : (name : Name) (n : ℕ) → number_in folder name ≡ Some n → told_at name new n ≡ named name items
  pub keeps : KeepsOthers folder old new

module _ (from : Place) (folder : Folder) (old : List (Option Answer)) (awaits : AwaitsNames folder old) where
  pub told_start : Told from from folder old old
  told_start = record {
    items = [];
    kind = refl;
    spelled = refl;
    told = λ name n e. ap (option_map (item_named name)) (awaits.none name n e);
    keeps = record { len = refl; others = λ n none. refl };
  }

  pub told_inside : (now : Place) (new : List (Option Answer)) → Told from now folder old new → (name : Name) (n : ℕ) → number_in folder name ≡ Some n → n < length new
  told_inside now new so name n e = subst (λ k. n < k) (sym so.keeps.len) (awaits.within name n e)

  pub told_more : (now next : Place) (entry : EntryRef) (mid new : List (Option Answer)) → Told from now folder old mid → Steps now (Some (Ok entry)) next
      → ((n : ℕ) → number_in folder (item_of entry).name ≡ Some n → told_at (item_of entry).name new n ≡ else_this (told_at (item_of entry).name mid n) (item_of entry))
      → ((n : ℕ) → (number_in folder (item_of entry).name ≡ Some n → ⊥) → known new n ≡ known mid n)
      → length new ≡ length mid → Told from next folder old new
  told_more now next entry mid new so steps here others len = record {
    items = so.items ++ item ∷ [];
    kind = steps.0 ∙ so.kind;
    spelled = entries_more from.kind from.input so.items now.input item next.input so.spelled (subst (λ k. SpellsEntry k now.input item next.input) so.kind steps.1);
    told = told;
    keeps = record {
      len = len ∙ so.keeps.len;
      others = λ n none. others n (none item.name) ∙ so.keeps.others n none;
    };
  }
    where
      item : Item
      item = item_of entry

      told : (name : Name) (n : ℕ) → number_in folder name ≡ Some n → told_at name new n ≡ named name (so.items ++ item ∷ [])
      told name n e = elim (name_cases name item.name) [
        | inl is ↦
            let at : number_in folder item.name ≡ Some n = ap (number_in folder) (sym is.0) ∙ e in
            ap (λ m. told_at m new n) is.0 ∙ here n at
            ∙ ap (λ m. else_this (told_at m mid n) item) (sym is.0)
            ∙ ap (λ o. else_this o item) (so.told name n e) ∙ sym (named_last name so.items item is.1)
        | inr isnt ↦
            ap (option_map (item_named name)) (others n (λ k. isnt.0 (awaits.once name item.name n e k)))
            ∙ so.told name n e ∙ sym (named_not_last name so.items item isnt.1)
      ]

  pub told_all : (now : Place) (new : List (Option Answer)) → now.input ≡ [] → Told from now folder old new
      → (name : Name) (n : ℕ) → number_in folder name ≡ Some n → FindsFirst from name (told_at name new n)
  told_all now new end so name n e =
      subst (FindsFirst from name) (sym (so.told name n e))
      (finds_named from.kind from.input name so.items (subst (SpellsEntries from.kind from.input so.items) end so.spelled))

  pub told_unread : (now next : Place) (error : decode.Error) (new : List (Option Answer)) → Told from now folder old new → Steps now (Some (Err error)) next → IsUnread from error
  told_unread now next error new so steps = (
    record {
      items = so.items;
      rest = now.input;
      spelled = so.spelled;
      left = subst (λ k. SpellsNoEntry k now.input) so.kind steps.1;
      fault = subst (λ k. EntryFault k now.input error) so.kind steps.2;
    },
    steps.0,
  )

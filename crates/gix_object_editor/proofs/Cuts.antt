-- A slot that is taken out for an entry with the null id.
use Rattle.std.proofs.Common.{ℕ, suc, zero, ◌≡◌, ◌≢◌, ◌<◌, ◌≤◌, ◌⊎◌, inl, inr, Bool, true, false, List, [], ◌∷◌, Option, Some, None, refl, sym, ap, subst, ◌∙◌, arith, length, drop, if◌then◌else◌}
use Rattle.std.specs.List.{Contains}
use Rattle.std.proofs.lemmas.Bool.{cases_lt}
use Rattle.gix_hash.specs.Id.{id_of, null_id}
use Rattle.gix_hash.specs.OrderLaws.{id_equivalence}
use Rattle.gix_hash.specs.declared.kind.Kind.{Kind}
use Rattle.std.specs.Prelude.{is_some}
use Rattle.std.specs.Borrow.{Bor}
use Rattle.gix_object_lookup.specs.Table.{Table}
use Rattle.gix_object_nodes.specs.declared.node.Slot.{Slot}
use Rattle.gix_object_nodes.specs.Files.{Bytes, Path, Leaf, Trees, is_null, through, behind, put, put_at, cleared}
use Rattle.gix_object_editor.specs.Stored.{HasStored, IsOpened}
use Rattle.gix_object_nodes.specs.Nodes.{Slots, child_of, leaf_in, files_of_slot, files_of_node, Way, onto, LeadsTo, AreNull, IsForest, IsFolderAt}
use Rattle.gix_object_nodes.specs.Marks.{Mark, Marks, AreAsRead}
use Rattle.gix_object_editor.specs.Entries.{made_leaf}
use Rattle.gix_object_editor.proofs.Filled.{null_none}
use Rattle.gix_object_editor.proofs.Opening.{at_or_off, same_through}
use Rattle.gix_object_editor.proofs.Walked.{names}
use Rattle.gix_object_editor.proofs.SlotChange.{elsewhere_put, below_put, here}
use Rattle.gix_object_nodes.proofs.Ways.{child_files, child_no_file, down}

-- ---- the files

-- what an entry without files leaves below a name that has no folder, or at its end
hidden : (trees : Trees) (leaf : Leaf) (more rest : Path) (below : Path → Option Leaf) → is_null leaf.id ≡ true → (more ≢ [] → (k : Bytes) (x : Path) → below (k ∷ x) ≡ None)
    → put_at trees leaf (behind more rest) (if is_some (behind rest more) then None else below rest) ≡ None
hidden trees leaf [] rest below null plain = null_none trees leaf null rest
hidden trees leaf (m ∷ more) [] below null plain = refl
hidden trees leaf (m ∷ more) (k ∷ rest) below null plain = either (behind (m ∷ more) (k ∷ rest)) (is_some (behind (k ∷ rest) (m ∷ more)))
  where
    either : (o : Option Path) (b : Bool) → put_at trees leaf o (if b then None else below (k ∷ rest)) ≡ None
    either (Some r) b = null_none trees leaf null r
    either None true = refl
    either None false = plain (λ e. cc e) k rest

module _ (trees : Trees) (slots new : Slots) (bound : ℕ) (ok : IsForest slots bound) (j : ℕ) (name : Bytes) (way : Path) (reached : Way slots way j)
    (agree : (i : ℕ) (m : Bytes) → ((i ≡ j) → (m ≡ name) → ⊥) → new i m ≡ slots i m) where
  cut_puts : (leaf : Leaf) (more : Path) → is_null leaf.id ≡ true → (more ≢ [] → (k : Bytes) (x : Path) → through (slots j name) (files_of_slot trees slots (k ∷ x)) ≡ None) → new j name ≡ None
      → (q : Path) → files_of_node trees new 0 q ≡ put trees (onto way (name ∷ more)) leaf (files_of_node trees slots 0) q
  cut_puts leaf more null plain gone q = by_case (behind (onto way (name ∷ [])) q) refl
    where
      by_case : (o : Option Path) → behind (onto way (name ∷ [])) q ≡ o → files_of_node trees new 0 q ≡ put trees (onto way (name ∷ more)) leaf (files_of_node trees slots 0) q
      by_case None e = elsewhere_put trees slots new bound ok j name way reached agree leaf more q e
      by_case (Some rest) e =
          here trees slots new bound ok j name way reached agree q rest e
          ∙ ap (λ o. through o (files_of_slot trees new rest)) gone
          ∙ sym (hidden trees leaf more rest (λ x. through (slots j name) (files_of_slot trees slots x)) null plain)
          ∙ sym (below_put trees slots new bound ok j name way reached agree leaf more q rest e)

module _ (honest : Type 0) (table : Table) (old mid : Slots) (bound more : ℕ) (ok : IsForest old bound) (opened : IsOpened honest table old mid bound more) (path : Path) (at : ℕ) where
  pub nulls_at : (new : Slots) (leaf : Leaf) (name : Bytes) (left rest : Path) → LeadsTo mid path at rest → rest ≡ name ∷ left → is_null leaf.id ≡ true → (left ≢ [] → IsFolderAt mid at name None) → new at name ≡ None
      → ((i : ℕ) (m : Bytes) → ((i ≡ at) → (m ≡ name) → ⊥) → new i m ≡ mid i m) → honest → (trees : Trees) → HasStored table trees
      → (q : Path) → files_of_node trees new 0 q ≡ put trees path leaf (files_of_node trees old 0) q
  nulls_at new leaf name left rest way is null plain gone others h trees has q =
      cut_puts trees mid new more opened.forest at name way.0 way.1 others leaf left null (λ some. plain some trees) gone q
      ∙ ap (λ x. put_at trees leaf (behind (onto way.0 (name ∷ left)) q) (if is_some (behind q (onto way.0 (name ∷ left))) then None else x)) (opened.files h trees has q 0 ok.rooted)
      ∙ ap (λ p. put trees p leaf (files_of_node trees old 0) q) (ap (onto way.0) (sym is) ∙ way.2)

-- ---- names that are left

pub more_names : (path : List (Bor (List ℕ))) (i : ℕ) → names (drop i path) ≢ [] → i < length path
more_names [] zero some = absurd (some refl)
more_names [] (suc i) some = absurd (some refl)
more_names (p ∷ path) zero some = omega arith
more_names (p ∷ path) (suc i) some = let less : i < length path = more_names path i some in omega arith

-- ---- folders that are made, as long as nothing is put into them

pub null_itself : (kind : Kind) → is_null (null_id kind) ≡ true
null_itself kind = id_equivalence.refl (null_id kind)

null_leaf : (s : Slot) (kind : Kind) → leaf_in s ≡ made_leaf kind → is_null (id_of s.oid) ≡ true
null_leaf s kind e = ap (λ (l : Leaf). is_null l.id) e ∙ null_itself kind

pub one_slot : (a b : Slot) → Some a ≡ Some b → a ≡ b
one_slot a b e = cc

pub hung_null : (old mid new : Slots) (bound at : ℕ) (name : Bytes) (top : Slot) (tail : Path) (leaf : Leaf) → IsForest old bound → ((i : ℕ) (m : Bytes) → i < bound → mid i m ≡ old i m)
    → ((i : ℕ) (m : Bytes) (s : Slot) → bound ≤ i → mid i m ≡ Some s → Contains tail m × ((leaf_in s ≡ leaf) ⊎ (leaf_in s ≡ made_leaf leaf.id.kind))) → is_null leaf.id ≡ true
    → new at name ≡ Some top → leaf_in top ≡ made_leaf leaf.id.kind → ((i : ℕ) (m : Bytes) → ((i ≡ at) → (m ≡ name) → ⊥) → new i m ≡ mid i m) → AreNull new bound
hung_null old mid new bound at name top tail leaf ok front leaves null here top_leaf others i m s c is link le = elim (at_or_off i at m name) [
  | inl x ↦
      let same : s ≡ top = one_slot s top (sym is ∙ ap (λ k. new k m) x.0 ∙ ap (new at) x.1 ∙ here) in
      null_leaf s leaf.id.kind (ap leaf_in same ∙ top_leaf)
  | inr off ↦
      let stood : mid i m ≡ Some s = sym (others i m off) ∙ is in
      elim (cases_lt i bound) [
        | inl lt ↦ let within : c < bound = ok.within i m c (ap child_of (sym (front i m lt) ∙ stood) ∙ link) in absurd (omega (arith, within, le))
        | inr ge ↦ elim (leaves i m s ge stood).1 [
          | inl same ↦ ap (λ (l : Leaf). is_null l.id) same ∙ null
          | inr made ↦ null_leaf s leaf.id.kind made
        ]
      ]
]

slot_none : (trees : Trees) (slots : Slots) (s : Slot) (c : ℕ) (rest : Path) → child_of (Some s) ≡ Some c → files_of_node trees slots c rest ≡ None → files_of_slot trees slots rest s ≡ None
slot_none trees slots s c [] link none = child_no_file trees slots (Some s) c link
slot_none trees slots s c (m ∷ rest) link none = child_files trees slots m rest (Some s) c link ∙ none

-- if nothing was there, folders were made that no files lie in
module _ (trees : Trees) (mid new : Slots) (bound more : ℕ) (mid_ok : IsForest mid bound) (new_ok : IsForest new more) (at : ℕ) (name : Bytes)
    (others : (i : ℕ) (m : Bytes) → i < bound → ((i ≡ at) → (m ≡ name) → ⊥) → new i m ≡ mid i m)
    (hollow : (rest : Path) → files_of_node trees new at (name ∷ rest) ≡ None) (nothing : mid at name ≡ None) where
  made_none : (way : Path) (j : ℕ) → bound ≤ j → Way new way j → (q : Path) → files_of_node trees new j q ≡ None
  made_none way j le w [] = refl
  made_none [] j le w (m ∷ rest) = let root = mid_ok.rooted in absurd (omega (arith, le, w, root))
  made_none (n ∷ way) j le w (m ∷ rest) = elim (cases_lt w.0 bound) [
    | inl early ↦ elim (at_or_off w.0 at n name) [
      | inl x ↦
          sym (child_files trees new m rest (new w.0 n) j w.2)
          ∙ ap (λ k. files_of_node trees new k (n ∷ m ∷ rest)) x.0 ∙ ap (λ k. files_of_node trees new at (k ∷ m ∷ rest)) x.1 ∙ hollow (m ∷ rest)
      | inr off ↦
          let link : child_of (mid w.0 n) ≡ Some j = ap child_of (sym (others w.0 n early off)) ∙ w.2 in
          let lt : j < bound = mid_ok.within w.0 n j link in
          absurd (omega (arith, lt, le))
    ]
    | inr late ↦ sym (child_files trees new m rest (new w.0 n) j w.2) ∙ made_none way w.0 late w.1 (n ∷ m ∷ rest)
  ]

  files_stay : (q : Path) (i : ℕ) → i < bound → files_of_node trees new i q ≡ files_of_node trees mid i q
  files_stay [] i lt = refl
  files_stay (n ∷ rest) i lt = elim (at_or_off i at n name) [
    | inl x ↦
        ap (λ k. files_of_node trees new k (n ∷ rest)) x.0 ∙ ap (λ k. files_of_node trees new at (k ∷ rest)) x.1 ∙ hollow rest
        ∙ sym (ap (λ k. files_of_node trees mid k (n ∷ rest)) x.0 ∙ ap (λ k. files_of_node trees mid at (k ∷ rest)) x.1 ∙ ap (λ o. through o (files_of_slot trees mid rest)) nothing)
    | inr off ↦
        ap (λ o. through o (files_of_slot trees new rest)) (others i n lt off)
        ∙ same_through trees mid new rest (mid i n) (λ c is. files_stay rest c (mid_ok.within i n c is))
  ]

  pub made_as_read : (was fin : Marks) → ((c : ℕ) → c < bound → fin c ≡ was c) → ((c : ℕ) → bound ≤ c → c < more → (way : Path) × Way new way c) → AreNull new bound
      → ((i : ℕ) (n : Bytes) (c : ℕ) → child_of (new i n) ≡ Some c → c < bound → new i n ≡ mid i n) → AreAsRead trees mid was → AreAsRead trees new fin
  made_as_read was fin same ways null links read i n s c stands is f rest = elim (cases_lt c bound) [
    | inl lt ↦
        let stood : mid i n ≡ Some s = sym (links i n c (ap child_of stands ∙ is) lt) ∙ stands in
        same_through trees mid new rest (Some s) (λ d child. let e : c ≡ d = one c d (sym is ∙ child) in subst (λ k. files_of_node trees new k rest ≡ files_of_node trees mid k rest) e (files_stay rest c lt))
        ∙ read i n s c stood is (ap (λ (x : Mark). x.changed) (sym (same c lt)) ∙ f) rest
    | inr ge ↦
        let w = ways c ge (new_ok.within i n c (ap child_of stands ∙ is)) in
        slot_none trees new s c rest is (made_none w.0 c ge w.1 rest) ∙ sym (null_none trees (leaf_in s) (null i n s c stands is ge) rest)
  ]
    where
      one : (c d : ℕ) → Some c ≡ Some d → c ≡ d
      one c d e = cc

-- if no file was there, none is in what was made
pub made_hollow : (trees : Trees) (mid new : Slots) (at : ℕ) (name : Bytes) (way left : Path) → Way mid way at → Way new way at → mid at name ≡ None
    → ((q : Path) → files_of_node trees new 0 q ≡ cleared left (files_of_node trees mid 0) q) → (rest : Path) → files_of_node trees new at (name ∷ rest) ≡ None
made_hollow trees mid new at name way left before down_to nothing clears rest =
    let q = onto way (name ∷ rest) in
    let none : files_of_node trees mid 0 q ≡ None = down trees mid way at name rest before ∙ ap (λ o. through o (files_of_slot trees mid rest)) nothing in
    sym (down trees new way at name rest down_to) ∙ clears q ∙ by_none (is_some (behind q left)) none
  where
    by_none : (b : Bool) → {x : Option Leaf} → x ≡ None → (if b then None else x) ≡ None
    by_none true e = refl
    by_none false e = e

pub none_of : (o : Option Slot) → is_some o ≡ false → o ≡ None
none_of None e = refl
none_of (Some s) e = absurd (cc e)

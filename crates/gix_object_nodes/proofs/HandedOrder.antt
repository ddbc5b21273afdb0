-- Trees that are handed out: those that lie in them come before them.
use Rattle.std.proofs.Common.{ℕ, ◌≡◌, ◌<◌, ◌≤◌, false, List, [], ◌∷◌, ◌++◌, Option, Some, None, refl, sym, ap, subst, ◌∙◌, inl, inr, arith, get_or, append-nil, append_assoc}
use Rattle.std.specs.List.{All, Contains}
use Rattle.std.proofs.lemmas.List.Elements.{Contains-get_or}
use Rattle.gix_hash.specs.Id.{Id}
use Rattle.gix_object_tree.specs.Entry.{Item}
use Rattle.gix_object_nodes.specs.declared.node.NodeId.{NodeId}
use Rattle.gix_object_nodes.specs.declared.node.Slot.{Slot}
use Rattle.gix_object_nodes.specs.Files.{Bytes, Path, is_null, leaf_of, through, behind, named}
use Rattle.gix_object_nodes.specs.Nodes.{Slots, child_or, child_of, Way, onto, LeadsTo, IsForest}
use Rattle.gix_object_nodes.specs.Writing.{Ids, IsReached, unless_null, folder_item, slot_item, written_item, HasEntries}
use Rattle.gix_object_nodes.specs.Written.{HandedOut, EachBehind, IsKnown}
use Rattle.gix_object_nodes.specs.Below.{IsAnswered, IsDone}
use Rattle.gix_object_nodes.proofs.Paths.{behind_is, onto-onto, onto-append}
use Rattle.gix_object_nodes.proofs.ReachedTrees.{way_end}
use Rattle.gix_object_nodes.proofs.Ways.{unique}
use Rattle.gix_object_nodes.proofs.WrittenEntries.{unless_is, written_is}

-- ---- ways that begin one another

way_back : (slots : Slots) (bound : ℕ) → IsForest slots bound → (t way : Path) (j : ℕ) → Way slots (onto t way) j → (i : ℕ) × Way slots way i × (i ≤ j)
way_back slots bound ok [] way j w = let le : j ≤ j = omega arith in (j, w, le)
way_back slots bound ok (n ∷ t) way j w =
    let next = way_back slots bound ok t (n ∷ way) j w in
    let up : next.1.0 < next.0 = ok.forward next.1.0 n next.0 next.1.2 in
    let le : next.1.0 ≤ j = omega (arith, next.2) in
    (next.1.0, next.1.1, le)

onto_back : (way : Path) → onto (onto way []) [] ≡ way
onto_back way = onto-onto way [] [] ∙ append-nil way

-- a tree that lies in another has no lesser number
pub no_less : (slots : Slots) (bound : ℕ) → IsForest slots bound → (a b t : Path) (i j : ℕ) → LeadsTo slots a i [] → LeadsTo slots b j [] → behind a b ≡ Some t → i ≤ j
no_less slots bound ok a b t i j to_a to_b e =
    let way = to_a.0 in
    let whole : b ≡ onto way t = behind_is a b t e ∙ ap (λ p. p ++ t) (sym to_a.2) ∙ sym (onto-append way [] t) in
    let same : to_b.0 ≡ onto t way =
    sym (onto_back to_b.0) ∙ ap (λ p. onto p []) (to_b.2 ∙ whole) ∙ onto-onto way t [] ∙ ap (onto t) (append-nil way) in
    let up = way_back slots bound ok t way j (subst (λ p. Way slots p j) same to_b.1) in
    let here : up.0 ≡ i = way_end slots way up.0 i up.1 to_a.1 in
    omega (arith, up.2)

pub not_above : (slots : Slots) (bound : ℕ) → IsForest slots bound → (a b : Path) (i j : ℕ) → LeadsTo slots a i [] → LeadsTo slots b j [] → j < i → behind a b ≡ None
not_above slots bound ok a b i j to_a to_b lt = by_case (behind a b) refl
  where
    by_case : (o : Option Path) → behind a b ≡ o → o ≡ None
    by_case None e = refl
    by_case (Some t) e = let le : i ≤ j = no_less slots bound ok a b t i j to_a to_b e in absurd (omega arith)

-- ---- one more

pub each_more : {X : Type 0} (R : List X → X → Type 0) (before xs : List X) (x : X) → EachBehind R before xs → R (before ++ xs) x → EachBehind R before (xs ++ x ∷ [])
each_more R before [] x h new = (subst (λ b. R b x) (append-nil before) new, tt)
each_more R before (y ∷ xs) x h new =
    (h.0, each_more R (before ++ y ∷ []) xs x h.1 (subst (λ b. R b x) (sym (append_assoc before (y ∷ []) xs)) new))

-- ---- ids that are found later

child_above_by : (ids now : Ids) (i : ℕ) (name : Bytes) (child : Option NodeId) (plain : Option Item) → ((k : ℕ) → i < k → now k ≡ ids k)
    → ((c : ℕ) → child_or child (λ c. Some c) None ≡ Some c → i < c)
    → child_or child (λ c. through (now c) (λ id. unless_null (folder_item name id))) plain ≡ child_or child (λ c. through (ids c) (λ id. unless_null (folder_item name id))) plain
child_above_by ids now i name None plain same above = refl
child_above_by ids now i name (Some c) plain same above = ap (λ o. through o (λ id. unless_null (folder_item name id))) (same c.0 (above c.0 refl))

slot_above : (ids now : Ids) (i : ℕ) (name : Bytes) (o : Option Slot) → ((k : ℕ) → i < k → now k ≡ ids k) → ((c : ℕ) → child_of o ≡ Some c → i < c)
    → through o (written_item now name) ≡ through o (written_item ids name)
slot_above ids now i name None same above = refl
slot_above ids now i name (Some s) same above = child_above_by ids now i name s.child (unless_null (slot_item name s)) same above

module _ (slots : Slots) (bound : ℕ) (ok : IsForest slots bound) where
  -- an id that is found at a number leaves the entries of trees from there on
  pub entries_kept : (ids now : Ids) (i j : ℕ) (items : List Item) → ((k : ℕ) → i < k → now k ≡ ids k) → i ≤ j → HasEntries ids (slots j) items → HasEntries now (slots j) items
  entries_kept ids now i j items same le e m =
      e m ∙ sym (slot_above ids now i m (slots j m) same (λ c is. let up : j < c = ok.forward j m c is in omega (arith, le)))

  -- ---- entries are known

  module _ (ids : Ids) (handed : List HandedOut) (i : ℕ) (base : Path)
      (done : (j : ℕ) → i < j → j < bound → IsReached slots base j → IsDone slots ids handed j)
      (way path : Path) (w : Way slots (way ++ base) i) (leads : onto (way ++ base) [] ≡ path) where
    child_known : (c : ℕ) (item : Item) → child_of (slots i item.name) ≡ Some c → (o : Option Id) → ids c ≡ o → through o (λ id. unless_null (folder_item item.name id)) ≡ Some item → IsKnown slots handed path item
    child_known c item is None at e = absurd (cc e)
    child_known c item is (Some id) at e =
        let up : i < c = ok.forward i item.name c is in
        let within : c < bound = ok.within i item.name c is in
        let to : Way slots (item.name ∷ (way ++ base)) c = (i, w, is) in
        let d = done c up within (item.name ∷ way, to) in
        let found : Contains handed (record { path = d.path; items = d.items; id = id }) = subst (λ x. IsAnswered x handed d.path d.items) at d.answered in
        let same : d.leads.0 ≡ item.name ∷ (way ++ base) = unique slots bound ok d.leads.0 (item.name ∷ (way ++ base)) c d.leads.1 to in
        let below : d.path ≡ path ++ item.name ∷ [] =
        sym d.leads.2 ∙ ap (λ p. onto p []) same ∙ onto-append (way ++ base) [] (item.name ∷ []) ∙ ap (λ p. p ++ item.name ∷ []) leads in
        let named_so = unless_is (folder_item item.name id) item e in
        inl (record { path = d.path; items = d.items; id = id }, found, below, ap (λ (x : Item). x.id) (sym named_so.0), ap (λ (x : Item). x.mode) named_so.0)

    slot_known : (item : Item) (o : Option Slot) → slots i item.name ≡ o → through o (written_item ids item.name) ≡ Some item → IsKnown slots handed path item
    slot_known item None at e = absurd (cc e)
    slot_known item (Some s) at e = by_child s.child refl e
      where
        by_child : (child : Option NodeId) → s.child ≡ child → child_or child (λ c. through (ids c) (λ id. unless_null (folder_item item.name id))) (unless_null (slot_item item.name s)) ≡ Some item → IsKnown slots handed path item
        by_child None closed e =
            let is = unless_is (slot_item item.name s) item e in
            let to : LeadsTo slots path i [] = (way ++ base, w, leads) in
            inr (i, s, to, at, closed, ap leaf_of (sym is.0))
        by_child (Some c) opened e =
            let is : child_of (slots i item.name) ≡ Some c.0 = ap child_of at ∙ ap (λ o. child_or o (λ c. Some c) None) opened in
            child_known c.0 item is (ids c.0) refl e

    pub all_known : (items : List Item) → HasEntries ids (slots i) items → ((x : Item) → Contains items x → named x.name items ≡ Some x) → All (IsKnown slots handed path) items
    all_known items e once k d lt =
        let x = get_or items k d in
        slot_known x (slots i x.name) refl (sym (e x.name) ∙ once x (Contains-get_or items k d lt))

    pub all_stand : (items : List Item) → HasEntries ids (slots i) items → ((x : Item) → Contains items x → named x.name items ≡ Some x) → All (λ item. (j : ℕ) × (s : Slot) × LeadsTo slots path j [] × (slots j item.name ≡ Some s)) items
    all_stand items e once k d lt =
        let x = get_or items k d in
        by_slot x (slots i x.name) refl (sym (e x.name) ∙ once x (Contains-get_or items k d lt))
      where
        by_slot : (x : Item) (o : Option Slot) → slots i x.name ≡ o → through o (written_item ids x.name) ≡ Some x → (j : ℕ) × (s : Slot) × LeadsTo slots path j [] × (slots j x.name ≡ Some s)
        by_slot x None at e = absurd (cc e)
        by_slot x (Some s) at e = (i, s, (way ++ base, w, leads), at)

    pub none_null : (items : List Item) → HasEntries ids (slots i) items → ((x : Item) → Contains items x → named x.name items ≡ Some x) → All (λ item. is_null item.id ≡ false) items
    none_null items e once k d lt =
        let x = get_or items k d in
        by_slot x (slots i x.name) (sym (e x.name) ∙ once x (Contains-get_or items k d lt))
      where
        by_slot : (x : Item) (o : Option Slot) → through o (written_item ids x.name) ≡ Some x → is_null x.id ≡ false
        by_slot x None e = absurd (cc e)
        by_slot x (Some s) e = (written_is ids x.name s x e).1

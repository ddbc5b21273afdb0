-- The records of all names, as they are to be packed.
use Rattle.std.proofs.Common.{◌≡◌, ◌<◌, ◌&&◌, zero, suc, arith, length, get_or, ◌++◌, Bool, true, false, cond, not, List, [], ◌∷◌, map, filter, refl, sym, ◌∙◌, ap, inl, inr, Option, Some, None, option_map, is_some, unwrap_or, bytes_eq, Ok}
use Rattle.std.specs.Prelude.{Result, Err, Vec, ℕ}
use Rattle.std.specs.declared.alloc.Global.{Global}
use Rattle.std.specs.FinMap.{entries, find, get, get-entries, is_sorted}
use Rattle.std.specs.FinMap.Entries.{below_all}
use Rattle.std.specs.List.{list_any}
use Rattle.std.specs.declared.cmp.Ordering.{Ordering}
use Rattle.std.specs.declared.cmp.Ordering.TheVariants.{Equal, Greater, Less}
use Rattle.std.specs.Ordering.{eq_by_cmp, is_eq, is_lt}
use Rattle.std.proofs.lemmas.Bool.{and_parts, or_from}
use Rattle.std.proofs.lemmas.List.{map-append}
use Rattle.gix_hash.specs.Id.{Id, null_id}
use Rattle.gix_hash.specs.Order.{id_eq}
use Rattle.gix_object_lines.specs.NameTest.{is_full_name}
use Rattle.gix_ref_format.specs.Packed.{Record}
use Rattle.gix_ref_format.specs.PackedBuffer.{hit}
use Rattle.history_model.specs.Answers.{is_in_folder, name_line, names_shown}
use Rattle.history_model.specs.Bytes.{Bytes, by_bytes, has_twice}
use Rattle.history_model.specs.Forms.{IsWritten, is_name, is_private, is_reference}
use Rattle.history_model.specs.Replies.{NameLine}
use Rattle.history_model.specs.Repository.{IsWhole, Reference, id_at, is_tag, peeled}
use Rattle.history_model.specs.declared.Fault.TheVariants.{Memory, File, IdTaken}
use Rattle.history_model.proofs.PlaceLemmas.{same_key, text_itself, texts_apart}
use Rattle.history_model.proofs.WholeItems.{sorted_entries}
use Rattle.history_model.proofs.WholeLists.{In, same_text}
use Rattle.history_model.proofs.WholeStores.{in_get}
use Rattle.history_layout.specs.PackSteps.{record_for}
use Rattle.history_layout.proofs.OfferedReads.{tags_stand_for_others}
use Rattle.history_edits.specs.PackPlans.{record_name}
use Rattle.history_store.specs.Packed.{record_of_name, records_of}
use Rattle.history_store.specs.declared.packs.PackedName.{PackedName}
use Rattle.history_layout.proofs.FullNames.{full_of}
use Rattle.history_repository.specs.Reads.{GivesMeant}
use Rattle.history_repository.specs.NamesShown.{shown_name}
use Rattle.history_plans.specs.Packing.{AreAllNames, AreFull, line_record}
use Rattle.history_repository.specs.declared.shown.Shown.{Shown}
use Rattle.history_repository.specs.declared.stopped.Stopped.{Stopped}
use Rattle.history_model.specs.Repository as plain
use Rattle.history_repository.specs.declared.stopped.Stopped.TheVariants as why

-- ---- the records of all names

abbrev lines_of : plain.Repository → List (Bytes × Reference) → List NameLine
lines_of r es = map (name_line r) (filter (λ e. is_in_folder None e.0) es)

-- a name's record among those of all names
hit_shown : (r : plain.Repository) (name : Bytes) (es : List (Bytes × Reference)) → hit (map line_record (lines_of r es)) name ≡ option_map (λ (ref : Reference). line_record (name_line r (name, ref))) (find by_bytes name es)
hit_shown r name [] = refl
hit_shown r name (e ∷ es) = go (bytes_eq e.0 name) refl (hit_shown r name es)
  where
    go : (b : Bool) → bytes_eq e.0 name ≡ b
        → hit (map line_record (lines_of r es)) name ≡ option_map (λ (ref : Reference). line_record (name_line r (name, ref))) (find by_bytes name es)
        → cond b (Some (line_record (name_line r e))) (hit (map line_record (lines_of r es)) name) ≡ option_map (λ (ref : Reference). line_record (name_line r (name, ref))) (cond (eq_by_cmp by_bytes name e.0) (Some e.1) (find by_bytes name es))
    go true same rest =
        let is = same_text e.0 name same in
        let key : eq_by_cmp by_bytes name e.0 ≡ true = same_key name e.0 ∙ ap (bytes_eq name) is ∙ text_itself name in
        (λ i. Some (line_record (name_line r (is i, e.1)))) ∙ ap (λ b. option_map (λ (ref : Reference). line_record (name_line r (name, ref))) (cond b (Some e.1) (find by_bytes name es))) (sym key)
    go false other rest =
        let key : eq_by_cmp by_bytes name e.0 ≡ false = same_key name e.0 ∙ texts_apart name e.0 (λ is. absurd (cc (other, ap (λ n. bytes_eq n name) (sym is) ∙ text_itself name))) in
        rest ∙ ap (λ b. option_map (λ (ref : Reference). line_record (name_line r (name, ref))) (cond b (Some e.1) (find by_bytes name es))) (sym key)

module _ (r : plain.Repository) (whole : IsWhole r) (written : IsWritten r) where
  abbrev record_with : Bytes → Option Id → Id → Record
  record_with name commit id = record { name = name; target = id; peeled = commit }

  abbrev record_at : Bytes → Id → Record
  record_at name id = record_with name (cond (is_tag r id) (peeled r id) None) id

  formed : (name : Bytes) (ref : Reference) → get r.names name ≡ Some ref → (is_name name ≡ true) × (not (is_private name) ≡ true)
  formed name ref at = and_parts (is_name name) (not (is_private name)) (and_parts (is_name name && not (is_private name)) (is_reference r.kind ref) (written.names name ref at)).0

  -- the record of an existing name
  one_record : (name : Bytes) (ref : Reference) → get r.names name ≡ Some ref → Some (line_record (name_line r (name, ref))) ≡ record_for r name
  one_record name ref at = by_commit (peeled r ref.id) refl (whole.names.held name ref.id held)
    where
      held : id_at r name ≡ Some ref.id
      held = ap (option_map (λ (x : Reference). x.id)) at

      public : is_private name ≡ false
      public = by_not (is_private name) (formed name ref at).1
        where
          by_not : (b : Bool) → not b ≡ true → b ≡ false
          by_not true e = cc
          by_not false e = refl

      flipped : (commit : Id) (b : Bool) → cond b None (Some commit) ≡ cond (not b) (Some commit) None
      flipped commit true = refl
      flipped commit false = refl

      by_commit : (o : Option Id) → peeled r ref.id ≡ o → is_some o ≡ true
          → Some (record_with name (cond (id_eq ref.id (unwrap_or (peeled r ref.id) (null_id r.kind))) None (Some (unwrap_or (peeled r ref.id) (null_id r.kind)))) ref.id) ≡ record_for r name
      by_commit None e there = cc
      by_commit (Some commit) e there =
          let tag : is_tag r ref.id ≡ not (id_eq ref.id commit) = tags_stand_for_others r ref.id commit whole.store e in
          ap (λ o. Some (record_with name (cond (id_eq ref.id (unwrap_or o (null_id r.kind))) None (Some (unwrap_or o (null_id r.kind)))) ref.id)) e
          ∙ ap (λ o. Some (record_with name o ref.id)) (flipped commit (id_eq ref.id commit) ∙ ap (λ b. cond b (Some commit) None) (sym tag) ∙ ap (λ o. cond (is_tag r ref.id) o None) (sym e))
          ∙ ap (λ o. option_map (record_at name) o) (sym held) ∙ ap (λ b. cond b None (option_map (record_at name) (id_at r name))) (sym public)

  -- so each name has its record, and no other has one
  pub all_records : (names : List PackedName) → AreAllNames r names → (name : Bytes) → hit (records_of names) name ≡ record_for r name
  all_records names are name =
      ap (λ records. hit records name) are ∙ hit_shown r name (entries r.names)
      ∙ ap (option_map (λ (ref : Reference). line_record (name_line r (name, ref)))) (sym (get-entries r.names name)) ∙ by_ref (get r.names name) refl
    where
      none : (b : Bool) (o : Option Reference) → o ≡ None → None ≡ cond b None (option_map (record_at name) (option_map (λ (x : Reference). x.id) o))
      none true o e = refl
      none false o e = ap (λ x. option_map (record_at name) (option_map (λ (x : Reference). x.id) x)) (sym e)

      by_ref : (o : Option Reference) → get r.names name ≡ o → option_map (λ (ref : Reference). line_record (name_line r (name, ref))) o ≡ record_for r name
      by_ref None e = none (is_private name) (get r.names name) e
      by_ref (Some ref) e = one_record name ref e

  before_apart : (o : Ordering) → is_lt o ≡ true → is_eq o ≡ false
  before_apart Less h = refl
  before_apart Equal h = cc
  before_apart Greater h = cc

  below_apart : (key : Bytes) (es : List (Bytes × Reference)) → below_all by_bytes key es ≡ true → list_any (bytes_eq key) (map record_name (map line_record (lines_of r es))) ≡ false
  below_apart key [] below = refl
  below_apart key (e ∷ es) below =
      let parts = and_parts (is_lt (by_bytes key e.0)) (below_all by_bytes key es) below in
      or_from (bytes_eq key e.0) (list_any (bytes_eq key) (map record_name (map line_record (lines_of r es)))) (sym (same_key key e.0) ∙ before_apart (by_bytes key e.0) parts.0) (below_apart key es parts.1)

  -- each name once
  once_shown : (es : List (Bytes × Reference)) → is_sorted by_bytes es ≡ true → has_twice bytes_eq (map record_name (map line_record (lines_of r es))) ≡ false
  once_shown [] sorted = refl
  once_shown (e ∷ es) sorted =
      let parts = and_parts (below_all by_bytes e.0 es) (is_sorted by_bytes es) sorted in
      or_from (list_any (bytes_eq e.0) (map record_name (map line_record (lines_of r es)))) (has_twice bytes_eq (map record_name (map line_record (lines_of r es)))) (below_apart e.0 es parts.0) (once_shown es parts.1)

  pub all_once : (names : List PackedName) → AreAllNames r names → has_twice bytes_eq (map record_name (records_of names)) ≡ false
  all_once names are = ap (λ records. has_twice bytes_eq (map record_name records)) are ∙ once_shown (entries r.names) (sorted_entries r.names)

  -- ---- names that are shown are full ones

  abbrev first_name : List NameLine → Bytes
  first_name [] = []
  first_name (line ∷ lines) = line.name

  abbrev rest_of : List NameLine → List NameLine
  rest_of [] = []
  rest_of (line ∷ lines) = lines

  abbrev is_empty : List NameLine → Bool
  is_empty [] = true
  is_empty (line ∷ lines) = false

  full_lines : (shown : List Shown) (es : List (Bytes × Reference)) → map shown_name shown ≡ lines_of r es → ((e : Bytes × Reference) → In e es → is_name e.0 ≡ true) → AreFull shown
  full_lines [] es same named = tt
  full_lines (one ∷ shown) [] same named = absurd (let wrong : false ≡ true = ap is_empty same in cc wrong)
  full_lines (one ∷ shown) (e ∷ es) same named = (
    ap is_full_name (ap first_name same) ∙ full_of e.0 (named e (inl refl)),
    full_lines shown es (ap rest_of same) (λ x is. named x (inr is)),
  )

  pub shown_full : (shown : List Shown) → map shown_name shown ≡ names_shown r None → AreFull shown
  shown_full shown same = full_lines shown (entries r.names) same (λ e is. (formed e.0 e.1 (in_get r.names e.0 e.1 is)).0)

-- one of them
pub one_full : (shown : List Shown) (d : Shown) (i : ℕ) → i < length shown → AreFull shown → is_full_name (get_or shown i d).name.items ≡ true
one_full [] d i within all = absurd (omega arith)
one_full (one ∷ shown) d zero within all = all.0
one_full (one ∷ shown) d (suc i) within all = one_full shown d i (omega arith) all.1

pub full_split : (shown : List Shown) (one : Shown) → AreFull (shown ++ one ∷ []) → AreFull shown
full_split [] one all = tt
full_split (first ∷ shown) one all = (all.0, full_split shown one all.1)

-- the record of one name more
pub one_packed : (so_far : List PackedName) (shown : List Shown) (one : Shown) (named : PackedName) → records_of so_far ≡ map line_record (map shown_name shown) → record_of_name named ≡ line_record (shown_name one)
    → records_of (so_far ++ named ∷ []) ≡ map line_record (map shown_name (shown ++ one ∷ []))
one_packed so_far shown one named same is =
    map-append record_of_name so_far (named ∷ []) ∙ (λ i. same i ++ is i ∷ []) ∙ sym (map-append line_record (map shown_name shown) (shown_name one ∷ [])) ∙ ap (map line_record) (sym (map-append shown_name shown (one ∷ [])))

-- as many are packed as are shown
pub all_given : (MayFail : Type 0) (r : plain.Repository) (shown : List Shown) (result : Result (Vec PackedName Global) Stopped) → map shown_name shown ≡ names_shown r None
    → GivesMeant ⊥ (λ names. records_of names.items ≡ map line_record (map shown_name shown)) result → GivesMeant MayFail (λ names. AreAllNames r names.items) result
all_given MayFail r shown (Ok names) same h = h ∙ ap (map line_record) same
all_given MayFail r shown (Err (why.Refused cause)) same h = absurd h
all_given MayFail r shown (Err (why.Fault Memory)) same h = tt
all_given MayFail r shown (Err (why.Fault File)) same h = absurd h
all_given MayFail r shown (Err (why.Fault IdTaken)) same h = absurd h

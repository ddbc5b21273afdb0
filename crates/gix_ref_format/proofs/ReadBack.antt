-- What is written of records is read back.
use Rattle.std.proofs.Common.{◌≡◌, ◌∙◌, ap, refl, sym, subst, ℕ, zero, suc, ◌+◌, ◌-◌, Bool, true, false, cond, ◌&&◌, ◌||◌, List, [], ◌∷◌, ◌++◌, length, take, drop, map, codes, Option, Some, None, option_map, arith, nat_eq, rules, append_assoc}
use Rattle.std.specs.Prelude.{◌==◌, bytes_eq, is_some, option_and_then, IfSome}
use Rattle.std.specs.List.{list_any, ends_with}
use Rattle.std.proofs.lemmas.List.{length-map, length-append}
use Rattle.std.proofs.lemmas.Bool.{or_parts, eqb-true}
use Rattle.hex.specs.Hex.{hex_digit_value}
use Rattle.gix_hash.specs.Id.{Id}
use Rattle.gix_hash.specs.Kind.{hex_len}
use Rattle.gix_hash.specs.Spelling.{hex_text, hex_character, IsHexOf}
use Rattle.gix_hash.specs.declared.kind.Kind.{Kind}
use Rattle.gix_object_lines.specs.Bytes.{Lacks}
use Rattle.gix_object_lines.specs.NameTest.{is_full_name, is_barred, begins}
use Rattle.gix_ref_format.specs.Ids.{id_from_hex}
use Rattle.gix_ref_format.specs.Lines.{lines, cut_line, without_last}
use Rattle.gix_ref_format.specs.Packed.{Record, Item, Good, items, items_behind_header, packed_items, packed_records, all_good, with_item, header_line, without_peel, record_line, peel_line, next_number, HasPeel}
use Rattle.gix_ref_format.specs.Packed as read
use Rattle.gix_ref_format.specs.declared.packed.Header.{Header}
use Rattle.gix_ref_format.proofs.IdLemmas.{id_from_hex-reads}
use Rattle.gix_ref_format.proofs.LineLemmas.{lines_cut}
use Rattle.gix_ref_format.proofs.PackedLemmas.{record_is, good_first}
use Rattle.gix_ref_format.proofs.WrittenLemmas.{unbarred}
use Rattle.gix_ref_format.specs.Written.{header_text, peel_text, record_text, records_text, packed_text, IsIdOf, IsRecordOf, AreRecordsOf}

clash : {A : Type 0} → true ≡ false → A
clash e = absurd (go e)
  where
    go : true ≡ false → ⊥
    go e = cc

-- ---- bytes that a text lacks

lacks_append : (b : ℕ) (xs ys : List ℕ) → Lacks b xs → Lacks b ys → Lacks b (xs ++ ys)
lacks_append b [] ys one other = other
lacks_append b (x ∷ xs) ys one other =
    let parts = or_parts (x == b) (list_any (λ o. o == b) xs) one in
    ap (λ t. t || list_any (λ o. o == b) (xs ++ ys)) parts.0 ∙ lacks_append b xs ys parts.1 other

lacks_drop : (b k : ℕ) (xs : List ℕ) → Lacks b xs → Lacks b (drop k xs)
lacks_drop b zero xs lacks = lacks
lacks_drop b (suc k) [] lacks = lacks
lacks_drop b (suc k) (x ∷ xs) lacks = lacks_drop b k xs (or_parts (x == b) (list_any (λ o. o == b) xs) lacks).1

-- no digit is a byte that is none
lacks_digits : (b : ℕ) → hex_digit_value b ≡ None → (digits : List ℕ) → IsHexOf (hex_text digits) digits → Lacks b (hex_text digits)
lacks_digits b none [] spelled = refl
lacks_digits b none (d ∷ digits) spelled =
    let others : map hex_digit_value (hex_text digits) ≡ map (λ (d : ℕ). Some d) digits = cc in
    go (hex_character d == b) refl (lacks_digits b none digits others)
  where
    differ : None ≡ Some d → ⊥
    differ e = cc

    go : (t : Bool) → (hex_character d == b) ≡ t → Lacks b (hex_text digits) → (t || list_any (λ o. o == b) (hex_text digits)) ≡ false
    go false is rest = rest
    go true is rest =
        let value : hex_digit_value (hex_character d) ≡ Some d = cc in
        absurd (differ (sym none ∙ sym (ap hex_digit_value (eqb-true (hex_character d) b is)) ∙ value))

-- nor a byte that names may not hold one of a name's
lacks_barred : (b : ℕ) → is_barred b ≡ true → (name : List ℕ) → list_any is_barred name ≡ false → Lacks b name
lacks_barred b barred [] clean = refl
lacks_barred b barred (x ∷ name) clean = go (x == b) refl (lacks_barred b barred name (or_parts (is_barred x) (list_any is_barred name) clean).1)
  where
    go : (t : Bool) → (x == b) ≡ t → Lacks b name → (t || list_any (λ o. o == b) name) ≡ false
    go false is rest = rest
    go true is rest = clash (sym barred ∙ sym (ap is_barred (eqb-true x b is)) ∙ (or_parts (is_barred x) (list_any is_barred name) clean).0)

-- ---- lines and their ends

tail_differs : (b : ℕ) (tail : List ℕ) → Lacks b tail → bytes_eq (b ∷ []) tail ≡ false
tail_differs b [] lacks = refl
tail_differs b (x ∷ rest) lacks = go (b == x) refl
  where
    other : (x == b) ≡ false
    other = (or_parts (x == b) (list_any (λ o. o == b) rest) lacks).0

    go : (t : Bool) → (b == x) ≡ t → (t && bytes_eq [] rest) ≡ false
    go false is = refl
    go true is = clash (sym (same x b (sym (eqb-true b x is))) ∙ other)
      where
        same : (m n : ℕ) → m ≡ n → (m == n) ≡ true
        same m n e = grind (arith, rules)

ends_otherwise : (b : ℕ) (text : List ℕ) → Lacks b text → without_last b text ≡ text
ends_otherwise b text lacks =
    ap (λ (t : Bool). cond t (take (length text - 1) text) text) (tail_differs b (drop (length text - 1) text) (lacks_drop b (length text - 1) text lacks))

pub last_cut : (text : List ℕ) (byte : ℕ) → drop (length text) (text ++ byte ∷ []) ≡ byte ∷ []
last_cut [] byte = refl
last_cut (b ∷ text) byte = last_cut text byte

pub front_cut : (text rest : List ℕ) → take (length text) (text ++ rest) ≡ text
front_cut [] rest = take-zero rest
  where
    take-zero : (xs : List ℕ) → take 0 xs ≡ []
    take-zero [] = refl
    take-zero (x ∷ xs) = refl
front_cut (b ∷ text) rest = ap (λ t. b ∷ t) (front_cut text rest)

pub back_cut : (text rest : List ℕ) → drop (length text) (text ++ rest) ≡ rest
back_cut [] rest = refl
back_cut (b ∷ text) rest = back_cut text rest

past_cut : (text : List ℕ) (byte : ℕ) (rest : List ℕ) → drop (length text + 1) (text ++ byte ∷ rest) ≡ rest
past_cut [] byte rest = refl
past_cut (b ∷ text) byte rest = search (rules, past_cut text byte rest)

one_less : (text : List ℕ) → length (text ++ 10 ∷ []) - 1 ≡ length text
one_less text = let long = length-append text (10 ∷ []) in omega (arith, long)

cut_is : (text : List ℕ) → Lacks 13 text → cut_line (text ++ 10 ∷ []) ≡ Some text
cut_is text lacks =
    let there : drop (length (text ++ 10 ∷ []) - 1) (text ++ 10 ∷ []) ≡ 10 ∷ [] = ap (λ n. drop n (text ++ 10 ∷ [])) (one_less text) ∙ last_cut text 10 in
    let ends : ends_with nat_eq (text ++ 10 ∷ []) (10 ∷ []) ≡ true = rw there refl in
    let front : take (length (text ++ 10 ∷ []) - 1) (text ++ 10 ∷ []) ≡ text = ap (λ n. take n (text ++ 10 ∷ [])) (one_less text) ∙ front_cut text (10 ∷ []) in
    ap (λ (t : Bool). cond t (Some (without_last 13 (take (length (text ++ 10 ∷ []) - 1) (text ++ 10 ∷ [])))) None) ends
    ∙ ap (λ t. Some (without_last 13 t)) front ∙ ap Some (ends_otherwise 13 text lacks)

module _ (kind : Kind) where
  -- ---- one record

  abbrev line_of : Record → List ℕ
  line_of r = hex_text r.target.digits ++ 32 ∷ r.name

  lacks_of : (b : ℕ) (r : Record) → IsRecordOf kind r → hex_digit_value b ≡ None → is_barred b ≡ true → (32 == b) ≡ false → Lacks b (line_of r)
  lacks_of b r is none barred space =
      lacks_append b (hex_text r.target.digits) (32 ∷ r.name) (lacks_digits b none r.target.digits is.target.spelled)
      (ap (λ t. t || list_any (λ o. o == b) r.name) space ∙ lacks_barred b barred r.name (unbarred r.name is.name))

  long_of : (id : Id) → IsIdOf kind id → length (hex_text id.digits) ≡ hex_len kind
  long_of id is = length-map id.digits hex_character ∙ is.digits

  id_reads : (id : Id) → IsIdOf kind id → id_from_hex kind (hex_text id.digits) ≡ Some id
  id_reads id is = id_from_hex-reads kind (hex_text id.digits) id (long_of id is) is.spelled is.of_kind

  record_reads : (r : Record) → IsRecordOf kind r → record_line kind (line_of r ++ 10 ∷ []) ≡ Some (without_peel r.name r.target)
  record_reads r is =
      let hex = hex_text r.target.digits in
      let long : length hex ≡ hex_len kind = long_of r.target is.target in
      let front : take (hex_len kind) (line_of r) ≡ hex = ap (λ n. take n (line_of r)) (sym long) ∙ front_cut hex (32 ∷ r.name) in
      let back : drop (hex_len kind) (line_of r) ≡ 32 ∷ r.name = ap (λ n. drop n (line_of r)) (sym long) ∙ back_cut hex (32 ∷ r.name) in
      let name : r.name ≡ drop (hex_len kind + 1) (line_of r) = sym (ap (λ n. drop (n + 1) (line_of r)) (sym long) ∙ past_cut hex 32 r.name) in
      let told : Some (without_peel r.name r.target) ≡ read.record_text kind (line_of r) =
      record_is kind (line_of r) r.name r.target (ap (begins (32 ∷ [])) back) name (ap is_full_name (sym name) ∙ is.name) (ap (id_from_hex kind) front ∙ id_reads r.target is.target) in
      ap (λ t. option_and_then (read.record_text kind) t) (cut_is (line_of r) (lacks_of 13 r is refl refl refl)) ∙ sym told

  peel_reads : (id : Id) → IsIdOf kind id → peel_line kind ((94 ∷ hex_text id.digits) ++ 10 ∷ []) ≡ Some id
  peel_reads id is =
      ap (λ t. option_and_then (read.peel_text kind) t) (cut_is (94 ∷ hex_text id.digits) (lacks_digits 13 refl id.digits is.spelled)) ∙ id_reads id is

  no_peel : (digits rest : List ℕ) → IsHexOf (hex_text digits) digits → begins (codes "^") (hex_text digits ++ 32 ∷ rest) ≡ false
  no_peel [] rest spelled = refl
  no_peel (d ∷ digits) rest spelled = go (94 == hex_character d) refl
    where
      differ : None ≡ Some d → ⊥
      differ e = cc

      go : (t : Bool) → (94 == hex_character d) ≡ t → (t && bytes_eq [] (take 0 (hex_text digits ++ 32 ∷ rest))) ≡ false
      go false is = refl
      go true is =
          let value : hex_digit_value (hex_character d) ≡ Some d = cc in
          absurd (differ (ap hex_digit_value (eqb-true 94 (hex_character d) is) ∙ value))

  -- the next record's line has no peeled id
  not_peeled : (r : Record) → IsRecordOf kind r → None ≡ peel_line kind (line_of r ++ 10 ∷ [])
  not_peeled r is = sym (
      ap (λ t. option_and_then (read.peel_text kind) t) (cut_is (line_of r) (lacks_of 13 r is refl refl refl))
      ∙ ap (λ (t : Bool). cond t (id_from_hex kind (drop 1 (line_of r))) None) (no_peel r.target.digits r.name is.target.spelled))

  -- ---- all records

  regroup : (hex name peel rest : List ℕ) → (hex ++ 32 ∷ (name ++ 10 ∷ peel)) ++ rest ≡ (hex ++ 32 ∷ name) ++ 10 ∷ (peel ++ rest)
  regroup hex name peel rest = simp append_assoc

  first_line : (r : Record) (rest : List ℕ) → IsRecordOf kind r → lines (record_text r ++ rest) ≡ (line_of r ++ 10 ∷ []) ∷ lines (peel_text r.peeled ++ rest)
  first_line r rest is =
      ap lines (regroup (hex_text r.target.digits) r.name (peel_text r.peeled) rest)
      ∙ lines_cut (line_of r) (peel_text r.peeled ++ rest) (lacks_of 10 r is refl refl refl)

  peel_line_is : (id : Id) (rest : List ℕ) → IsIdOf kind id → lines (peel_text (Some id) ++ rest) ≡ ((94 ∷ hex_text id.digits) ++ 10 ∷ []) ∷ lines rest
  peel_line_is id rest is =
      ap lines (again (hex_text id.digits)) ∙ lines_cut (94 ∷ hex_text id.digits) rest (lacks_digits 10 refl id.digits is.spelled)
    where
      again : (hex : List ℕ) → (94 ∷ (hex ++ 10 ∷ [])) ++ rest ≡ (94 ∷ hex) ++ 10 ∷ rest
      again hex = simp append_assoc

  -- what follows a record's line
  peel_is : (r : Record) (rs : List Record) (number : ℕ) (left : List Item) → IsRecordOf kind r → AreRecordsOf kind rs
      → ((n : ℕ) → items kind n false (lines (records_text rs)) ≡ left)
      → HasPeel kind number (lines (peel_text r.peeled ++ records_text rs)) r.peeled left
  peel_is r rs number left is all told = go r.peeled is.peeled
    where
      bare : (rs : List Record) → AreRecordsOf kind rs → ((n : ℕ) → items kind n false (lines (records_text rs)) ≡ left) → HasPeel kind number (lines (records_text rs)) None left
      bare [] all told = (refl, sym (told number))
      bare (next ∷ rs) all told =
          subst (λ (l : List (List ℕ)). HasPeel kind number l None left) (sym (first_line next (records_text rs) all.0))
          (not_peeled next all.0, sym (told number) ∙ ap (items kind number false) (first_line next (records_text rs) all.0))

      go : (peeled : Option Id) → IfSome peeled (IsIdOf kind) → HasPeel kind number (lines (peel_text peeled ++ records_text rs)) peeled left
      go None is = bare rs all told
      go (Some id) is =
          subst (λ (l : List (List ℕ)). HasPeel kind number l (Some id) left) (sym (peel_line_is id (records_text rs) is))
          (sym (peel_reads id is), sym (told (next_number number)))

  items_read : (rs : List Record) → AreRecordsOf kind rs → (number : ℕ) → items kind number false (lines (records_text rs)) ≡ map Good rs
  items_read [] all number = refl
  items_read (r ∷ rs) all number =
      ap (items kind number false) (first_line r (records_text rs) all.0)
      ∙ good_first kind number (line_of r ++ 10 ∷ []) (lines (peel_text r.peeled ++ records_text rs)) (without_peel r.name r.target) r.peeled (map Good rs)
      (record_reads r all.0) (peel_is r rs (next_number number) (map Good rs) all.0 all.1 (items_read rs all.1))

  good_all : (rs : List Record) → all_good (map Good rs) ≡ Some rs
  good_all [] = refl
  good_all (r ∷ rs) = ap (with_item (Good r)) (good_all rs)

  abbrev front : List ℕ
  front = codes "# pack-refs with: peeled fully-peeled sorted "

  header_reads : (t : Option Header) → header_line header_text ≡ t → is_some t ≡ true → (rest : List (List ℕ)) → items_behind_header kind (header_text ∷ rest) ≡ Some (items kind 2 false rest)
  header_reads None is some rest = clash (sym some)
  header_reads (Some h) is some rest = ap (option_map (λ _. items kind 2 false rest)) is

  pub packed_reads : (rs : List Record) → AreRecordsOf kind rs → packed_records kind (packed_text rs) ≡ Some rs
  packed_reads rs all =
      let cut : lines (packed_text rs) ≡ header_text ∷ lines (records_text rs) = lines_cut front (records_text rs) refl in
      let found : packed_items kind (packed_text rs) ≡ Some (items kind 2 false (lines (records_text rs))) =
      ap (items_behind_header kind) cut ∙ header_reads (header_line header_text) refl refl (lines (records_text rs)) in
      ap (option_and_then all_good) (found ∙ ap Some (items_read rs all 2)) ∙ good_all rs

-- Packed records after edits of them: what their text says, and what it says once a name's record is removed.
use Rattle.std.proofs.Common.{◌≡◌, refl, sym, ◌∙◌, ap, subst, Bool, true, false, cond, not, ◌&&◌, ◌||◌, List, [], ◌∷◌, map, Option, Some, None, option_map, bytes_eq, MatchOption}
use Rattle.std.specs.List.{list_any, list_all, AllByRecursion}
use Rattle.std.specs.FinMap.{is_sorted}
use Rattle.std.specs.FinMap.Entries.{below_all}
use Rattle.std.specs.Ordering.{is_lt, is_eq}
use Rattle.std.proofs.lemmas.Bool.{and_from, and_parts, or_from}
use Rattle.std.proofs.lemmas.Map.Text.{is_eq-slice_cmp}
use Rattle.gix_hash.specs.declared.kind.Kind.{Kind}
use Rattle.gix_ref_format.specs.Packed.{Record, packed_records}
use Rattle.gix_ref_format.specs.PackedBuffer.{Keeps, hit}
use Rattle.gix_ref_format.specs.Edited.{Ascend, ComesBefore, IsEdited, Line, line_at, under}
use Rattle.gix_ref_format.specs.Written.{AllHaveKind, HasKind, packed_text}
use Rattle.history_model.specs.Bytes.{Bytes, by_bytes, has_byte, has_twice}
use Rattle.history_model.specs.Forms.{is_name, is_private}
use Rattle.history_model.specs.PackedNames.{PackedFile, is_packed_form, packed_file, packed_with, says_sorted}
use Rattle.history_model.proofs.PlaceLemmas.{one_text, text_itself, texts_apart}
use Rattle.history_layout.specs.TakeSteps.{LacksName, LacksRecord}
use Rattle.history_layout.proofs.PackedRecords.{all_by_finds, all_found, found_named, name_in, not_found}
use Rattle.history_layout.proofs.PlainTexts.{packed_plain}
use Rattle.history_layout.proofs.ReadRecords.{records_kind}

none_some : {A X : Type 0} {x : X} → None ≡ Some x → A
none_some e = cc

clash : {A : Type 0} {b : Bool} → b ≡ true → b ≡ false → A
clash e f = absurd (go (sym e ∙ f))
  where
    go : true ≡ false → ⊥
    go e = cc

not_false : (b : Bool) → b ≡ false → not b ≡ true
not_false b e = ap not e

not_true : (b : Bool) → not b ≡ true → b ≡ false
not_true true e = cc
not_true false e = refl

same_either_way : (a b : Bytes) (x : Bool) → bytes_eq a b ≡ x → bytes_eq b a ≡ x
same_either_way a b true e = ap (λ t. bytes_eq b t) (one_text a b e) ∙ text_itself b
same_either_way a b false e = texts_apart b a (λ same. clash (ap (λ t. bytes_eq t b) (sym same) ∙ text_itself b) e)

pub as_all : (kind : Kind) (rs : List Record) → AllByRecursion (HasKind kind) rs → AllHaveKind kind rs
as_all kind [] h = tt
as_all kind (r ∷ rs) h = (h.0, as_all kind rs h.1)

-- ---- records that ascend

abbrev pair_of : Bytes → Bytes × Bytes
pair_of name = (name, name)

before_below : (name : Bytes) (records : List Record) → ComesBefore name records → below_all by_bytes name (map pair_of (map name_in records)) ≡ true
before_below name [] h = refl
before_below name (r ∷ records) h = and_from (is_lt (by_bytes name r.name)) (below_all by_bytes name (map pair_of (map name_in records))) (ap is_lt h.0) (before_below name records h.1)

ascend_sorted : (records : List Record) → Ascend records → is_sorted by_bytes (map pair_of (map name_in records)) ≡ true
ascend_sorted [] h = refl
ascend_sorted (r ∷ records) h = and_from (below_all by_bytes r.name (map pair_of (map name_in records))) (is_sorted by_bytes (map pair_of (map name_in records))) (before_below r.name records h.0) (ascend_sorted records h.1)

before_apart : (name : Bytes) (records : List Record) → ComesBefore name records → list_any (bytes_eq name) (map name_in records) ≡ false
before_apart name [] h = refl
before_apart name (r ∷ records) h = or_from (bytes_eq name r.name) (list_any (bytes_eq name) (map name_in records)) (sym (is_eq-slice_cmp name r.name) ∙ ap is_eq h.0) (before_apart name records h.1)

pub ascend_once : (records : List Record) → Ascend records → has_twice bytes_eq (map name_in records) ≡ false
ascend_once [] h = refl
ascend_once (r ∷ records) h = or_from (list_any (bytes_eq r.name) (map name_in records)) (has_twice bytes_eq (map name_in records)) (before_apart r.name records h.0) (ascend_once records h.1)

-- ---- what is said of all names

all_told : (p : Bytes → Bool) (records : List Record) → AllByRecursion (λ (e : Record). p e.name ≡ true) records → list_all p (map name_in records) ≡ true
all_told p [] h = refl
all_told p (r ∷ records) h = and_from (p r.name) (list_all p (map name_in records)) h.0 (all_told p records h.1)

told_all : (p : Bytes → Bool) (records : List Record) → list_all p (map name_in records) ≡ true → AllByRecursion (λ (e : Record). p e.name ≡ true) records
told_all p [] h = tt
told_all p (r ∷ records) h = let parts = and_parts (p r.name) (list_all p (map name_in records)) h in (parts.0, told_all p records parts.1)

none_told : (p : Bytes → Bool) (records : List Record) → AllByRecursion (λ (e : Record). p e.name ≡ false) records → list_any p (map name_in records) ≡ false
none_told p [] h = refl
none_told p (r ∷ records) h = or_from (p r.name) (list_any p (map name_in records)) h.0 (none_told p records h.1)

-- records that ascend have the form, if their names do
pub form_made : (records : List Record) → Ascend records → AllByRecursion (λ (e : Record). is_name e.name ≡ true) records → AllByRecursion (λ (e : Record). is_private e.name ≡ false) records
    → (text : Bytes) → text ≡ packed_text records → is_packed_form (packed_with text records) ≡ true
form_made records ascend named public text written =
    let own = map name_in records in
    let plain = not (has_byte 13 text) in
    and_from (plain && list_all is_name own && not (has_twice bytes_eq own) && not (list_any is_private own)) (not (says_sorted text) || is_sorted by_bytes (map pair_of own))
    (and_from (plain && list_all is_name own && not (has_twice bytes_eq own)) (not (list_any is_private own))
    (and_from (plain && list_all is_name own) (not (has_twice bytes_eq own))
    (and_from plain (list_all is_name own) (ap (λ t. not (has_byte 13 t)) written ∙ not_false (has_byte 13 (packed_text records)) (packed_plain records named)) (all_told is_name records named))
    (not_false (has_twice bytes_eq own) (ascend_once records ascend)))
    (not_false (list_any is_private own) (none_told is_private records public)))
    (right (not (says_sorted text)) (is_sorted by_bytes (map pair_of own)) (ascend_sorted records ascend))
  where
    right : (a b : Bool) → b ≡ true → (a || b) ≡ true
    right true b h = refl
    right false b h = h

-- the parts of a form
module _ (packed : PackedFile) (formed : is_packed_form packed ≡ true) where
  abbrev names : List Bytes
  names = map name_in packed.records

  abbrev plain_named : Bool
  plain_named = not packed.returns && list_all is_name names

  three : ((plain_named && not (has_twice bytes_eq names) && not (list_any is_private names)) ≡ true) × ((not packed.sorted || is_sorted by_bytes (map pair_of names)) ≡ true)
  three = and_parts (plain_named && not (has_twice bytes_eq names) && not (list_any is_private names)) (not packed.sorted || is_sorted by_bytes (map pair_of names)) formed

  two : ((plain_named && not (has_twice bytes_eq names)) ≡ true) × (not (list_any is_private names) ≡ true)
  two = and_parts (plain_named && not (has_twice bytes_eq names)) (not (list_any is_private names)) three.0

  all_names : list_all is_name names ≡ true
  all_names = (and_parts (not packed.returns) (list_all is_name names) (and_parts plain_named (not (has_twice bytes_eq names)) two.0).0).1

  none_private : list_any is_private names ≡ false
  none_private = not_true (list_any is_private names) two.1

  -- a name that is found is one that a repository may hold
  pub found_name : (name : Bytes) (e : Record) → hit packed.records name ≡ Some e → is_name e.name ≡ true
  found_name name e found = all_found (λ (r : Record). is_name r.name ≡ true) packed.records name e (told_all is_name packed.records all_names) found

  pub found_public : (name : Bytes) (e : Record) → hit packed.records name ≡ Some e → is_private e.name ≡ false
  found_public name e found = not_found is_private packed.records name e none_private found

-- ---- without a name

module _ (kind : Kind) (name text : Bytes) (records after : List Record) (read : packed_records kind text ≡ Some records) (edited : IsEdited records (record { name = name; says = None } ∷ []) after) where
  abbrev old : PackedFile
  old = packed_with text records

  each : (other : Bytes) → hit after other ≡ cond (bytes_eq other name) None (hit records other)
  each other = edited.each other ∙ go (bytes_eq name other) refl
    where
      go : (b : Bool) → bytes_eq name other ≡ b → under (cond b (Some (record { name = name; says = None })) None) (hit records other) ≡ cond (bytes_eq other name) None (hit records other)
      go true e = ap (λ b. cond b None (hit records other)) (sym (same_either_way name other true e))
      go false e = ap (λ b. cond b None (hit records other)) (sym (same_either_way name other false e))

  was : (e : Record) → hit after e.name ≡ Some e → hit records e.name ≡ Some e
  was e found = go (bytes_eq e.name name) (sym (each e.name) ∙ found)
    where
      go : (b : Bool) → cond b None (hit records e.name) ≡ Some e → hit records e.name ≡ Some e
      go true is = none_some is
      go false is = is

  by_was : (P : Record → Type 0) → ((e : Record) → hit records e.name ≡ Some e → P e) → AllByRecursion P after
  by_was P told = all_by_finds P after (ascend_once after edited.ascend) (λ e found. told e (was e found))

  pub same_kind : AllHaveKind kind after
  same_kind = as_all kind after (by_was (HasKind kind) (λ e found. all_found (HasKind kind) records e.name e (records_kind kind text records read) found))

  module _ (formed : is_packed_form old ≡ true) (new : Bytes) (written : new ≡ packed_text after) where
    left_formed : is_packed_form (packed_with new after) ≡ true
    left_formed =
        form_made after edited.ascend (by_was (λ (e : Record). is_name e.name ≡ true) (λ e found. found_name old formed e.name e found))
        (by_was (λ (e : Record). is_private e.name ≡ false) (λ e found. found_public old formed e.name e found)) new written

    lacks : LacksName name old (packed_with new after)
    lacks = record { formed = left_formed; each = each }

-- ---- in texts

abbrev pub removal : Bytes → List Line
removal name = record { name = name; says = None } ∷ []

abbrev pub IsFormed : Kind → Bytes → Type 0
IsFormed kind text = MatchOption (packed_file kind text) ⊥ (λ packed. is_packed_form packed ≡ true)

pub form_of : (kind : Kind) (text : Bytes) (records : List Record) → packed_records kind text ≡ Some records → IsFormed kind text → is_packed_form (packed_with text records) ≡ true
form_of kind text records read formed = subst (λ o. MatchOption (option_map (packed_with text) o) ⊥ (λ packed. is_packed_form packed ≡ true)) read formed

pub lacks_edited : (kind : Kind) (name text new : Bytes) (records after : List Record) (read : packed_records kind text ≡ Some records) → IsEdited records (removal name) after → IsFormed kind text → new ≡ packed_text after
    → packed_records kind new ≡ Some after → LacksRecord kind name (Some text) (Some new)
lacks_edited kind name text new records after read edited formed is read_new =
    let form = form_of kind text records read formed in
    subst (λ o. MatchOption o ⊥ (λ (old : PackedFile). MatchOption (packed_file kind new) ⊥ (LacksName name old))) (sym (ap (option_map (packed_with text)) read))
    (subst (λ o. MatchOption o ⊥ (LacksName name (packed_with text records))) (sym (ap (option_map (packed_with new)) read_new))
    (lacks kind name text records after read edited form new is))

-- what was written without the name
pub lacks_written : (kind : Kind) (name text new : Bytes) (left after : List Record) → Keeps kind text left → IsFormed kind text → IsEdited left (removal name) after → new ≡ packed_text after
    → (AllHaveKind kind after → packed_records kind new ≡ Some after) → LacksRecord kind name (Some text) (Some new)
lacks_written kind name text new left after keeps formed told written reads =
    let edited : IsEdited keeps.0 (removal name) after =
    record { ascend = told.ascend; each = λ other. told.each other ∙ ap (under (line_at (removal name) other)) (keeps.2.first other) } in
    lacks_edited kind name text new keeps.0 after keeps.1 edited formed written (reads (same_kind kind name text keeps.0 after keeps.1 edited))

module _ (kind : Kind) (name text : Bytes) (records : List Record) (formed : is_packed_form (packed_with text records) ≡ true) (public_none : is_private name ≡ false → hit records name ≡ None) where
  none_hit : hit records name ≡ None
  none_hit = by_kind (is_private name) refl
    where
      not_there : is_private name ≡ true → (o : Option Record) → hit records name ≡ o → o ≡ None
      not_there private None e = refl
      not_there private (Some r) e =
          clash (ap is_private (found_named records name r e) ∙ private) (found_public (packed_with text records) formed name r e)

      by_kind : (b : Bool) → is_private name ≡ b → hit records name ≡ None
      by_kind true private = not_there private (hit records name) refl
      by_kind false public = public_none public

  pub same_lacks : LacksName name (packed_with text records) (packed_with text records)
  same_lacks = record { formed = formed; each = λ other. go other (bytes_eq other name) refl }
    where
      go : (other : Bytes) (b : Bool) → bytes_eq other name ≡ b → hit records other ≡ cond b None (hit records other)
      go other true e = ap (hit records) (one_text other name e) ∙ none_hit
      go other false e = refl

-- The records that are read of a file have ids of its kind.
use Rattle.std.proofs.Common.{◌≡◌, refl, sym, ◌∙◌, ap, subst, Bool, true, false, cond, ◌&&◌, ◌+◌, ◌==◌, ℕ, List, [], ◌∷◌, length, take, drop, codes, Option, Some, None, option_map, is_some}
use Rattle.std.specs.Prelude.{IfSome, option_and_then}
use Rattle.std.specs.List.{AllByRecursion}
use Rattle.std.proofs.lemmas.Option.{same_Some}
use Rattle.gix_hash.specs.Id.{Id}
use Rattle.gix_hash.specs.Kind.{hex_len}
use Rattle.gix_hash.specs.declared.kind.Kind.{Kind}
use Rattle.gix_object_lines.specs.NameTest.{begins, is_full_name}
use Rattle.gix_ref_format.specs.Ids.{id_from_hex, digits_read}
use Rattle.gix_ref_format.specs.Lines.{lines, cut_line}
use Rattle.gix_ref_format.specs.Packed.{Record, Item, Good, Bad, BadHeader, record_text, record_line, peel_text, peel_line, peel_behind, item_of, items, next_number, items_behind_header, packed_items, packed_records, all_good, with_item, without_peel, is_headed, header_line}
use Rattle.gix_ref_format.specs.PackedBuffer.{OpenFault, first_bad}
use Rattle.gix_ref_format.specs.declared.packed.Header.{Header}
use Rattle.gix_ref_format.specs.declared.packed.buffer.Error.TheVariants as faults
use Rattle.gix_ref_format.specs.Written.{HasKind}

none_some : {A X : Type 0} {x : X} → None ≡ Some x → A
none_some e = cc

module _ (kind : Kind) where
  id_kind : (text : List ℕ) (id : Id) → id_from_hex kind text ≡ Some id → id.kind ≡ kind
  id_kind text id is = go (length text == hex_len kind) (digits_read text) is
    where
      go : (b : Bool) (o : Option (List ℕ)) → cond b (option_map (λ digits. record { kind = kind; digits = digits }) o) None ≡ Some id → id.kind ≡ kind
      go true (Some digits) e = ap (λ (x : Id). x.kind) (sym (same_Some _ id e))
      go true None e = none_some e
      go false o e = none_some e

  peel_kind : (text : List ℕ) (id : Id) → peel_text kind text ≡ Some id → id.kind ≡ kind
  peel_kind text id is = go (begins (codes "^") text) is
    where
      go : (b : Bool) → cond b (id_from_hex kind (drop 1 text)) None ≡ Some id → id.kind ≡ kind
      go true e = id_kind (drop 1 text) id e
      go false e = none_some e

  peeled_kind : (line : List ℕ) → IfSome (peel_line kind line) (λ id. id.kind ≡ kind)
  peeled_kind line = by_cut (cut_line line)
    where
      by_id : (o : Option Id) → ((id : Id) → o ≡ Some id → id.kind ≡ kind) → IfSome o (λ id. id.kind ≡ kind)
      by_id None told = tt
      by_id (Some id) told = told id refl

      by_cut : (o : Option (List ℕ)) → IfSome (option_and_then (peel_text kind) o) (λ id. id.kind ≡ kind)
      by_cut None = tt
      by_cut (Some text) = by_id (peel_text kind text) (peel_kind text)

  behind_kind : (o : Option Record) (rest : List (List ℕ)) → IfSome (peel_behind kind o rest) (λ id. id.kind ≡ kind)
  behind_kind None rest = tt
  behind_kind (Some r) [] = tt
  behind_kind (Some r) (line ∷ rest) = peeled_kind line

  text_kind : (text : List ℕ) (r : Record) → record_text kind text ≡ Some r → r.target.kind ≡ kind
  text_kind text r is = go (begins (32 ∷ []) (drop (hex_len kind) text) && is_full_name (drop (hex_len kind + 1) text)) (id_from_hex kind (take (hex_len kind) text)) refl is
    where
      go : (b : Bool) (o : Option Id) → id_from_hex kind (take (hex_len kind) text) ≡ o → cond b (option_map (without_peel (drop (hex_len kind + 1) text)) o) None ≡ Some r → r.target.kind ≡ kind
      go true (Some id) read e = ap (λ (x : Record). x.target.kind) (sym (same_Some _ r e)) ∙ id_kind (take (hex_len kind) text) id read
      go true None read e = none_some e
      go false o read e = none_some e

  line_kind : (line : List ℕ) (r : Record) → record_line kind line ≡ Some r → r.target.kind ≡ kind
  line_kind line r is = go (cut_line line) is
    where
      go : (o : Option (List ℕ)) → option_and_then (record_text kind) o ≡ Some r → r.target.kind ≡ kind
      go None e = none_some e
      go (Some text) e = text_kind text r e

  abbrev IsOfKind : Item → Type 0
  IsOfKind (Good r) = HasKind kind r
  IsOfKind (Bad number line) = Unit {0}
  IsOfKind (BadHeader line) = Unit {0}

  one_kind : (number : ℕ) (line : List ℕ) (peel : Option Id) (o : Option Record) → record_line kind line ≡ o → IfSome peel (λ id. id.kind ≡ kind) → IsOfKind (item_of number line peel o)
  one_kind number line peel None is peeled = tt
  one_kind number line peel (Some r) is peeled = record { target = line_kind line r is; peeled = peeled }

  items_kind : (number : ℕ) (taken : Bool) (texts : List (List ℕ)) → AllByRecursion IsOfKind (items kind number taken texts)
  items_kind number taken [] = tt
  items_kind number true (line ∷ rest) = items_kind (next_number number) false rest
  items_kind number false (line ∷ rest) = (
    one_kind number line (peel_behind kind (record_line kind line) rest) (record_line kind line) refl (behind_kind (record_line kind line) rest),
    items_kind (next_number number) (is_some (peel_behind kind (record_line kind line) rest)) rest,
  )

  good_kind : (all : List Item) (records : List Record) → AllByRecursion IsOfKind all → all_good all ≡ Some records → AllByRecursion (HasKind kind) records
  good_kind [] records told is = subst (AllByRecursion (HasKind kind)) (same_Some [] records is) tt
  good_kind (Bad number line ∷ all) records told is = none_some is
  good_kind (BadHeader line ∷ all) records told is = none_some is
  good_kind (Good r ∷ all) records told is = go (λ more good. good_kind all more told.1 good) (all_good all) refl is
    where
      go : ((more : List Record) → all_good all ≡ Some more → AllByRecursion (HasKind kind) more) → (o : Option (List Record)) → all_good all ≡ o → option_map (λ more. r ∷ more) o ≡ Some records
          → AllByRecursion (HasKind kind) records
      go rest None good e = none_some e
      go rest (Some more) good e = subst (AllByRecursion (HasKind kind)) (same_Some (r ∷ more) records e) (told.0, rest more good)

  file_kind : (text : List ℕ) (all : List Item) → packed_items kind text ≡ Some all → AllByRecursion IsOfKind all
  file_kind text all is = by_head (is_headed text) is
    where
      by_line : (o : Option Header) (rest : List (List ℕ)) → option_map (λ _. items kind 2 false rest) o ≡ Some all → AllByRecursion IsOfKind all
      by_line None rest e = none_some e
      by_line (Some h) rest e = subst (AllByRecursion IsOfKind) (same_Some _ all e) (items_kind 2 false rest)

      by_lines : (texts : List (List ℕ)) → items_behind_header kind texts ≡ Some all → AllByRecursion IsOfKind all
      by_lines [] e = none_some e
      by_lines (first ∷ rest) e = by_line (header_line first) rest e

      by_head : (b : Bool) → cond b (items_behind_header kind (lines text)) (Some (items kind 1 false (lines text))) ≡ Some all → AllByRecursion IsOfKind all
      by_head true e = by_lines (lines text) e
      by_head false e = subst (AllByRecursion IsOfKind) (same_Some _ all e) (items_kind 1 false (lines text))

  pub records_kind : (text : List ℕ) (records : List Record) → packed_records kind text ≡ Some records → AllByRecursion (HasKind kind) records
  records_kind text records is = go (packed_items kind text) refl is
    where
      go : (o : Option (List Item)) → packed_items kind text ≡ o → option_and_then all_good o ≡ Some records → AllByRecursion (HasKind kind) records
      go None has e = none_some e
      go (Some all) has e = good_kind all records (file_kind text all has) e

-- ---- a text that isn't read

bad_none : (all : List Item) (n : ℕ) → first_bad all ≡ Some n → all_good all ≡ None
bad_none [] n is = cc
bad_none (Good r ∷ rest) n is = ap (with_item (Good r)) (bad_none rest n is)
bad_none (Bad number line ∷ rest) n is = refl
bad_none (BadHeader line ∷ rest) n is = refl

pub bad_line : (kind : Kind) (text : List ℕ) (n : ℕ) → OpenFault kind text (faults.Iter n) → packed_records kind text ≡ None
bad_line kind text n fault = ap (option_and_then all_good) fault.1 ∙ bad_none fault.0 n fault.2

pub bad_header : (kind : Kind) (text : List ℕ) → OpenFault kind text faults.HeaderParsing → packed_records kind text ≡ None
bad_header kind text fault = ap (option_and_then all_good) fault

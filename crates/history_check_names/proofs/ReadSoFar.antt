-- What was read so far of a file of packed names.
use Rattle.std.proofs.Common.{◌≡◌, ◌≢◌, ℕ, ◌+◌, ◌≤◌, Bool, true, false, not, ◌&&◌, ◌||◌, List, [], ◌∷◌, ◌++◌, map, length, Option, Some, unwrap_or, refl, sym, ◌∙◌, ap, subst, arith, bytes_eq, Err}
use Rattle.std.specs.Borrow.{Bor}
use Rattle.std.specs.List.{list_any}
use Rattle.std.proofs.lemmas.List.Folds.{list_any-append}
use Rattle.gix_hash.specs.declared.kind.Kind.{Kind}
use Rattle.gix_ref_format.specs.Packed.{Record, Item, Good, item_view, packed_items, packed_records, record_of}
use Rattle.gix_ref_format.specs.declared.packed.Reference.{Reference}
use Rattle.gix_ref_format.specs.declared.packed.iter.Error.{Error}
use Rattle.gix_ref_format.specs.declared.packed.iter.Error.TheVariants as faults
use Rattle.history_model.specs.Bytes.{Bytes, has_byte}
use Rattle.history_model.specs.Forms.{is_name}
use Rattle.history_model.specs.PackedNames.{says_sorted}
use Rattle.history_check_names.specs.Packed.{HasBadRecord, are_good_names, is_ascending, record_names, records_in}
use Rattle.history_check_names.specs.PackedRead.{IsReadOf, names_in}
use Rattle.history_check_names.specs.declared.packed.Packed.{Packed}
use Rattle.history_check_names.proofs.GoodNames.{bad_again, bad_follower, good_next, good_parts}
use Rattle.history_check_names.proofs.PackedLines.{weight, weights}
use Rattle.history_check_names.proofs.PackedTexts.{all_read, all_stand, bad_line, bad_name, few, lead}

abbrev pub seen_in : List Reference → List Record
seen_in records = map record_of records

module _ (kind : Kind) (text : Bytes) where
  pub record IsSoFar (left : List Item) (records : List Reference) (names : List (Bor (List ℕ))) (sorted : Bool) (number : ℕ) : Type 0 where
    pub plain : has_byte 13 text ≡ false
    pub given : packed_items kind text ≡ Some (map Good (seen_in records) ++ left)
    pub sorted_is : sorted ≡ says_sorted text
    pub good : are_good_names (says_sorted text) (record_names (seen_in records)) ≡ true
    pub kept : (name : Bytes) → list_any (bytes_eq name) (names_in names) ≡ list_any (bytes_eq name) (record_names (seen_in records))
    pub number_is : number ≡ lead text + 1 + weights (seen_in records)

  module _ (left : List Item) (records : List Reference) (names : List (Bor (List ℕ))) (sorted : Bool) (number : ℕ) (so_far : IsSoFar left records names sorted number) where
    at_number : HasBadRecord kind text (lead text + 1 + weights (seen_in records)) → HasBadRecord kind text number
    at_number bad = subst (HasBadRecord kind text) (sym so_far.number_is) bad

    no_record : (e : Error) (r : Record) → item_view (Err e) ≢ Good r
    no_record (faults.Reference line at) r e = cc
    no_record (faults.Header line) r e = cc

    pub bad_item : (e : Error) (more : List Item) → left ≡ item_view (Err e) ∷ more → HasBadRecord kind text number
    bad_item e more cut = at_number (bad_line kind text (seen_in records) left so_far.given so_far.plain so_far.good (item_view (Err e)) more cut (no_record e))

    pub rises : (not sorted || is_ascending (record_names (seen_in records))) ≡ true
    rises = ap (λ s. not s || is_ascending (record_names (seen_in records))) so_far.sorted_is ∙ (good_parts (says_sorted text) (record_names (seen_in records)) so_far.good).rises

    module _ (one : Reference) (more : List Item) (cut : left ≡ Good (record_of one) ∷ more) where
      abbrev name : Bytes
      name = (record_of one).name

      one_more : (rs : List Reference) → record_names (map record_of (rs ++ one ∷ [])) ≡ record_names (map record_of rs) ++ name ∷ []
      one_more [] = refl
      one_more (r ∷ rs) = ap (λ ns. (record_of r).name ∷ ns) (one_more rs)

      all_names : record_names (seen_in records ++ record_of one ∷ []) ≡ record_names (seen_in records) ++ name ∷ []
      all_names = go (seen_in records)
        where
          go : (rs : List Record) → record_names (rs ++ record_of one ∷ []) ≡ record_names rs ++ name ∷ []
          go [] = refl
          go (r ∷ rs) = ap (λ ns. r.name ∷ ns) (go rs)

      abbrev Follows : Bool → Type 0
      Follows b = (is_name name && (not sorted || is_ascending (record_names (seen_in records ++ record_of one ∷ [])))) ≡ b

      follows : (b : Bool) → Follows b → (is_name name && (not (says_sorted text) || is_ascending (record_names (seen_in records) ++ name ∷ []))) ≡ b
      follows b is = sym (λ i. is_name name && (not (so_far.sorted_is i) || is_ascending (all_names i))) ∙ is

      pub bad_follow : Follows false → HasBadRecord kind text number
      bad_follow none =
          at_number (bad_name kind text (seen_in records) left so_far.given so_far.plain so_far.good (record_of one) more cut (bad_follower (says_sorted text) (record_names (seen_in records)) name (follows false none)))

      pub bad_twice : list_any (bytes_eq name) (names_in names) ≡ true → HasBadRecord kind text number
      bad_twice there =
          at_number (bad_name kind text (seen_in records) left so_far.given so_far.plain so_far.good (record_of one) more cut (bad_again (says_sorted text) (record_names (seen_in records)) name (sym (so_far.kept name) ∙ there)))

      given_next : packed_items kind text ≡ Some (map Good (seen_in (records ++ one ∷ [])) ++ more)
      given_next = so_far.given ∙ ap Some (ap (λ l. map Good (seen_in records) ++ l) cut ∙ go records)
        where
          go : (rs : List Reference) → map Good (seen_in rs) ++ Good (record_of one) ∷ more ≡ map Good (seen_in (rs ++ one ∷ [])) ++ more
          go [] = refl
          go (r ∷ rs) = ap (λ l. Good (record_of r) ∷ l) (go rs)

      heavier : (rs : List Reference) → weights (seen_in (rs ++ one ∷ [])) ≡ weights (seen_in rs) + weight (record_of one)
      heavier [] = omega arith
      heavier (r ∷ rs) = let e = heavier rs in omega (arith, e)

      pub small : number + weight (record_of one) ≤ length text + 2
      small = omega (arith, so_far.number_is, heavier records, few kind text (seen_in (records ++ one ∷ [])) more given_next)

      pub one_next : (new : List Reference) (put : List (Bor (List ℕ))) (behind : ℕ) → Follows true → list_any (bytes_eq name) (names_in names) ≡ false → new ≡ records ++ one ∷ []
          → ((other : Bytes) → list_any (bytes_eq other) (names_in put) ≡ (bytes_eq other name || list_any (bytes_eq other) (names_in names))) → behind ≡ number + weight (record_of one) → IsSoFar more new put sorted behind
      one_next new put behind may bare new_is puts behind_is = subst (λ rs. IsSoFar more rs put sorted behind) (sym new_is) (record {
        plain = so_far.plain;
        given = given_next;
        sorted_is = so_far.sorted_is;
        good = ap (are_good_names (says_sorted text)) (one_more records) ∙ good_next (says_sorted text) (record_names (seen_in records)) name so_far.good (follows true may) (sym (so_far.kept name) ∙ bare);
        kept = λ other. puts other ∙ either other;
        number_is = behind_is ∙ (let e : number + weight (record_of one) ≡ lead text + 1 + weights (seen_in (records ++ one ∷ [])) = omega (arith, so_far.number_is, heavier records) in e);
      })
        where
          turned : (a b : Bool) → (a || b) ≡ (b || (a || false))
          turned true true = refl
          turned true false = refl
          turned false true = refl
          turned false false = refl

          either : (other : Bytes) → (bytes_eq other name || list_any (bytes_eq other) (names_in names)) ≡ list_any (bytes_eq other) (record_names (seen_in (records ++ one ∷ [])))
          either other =
              ap (λ b. bytes_eq other name || b) (so_far.kept other) ∙ turned (bytes_eq other name) (list_any (bytes_eq other) (record_names (seen_in records)))
              ∙ sym (list_any-append (bytes_eq other) (record_names (seen_in records)) (name ∷ []))
              ∙ ap (list_any (bytes_eq other)) (sym (one_more records))

    pub all_so : left ≡ [] → (packed : Packed) → packed.records.items ≡ records → packed.names.keys ≡ names → IsReadOf kind text packed
    all_so none packed records_are names_are =
        let read : packed_records kind text ≡ Some (seen_in records) = all_read kind text (seen_in records) (so_far.given ∙ ap (λ l. Some (map Good (seen_in records) ++ l)) none) in
        let all : seen_in records ≡ records_in kind text = sym (ap (λ (o : Option (List Record)). unwrap_or o []) read) in
        record {
          good = all_stand kind text (seen_in records) so_far.plain read so_far.good;
          records = ap (map record_of) records_are ∙ all;
          names = λ name. ap (λ ns. list_any (bytes_eq name) (names_in ns)) names_are ∙ so_far.kept name ∙ ap (λ rs. list_any (bytes_eq name) (record_names rs)) all;
        }

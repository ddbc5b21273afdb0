-- Runs of entries, and the text of their lines.
use Rattle.std.proofs.Common.{◌≡◌, ◌∙◌, ap, refl, sym, subst, ℕ, zero, suc, ◌+◌, ◌≤◌, Bool, true, false, cond, not, List, Option, [], ◌∷◌, ◌++◌, length, take, drop, Some, None, arith, get_or, length-append}
use Rattle.std.specs.Prelude.{bytes_eq, IfSome}
use Rattle.std.specs.Option.{option_to_list}
use Rattle.std.specs.List.{filter}
use Rattle.std.specs.List.Sorted.{IsSortedBy, IsPartitionPoint}
use Rattle.std.specs.Ordering.{is_lt, ordering_reverse}
use Rattle.std.specs.declared.cmp.Ordering.TheVariants.{Less}
use Rattle.std.proofs.lemmas.Cmp.{nat_list_cmp_total}
use Rattle.std.proofs.lemmas.List.Sorted.{IsPermutation-refl}
use Rattle.gix_hash.specs.declared.kind.Kind.{Kind}
use Rattle.gix_ref_format.specs.Packed.{Record, packed_records}
use Rattle.gix_ref_format.specs.PackedBuffer.{Keeps, before, entry_record, entry_records}
use Rattle.gix_ref_format.specs.Edited.{ComesBefore, Ascend}
use Rattle.gix_ref_format.specs.PackedText.{AllBelow, AllStand, NoneBelow, IsAfter, IsAround, IsWritten, ascends, is_first_named}
use Rattle.gix_ref_format.specs.Written.{AllHaveKind, header_text, records_text}
use Rattle.gix_ref_format.specs.declared.packed.buffer.Entry.{Entry}
use Rattle.gix_ref_format.proofs.EditLemmas.{before_all, clash, cmp, differs_from_less, itself, less_than, same_of}
use Rattle.gix_ref_format.proofs.MergeLemmas.{ascend_back, ascend_both, ascend_from, ascend_front, ascend_to, less_is, other_name, stand_reads, texts_both}
use Rattle.gix_ref_format.proofs.ReadBack.{back_cut, front_cut, packed_reads}
use Rattle.gix_ref_format.proofs.SortLemmas.{below}

-- ---- a run in two

pub entries_cut : (i : ℕ) (xs : List Entry) → entry_records (take i xs) ++ entry_records (drop i xs) ≡ entry_records xs
entries_cut zero [] = refl
entries_cut zero (x ∷ xs) = refl
entries_cut (suc i) [] = refl
entries_cut (suc i) (x ∷ xs) = ap (λ rs. entry_record x ∷ rs) (entries_cut i xs)

module _ (xs front back : List Entry) (i : ℕ) (front_is : front ≡ take i xs) (back_is : back ≡ drop i xs) where
  pub parts_are : entry_records xs ≡ entry_records front ++ entry_records back
  parts_are = sym (entries_cut i xs) ∙ ap (λ es. entry_records es ++ entry_records (drop i xs)) (sym front_is) ∙ ap (λ es. entry_records front ++ entry_records es) (sym back_is)

  pub front_ascends : ascends (entry_records xs) ≡ true → ascends (entry_records front) ≡ true
  front_ascends up = ascend_to (entry_records front) (ascend_front (entry_records front) (entry_records back) (subst Ascend parts_are (ascend_from (entry_records xs) up)))

  pub back_ascends : ascends (entry_records xs) ≡ true → ascends (entry_records back) ≡ true
  back_ascends up = ascend_to (entry_records back) (ascend_back (entry_records front) (entry_records back) (subst Ascend parts_are (ascend_from (entry_records xs) up)))

  whole : (text : List ℕ) → text ≡ records_text (entry_records xs) → text ≡ records_text (entry_records front) ++ records_text (entry_records back)
  whole text is = is ∙ ap records_text parts_are ∙ texts_both (entry_records front) (entry_records back)

  pub room_is : (text : List ℕ) → text ≡ records_text (entry_records xs) → length (records_text (entry_records front)) ≤ length text
  room_is text is =
      let all = length-append (records_text (entry_records front)) (records_text (entry_records back)) in
      let long = ap (λ (t : List ℕ). length t) (whole text is) in
      omega (arith, all, long)

  pub front_text : (text : List ℕ) (n : ℕ) → text ≡ records_text (entry_records xs) → n ≡ length (records_text (entry_records front)) → take n text ≡ records_text (entry_records front)
  front_text text n is long = ap (λ m. take m text) long ∙ ap (take (length (records_text (entry_records front)))) (whole text is) ∙ front_cut (records_text (entry_records front)) (records_text (entry_records back))

  pub back_text : (text : List ℕ) (n : ℕ) → text ≡ records_text (entry_records xs) → n ≡ length (records_text (entry_records front)) → drop n text ≡ records_text (entry_records back)
  back_text text n is long = ap (λ m. drop m text) long ∙ ap (drop (length (records_text (entry_records front)))) (whole text is) ∙ back_cut (records_text (entry_records front)) (records_text (entry_records back))

-- ---- entries around a name

sorted_both : (x y : Entry) (xs : List Entry) → cmp x.name y.name ≡ Less → IsSortedBy before (y ∷ xs) → IsSortedBy before (x ∷ y ∷ xs)
sorted_both x y xs less rest = go
  where
    go : IsSortedBy before (x ∷ y ∷ xs)
    go zero d low high = ap is_lt (nat_list_cmp_total.antisymm y.name x.name ∙ ap ordering_reverse less)
    go (suc k) d low high =
        let next : suc k + 1 ≡ suc (k + 1) = omega arith in
        subst (λ (n : ℕ). before (get_or (x ∷ y ∷ xs) n d) (get_or (y ∷ xs) k d) ≡ false) (sym next) (rest k d (omega arith) (omega (arith, high)))

pub sorted_from : (xs : List Entry) → Ascend (entry_records xs) → IsSortedBy before xs
sorted_from [] up = λ k d low high. absurd (omega (arith, high))
sorted_from (x ∷ []) up = λ k d low high. absurd (omega (arith, high))
sorted_from (x ∷ y ∷ xs) up = sorted_both x y xs up.0.0 (sorted_from (y ∷ xs) up.1)

pub all_below : (key : List ℕ) (xs : List Entry) (i : ℕ) → IsPartitionPoint (λ y. below key y ≡ true) (λ y. below key y ≡ false) xs i → AllBelow key (entry_records (take i xs))
all_below key [] zero parts = tt
all_below key [] (suc i) parts = tt
all_below key (x ∷ xs) zero parts = tt
all_below key (x ∷ xs) (suc i) parts = (
  less_is (cmp x.name key) (parts.0 0 x (omega arith) (omega arith)),
  all_below key xs i (λ k d low lt. parts.0 (suc k) d (omega (arith, low)) (omega (arith, lt)), λ k d low lt. parts.1 (suc k) d (omega (arith, low)) (omega (arith, lt))),
)

pub none_below : (key : List ℕ) (xs : List Entry) (i : ℕ) → IsPartitionPoint (λ y. below key y ≡ true) (λ y. below key y ≡ false) xs i → NoneBelow key (entry_records (drop i xs))
none_below key [] zero parts = tt
none_below key [] (suc i) parts = tt
none_below key (x ∷ xs) zero parts = (
  parts.1 0 x (omega arith) (omega arith),
  none_below key xs zero (λ k d low lt. absurd (omega (arith, low)), λ k d low lt. parts.1 (suc k) d (omega arith) (omega (arith, lt))),
)
none_below key (x ∷ xs) (suc i) parts =
    none_below key xs i (λ k d low lt. parts.0 (suc k) d (omega (arith, low)) (omega (arith, lt)), λ k d low lt. parts.1 (suc k) d (omega (arith, low)) (omega (arith, lt)))

less_other : (x y : List ℕ) → is_lt (cmp y x) ≡ false → bytes_eq y x ≡ false → cmp x y ≡ Less
less_other x y not_below differs = less_than x y not_below (go (bytes_eq x y) refl)
  where
    same : (a b : List ℕ) → a ≡ b → bytes_eq a b ≡ true → bytes_eq b a ≡ true
    same a b e is = ap (λ n. bytes_eq n a) (sym e) ∙ ap (bytes_eq a) e ∙ is

    go : (b : Bool) → bytes_eq x y ≡ b → b ≡ false
    go false is = refl
    go true is = clash (sym (same x y (same_of x y is) is) ∙ differs)

pub after_none : (name : List ℕ) (xs : List Entry) → is_first_named name xs ≡ false → NoneBelow name (entry_records xs) → Ascend (entry_records xs)
    → IsAfter name (entry_records xs) (entry_records xs)
after_none name xs other none up = record { mid = None; parts = refl; named = tt; above = go xs other none up }
  where
    go : (xs : List Entry) → is_first_named name xs ≡ false → NoneBelow name (entry_records xs) → Ascend (entry_records xs) → ComesBefore name (entry_records xs)
    go [] other none up = tt
    go (x ∷ xs) other none up =
        let less = less_other name x.name none.0 other in
        (less, before_all name x.name (entry_records xs) less up.0)

pub after_first : (name : List ℕ) (xs ys : List Entry) → is_first_named name xs ≡ true → ys ≡ drop 1 xs → Ascend (entry_records xs) → IsAfter name (entry_records xs) (entry_records ys)
after_first name [] ys same is up = clash (sym same)
after_first name (x ∷ xs) ys same is up = record {
  mid = Some (entry_record x);
  parts = ap (λ es. entry_record x ∷ entry_records es) (sym is);
  named = same_of x.name name same;
  above = subst (λ (es : List Entry). ComesBefore name (entry_records es)) (sym is) (subst (λ (n : List ℕ). ComesBefore n (entry_records xs)) (same_of x.name name same) up.0);
}

-- ---- the records of other names

filter_both : (p : Record → Bool) (xs ys : List Record) → filter p (xs ++ ys) ≡ filter p xs ++ filter p ys
filter_both p [] ys = refl
filter_both p (x ∷ xs) ys = go (p x) (filter_both p xs ys)
  where
    go : (b : Bool) → filter p (xs ++ ys) ≡ filter p xs ++ filter p ys → cond b (x ∷ filter p (xs ++ ys)) (filter p (xs ++ ys)) ≡ cond b (x ∷ filter p xs) (filter p xs) ++ filter p ys
    go true rest = ap (λ rs. x ∷ rs) rest
    go false rest = rest

pub filter_records : (p : Record → Bool) (xs : List Entry) → filter p (entry_records xs) ≡ entry_records (filter (λ e. p (entry_record e)) xs)
filter_records p [] = refl
filter_records p (x ∷ xs) = go (p (entry_record x)) (filter_records p xs)
  where
    go : (b : Bool) → filter p (entry_records xs) ≡ entry_records (filter (λ e. p (entry_record e)) xs)
        → cond b (entry_record x ∷ filter p (entry_records xs)) (filter p (entry_records xs)) ≡ entry_records (cond b (x ∷ filter (λ e. p (entry_record e)) xs) (filter (λ e. p (entry_record e)) xs))
    go true rest = ap (λ rs. entry_record x ∷ rs) rest
    go false rest = rest

abbrev pub is_other : List ℕ → Record → Bool
is_other name r = not (bytes_eq r.name name)

below_stay : (name : List ℕ) (rs : List Record) → AllBelow name rs → filter (is_other name) rs ≡ rs
below_stay name [] below = refl
below_stay name (r ∷ rs) below =
    ap (λ b. cond (not b) (r ∷ filter (is_other name) rs) (filter (is_other name) rs)) (other_name r.name name below.0) ∙ ap (λ l. r ∷ l) (below_stay name rs below.1)

above_stay : (name : List ℕ) (rs : List Record) → ComesBefore name rs → filter (is_other name) rs ≡ rs
above_stay name [] above = refl
above_stay name (r ∷ rs) above =
    ap (λ b. cond (not b) (r ∷ filter (is_other name) rs) (filter (is_other name) rs)) (differs_from_less name r.name above.0) ∙ ap (λ l. r ∷ l) (above_stay name rs above.1)

mid_goes : (name : List ℕ) (mid : Option Record) → IfSome mid (λ r. r.name ≡ name) → filter (is_other name) (option_to_list mid) ≡ []
mid_goes name None named = refl
mid_goes name (Some r) named = ap (λ b. cond (not b) (r ∷ []) []) (ap (λ n. bytes_eq n name) named ∙ itself name)

others_are : (name : List ℕ) (records front back : List Record) → IsAround name records front back → filter (is_other name) records ≡ front ++ back
others_are name records front back around =
    let mid = option_to_list around.after.mid in
    ap (filter (is_other name)) (around.parts ∙ ap (λ rs. front ++ rs) around.after.parts)
    ∙ filter_both (is_other name) front (mid ++ back) ∙ ap (λ l. l ++ filter (is_other name) (mid ++ back)) (below_stay name front around.below)
    ∙ ap (λ l. front ++ l) (filter_both (is_other name) mid back ∙ ap (λ l. l ++ filter (is_other name) back) (mid_goes name around.after.mid around.after.named) ∙ above_stay name back around.after.above)

pub joined_is : (name : List ℕ) (records front back : List Record) (bytes one other : List ℕ) → IsAround name records front back → ascends front ≡ true → ascends back ≡ true
    → bytes ≡ header_text ++ (one ++ other) → one ≡ records_text front → other ≡ records_text back → IsWritten (filter (is_other name) records) bytes
joined_is name records front back bytes one other around up up_back joined one_is other_is =
    subst (λ (rs : List Record). IsWritten rs bytes) (sym (others_are name records front back around))
    (record {
      ascend = ascend_to (front ++ back)
          (ascend_both name front back (ascend_from front up) around.below (λ m less. before_all m name back less around.after.above) (ascend_from back up_back));
      is = joined ∙ ap (λ t. header_text ++ (t ++ other)) one_is ∙ ap (λ t. header_text ++ (records_text front ++ t)) other_is ∙ ap (λ t. header_text ++ t) (sym (texts_both front back));
    })

pub written_keeps : (kind : Kind) (records : List Record) (text : List ℕ) → AllStand records → AllHaveKind kind records → IsWritten records text → Keeps kind text records
written_keeps kind records text stand have written = (
  records,
  ap (packed_records kind) written.is ∙ packed_reads kind records (stand_reads kind records stand have),
  record { same = IsPermutation-refl records; first = λ name. refl },
)

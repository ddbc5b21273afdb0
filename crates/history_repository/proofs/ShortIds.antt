-- Short ids: which words are ones, and what the prefix that one spells names among what is stored.
use Rattle.std.proofs.Common.{◌≡◌, ◌∙◌, ap, refl, sym, subst, ℕ, zero, suc, ◌+◌, ◌<◌, ◌≤◌, Bool, true, false, cond, ◌&&◌, ◌==◌, List, [], ◌∷◌, ◌++◌, map, length, filter, Option, Some, None, is_some, unwrap_or, arith, tests, inl, inr, eq-eqb, ◌⊎◌}
use Rattle.std.specs.Prelude.{nat_le, T}
use Rattle.std.specs.Char.{to_ascii_lowercase}
use Rattle.std.specs.Str.{IsAscii, IsUtf8}
use Rattle.std.specs.List.{list_all}
use Rattle.std.specs.Ordering.{eq_by_cmp, is_eq, is_lt, ordering_reverse}
use Rattle.std.specs.declared.cmp.Ordering.{Ordering}
use Rattle.std.specs.declared.cmp.Ordering.TheVariants.{Less, Equal, Greater}
use Rattle.std.specs.FinMap.{contains_key, contains_key-keys, entries, entries_sorted, get, keys, is_sorted}
use Rattle.std.specs.FinMap.Entries.{below_all}
use Rattle.std.proofs.lemmas.Bool.{and_from, and_parts, cases_lt, eqb-true}
use Rattle.std.proofs.lemmas.List.{length-map}
use Rattle.std.proofs.lemmas.Str.{IsUtf8-from_ascii}
use Rattle.std.proofs.lemmas.Str.Ascii.{IsAscii-nil, IsAscii-cons}
use Rattle.hex.specs.Hex.{hex_digit_value, is_hex_digit}
use Rattle.hex.proofs.HexLemmas.{IsDigits-lower_digits}
use Rattle.gix_hash.specs.Id.{Id, id_of}
use Rattle.gix_hash.specs.Kind.{hex_len}
use Rattle.gix_hash.specs.OrderLaws.{id_total}
use Rattle.gix_hash.specs.Spelling.{hex_character, hex_text, IsHexOf}
use Rattle.gix_hash.specs.declared.kind.Kind.{Kind}
use Rattle.gix_hash.specs.declared.object_id.ObjectId.{ObjectId}
use Rattle.gix_hash.proofs.LawLemmas.{AreDigits, none, more}
use Rattle.gix_hash.specs.Beginnings.{IsBeginningOf}
use Rattle.gix_ref_file.specs.History.{History}
use Rattle.gix_ref_file.proofs.Below.{when_lt}
use Rattle.history_model.specs.Bytes.{Bytes, begins, lower}
use Rattle.history_model.specs.Objects.{Value, by_id, hex, value_text}
use Rattle.history_model.specs.Forms.{is_id}
use Rattle.history_model.specs.Repository.{Repository}
use Rattle.history_model.specs.Words.{id_meaning, is_short_id, matches, only_one}
use Rattle.history_model.proofs.IdLemmas.{HasKind, digest_is_id, has_kind, same_id_tie}
use Rattle.history_model.proofs.WholeLists.{In, all_pass, one_passes, pass_all, passes_one}
use Rattle.history_store.specs.ObjectsFace.{kind_of_objects}
use Rattle.history_store.specs.Ids.{AreOfKind}
use Rattle.history_store.specs.Prefixes.{CanName, IsHit, IsMatch}
use Rattle.history_store.specs.declared.prefixes.Hit.TheVariants.{Absent, One, Several}
use Rattle.history_repository.specs.Face.{known_ids}
use Rattle.history_repository.specs.Meanings.{SpellsPrefix}
use Rattle.history_repository.specs.Stands.{Stands}
use Rattle.gix_hash.specs.Prefix as prefixes
use Rattle.history_model.specs.Words as model
use Rattle.history_repository.specs.declared.repository.Repository as own

-- ---- digits of any letter case

-- a digit in lower case is its value's character
abbrev lowers : ℕ → Bool
lowers c = cond (is_some (hex_digit_value c)) (to_ascii_lowercase c == hex_character (unwrap_or (hex_digit_value c) 16)) true

abbrev all_lower : ℕ → Bool
all_lower zero = true
all_lower (suc n) = lowers n && all_lower n

lower_at : (n c : ℕ) → all_lower n ≡ true → c < n → lowers c ≡ true
lower_at zero c h lt = absurd (omega (arith, lt))
lower_at (suc n) c h lt = elim (cases_lt c n) [
  | inl under ↦ lower_at n c (and_parts _ _ h).1 under
  | inr over ↦
      let same : n ≡ c = omega (arith, lt, over) in
      subst (λ k. lowers k ≡ true) same (and_parts _ _ h).0
]

digit_below : (c d : ℕ) → hex_digit_value c ≡ Some d → c < 103
digit_below c d e = grind (arith, tests)

value_below : (c d : ℕ) → hex_digit_value c ≡ Some d → d < 16
value_below c d e = grind (arith, tests)

digit_lower : (c d : ℕ) → hex_digit_value c ≡ Some d → to_ascii_lowercase c ≡ hex_character d
digit_lower c d e =
    let step : lowers c ≡ (to_ascii_lowercase c == hex_character d) = ap (λ o. cond (is_some o) (to_ascii_lowercase c == hex_character (unwrap_or o 16)) true) e in
    eqb-true (to_ascii_lowercase c) (hex_character d) (sym step ∙ lower_at 103 c refl (digit_below c d e))

pub text_lower : (text digits : Bytes) → IsHexOf text digits → lower text ≡ hex_text digits
text_lower [] [] e = refl
text_lower [] (d ∷ digits) e = cc
text_lower (c ∷ text) [] e = cc
text_lower (c ∷ text) (d ∷ digits) e =
    let first : hex_digit_value c ≡ Some d = cc in
    let others : map hex_digit_value text ≡ map (λ (d : ℕ). Some d) digits = cc in
    λ i. digit_lower c d first i ∷ text_lower text digits others i

pub are_low : (text digits : Bytes) → IsHexOf text digits → AreDigits digits
are_low text [] e = none
are_low [] (d ∷ digits) e = cc
are_low (c ∷ text) (d ∷ digits) e =
    let first : hex_digit_value c ≡ Some d = cc in
    let others : map hex_digit_value text ≡ map (λ (d : ℕ). Some d) digits = cc in
    more (value_below c d first) (are_low text digits others)

all_hex : (text digits : Bytes) → IsHexOf text digits → list_all is_hex_digit text ≡ true
all_hex [] digits e = refl
all_hex (c ∷ text) [] e = cc
all_hex (c ∷ text) (d ∷ digits) e =
    let first : hex_digit_value c ≡ Some d = cc in
    let others : map hex_digit_value text ≡ map (λ (d : ℕ). Some d) digits = cc in
    and_from _ _ (ap is_some first) (all_hex text digits others)

ascii_digit : (c : ℕ) → is_hex_digit c ≡ true → c < 128
ascii_digit c h = grind (arith, tests)

are_ascii : (text : Bytes) → list_all is_hex_digit text ≡ true → IsAscii text
are_ascii [] h = IsAscii-nil
are_ascii (c ∷ text) h = IsAscii-cons c text (ascii_digit c (and_parts _ _ h).0) (are_ascii text (and_parts _ _ h).1)

-- ---- words that are short ids

last_false : (a b : Bool) → b ≡ false → (a && b) ≡ false
last_false true b e = e
last_false false b e = refl

module _ (kind : Kind) (word : Bytes) where
  pub no_text : (IsUtf8 word → ⊥) → is_short_id kind word ≡ false
  no_text bad = by_test (list_all is_hex_digit word) refl
    where
      by_test : (b : Bool) → list_all is_hex_digit word ≡ b → ((nat_le 4 (length word) && nat_le (length word) (hex_len kind)) && list_all is_hex_digit word) ≡ false
      by_test true e = absurd (bad (IsUtf8-from_ascii word (are_ascii word e)))
      by_test false e = last_false (nat_le 4 (length word) && nat_le (length word) (hex_len kind)) (list_all is_hex_digit word) e

  pub spells : (prefix : Id) → length word ≤ hex_len kind → prefixes.SpellsPrefix hex_digit_value 4 word prefix → SpellsPrefix kind word prefix
  spells prefix fits spelled =
      let enough = spelled.long_enough in
      let four : nat_le 4 (length word) ≡ true = grind (arith, tests) in
      let most : nat_le (length word) (hex_len kind) ≡ true = grind (arith, tests) in
      record { short = and_from _ _ (and_from _ _ four most) (all_hex word prefix.digits spelled.spelled); digits = spelled.spelled }

  pub can_name : (prefix : Id) → SpellsPrefix kind word prefix → CanName kind prefix
  can_name prefix spelled =
      let same : length word ≡ length prefix.digits =
      sym (length-map word hex_digit_value) ∙ ap length spelled.digits ∙ length-map prefix.digits (λ (d : ℕ). Some d) in
      let tested = and_parts _ _ (and_parts _ _ spelled.short).0 in
      let four : 4 ≤ length word = le_told 4 (length word) tested.0 in
      let most : length word ≤ hex_len kind = le_told (length word) (hex_len kind) tested.1 in
      record { enough = omega (arith, same, four); fits = omega (arith, same, most) }
    where
      le_told : (a b : ℕ) → nat_le a b ≡ true → a ≤ b
      le_told a b h = grind (arith, tests)

-- ---- beginnings

one_digit : (d e : ℕ) → d < 16 → e < 16 → hex_character d ≡ hex_character e → d ≡ e
one_digit d e low_d low_e same =
    let both : Some d ≡ Some e = sym (IsDigits-lower_digits d low_d) ∙ ap hex_digit_value same ∙ IsDigits-lower_digits e low_e in
    cc

begin_told : (front digits : Bytes) → AreDigits front → AreDigits digits → begins (hex_text front) (hex_text digits) ≡ true → IsBeginningOf front digits
begin_told [] digits hf hd h = (digits, refl)
begin_told (d ∷ front) [] hf hd h = absurd (cc h)
begin_told (d ∷ front) (e ∷ digits) (more low hf) (more small hd) h =
    let same = one_digit d e low small (eqb-true (hex_character d) (hex_character e) (and_parts _ _ h).0) in
    let rest = begin_told front digits hf hd (and_parts _ _ h).1 in
    (rest.0, λ i. sym same i ∷ rest.1 i)

told_begin : (front rest : Bytes) → begins (hex_text front) (hex_text (front ++ rest)) ≡ true
told_begin [] rest = refl
told_begin (d ∷ front) rest = and_from _ _ (eq-eqb (hex_character d) (hex_character d) refl) (told_begin front rest)

-- ---- ids that pass a test

-- what passes is in the list
of_kept : {X : Type 0} (p : X → Bool) (x : X) (xs : List X) → In x (filter p xs) → In x xs × (p x ≡ true)
of_kept p x [] i = absurd i
of_kept {X} p x (y ∷ xs) i = by_test (p y) refl i (of_kept p x xs)
  where
    by_test : (b : Bool) → p y ≡ b → In x (cond b (y ∷ filter p xs) (filter p xs)) → (In x (filter p xs) → In x xs × (p x ≡ true)) → ((x ≡ y) ⊎ In x xs) × (p x ≡ true)
    by_test true e (inl same) later = (inl same, ap p same ∙ e)
    by_test true e (inr j) later = let rest = later j in (inr rest.0, rest.1)
    by_test false e j later = let rest = later j in (inr rest.0, rest.1)

in_kept : {X : Type 0} (p : X → Bool) (x : X) (xs : List X) → In x xs → p x ≡ true → In x (filter p xs)
in_kept p x [] i h = absurd i
in_kept {X} p x (y ∷ xs) i h = by_test (p y) refl i (λ j. in_kept p x xs j h)
  where
    by_test : (b : Bool) → p y ≡ b → (x ≡ y) ⊎ In x xs → (In x xs → In x (filter p xs)) → In x (cond b (y ∷ filter p xs) (filter p xs))
    by_test true e (inl same) later = inl same
    by_test true e (inr j) later = inr (later j)
    by_test false e (inl same) later = let z : ⊥ = cc (ap p same, h, e) in absurd z
    by_test false e (inr j) later = later j

-- ids that ascend, each once
abbrev ascend : List Id → Bool
ascend [] = true
ascend (x ∷ xs) = list_all (λ y. is_lt (by_id x y)) xs && ascend xs

ascend_kept : (p : Id → Bool) (xs : List Id) → ascend xs ≡ true → ascend (filter p xs) ≡ true
ascend_kept p [] h = refl
ascend_kept p (x ∷ xs) h = by_test (p x) (ascend_kept p xs (and_parts _ _ h).1)
  where
    less : list_all (λ y. is_lt (by_id x y)) (filter p xs) ≡ true
    less = pass_all (λ y. is_lt (by_id x y)) (filter p xs) (λ y i. all_pass (λ y. is_lt (by_id x y)) xs (and_parts _ _ h).0 y (of_kept p y xs i).0)

    by_test : (b : Bool) → ascend (filter p xs) ≡ true → ascend (cond b (x ∷ filter p xs) (filter p xs)) ≡ true
    by_test true rest = and_from _ _ less rest
    by_test false rest = rest

below_front : {X : Type 0} (x : Id) (es : List (Id × X)) → below_all by_id x es ≡ true → list_all (λ y. is_lt (by_id x y)) (map (λ e. e.0) es) ≡ true
below_front x [] h = refl
below_front x (e ∷ es) h = and_from _ _ (and_parts _ _ h).0 (below_front x es (and_parts _ _ h).1)

front_ascends : {X : Type 0} (es : List (Id × X)) → is_sorted by_id es ≡ true → ascend (map (λ e. e.0) es) ≡ true
front_ascends [] h = refl
front_ascends (e ∷ es) h = and_from _ _ (below_front e.0 es (and_parts _ _ h).0) (front_ascends es (and_parts _ _ h).1)

told_T : (b : Bool) → T b → b ≡ true
told_T true h = refl
told_T false h = absurd h

-- an id isn't less than itself
not_itself : (a b : Id) → is_lt (by_id a b) ≡ true → a ≡ b → ⊥
not_itself a b less same =
    let itself : by_id a a ≡ Less = ap (by_id a) same ∙ when_lt (by_id a b) less in
    let back = id_total.antisymm a a in
    absurd (cc (itself, back))

none_only : (ids : List Id) → ((id : Id) → In id ids → ⊥) → only_one ids ≡ model.Unknown
none_only [] h = refl
none_only (x ∷ ids) h = absurd (h x (inl refl))

one_only : (ids : List Id) (id : Id) → ascend ids ≡ true → In id ids → ((other : Id) → In other ids → other ≡ id) → only_one ids ≡ model.ReadsAs id
one_only [] id order i h = absurd i
one_only (x ∷ []) id order i h = ap model.ReadsAs (h x (inl refl))
one_only (x ∷ y ∷ ids) id order i h = absurd (not_itself x y (and_parts _ _ (and_parts _ _ order).0).0 (h x (inl refl) ∙ sym (h y (inr (inl refl)))))

two_only : (ids : List Id) (one other : Id) → In one ids → In other ids → (one ≡ other → ⊥) → only_one ids ≡ model.Ambiguous
two_only [] one other i j differ = absurd i
two_only (x ∷ []) one other (inl e) (inl f) differ = absurd (differ (e ∙ sym f))
two_only (x ∷ []) one other (inl e) (inr j) differ = absurd j
two_only (x ∷ []) one other (inr i) j differ = absurd i
two_only (x ∷ y ∷ ids) one other i j differ = refl

-- ---- the keys of a map by ids

is_tie : (r : Ordering) → is_eq r ≡ true → r ≡ Equal
is_tie Less h = cc
is_tie Equal h = refl
is_tie Greater h = cc

module _ (r : Repository) where
  keys_ascend : ascend (keys r.objects) ≡ true
  keys_ascend = front_ascends (entries r.objects) (told_T (is_sorted by_id (entries r.objects)) (entries_sorted r.objects))

  key_in : (id : Id) → contains_key r.objects id ≡ true → In id (keys r.objects)
  key_in id has =
      let found = one_passes (eq_by_cmp by_id id) (keys r.objects) (sym (contains_key-keys r.objects id) ∙ has) in
      subst (λ x. In x (keys r.objects)) (sym (same_id_tie id found.0 (is_tie (by_id id found.0) found.2))) found.1

  in_key : (id : Id) → In id (keys r.objects) → contains_key r.objects id ≡ true
  in_key id i = contains_key-keys r.objects id ∙ passes_one (eq_by_cmp by_id id) (keys r.objects) id i (tied (id_total.antisymm id id))
    where
      tied : by_id id id ≡ ordering_reverse (by_id id id) → is_eq (by_id id id) ≡ true
      tied = go (by_id id id)
        where
          go : (o : Ordering) → o ≡ ordering_reverse o → is_eq o ≡ true
          go Less e = cc
          go Equal e = refl
          go Greater e = cc

  stored_at : (id : Id) → contains_key r.objects id ≡ true → (value : Value) × (get r.objects id ≡ Some value)
  stored_at id has = go (get r.objects id) refl has
    where
      go : (found : Option Value) → get r.objects id ≡ found → is_some found ≡ true → (value : Value) × (get r.objects id ≡ Some value)
      go None e h = cc
      go (Some value) e h = (value, e)

-- ---- a repository that represents `r`

module _ {F : Type 0} (IsHonest : F → Type 0) (history : F → History) (repository : own.Repository F) (r : Repository) (stand : Stands IsHonest history repository r) where
  id_form : (id : Id) → contains_key r.objects id ≡ true → HasKind r.kind id
  id_form id has =
      let found = stored_at r id has in
      has_kind r.kind id (subst (λ i. is_id r.kind i ≡ true) (sym (stand.whole.whole.store.own_ids id found.0 found.1)) (digest_is_id r.kind (value_text r.kind found.0)))

  pub kinds_known : AreOfKind (kind_of_objects repository.objects) (known_ids repository)
  kinds_known = λ id has. (id_form id (sym (stand.known id) ∙ has)).of_kind ∙ sym stand.objects_kind

  module _ (word : Bytes) (prefix : Id) (spelled : SpellsPrefix (kind_of_objects repository.objects) word prefix) where
    abbrev test : Id → Bool
    test id = begins (lower word) (hex id)

    lower_is : lower word ≡ hex_text prefix.digits
    lower_is = text_lower word prefix.digits spelled.digits

    match_in : (id : Id) → IsMatch (known_ids repository) prefix id → In id (matches r word)
    match_in id found = in_kept test id (keys r.objects) (key_in r id (sym (stand.known id) ∙ found.known))
        ((λ i. begins (lower_is i) (hex_text (found.begins.1 i))) ∙ told_begin prefix.digits found.begins.0)

    in_match : (id : Id) → In id (matches r word) → IsMatch (known_ids repository) prefix id
    in_match id i =
        let kept = of_kept test id (keys r.objects) i in
        let has = in_key r id kept.0 in
        record {
          known = stand.known id ∙ has;
          begins = begin_told prefix.digits id.digits (are_low word prefix.digits spelled.digits) (id_form id has).digits (ap (λ text. begins text (hex id)) (sym lower_is) ∙ kept.1);
        }

    short : is_short_id r.kind word ≡ true
    short = subst (λ kind. is_short_id kind word ≡ true) stand.objects_kind spelled.short

    meaning_is : id_meaning r word ≡ only_one (matches r word)
    meaning_is = ap (λ b. cond b (only_one (matches r word)) model.Unknown) short

    pub absent_told : IsHit (known_ids repository) prefix Absent → id_meaning r word ≡ model.Unknown
    absent_told hit = meaning_is ∙ none_only (matches r word) (λ id i. hit id (in_match id i))

    pub one_told : (id : ObjectId) → IsHit (known_ids repository) prefix (One id) → id_meaning r word ≡ model.ReadsAs (id_of id)
    one_told id hit = meaning_is ∙ one_only (matches r word) (id_of id) (ascend_kept test (keys r.objects) (keys_ascend r)) (match_in (id_of id) hit.0) (λ other i. hit.1 other (in_match other i))

    pub several_told : IsHit (known_ids repository) prefix Several → id_meaning r word ≡ model.Ambiguous
    several_told (one, other, two) = meaning_is ∙ two_only (matches r word) one other (match_in one two.one_matches) (match_in other two.other_matches) two.differ

    pub one_stored : (id : ObjectId) → IsHit (known_ids repository) prefix (One id) → (value : Value) × (get r.objects (id_of id) ≡ Some value)
    one_stored id hit = stored_at r (id_of id) (sym (stand.known (id_of id)) ∙ (hit.0).known)

-- a word that is no short id means none
pub no_short_id : (r : Repository) (kind : Kind) (word : Bytes) → kind ≡ r.kind → is_short_id kind word ≡ false → id_meaning r word ≡ model.Unknown
no_short_id r kind word same refused = ap (λ b. cond b (only_one (matches r word)) model.Unknown) (ap (λ k. is_short_id k word) (sym same) ∙ refused)

-- What is written of entries one after another.
use Rattle.std.proofs.Common.{◌≡◌, ◌∙◌, ap, refl, sym, subst, ℕ, suc, ◌+◌, ◌<◌, ◌≤◌, Bool, true, false, not, cond, ◌||◌, List, [], ◌∷◌, ◌++◌, length, map, take, drop, get_or, Option, None, Some, Err, length-append, append_assoc, arith}
use Rattle.std.specs.Prelude.{if◌then◌else◌}
use Rattle.std.specs.List.{list_any}
use Rattle.std.specs.Io.KnownBytes.{Appends}
use Rattle.std.proofs.KnownBytes.{Appends-trans}
use Rattle.std.proofs.Math.Seq.{split_at}
use Rattle.std.proofs.lemmas.List.{append-nil, map-append}
use Rattle.std.proofs.lemmas.List.Sums.{take_while-cons}
use Rattle.std.proofs.lemmas.Grind.{flat_map-append}
use Rattle.gix_hash.specs.Id.{Id, raw_bytes, bytes_from}
use Rattle.gix_hash.specs.Packed.{bytes_from-digits_of}
use Rattle.gix_hash.specs.Views.{IsBytesOf}
use Rattle.gix_object_lines.proofs.Fronts.{front_then}
use Rattle.gix_hash.specs.Writes.{AppendsFewer}
use Rattle.gix_object_lines.specs.Writes.{Writes, writable, cause_of}
use Rattle.gix_object_lines.specs.declared.write.Error.{Error}
use Rattle.gix_object_lines.specs.declared.write.Error.TheVariants.{Writer, Header, TagName, Filename}
use Rattle.gix_object_lines.specs.declared.write.FilenameError.TheVariants.{NullbyteInFilename}
use Rattle.gix_object_tree.specs.Entry.{Item}
use Rattle.gix_object_tree.specs.ModeText.{mode_text}
use Rattle.gix_object_tree.specs.Writing.{entry_text, tree_text, has_zero, written_front, tree_refusal}
use Rattle.std.proofs.lemmas.Bool.{or_parts}

pub raw_of : (bytes : List ℕ) (id : Id) → IsBytesOf bytes id → bytes ≡ raw_bytes id
raw_of bytes id is = sym (bytes_from-digits_of bytes) ∙ ap bytes_from is.digits

-- the element at a place, between those before and those after
pub cut_at : {T : Type 0} (item : T → Item) (xs : List T) (at : ℕ) (x : T) → at < length xs → x ≡ get_or xs at x → map item xs ≡ map item (take at xs) ++ item x ∷ map item (drop (suc at) xs)
cut_at item xs at x below is =
    ap (map item) (split_at xs at x below) ∙ map-append item (take at xs) (get_or xs at x ∷ drop (suc at) xs)
    ∙ ap (λ y. map item (take at xs) ++ item y ∷ map item (drop (suc at) xs)) (sym is)

-- ---- refusals

pub no_refusal : (items : List Item) → list_any has_zero items ≡ false → tree_refusal items ≡ None
no_refusal items fine = ap (λ b. if b then Some (record { before = tree_text (written_front items); cause = Filename NullbyteInFilename }) else None) fine

pub refused : (items : List Item) → list_any has_zero items ≡ true → tree_refusal items ≡ Some (record { before = tree_text (written_front items); cause = Filename NullbyteInFilename })
refused items bad = ap (λ b. if b then Some (record { before = tree_text (written_front items); cause = Filename NullbyteInFilename }) else None) bad

head_fine : (item : Item) (rest : List Item) → has_zero item ≡ false → written_front (item ∷ rest) ≡ item ∷ written_front rest
head_fine item rest fine = take_while-cons (λ (i : Item). not (has_zero i)) item rest ∙ ap (λ b. cond (not b) (item ∷ written_front rest) []) fine

head_bad : (item : Item) (rest : List Item) → has_zero item ≡ true → written_front (item ∷ rest) ≡ []
head_bad item rest bad = take_while-cons (λ (i : Item). not (has_zero i)) item rest ∙ ap (λ b. cond (not b) (item ∷ written_front rest) []) bad

front_plain : (done rest : List Item) → list_any has_zero done ≡ false → written_front (done ++ rest) ≡ done ++ written_front rest
front_plain [] rest fine = refl
front_plain (item ∷ done) rest fine =
    let parts = or_parts (has_zero item) (list_any has_zero done) fine in
    head_fine item (done ++ rest) parts.0 ∙ ap (λ t. item ∷ t) (front_plain done rest parts.1)

front_all : (items : List Item) → list_any has_zero items ≡ false → written_front items ≡ items
front_all [] fine = refl
front_all (item ∷ items) fine =
    let parts = or_parts (has_zero item) (list_any has_zero items) fine in
    head_fine item items parts.0 ∙ ap (λ t. item ∷ t) (front_all items parts.1)

writable_by : (items : List Item) (b : Bool) → list_any has_zero items ≡ b → writable (tree_text items) (tree_refusal items) ≡ tree_text (written_front items)
writable_by items true is = ap (λ r. writable (tree_text items) r) (refused items is)
writable_by items false is = ap (λ r. writable (tree_text items) r) (no_refusal items is) ∙ ap tree_text (sym (front_all items is))

writable_is : (items : List Item) → writable (tree_text items) (tree_refusal items) ≡ tree_text (written_front items)
writable_is items = writable_by items (list_any has_zero items) refl

text_append : (xs ys : List Item) → tree_text (xs ++ ys) ≡ tree_text xs ++ tree_text ys
text_append xs ys = flat_map-append entry_text xs ys

or_false : (b : Bool) → (b || false) ≡ b
or_false true = refl
or_false false = refl

one_text : (item : Item) → tree_text (item ∷ []) ≡ entry_text item
one_text item = append-nil (entry_text item)

-- ---- one entry

pub one_refused : (item : Item) → has_zero item ≡ true → tree_refusal (item ∷ []) ≡ Some (record { before = []; cause = Filename NullbyteInFilename })
one_refused item bad =
    refused (item ∷ []) (or_false (has_zero item) ∙ bad)
    ∙ ap (λ t. Some (record { before = tree_text t; cause = Filename NullbyteInFilename })) (head_bad item [] bad)

pub one_fine : (item : Item) → has_zero item ≡ false → tree_refusal (item ∷ []) ≡ None
one_fine item fine = no_refusal (item ∷ []) (or_false (has_zero item) ∙ fine)

-- ---- an entry stopped, and those before it were written

fine_first : (done : List Item) (item : Item) (rest : List Item) → list_any has_zero done ≡ false → has_zero item ≡ false
    → tree_text (written_front (done ++ item ∷ rest)) ≡ (tree_text done ++ entry_text item) ++ tree_text (written_front rest)
fine_first done item rest before fine =
    ap tree_text (front_plain done (item ∷ rest) before ∙ ap (λ t. done ++ t) (head_fine item rest fine))
    ∙ text_append done (item ∷ written_front rest)
    ∙ sym (append_assoc (tree_text done) (entry_text item) (tree_text (written_front rest)))

bad_first : (done : List Item) (item : Item) (rest : List Item) → list_any has_zero done ≡ false → has_zero item ≡ true → tree_text (written_front (done ++ item ∷ rest)) ≡ tree_text done
bad_first done item rest before bad =
    ap tree_text (front_plain done (item ∷ rest) before ∙ ap (λ t. done ++ t) (head_bad item rest bad) ∙ append-nil done)

any_bad : (done : List Item) (item : Item) (rest : List Item) → has_zero item ≡ true → list_any has_zero (done ++ item ∷ rest) ≡ true
any_bad [] item rest bad = ap (λ b. b || list_any has_zero rest) bad
any_bad (first ∷ done) item rest bad = ap (λ b. has_zero first || b) (any_bad done item rest bad) ∙ or_true (has_zero first)
  where
    or_true : (b : Bool) → (b || true) ≡ true
    or_true true = refl
    or_true false = refl

module _ (a b c : Option (List ℕ)) (done : List Item) (item : Item) (rest : List Item) where
  stops_by : (has : Bool) → has_zero item ≡ has → (error : Error) → list_any has_zero done ≡ false → Appends a b (tree_text done)
      → Writes {U = Unit {0}} b c (tree_text (item ∷ [])) (tree_refusal (item ∷ [])) (Err error)
      → Writes {U = Unit {0}} a c (tree_text (done ++ item ∷ rest)) (tree_refusal (done ++ item ∷ rest)) (Err error)
  stops_by true bad (Writer e) before written stopped =
      let front = subst (λ r. AppendsFewer b c (writable (tree_text (item ∷ [])) r)) (one_refused item bad) stopped in
      let short : front.0 < 0 = front.1 in
      absurd (omega arith)
  stops_by true bad (Header e) before written stopped =
      let cause = subst (λ r. cause_of r ≡ Some (Header e)) (one_refused item bad) stopped.0 in absurd cc
  stops_by true bad (TagName e) before written stopped =
      let cause = subst (λ r. cause_of r ≡ Some (TagName e)) (one_refused item bad) stopped.0 in absurd cc
  stops_by true bad (Filename e) before written stopped =
      let cause = subst (λ r. cause_of r ≡ Some (Filename e)) (one_refused item bad) stopped.0 in
      let nothing = subst (λ r. Appends b c (writable (tree_text (item ∷ [])) r)) (one_refused item bad) stopped.1 in
      let all = done ++ item ∷ rest in (
        ap cause_of (refused all (any_bad done item rest bad)) ∙ cause,
        subst (λ t. Appends a c t) (append-nil (tree_text done) ∙ sym (writable_is all ∙ bad_first done item rest before bad))
            (Appends-trans a b c (tree_text done) [] written nothing),
      )
  stops_by false fine (Writer e) before written stopped =
      let all = done ++ item ∷ rest in
      let front = subst (λ t. AppendsFewer b c t) (ap (λ r. writable (tree_text (item ∷ [])) r) (one_fine item fine) ∙ one_text item) stopped in
      front_then a b c (tree_text done) (entry_text item) (tree_text (written_front rest)) (writable (tree_text all) (tree_refusal all))
      (writable_is all ∙ fine_first done item rest before fine) written front
  stops_by false fine (Header e) before written stopped =
      let cause = subst (λ r. cause_of r ≡ Some (Header e)) (one_fine item fine) stopped.0 in absurd cc
  stops_by false fine (TagName e) before written stopped =
      let cause = subst (λ r. cause_of r ≡ Some (TagName e)) (one_fine item fine) stopped.0 in absurd cc
  stops_by false fine (Filename e) before written stopped =
      let cause = subst (λ r. cause_of r ≡ Some (Filename e)) (one_fine item fine) stopped.0 in absurd cc

  pub stops : (error : Error) → list_any has_zero done ≡ false → Appends a b (tree_text done)
      → Writes {U = Unit {0}} b c (tree_text (item ∷ [])) (tree_refusal (item ∷ [])) (Err error)
      → Writes {U = Unit {0}} a c (tree_text (done ++ item ∷ rest)) (tree_refusal (done ++ item ∷ rest)) (Err error)
  stops error = stops_by (has_zero item) refl error

-- ---- lengths

pub length_more : (done : List Item) (item : Item) (rest : List Item) → length (tree_text done) + length (entry_text item) ≤ length (tree_text (done ++ item ∷ rest))
length_more done item rest =
    let whole = ap (λ (t : List ℕ). length t) (text_append done (item ∷ rest)) in
    let front = length-append (tree_text done) (tree_text (item ∷ rest)) in
    let back = length-append (entry_text item) (tree_text rest) in
    omega arith

pub entry_length : (item : Item) (mode name raw : List ℕ) → entry_text item ≡ mode ++ 32 ∷ (name ++ 0 ∷ raw) → length (entry_text item) ≡ length name + (length mode + length raw + 2)
entry_length item mode name raw is =
    let whole = ap (λ (t : List ℕ). length t) is in
    let front = length-append mode (32 ∷ (name ++ 0 ∷ raw)) in
    let back = length-append name (0 ∷ raw) in
    omega arith

pub parts_text : (item : Item) (mode name raw : List ℕ) → mode ≡ mode_text item.mode → name ≡ item.name → raw ≡ raw_bytes item.id
    → mode ++ 32 ∷ (name ++ 0 ∷ (raw ++ [])) ≡ tree_text (item ∷ [])
parts_text item mode name raw is_mode is_name is_raw =
    ap (λ t. t ++ 32 ∷ (name ++ 0 ∷ (raw ++ []))) is_mode
    ∙ ap (λ t. mode_text item.mode ++ 32 ∷ (t ++ 0 ∷ (raw ++ []))) is_name
    ∙ ap (λ t. mode_text item.mode ++ 32 ∷ (item.name ++ 0 ∷ t)) (append-nil raw ∙ is_raw)
    ∙ sym (one_text item)

-- Runs of records that stay, with what edits say between them.
use Rattle.std.proofs.Common.{◌≡◌, ◌∙◌, ap, refl, sym, subst, ℕ, Bool, true, false, cond, ◌&&◌, List, [], ◌∷◌, ◌++◌, Option, Some, None, append_assoc}
use Rattle.std.specs.Prelude.{bytes_eq, IfSome}
use Rattle.std.specs.Option.{option_to_list}
use Rattle.std.specs.Ordering.{is_lt, is_eq, ordering_reverse}
use Rattle.std.specs.declared.cmp.Ordering.{Ordering}
use Rattle.std.specs.declared.cmp.Ordering.TheVariants.{Less, Equal, Greater}
use Rattle.std.proofs.lemmas.Cmp.{nat_list_cmp_total}
use Rattle.std.proofs.lemmas.Map.Text.{is_eq-slice_cmp}
use Rattle.std.proofs.lemmas.Bool.{and_parts}
use Rattle.gix_hash.specs.declared.kind.Kind.{Kind}
use Rattle.gix_ref_format.specs.Packed.{Record, packed_records}
use Rattle.gix_ref_format.specs.Written.{AllHaveKind, AreRecordsOf, header_text, packed_text, record_text, records_text}
use Rattle.gix_ref_format.specs.declared.packed.edit.Edit.{Edit}
use Rattle.gix_ref_format.specs.declared.packed.edit.Edit.TheVariants.{Write, Remove}
use Rattle.gix_ref_format.specs.PackedBuffer.{hit}
use Rattle.gix_ref_format.specs.Edited.{Line, line_of, lines_of, line_at, under, ComesBefore, Ascend, IsEdited, is_same, NoneFalls, Rises, Arranges}
use Rattle.gix_ref_format.specs.PackedText.{AllBelow, AllStand, CanStand, Copies, IsAround, IsMerged, IsTextOf, ascends}
use Rattle.gix_ref_format.proofs.EditLemmas.{before_all, before_none, clash, cmp, differs_from_less, itself, less_than, same_of}
use Rattle.gix_ref_format.proofs.ReadBack.{packed_reads}

-- ---- what comes before all of two lists

before_both : (n : List ℕ) (xs ys : List Record) → ComesBefore n xs → ComesBefore n ys → ComesBefore n (xs ++ ys)
before_both n [] ys one other = other
before_both n (x ∷ xs) ys one other = (one.0, before_both n xs ys one.1 other)

before_front : (n : List ℕ) (xs ys : List Record) → ComesBefore n (xs ++ ys) → ComesBefore n xs
before_front n [] ys before = tt
before_front n (x ∷ xs) ys before = (before.0, before_front n xs ys before.1)

pub ascend_front : (xs ys : List Record) → Ascend (xs ++ ys) → Ascend xs
ascend_front [] ys up = tt
ascend_front (x ∷ xs) ys up = (before_front x.name xs ys up.0, ascend_front xs ys up.1)

pub ascend_back : (xs ys : List Record) → Ascend (xs ++ ys) → Ascend ys
ascend_back [] ys up = up
ascend_back (x ∷ xs) ys up = ascend_back xs ys up.1

-- what the first list is below precedes the second
pub ascend_both : (n : List ℕ) (xs ys : List Record) → Ascend xs → AllBelow n xs → ((m : List ℕ) → cmp m n ≡ Less → ComesBefore m ys) → Ascend ys → Ascend (xs ++ ys)
ascend_both n [] ys up below above other = other
ascend_both n (x ∷ xs) ys up below above other =
    (before_both x.name xs ys up.0 (above x.name below.0), ascend_both n xs ys up.1 below.1 above other)

pub stand_front : (xs ys : List Record) → AllStand (xs ++ ys) → AllStand xs
stand_front [] ys all = tt
stand_front (x ∷ xs) ys all = (all.0, stand_front xs ys all.1)

pub stand_back : (xs ys : List Record) → AllStand (xs ++ ys) → AllStand ys
stand_back [] ys all = all
stand_back (x ∷ xs) ys all = stand_back xs ys all.1

pub stand_both : (xs ys : List Record) → AllStand xs → AllStand ys → AllStand (xs ++ ys)
stand_both [] ys one other = other
stand_both (x ∷ xs) ys one other = (one.0, stand_both xs ys one.1 other)

-- ---- the record of a name

abbrev or_else : Option Record → Option Record → Option Record
or_else None other = other
or_else (Some r) other = Some r

hit_both : (xs ys : List Record) (name : List ℕ) → hit (xs ++ ys) name ≡ or_else (hit xs name) (hit ys name)
hit_both [] ys name = refl
hit_both (x ∷ xs) ys name = go (bytes_eq x.name name) (hit_both xs ys name)
  where
    go : (b : Bool) → hit (xs ++ ys) name ≡ or_else (hit xs name) (hit ys name)
        → cond b (Some x) (hit (xs ++ ys) name) ≡ or_else (cond b (Some x) (hit xs name)) (hit ys name)
    go true rest = refl
    go false rest = rest

hit_past : (xs ys : List Record) (name : List ℕ) → hit xs name ≡ None → hit (xs ++ ys) name ≡ hit ys name
hit_past xs ys name none = hit_both xs ys name ∙ ap (λ o. or_else o (hit ys name)) none

pub other_name : (x y : List ℕ) → cmp x y ≡ Less → bytes_eq x y ≡ false
other_name x y less = sym (is_eq-slice_cmp x y) ∙ ap is_eq less

below_none : (name : List ℕ) (xs : List Record) → AllBelow name xs → hit xs name ≡ None
below_none name [] below = refl
below_none name (x ∷ xs) below =
    ap (λ (b : Bool). cond b (Some x) (hit xs name)) (other_name x.name name below.0) ∙ below_none name xs below.1

below_all : (n name : List ℕ) (xs : List Record) → cmp n name ≡ Less → AllBelow n xs → AllBelow name xs
below_all n name [] less below = tt
below_all n name (x ∷ xs) less below = (nat_list_cmp_total.trans x.name n name below.0 less, below_all n name xs less below.1)

lines_none : (n name : List ℕ) (lines : List Line) → cmp name n ≡ Less → NoneFalls n lines → line_at lines name ≡ None
lines_none n name [] less falls = refl
lines_none n name (line ∷ lines) less falls =
    ap (λ (b : Bool). cond b (Some line) (line_at lines name)) (go (bytes_eq line.name name) refl) ∙ lines_none n name lines less falls.1
  where
    go : (b : Bool) → bytes_eq line.name name ≡ b → b ≡ false
    go false is = refl
    go true is = clash (sym (ap is_lt less) ∙ ap (λ m. is_lt (cmp m n)) (sym (same_of line.name name is)) ∙ falls.0)

-- ---- what a line's record, if it has one, and the records after it hold

-- a record of the name, or none, before records above it
above_less : (n : List ℕ) (said : Option Record) (after : List Record) → IfSome said (λ r. r.name ≡ n) → ComesBefore n after → (m : List ℕ) → cmp m n ≡ Less
    → ComesBefore m (option_to_list said ++ after)
above_less n None after named above m less = before_all m n after less above
above_less n (Some r) after named above m less = (ap (cmp m) named ∙ less, before_all m n after less above)

ascend_said : (n : List ℕ) (said : Option Record) (after : List Record) → IfSome said (λ r. r.name ≡ n) → ComesBefore n after → Ascend after → Ascend (option_to_list said ++ after)
ascend_said n None after named above up = up
ascend_said n (Some r) after named above up = (subst (λ (m : List ℕ). ComesBefore m after) (sym named) above, up)

hit_said : (n : List ℕ) (said : Option Record) (after : List Record) → IfSome said (λ r. r.name ≡ n) → ComesBefore n after → hit (option_to_list said ++ after) n ≡ said
hit_said n None after named above = before_none n after above
hit_said n (Some r) after named above = ap (λ (b : Bool). cond b (Some r) (hit after n)) (ap (λ m. bytes_eq m n) named ∙ itself n)

hit_other : (n name : List ℕ) (said : Option Record) (after : List Record) → IfSome said (λ r. r.name ≡ n) → bytes_eq n name ≡ false → hit (option_to_list said ++ after) name ≡ hit after name
hit_other n name None after named differs = refl
hit_other n name (Some r) after named differs = ap (λ (b : Bool). cond b (Some r) (hit after name)) (ap (λ m. bytes_eq m name) named ∙ differs)

stand_said : (said : Option Record) (after : List Record) → IfSome said CanStand → AllStand after → AllStand (option_to_list said ++ after)
stand_said None after stands all = all
stand_said (Some r) after stands all = (stands, all)

-- ---- records under the lines that are left

-- after the name of the last line, if there was one
abbrev pub After : Option (List ℕ) → List Record → Type 0
After None rs = Unit {0}
After (Some m) rs = ComesBefore m rs

abbrev pub IsAbove : Option (List ℕ) → List ℕ → Type 0
IsAbove None name = Unit {0}
IsAbove (Some m) name = cmp m name ≡ Less

pub record Merges (last : Option (List ℕ)) (records : List Record) (lines : List Line) (after : List Record) : Type 0 where
  pub ascend : Ascend after
  pub behind : After last after
  pub each : (name : List ℕ) → IsAbove last name → hit after name ≡ under (line_at lines name) (hit records name)
  pub stand : AllStand after

pub merged_all : (last : Option (List ℕ)) (records : List Record) → Ascend records → After last records → AllStand records → Merges last records [] records
merged_all last records up behind all = record { ascend = up; behind = behind; each = λ name above. refl; stand = all }

pub merged_is : (records : List Record) (lines : List Line) (after : List Record) → Merges None records lines after → IsEdited records lines after
merged_is records lines after is = record { ascend = is.ascend; each = λ name. is.each name tt }

-- one line more
module _ (last : Option (List ℕ)) (records front back : List Record) (line : Line) (lines : List Line) (after : List Record)
    (up : Ascend records) (behind : After last records) (all : AllStand records) (is_above : IsAbove last line.name) (falls : NoneFalls line.name lines)
    (named : IfSome line.says (λ r. r.name ≡ line.name)) (stands : IfSome line.says CanStand) (around : IsAround line.name records front back)
    (rest : Merges (Some line.name) back lines after) where
  abbrev n : List ℕ
  n = line.name

  abbrev tail : List Record
  tail = option_to_list line.says ++ after

  abbrev olds : List Record
  olds = option_to_list around.after.mid ++ back

  records_are : records ≡ front ++ olds
  records_are = around.parts ∙ ap (λ rs. front ++ rs) around.after.parts

  up_parts : Ascend (front ++ olds)
  up_parts = subst Ascend records_are up

  all_parts : AllStand (front ++ olds)
  all_parts = subst AllStand records_are all

  tail_above : (m : List ℕ) → cmp m n ≡ Less → ComesBefore m tail
  tail_above = above_less n line.says after named rest.behind

  old_above : (m : List ℕ) → cmp m n ≡ Less → ComesBefore m olds
  old_above = above_less n around.after.mid back around.after.named around.after.above

  behind_all : (l : Option (List ℕ)) → After l records → IsAbove l n → After l (front ++ tail)
  behind_all None before above = tt
  behind_all (Some m) before above =
      before_both m front tail (before_front m front olds (subst (λ (rs : List Record). ComesBefore m rs) records_are before)) (tail_above m above)

  each_name : (name : List ℕ) → hit (front ++ tail) name ≡ under (line_at (line ∷ lines) name) (hit records name)
  each_name name = go (cmp name n) refl
    where
      go : (o : Ordering) → cmp name n ≡ o → hit (front ++ tail) name ≡ under (line_at (line ∷ lines) name) (hit records name)
      go Less is =
          hit_both front tail name ∙ ap (or_else (hit front name)) (before_none name tail (tail_above name is) ∙ sym (before_none name olds (old_above name is)))
          ∙ sym (hit_both front olds name) ∙ ap (λ rs. hit rs name) (sym records_are)
          ∙ ap (λ l. under l (hit records name)) (sym (ap (λ (b : Bool). cond b (Some line) (line_at lines name)) (differs_from_less name n is) ∙ lines_none n name lines is falls))
      go Equal is =
          let same : n ≡ name = sym (same_of name n (sym (is_eq-slice_cmp name n) ∙ ap is_eq is)) in
          let there : hit (front ++ tail) n ≡ line.says = hit_past front tail n (below_none n front around.below) ∙ hit_said n line.says after named rest.behind in
          let found : bytes_eq n name ≡ true = ap (bytes_eq n) (sym same) ∙ itself n in
          ap (hit (front ++ tail)) (sym same) ∙ there
          ∙ sym (ap (λ (b : Bool). under (cond b (Some line) (line_at lines name)) (hit records name)) found)
      go Greater is =
          let less : cmp n name ≡ Less = nat_list_cmp_total.antisymm n name ∙ ap ordering_reverse is in
          let differs : bytes_eq n name ≡ false = other_name n name less in
          let none : hit front name ≡ None = below_none name front (below_all n name front less around.below) in
          hit_past front tail name none ∙ hit_other n name line.says after named differs ∙ rest.each name less
          ∙ ap (under (line_at lines name)) (sym (ap (λ rs. hit rs name) records_are ∙ hit_past front olds name none ∙ hit_other n name around.after.mid back around.after.named differs))
          ∙ ap (λ (b : Bool). under (cond b (Some line) (line_at lines name)) (hit records name)) (sym differs)

  pub merge_on : Merges last records (line ∷ lines) (front ++ tail)
  merge_on = record {
    ascend = ascend_both n front tail (ascend_front front olds up_parts) around.below tail_above (ascend_said n line.says after named rest.behind rest.ascend);
    behind = behind_all last behind is_above;
    each = λ name above. each_name name;
    stand = stand_both front tail (stand_front front olds all_parts) (stand_said line.says after stands rest.stand);
  }

-- ---- names that ascend, as a test says

pub less_is : (o : Ordering) → is_lt o ≡ true → o ≡ Less
less_is Less is = refl
less_is Equal is = clash (sym is)
less_is Greater is = clash (sym is)

pub ascend_from : (records : List Record) → ascends records ≡ true → Ascend records
ascend_from [] is = tt
ascend_from (r ∷ []) is = (tt, tt)
ascend_from (r ∷ s ∷ records) is =
    let parts = and_parts (is_lt (cmp r.name s.name)) (ascends (s ∷ records)) is in
    let less = less_is (cmp r.name s.name) parts.0 in
    let rest = ascend_from (s ∷ records) parts.1 in
    ((less, before_all r.name s.name records less rest.0), rest)

pub ascend_to : (records : List Record) → Ascend records → ascends records ≡ true
ascend_to [] up = refl
ascend_to (r ∷ []) up = refl
ascend_to (r ∷ s ∷ records) up = ap (λ o. is_lt o && ascends (s ∷ records)) up.0.0 ∙ ascend_to (s ∷ records) up.1

-- ---- along the lines

-- no line's name comes before that of the last
abbrev pub Falls : Option (List ℕ) → List Line → Type 0
Falls None lines = Unit {0}
Falls (Some m) lines = NoneFalls m lines

-- the text has the lines of the records that are done, and the others are merged as they are with the lines that are left
pub record OnTheWay (records : List Record) (lines : List Line) (old text : List ℕ) (last : Option (List ℕ)) (rest : List Record) (left : List Line) : Type 0 where
  pub done : List Record
  pub text_is : text ≡ old ++ records_text done
  pub goes : (after : List Record) → Merges last rest left after → Merges None records lines (done ++ after)
  pub behind : After last rest
  pub stand : AllStand rest
  pub rises : Rises left
  pub falls : Falls last left

last_is : (last : Option (List ℕ)) (name : List ℕ) → is_same last name ≡ true → last ≡ Some name
last_is None name same = clash (sym same)
last_is (Some other) name same = ap Some (same_of other name same)

merge_still : (line : Line) (left : List Line) (rest after : List Record) → Merges (Some line.name) rest left after → Merges (Some line.name) rest (line ∷ left) after
merge_still line left rest after is = record {
  ascend = is.ascend;
  behind = is.behind;
  each = λ name above. is.each name above ∙ ap (λ (b : Bool). under (cond b (Some line) (line_at left name)) (hit rest name)) (sym (other_name line.name name above));
  stand = is.stand;
}

pub way_still : (records : List Record) (lines : List Line) (old text : List ℕ) (last : Option (List ℕ)) (rest : List Record) (line : Line) (left : List Line)
    → OnTheWay records lines old text last rest (line ∷ left) → is_same last line.name ≡ true → OnTheWay records lines old text (Some line.name) rest left
way_still records lines old text last rest line left way same =
    let was : last ≡ Some line.name = last_is last line.name same in
    let here = subst (λ (l : Option (List ℕ)). OnTheWay records lines old text l rest (line ∷ left)) was way in
    record {
      done = here.done;
      text_is = here.text_is;
      goes = λ after is. here.goes after (merge_still line left rest after is);
      behind = here.behind;
      stand = here.stand;
      rises = here.rises.1;
      falls = here.rises.0;
    }

above_last : (last : Option (List ℕ)) (line : Line) (left : List Line) → Falls last (line ∷ left) → is_same last line.name ≡ false → IsAbove last line.name
above_last None line left falls other = tt
above_last (Some m) line left falls other = less_than m line.name falls.0 other

pub texts_both : (xs ys : List Record) → records_text (xs ++ ys) ≡ records_text xs ++ records_text ys
texts_both [] ys = refl
texts_both (x ∷ xs) ys = ap (λ t. record_text x ++ t) (texts_both xs ys) ∙ sym (append_assoc (record_text x) (records_text xs) (records_text ys))

pub way_on : (records : List Record) (lines : List Line) (old text new : List ℕ) (last : Option (List ℕ)) (rest back : List Record) (line : Line) (left : List Line)
    → OnTheWay records lines old text last rest (line ∷ left) → is_same last line.name ≡ false → Ascend rest → IfSome line.says (λ r. r.name ≡ line.name)
    → Copies line rest back text new → OnTheWay records lines old new (Some line.name) back left
way_on records lines old text new last rest back line left way other up named copies =
    let around = copies.around in
    let tail = option_to_list line.says in
    let parts : rest ≡ copies.front ++ (option_to_list around.after.mid ++ back) = around.parts ∙ ap (λ rs. copies.front ++ rs) around.after.parts in
    record {
      done = way.done ++ (copies.front ++ tail);
      text_is = copies.text ∙ ap (λ t. t ++ records_text (copies.front ++ tail)) way.text_is ∙ append_assoc old (records_text way.done) (records_text (copies.front ++ tail))
          ∙ ap (λ t. old ++ t) (sym (texts_both way.done (copies.front ++ tail)));
      goes = λ after is.
          subst (Merges None records lines) (sym (append_assoc way.done (copies.front ++ tail) after ∙ ap (λ rs. way.done ++ rs) (append_assoc copies.front tail after)))
          (way.goes (copies.front ++ (tail ++ after))
          (merge_on last rest copies.front back line left after up way.behind way.stand (above_last last line left way.falls other) way.rises.0 named copies.stands around is));
      behind = around.after.above;
      stand = stand_back (option_to_list around.after.mid) back (stand_back copies.front (option_to_list around.after.mid ++ back) (subst AllStand parts way.stand));
      rises = way.rises.1;
      falls = way.rises.0;
    }

-- past one line, which may have the name of the one before it
pub way_next : (records : List Record) (lines : List Line) (old text new : List ℕ) (last : Option (List ℕ)) (rest back : List Record) (line : Line) (left : List Line)
    → OnTheWay records lines old text last rest (line ∷ left) → Ascend rest → IfSome line.says (λ r. r.name ≡ line.name)
    → (is_same last line.name ≡ true → (back ≡ rest) × (new ≡ text)) → (is_same last line.name ≡ false → Copies line rest back text new)
    → OnTheWay records lines old new (Some line.name) back left
way_next records lines old text new last rest back line left way up named same other = go (is_same last line.name) refl
  where
    go : (b : Bool) → is_same last line.name ≡ b → OnTheWay records lines old new (Some line.name) back left
    go true is =
        subst (λ (rs : List Record). OnTheWay records lines old new (Some line.name) rs left) (sym (same is).0)
        (subst (λ (t : List ℕ). OnTheWay records lines old t (Some line.name) rest left) (sym (same is).1) (way_still records lines old text last rest line left way is))
    go false is = way_on records lines old text new last rest back line left way is up named (other is)

pub way_ends : (records : List Record) (lines : List Line) (old text : List ℕ) (last : Option (List ℕ)) (rest : List Record) (left : List Line)
    → OnTheWay records lines old text last rest left → left ≡ [] → Ascend rest → IsMerged records lines rest old text
way_ends records lines old text last rest left way none up =
    let merged = way.goes rest (subst (λ (ls : List Line). Merges last rest ls rest) (sym none) (merged_all last rest up way.behind way.stand)) in
    record { done = way.done; text = way.text_is; edited = merged_is records lines (way.done ++ rest) merged; stand = merged.stand }

pub edit_named : (edit : Edit) → IfSome (line_of edit).says (λ r. r.name ≡ (line_of edit).name)
edit_named (Write r) = refl
edit_named (Remove name) = tt

-- ---- what is read of records that may be in files

pub stand_reads : (kind : Kind) (records : List Record) → AllStand records → AllHaveKind kind records → AreRecordsOf kind records
stand_reads kind [] all have = tt
stand_reads kind (r ∷ records) all have = (all.0 kind have.0, stand_reads kind records all.1 have.1)

-- the text of a whole file
pub text_is_edited : (kind : Kind) (records rest : List Record) (edits arranged : List Edit) (lines new text : List ℕ) → Arranges (lines_of edits) (lines_of arranged)
    → IsMerged records (lines_of arranged) rest lines new → lines ≡ header_text → text ≡ new ++ records_text rest → IsTextOf kind records (lines_of edits) text
text_is_edited kind records rest edits arranged lines new text is merged header whole =
    let after = merged.done ++ rest in
    let told : text ≡ packed_text after =
    whole ∙ ap (λ t. t ++ records_text rest) (merged.text ∙ ap (λ t. t ++ records_text merged.done) header) ∙ append_assoc header_text (records_text merged.done) (records_text rest)
    ∙ ap (λ t. header_text ++ t) (sym (texts_both merged.done rest)) in
    record {
      after = after;
      edited = record {
        ascend = merged.edited.ascend;
        each = λ name. merged.edited.each name ∙ ap (λ l. under l (hit records name)) (is.first name);
      };
      is = told;
      reads = λ have. ap (packed_records kind) told ∙ packed_reads kind after (stand_reads kind after merged.stand have);
    }

pub copied : (old mid new lines : List ℕ) (front said : List Record) → mid ≡ old ++ lines → lines ≡ records_text front → new ≡ mid ++ records_text said → new ≡ old ++ records_text (front ++ said)
copied old mid new lines front said first are last =
    last ∙ ap (λ t. t ++ records_text said) (first ∙ ap (λ t. old ++ t) are) ∙ append_assoc old (records_text front) (records_text said) ∙ ap (λ t. old ++ t) (sym (texts_both front said))

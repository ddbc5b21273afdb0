-- The content of a tag in written form: its lines, and what they say.
use Rattle.std.proofs.Common.{◌≡◌, ◌∙◌, ap, refl, sym, subst, arith, tests, ℕ, ◌≤◌, Bool, true, false, not, ◌&&◌, ◌||◌, ◌==◌, bytes_eq, List, [], ◌∷◌, ◌++◌, append_assoc, length}
use Rattle.std.specs.Borrow.{Bor}
use Rattle.std.specs.Prelude.{◌≢◌, IsFalse, IsTrue, MatchOption, Option, None, Some, codes, nat_le}
use Rattle.std.specs.List.{list_any}
use Rattle.std.specs.Str.{is_utf8}
use Rattle.std.proofs.lemmas.Bool.Decides.{Decides-eqb}
use Rattle.std.proofs.lemmas.List.{append_cancel_left}
use Rattle.gix_hash.specs.declared.kind.Kind.{Kind}
use Rattle.gix_object_lines.specs.Bytes.{Lacks}
use Rattle.gix_object_lines.specs.NameTest.{is_barred, is_partial_name}
use Rattle.history_model.specs.Bytes.{Bytes, begins, has_byte, is_empty, line}
use Rattle.history_model.specs.Forms.{is_actor, is_id, is_name, is_tag_form, is_tag_name, max_name, max_title, title}
use Rattle.history_model.specs.Objects.{TagValue, actor_text, hex, tag_content}
use Rattle.history_model.proofs.NameTests.{unbarred_of}
use Rattle.history_model.proofs.OnePairTexts.{actor_one_line, hex_high}
use Rattle.history_texts.specs.Written.{AreLines, AreTagParts, TagParts, tag_lines}
use Rattle.history_texts.proofs.Spelled.{and_from, cut_same, not_from}
use Rattle.history_model.proofs.OnePairLines.{six_parts}
use Rattle.std.proofs.lemmas.Bool.{or_parts}
use Rattle.gix_ref_file.proofs.Rooted.{both}
use Rattle.gix_ref_file.proofs.Trees.{from_not}
use Rattle.history_model.proofs.PartLemmas.{one_is_in}

-- ---- lines

-- equal lines have equal parts
pub lines_tell : (a b : TagParts) → AreLines a → AreLines b → tag_lines a ≡ tag_lines b → a ≡ b
lines_tell a b a_are b_are same =
    let target = cut_same 10 a.target b.target _ _ a_are.target b_are.target (append_cancel_left (codes "object ") _ _ same) in
    let name = cut_same 10 a.name b.name _ _ a_are.name b_are.name (append_cancel_left (codes "tag ") _ _ (append_cancel_left (codes "type commit\n") _ _ target.1)) in
    let tagger = cut_same 10 a.tagger b.tagger (10 ∷ a.message) (10 ∷ b.message) a_are.tagger b_are.tagger (append_cancel_left (codes "tagger ") _ _ name.1) in
    let message : a.message ≡ b.message = cc in
    λ i. record { target = target.0 i; name = name.0 i; tagger = tagger.0 i; message = message i }

-- ---- a content that begins as the lines do

abbrev pub after_tagger : TagParts → Bytes
after_tagger parts = 10 ∷ parts.message

abbrev pub after_name : TagParts → Bytes
after_name parts = codes "tagger " ++ (parts.tagger ++ 10 ∷ after_tagger parts)

abbrev pub after_type : TagParts → Bytes
after_type parts = codes "tag " ++ (parts.name ++ 10 ∷ after_name parts)

abbrev pub after_target : TagParts → Bytes
after_target parts = codes "type commit\n" ++ after_type parts

-- two cuts of a text into a word, a line and a rest have one rest
pub line_rest : (word a b x y text : Bytes) → Lacks 10 a → Lacks 10 b → text ≡ word ++ (a ++ 10 ∷ x) → text ≡ word ++ (b ++ 10 ∷ y) → x ≡ y
line_rest word a b x y text a_lacks b_lacks one other = (cut_same 10 a b x y a_lacks b_lacks (append_cancel_left word _ _ (sym one ∙ other))).1

module _ (parts : TagParts) (are : AreLines parts) (content target rest_1 : Bytes) (is : content ≡ tag_lines parts) (target_in_line : Lacks 10 target) (cut_1 : content ≡ codes "object " ++ (target ++ 10 ∷ rest_1)) where
  pub first_rest : rest_1 ≡ after_target parts
  first_rest = line_rest (codes "object ") target parts.target rest_1 (after_target parts) content target_in_line are.target cut_1 is

  module _ (rest_2 : Bytes) (cut_2 : rest_1 ≡ codes "type commit\n" ++ rest_2) where
    pub second_rest : rest_2 ≡ after_type parts
    second_rest = append_cancel_left (codes "type commit\n") _ _ (sym cut_2 ∙ first_rest)

    module _ (name rest_3 : Bytes) (name_in_line : Lacks 10 name) (cut_3 : rest_2 ≡ codes "tag " ++ (name ++ 10 ∷ rest_3)) where
      pub third_rest : rest_3 ≡ after_name parts
      third_rest = line_rest (codes "tag ") name parts.name rest_3 (after_name parts) rest_2 name_in_line are.name cut_3 second_rest

      module _ (tagger rest_4 : Bytes) (tagger_in_line : Lacks 10 tagger) (cut_4 : rest_3 ≡ codes "tagger " ++ (tagger ++ 10 ∷ rest_4)) where
        pub fourth_rest : rest_4 ≡ after_tagger parts
        fourth_rest = line_rest (codes "tagger ") tagger parts.tagger rest_4 (after_tagger parts) rest_3 tagger_in_line are.tagger cut_4 third_rest

-- what no line was found in
pub none_so : {A : Type 0} (P : Type 0) (Q : A → Type 0) (r : Option A) → r ≡ None → P → MatchOption r P Q
none_so P Q r is holds = subst (λ o. MatchOption o P Q) (sym is) holds

-- a line after a word
pub line_told : (text word rest : Bytes) (found : Option (Bor (List ℕ) × Bor (List ℕ))) → text ≡ word ++ rest
    → MatchOption found (Lacks 10 rest) (λ cut. (rest ≡ cut.0.now ++ 10 ∷ cut.1.now) × Lacks 10 cut.0.now)
    → MatchOption found ((line after : Bytes) → Lacks 10 line → text ≢ word ++ (line ++ 10 ∷ after)) (λ cut. Lacks 10 cut.0.now × (text ≡ word ++ (cut.0.now ++ 10 ∷ cut.1.now)))
line_told text word rest None is lacks = λ line after in_line other. cc (sym lacks ∙ ap (has_byte 10) (append_cancel_left word _ _ (sym is ∙ other)) ∙ one_is_in 10 line after)
line_told text word rest (Some cut) is told = (told.1, is ∙ ap (λ r. word ++ r) told.0)

-- ---- names

pub bad_second : (a b c : Bool) → b ≡ true → false ≡ ((a && not b) && c)
bad_second true true c h = refl
bad_second true false c h = cc
bad_second false b c h = refl

pub bad_third : (a c : Bool) → c ≡ true → false ≡ (a && not c)
bad_third true true h = refl
bad_third true false h = cc
bad_third false c h = refl

-- ---- the tag of a value

abbrev pub value_parts : TagValue → TagParts
value_parts tag = record { target = hex tag.target; name = tag.name; tagger = actor_text tag.tagger; message = tag.message }

line_cut : (word text rest : Bytes) → line (word ++ text) ++ rest ≡ word ++ (text ++ 10 ∷ rest)
line_cut word text rest = append_assoc (word ++ text) (10 ∷ []) rest ∙ append_assoc word text (10 ∷ rest)

pub content_lines : (tag : TagValue) → tag_content tag ≡ tag_lines (value_parts tag)
content_lines tag =
    six_parts (line (codes "object " ++ hex tag.target)) (line (codes "type commit")) (line (codes "tag " ++ tag.name)) (line (codes "tagger " ++ actor_text tag.tagger)) (line []) tag.message
    ∙ line_cut (codes "object ") (hex tag.target) (line (codes "type commit") ++ (line (codes "tag " ++ tag.name) ++ (line (codes "tagger " ++ actor_text tag.tagger) ++ (10 ∷ tag.message))))
    ∙ ap (λ rest. codes "object " ++ (hex tag.target ++ 10 ∷ (codes "type commit\n" ++ rest)))
    (line_cut (codes "tag ") tag.name (line (codes "tagger " ++ actor_text tag.tagger) ++ (10 ∷ tag.message))
    ∙ ap (λ rest. codes "tag " ++ (tag.name ++ 10 ∷ rest)) (line_cut (codes "tagger ") (actor_text tag.tagger) (10 ∷ tag.message)))

pub record TagForm (kind : Kind) (tag : TagValue) : Type 0 where
  pub target : IsTrue (is_id kind tag.target)
  pub name : IsTrue (is_tag_name tag.name)
  pub tagger : IsTrue (is_actor tag.tagger)
  pub some : IsFalse (is_empty tag.message)
  pub titled : length (title tag.message) ≤ max_title

small : (n : ℕ) → nat_le n max_title ≡ true → n ≤ max_title
small n h = grind (arith, tests)

large : (n : ℕ) → n ≤ max_title → nat_le n max_title ≡ true
large n h = grind (arith, tests)

pub tag_form : (kind : Kind) (tag : TagValue) → IsTrue (is_tag_form kind tag) → TagForm kind tag
tag_form kind tag h =
    let some = not (is_empty tag.message) in
    let a = both (is_id kind tag.target && is_tag_name tag.name && is_actor tag.tagger && some) (nat_le (length (title tag.message)) max_title) h in
    let b = both (is_id kind tag.target && is_tag_name tag.name && is_actor tag.tagger) some a.0 in
    let c = both (is_id kind tag.target && is_tag_name tag.name) (is_actor tag.tagger) b.0 in
    let d = both (is_id kind tag.target) (is_tag_name tag.name) c.0 in
    record { target = d.0; name = d.1; tagger = c.1; some = from_not _ b.1; titled = small _ a.1 }

pub form_of : (kind : Kind) (tag : TagValue) → TagForm kind tag → IsTrue (is_tag_form kind tag)
form_of kind tag form =
    and_from _ _ (and_from _ _ (and_from _ _ (and_from _ _ form.target form.name) form.tagger) (not_from _ form.some)) (large _ form.titled)

barred_none : (name : Bytes) → list_any is_barred name ≡ false → Lacks 10 name
barred_none [] none = refl
barred_none (b ∷ name) none = by_test (b == 10) refl (barred_none name (or_parts (is_barred b) _ none).1)
  where
    by_test : (t : Bool) → (b == 10) ≡ t → Lacks 10 name → (t || list_any (λ other. other == 10) name) ≡ false
    by_test false other later = later
    by_test true same later = absurd (cc (sym (or_parts (is_barred b) _ none).0 ∙ ap is_barred ((Decides-eqb b 10).0 same)))

name_in_line : (name : Bytes) → IsTrue (is_tag_name name) → Lacks 10 name
name_in_line name is =
    let full = codes "refs/tags/" ++ name in
    let a = both (is_name full && not (bytes_eq name (codes "@"))) (not (begins (codes "-") name)) is in
    let b = both (is_name full) (not (bytes_eq name (codes "@"))) a.0 in
    let c = both (is_partial_name full && begins (codes "refs/") full && is_utf8 full) (nat_le (length full) max_name) b.0 in
    let d = both (is_partial_name full && begins (codes "refs/") full) (is_utf8 full) c.0 in
    let e = both (is_partial_name full) (begins (codes "refs/") full) d.0 in
    barred_none full (unbarred_of full e.0)

pub value_lines : (kind : Kind) (tag : TagValue) → TagForm kind tag → AreLines (value_parts tag)
value_lines kind tag form = record {
  target = hex_high 10 (omega arith) kind tag.target form.target;
  name = name_in_line tag.name form.name;
  tagger = actor_one_line tag.tagger form.tagger;
}

pub value_written : (kind : Kind) (tag : TagValue) → TagForm kind tag → AreTagParts (value_parts tag)
value_written kind tag form = record {
  actor = tag.tagger;
  actor_is = form.tagger;
  tagger = refl;
  name = form.name;
  some = form.some;
  titled = form.titled;
}

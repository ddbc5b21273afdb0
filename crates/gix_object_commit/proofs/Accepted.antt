-- A commit that was read is written without a refusal.
use Rattle.std.proofs.Common.{◌≡◌, ◌≢◌, ◌∙◌, ap, refl, sym, ℕ, Bool, true, false, not, Option, None, Some, List, [], ◌∷◌, ◌++◌, length, map, arith}
use Rattle.std.specs.Prelude.{All, IfSome, codes, nat_eq, ◌==◌, ◌&&◌, if◌then◌else◌}
use Rattle.std.specs.Cmp.Lexicographic.{pointwise}
use Rattle.std.specs.Option.{option_map}
use Rattle.std.proofs.lemmas.Bool.{eq-eqb, ne_eqb, and_from}
use Rattle.std.proofs.lemmas.Bool.Decides.{Decides-eqb}
use Rattle.std.proofs.lemmas.List.Elements.{All-head, All-tail}
use Rattle.std.proofs.lemmas.Slice.Eq.{slice_eq-Decides}
use Rattle.gix_hash.specs.Kind.{hex_len}
use Rattle.gix_hash.specs.declared.kind.Kind as hash
use Rattle.gix_object_lines.specs.Actor.{IsPlain, TellsTime}
use Rattle.gix_object_lines.specs.Bytes.{Lacks}
use Rattle.gix_object_lines.specs.HexLine.{IsHex, is_id}
use Rattle.gix_object_lines.specs.declared.encode.Error.TheVariants.{NewlineInHeaderValue, EmptyValue}
use Rattle.gix_object_lines.specs.declared.write.Error.TheVariants.{Header}
use Rattle.gix_object_lines.specs.TimeTest.{tells_time}
use Rattle.gix_object_lines.proofs.TimeTests.{tells_time-Decides}
use Rattle.gix_object_commit.specs.Commit.{Field, Parts, IsField, IsEncodingFirst, SpellsCommit}
use Rattle.gix_object_commit.specs.Writable.{IsPlainPerson, IsWritable}
use Rattle.gix_object_commit.specs.Writing.{holds, is_id_like, is_plain, is_person, is_folded, is_empty, is_word, is_field, is_encoding_first, encoding_cause, unspellable_unless, refused_unless, tree_piece, parent_piece, person_piece, encoding_piece, field_piece, message_piece, commit_refusal}
use Rattle.gix_object_lines.specs.Pieces.{Piece, first_refused, refused_or}
use Rattle.gix_object_lines.proofs.HexDigits.{is_id_of_hex}
use Rattle.gix_object_lines.specs.Person.{Person}
use Rattle.gix_object_commit.proofs.OwnTexts.{folded_is}

-- ---- a piece that is accepted, before others

not_held : (byte : ℕ) (text : List ℕ) → Lacks byte text → not (holds byte text) ≡ true
not_held byte text lacks = ap not lacks

on : (before : List ℕ) (piece : Piece) (rest : List Piece) → piece.cause ≡ None → ((after : List ℕ) → first_refused after rest ≡ None) → first_refused before (piece ∷ rest) ≡ None
on before piece rest fits later = ap (λ c. refused_or c before (first_refused (before ++ piece.text) rest)) fits ∙ later (before ++ piece.text)

module _ {X : Type 0} (f : X → Piece) (Fits : X → Type 0) (fits : (x : X) → Fits x → (f x).cause ≡ None) where
  all_on : (before : List ℕ) (xs : List X) (rest : List Piece) → All Fits xs → ((after : List ℕ) → first_refused after rest ≡ None) → first_refused before (map f xs ++ rest) ≡ None
  all_on before [] rest all later = later before
  all_on before (x ∷ xs) rest all later =
      on before (f x) (map f xs ++ rest) (fits x (All-head Fits x xs all)) (λ after. all_on after xs rest (All-tail Fits x xs all) later)

-- ---- what passes each test

id_like : (kind : hash.Kind) (tree digits : List ℕ) → IsHex (hex_len kind) tree → IsHex (hex_len kind) digits → is_id_like tree digits ≡ true
id_like kind tree digits t d = and_from (length digits == length tree) (is_id digits) (eq-eqb (length digits) (length tree) (d.0 ∙ sym t.0)) (is_id_of_hex kind digits d)

plain : (part : List ℕ) → IsPlain part → is_plain part ≡ true
plain part is =
    and_from (not (holds 60 part)) (not (holds 62 part) && not (holds 10 part)) (not_held 60 part is.no_open)
    (and_from (not (holds 62 part)) (not (holds 10 part)) (not_held 62 part is.no_close) (not_held 10 part is.in_line))

person : (who : Person) → IsPlainPerson who → TellsTime who.time → is_person who ≡ true
person who is told =
    and_from (is_plain who.name) (is_plain who.email && tells_time who.time) (plain who.name is.name)
    (and_from (is_plain who.email) (tells_time who.time) (plain who.email is.email) ((tells_time-Decides who.time).1 told))

not_empty : (text : List ℕ) → text ≢ [] → is_empty text ≡ false
not_empty [] some = absurd (some refl)
not_empty (byte ∷ text) some = ne_eqb (length (byte ∷ text)) 0 (λ e. omega arith)

field : (f : Field) → IsField f → is_field f ≡ true
field f is =
    and_from (is_word f.name) (is_folded f.value)
    (and_from (not (is_empty f.name)) (not (holds 32 f.name) && not (holds 10 f.name)) (ap not (not_empty f.name is.named))
    (and_from (not (holds 32 f.name)) (not (holds 10 f.name)) (not_held 32 f.name is.name_one_word) (not_held 10 f.name is.name_in_line)))
    (ap is_folded is.value_folded.1 ∙ folded_is is.value_folded.0)

-- the test of an encoding's name among the headers
same_text : (a b : List ℕ) → pointwise nat_eq a b ≡ true → a ≡ b
same_text a b is = (slice_eq-Decides Decides-eqb a b (pointwise nat_eq a b) refl).0 is

not_first : (headers : List Field) → ¬ IsEncodingFirst headers → is_encoding_first headers ≡ false
not_first headers none = by_test (is_encoding_first headers) refl
  where
    named : (headers : List Field) → is_encoding_first headers ≡ true → IsEncodingFirst headers
    named [] is = absurd cc
    named (f ∷ headers) is = same_text f.name (codes "encoding") is

    by_test : (b : Bool) → is_encoding_first headers ≡ b → is_encoding_first headers ≡ false
    by_test true is = absurd (none (named headers is))
    by_test false is = is

encoding : (name : Option (List ℕ)) (headers : List Field) → name ≢ Some [] → IfSome name (Lacks 10) → (name ≡ None → ¬ IsEncodingFirst headers) → encoding_cause name headers ≡ None
encoding None headers some in_line none = ap (λ first. unspellable_unless (not first)) (not_first headers (none refl))
encoding (Some name) headers some in_line none =
    ap (λ empty. if empty then Some EmptyValue else if holds 10 name then Some NewlineInHeaderValue else None) (not_empty name (λ is. some (ap Some is)))
    ∙ ap (λ feed. if feed then Some NewlineInHeaderValue else None) in_line

-- ---- the whole

pub accepted : (kind : hash.Kind) (input : List ℕ) (parts : Parts) → SpellsCommit (hex_len kind) input parts → IsWritable parts → commit_refusal parts ≡ None
accepted kind input parts is fits =
    let last = message_piece parts.message ∷ [] in
    let tail = encoding_piece parts.encoding parts.headers ∷ (map field_piece parts.headers ++ last) in
    let people = person_piece (codes "author") parts.author ∷ (person_piece (codes "committer") parts.committer ∷ tail) in
    on [] (tree_piece parts.tree) (map (parent_piece parts.tree) parts.parents ++ people) (ap refused_unless (is_id_of_hex kind parts.tree is.tree))
    (λ b. all_on (parent_piece parts.tree) (IsHex (hex_len kind)) (λ digits hex. ap refused_unless (id_like kind parts.tree digits is.tree hex)) b parts.parents people is.parents
    (λ c. on c (person_piece (codes "author") parts.author) (person_piece (codes "committer") parts.committer ∷ tail) (ap refused_unless (person parts.author fits.author is.author.time_told))
    (λ d. on d (person_piece (codes "committer") parts.committer) tail (ap refused_unless (person parts.committer fits.committer is.committer.time_told))
    (λ e. on e (encoding_piece parts.encoding parts.headers) (map field_piece parts.headers ++ last) (ap (option_map Header) (encoding parts.encoding parts.headers fits.encoding is.encoding is.no_encoding))
    (λ f. all_on field_piece IsField (λ header fit. ap refused_unless (field header fit)) f parts.headers last is.headers
    (λ g. on g (message_piece parts.message) [] refl (λ h. refl)))))))

-- What is written without a refusal spells the commit.
use Rattle.std.proofs.Common.{◌≡◌, ◌∙◌, ap, refl, sym, ℕ, Bool, true, false, not, Option, None, Some, List, [], ◌∷◌, ◌++◌, length, map, arith}
use Rattle.std.specs.Prelude.{codes, All, IfSome, ◌==◌, ◌&&◌, ◌||◌, if◌then◌else◌}
use Rattle.std.specs.Option.{option_map}
use Rattle.std.proofs.lemmas.Bool.Decides.{Decides-eqb}
use Rattle.std.proofs.lemmas.List.Elements.{All-nil, All-cons}
use Rattle.gix_object_lines.specs.Bytes.{Lacks}
use Rattle.gix_object_lines.specs.HexLine.{IsHex, is_hex, is_id}
use Rattle.gix_object_lines.specs.TimeTest.{tells_time}
use Rattle.gix_object_lines.proofs.ActorLemmas as marks
use Rattle.gix_object_lines.proofs.TimeTests.{tells_time-Decides}
use Rattle.gix_object_lines.specs.declared.encode.Error as encode
use Rattle.gix_object_lines.specs.declared.write.Error as write
use Rattle.gix_object_lines.specs.declared.write.Error.TheVariants.{Header}
use Rattle.gix_object_lines.specs.declared.encode.Error.TheVariants.{NewlineInHeaderValue, EmptyValue}
use Rattle.gix_object_commit.specs.Commit.{Field, Parts, IsFolded, IsPerson, IsField, IsEncodingFirst, commit_text, SpellsCommit}
use Rattle.gix_object_commit.specs.Writing.{holds, is_id_like, is_plain, is_person, is_folded, begins_with_space, is_empty, is_word, is_field, is_encoding_first, encoding_cause, unspellable_unless, refused_unless, tree_piece, parent_piece, person_piece, encoding_piece, field_piece, message_piece, commit_refusal}
use Rattle.gix_object_lines.specs.Pieces.{Piece, first_refused, refused_or}
use Rattle.gix_object_lines.specs.Person.{Person}
use Rattle.gix_object_commit.proofs.Folds.{by_feed, plain_folded}
use Rattle.gix_object_commit.proofs.FoldedTests.{plain_byte}
use Rattle.std.proofs.lemmas.Bool.{and_parts}

-- ---- tests that hold

lacks_of : (byte : ℕ) (text : List ℕ) → not (holds byte text) ≡ true → Lacks byte text
lacks_of byte text e = go (holds byte text) e
  where
    go : (b : Bool) → not b ≡ true → b ≡ false
    go true e = absurd cc
    go false e = refl

pub fine : (b : Bool) → refused_unless b ≡ None → b ≡ true
fine true e = refl
fine false e = absurd cc

not_unspellable : (b : Bool) → unspellable_unless b ≡ None → b ≡ true
not_unspellable true e = refl
not_unspellable false e = absurd cc

no_cause : (cause : Option encode.Error) → option_map Header cause ≡ None → cause ≡ None
no_cause None e = refl
no_cause (Some cause) e = absurd cc

-- ---- no piece is refused

pub none_refused : (before : List ℕ) (piece : Piece) (rest : List Piece) → first_refused before (piece ∷ rest) ≡ None → (piece.cause ≡ None) × (first_refused (before ++ piece.text) rest ≡ None)
none_refused before piece rest none = by_cause piece.cause refl
  where
    by_cause : (cause : Option write.Error) → piece.cause ≡ cause → (piece.cause ≡ None) × (first_refused (before ++ piece.text) rest ≡ None)
    by_cause None is = (is, sym (ap (λ c. refused_or c before (first_refused (before ++ piece.text) rest)) is) ∙ none)
    by_cause (Some cause) is = absurd (let clash : refused_or (Some cause) before (first_refused (before ++ piece.text) rest) ≡ None = sym (ap (λ c. refused_or c before (first_refused (before ++ piece.text) rest)) is) ∙ none in cc)

module _ {X : Type 0} (f : X → Piece) (Fits : X → Type 0) (fits : (x : X) → (f x).cause ≡ None → Fits x) where
  pub all_fit : (before : List ℕ) (xs : List X) (rest : List Piece) → first_refused before (map f xs ++ rest) ≡ None → All Fits xs × ((after : List ℕ) × (first_refused after rest ≡ None))
  all_fit before [] rest none = (All-nil Fits, (before, none))
  all_fit before (x ∷ xs) rest none =
      let one = none_refused before (f x) (map f xs ++ rest) none in
      let later = all_fit (before ++ (f x).text) xs rest one.1 in
      (All-cons Fits x xs (fits x one.0) later.0, later.1)

-- ---- what each test returns

id_fits : (tree digits : List ℕ) → is_id_like tree digits ≡ true → IsHex (length tree) digits
id_fits tree digits e =
    let parts = and_parts (length digits == length tree) (is_id digits) e in
    ((Decides-eqb (length digits) (length tree)).0 parts.0, (and_parts (length digits == 40 || length digits == 64) (is_hex digits) parts.1).1)

pub plain_name : (part : List ℕ) → is_plain part ≡ true → Lacks 60 part × Lacks 62 part × Lacks 10 part
plain_name part e =
    let a = and_parts (not (holds 60 part)) (not (holds 62 part) && not (holds 10 part)) e in
    let b = and_parts (not (holds 62 part)) (not (holds 10 part)) a.1 in
    (lacks_of 60 part a.0, lacks_of 62 part b.0, lacks_of 10 part b.1)

person_fits : (person : Person) → is_person person ≡ true → IsPerson person
person_fits person e =
    let a = and_parts (is_plain person.name) (is_plain person.email && tells_time person.time) e in
    let b = and_parts (is_plain person.email) (tells_time person.time) a.1 in
    let told = (tells_time-Decides person.time).0 b.1 in
    record {
      cut = record { spelled = refl; first = (plain_name person.name a.0).0; last = marks.time_lacks person.time told.0 told.1; name_in_line = (plain_name person.name a.0).2; email_in_line = (plain_name person.email b.0).2 };
      time_told = told;
    }

-- the value that is folded
told_feed : (byte : ℕ) (rest : List ℕ) → byte ≡ 10 → is_folded (byte ∷ rest) ≡ (begins_with_space rest && is_folded rest)
told_feed byte rest is = ap (λ b. is_folded (b ∷ rest)) is

folded_fits : (text : List ℕ) → is_folded text ≡ true → IsFolded text
folded_fits [] e = ([], refl)
folded_fits (byte ∷ []) e =
    by_feed byte
    (λ is. absurd (let clash : false ≡ true = sym (told_feed byte [] is) ∙ e in cc))
    (λ differs. (byte ∷ [], sym (plain_folded byte [] differs)))
folded_fits (byte ∷ (next ∷ rest)) e =
    by_feed byte
    (λ is. let p = and_parts (next == 32) (is_folded (next ∷ rest)) (sym (told_feed byte (next ∷ rest) is) ∙ e) in
    let space = (Decides-eqb next 32).0 p.0 in
    let inner = sym (plain_byte next rest (λ feed. let clash : ◌≡◌ {A = ℕ} 32 10 = sym space ∙ feed in omega arith)) ∙ p.1 in
    let value = folded_fits rest inner in
    (10 ∷ value.0, ap (λ b. b ∷ (next ∷ rest)) is ∙ ap (λ b. 10 ∷ (b ∷ rest)) space ∙ ap (λ t. 10 ∷ (32 ∷ t)) value.1))
    (λ differs. let value = folded_fits (next ∷ rest) (sym (plain_byte byte (next ∷ rest) differs) ∙ e) in
    (byte ∷ value.0, ap (λ t. byte ∷ t) value.1 ∙ sym (plain_folded byte value.0 differs)))

field_fits : (field : Field) → is_field field ≡ true → IsField field
field_fits field e =
    let f = and_parts (is_word field.name) (is_folded field.value) e in
    let a = and_parts (not (is_empty field.name)) (not (holds 32 field.name) && not (holds 10 field.name)) f.0 in
    let b = and_parts (not (holds 32 field.name)) (not (holds 10 field.name)) a.1 in
    record {
      named = λ none. (let clash : false ≡ true = sym (ap (λ n. not (is_empty n)) none) ∙ a.0 in cc);
      name_one_word = lacks_of 32 field.name b.0;
      name_in_line = lacks_of 10 field.name b.1;
      value_folded = folded_fits field.value f.1;
    }

first_named : (headers : List Field) → IsEncodingFirst headers → is_encoding_first headers ≡ true
first_named [] named = absurd named
first_named (field ∷ headers) named = ap (λ n. is_encoding_first (record { name = n; value = field.value } ∷ headers)) named

not_true : (b : Bool) → not b ≡ true → b ≡ true → ⊥
not_true true e is = let clash : false ≡ true = e in cc
not_true false e is = let clash : false ≡ true = is in cc

some : (a b : Bool) → (if a then Some EmptyValue else if b then Some NewlineInHeaderValue else None) ≡ None → b ≡ false
some true b e = absurd cc
some false true e = absurd cc
some false false e = refl

encoding_fits : (encoding : Option (List ℕ)) (headers : List Field) → encoding_cause encoding headers ≡ None → IfSome encoding (Lacks 10) × (encoding ≡ None → ¬ IsEncodingFirst headers)
encoding_fits None headers none = (tt, λ e named. not_true (is_encoding_first headers) (not_unspellable (not (is_encoding_first headers)) none) (first_named headers named))
encoding_fits (Some name) headers none = (some (is_empty name) (holds 10 name) none, λ e. absurd cc)

pub written : (parts : Parts) → commit_refusal parts ≡ None → SpellsCommit (length parts.tree) (commit_text parts) parts
written parts none =
    let tree = parts.tree in
    let tail = encoding_piece parts.encoding parts.headers ∷ (map field_piece parts.headers ++ (message_piece parts.message ∷ [])) in
    let people = person_piece (codes "author") parts.author ∷ (person_piece (codes "committer") parts.committer ∷ tail) in
    let t = none_refused [] (tree_piece tree) (map (parent_piece tree) parts.parents ++ people) none in
    let ps = all_fit (parent_piece tree) (IsHex (length tree)) (λ d c. id_fits tree d (fine (is_id_like tree d) c)) (tree_piece tree).text parts.parents people t.1 in
    let a = none_refused ps.1.0 (person_piece (codes "author") parts.author) (person_piece (codes "committer") parts.committer ∷ tail) ps.1.1 in
    let c = none_refused _ (person_piece (codes "committer") parts.committer) tail a.1 in
    let e = none_refused _ (encoding_piece parts.encoding parts.headers) (map field_piece parts.headers ++ (message_piece parts.message ∷ [])) c.1 in
    let hs = all_fit field_piece IsField (λ f cause. field_fits f (fine (is_field f) cause)) _ parts.headers (message_piece parts.message ∷ []) e.1 in
    let told = encoding_fits parts.encoding parts.headers (no_cause (encoding_cause parts.encoding parts.headers) e.0) in
    record {
      spelled = refl;
      tree = (refl, (and_parts (length tree == 40 || length tree == 64) (is_hex tree) (fine (is_id tree) t.0)).1);
      parents = ps.0;
      author = person_fits parts.author (fine (is_person parts.author) a.0);
      committer = person_fits parts.committer (fine (is_person parts.committer) c.0);
      encoding = told.0;
      headers = hs.0;
      no_encoding = told.1;
    }

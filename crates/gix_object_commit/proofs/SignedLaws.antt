-- The signature of a commit that is read whole.
use Rattle.std.proofs.Common.{◌≡◌, ◌≢◌, ◌∙◌, ap, refl, sym, subst, ℕ, false, List, [], ◌∷◌, ◌++◌, ◌⊎◌, inl, inr, append_assoc, append-nil, Option, Some, None}
use Rattle.std.specs.Prelude.{codes, cond, flat_map, All, IfSome}
use Rattle.std.specs.Cmp.Lexicographic.{same_text}
use Rattle.std.proofs.lemmas.Grind.{flat_map-append}
use Rattle.gix_hash.specs.declared.kind.Kind.{Kind}
use Rattle.gix_hash.specs.Kind.{hex_len}
use Rattle.gix_object_lines.specs.Bytes.{Lacks}
use Rattle.gix_object_lines.specs.HexLine.{hex_line, IsHex}
use Rattle.gix_object_commit.specs.declared.ref_iter.Stage.{Stage}
use Rattle.gix_object_commit.specs.declared.ref_iter.Stage.TheVariants as at
use Rattle.gix_object_commit.specs.Commit.{Field, Parts, line, encoding_text, field_text, commit_text, IsField, IsEncodingFirst, SpellsCommit}
use Rattle.gix_object_commit.specs.Headers.{is_named}
use Rattle.gix_object_commit.specs.ReadingOn.{Tells}
use Rattle.gix_object_commit.specs.Signature.{signature_name}
use Rattle.gix_object_commit.specs.SignedCommit.{Cut, FindsSignature, signature_told, with_headers}
use Rattle.gix_object_commit.specs.Tokens.{Tree, Parent, Author, Committer, Encoding, Header, Message, Place, start, IsNext}
use Rattle.gix_object_lines.proofs.HexDigits.{id_of_hex}
use Rattle.gix_object_lines.specs.Person.{actor_line}
use Rattle.gix_object_commit.proofs.Lines.{fields_unspaced}
use Rattle.gix_object_commit.proofs.Progress.{all_head, all_tail}
use Rattle.gix_object_commit.proofs.Readings.{tells_start, tells_on, tells_one}
use Rattle.gix_object_commit.proofs.Whole.{after_tree, after_parents, after_author, after_committer, after_encoding}

-- ---- what is before some of the headers

abbrev front : Parts → List Field → List ℕ
front parts first =
    hex_line (codes "tree") parts.tree
    ++ (flat_map (hex_line (codes "parent")) parts.parents
    ++ (line (codes "author") (actor_line parts.author)
    ++ (line (codes "committer") (actor_line parts.committer)
    ++ (encoding_text parts.encoding
    ++ flat_map field_text first))))

joined : (a b c d e f g : List ℕ) → a ++ (b ++ (c ++ (d ++ (e ++ (f ++ g))))) ≡ (a ++ (b ++ (c ++ (d ++ (e ++ f))))) ++ g
joined a b c d e f g =
    ap (λ t. a ++ (b ++ (c ++ (d ++ t)))) (sym (append_assoc e f g)) ∙ ap (λ t. a ++ (b ++ (c ++ t))) (sym (append_assoc d (e ++ f) g))
    ∙ ap (λ t. a ++ (b ++ t)) (sym (append_assoc c (d ++ (e ++ f)) g)) ∙ ap (λ t. a ++ t) (sym (append_assoc b (c ++ (d ++ (e ++ f))) g)) ∙ sym (append_assoc a (b ++ (c ++ (d ++ (e ++ f)))) g)

cut_text : (parts : Parts) (first more : List Field) → commit_text (with_headers parts (first ++ more)) ≡ front parts first ++ (flat_map field_text more ++ 10 ∷ parts.message)
cut_text parts first more =
    let before : List ℕ → List ℕ = λ t. hex_line (codes "tree") parts.tree ++ (flat_map (hex_line (codes "parent")) parts.parents ++ (line (codes "author") (actor_line parts.author) ++ (line (codes "committer") (actor_line parts.committer) ++ (encoding_text parts.encoding ++ t)))) in
    ap (λ t. before (t ++ 10 ∷ parts.message)) (flat_map-append field_text first more) ∙ ap before (append_assoc (flat_map field_text first) (flat_map field_text more) (10 ∷ parts.message))
    ∙ joined (hex_line (codes "tree") parts.tree) (flat_map (hex_line (codes "parent")) parts.parents) (line (codes "author") (actor_line parts.author)) (line (codes "committer") (actor_line parts.committer)) (encoding_text parts.encoding) (flat_map field_text first) (flat_map field_text more ++ 10 ∷ parts.message)

-- ---- how the reader comes to the headers

abbrev place : Kind → Stage → List ℕ → Place
place kind stage input = record { kind = kind; stage = stage; input = input }

module _ (kind : Kind) (here : Place) where
  abbrev Silent : Place → Type 0
  Silent there = Tells (signature_told kind) here [] there

  over_parents : (parents : List (List ℕ)) (rest : List ℕ) → All (IsHex (hex_len kind)) parents → Silent (place kind at.Parents (flat_map (hex_line (codes "parent")) parents ++ rest)) → Silent (place kind at.Parents rest)
  over_parents [] rest hex so_far = so_far
  over_parents (digits ∷ parents) rest hex so_far =
      let fits = all_head (IsHex (hex_len kind)) digits parents hex in
      let id = id_of_hex kind digits fits in
      let after = flat_map (hex_line (codes "parent")) parents ++ rest in
      over_parents parents rest (all_tail (IsHex (hex_len kind)) digits parents hex)
      (tells_on (signature_told kind) here (place kind at.Parents ((hex_line (codes "parent") digits ++ flat_map (hex_line (codes "parent")) parents) ++ rest)) (place kind at.Parents after) (Parent id.0) so_far
      ((refl, record { digits = digits; hex = fits; id_spelled = id.1; spelled = append_assoc (hex_line (codes "parent") digits) (flat_map (hex_line (codes "parent")) parents) rest }), refl, refl) refl)

  -- a header may come at these stages, and the first not as the encoding's line
  abbrev MayHead : Stage → List Field → Type 0
  MayHead stage fields = (stage ≡ at.Headers) ⊎ ((stage ≡ at.Encoding) × ¬ IsEncodingFirst fields)

  header_next : (stage : Stage) (field : Field) (fields : List Field) (message : List ℕ) → MayHead stage (field ∷ fields) → All IsField (field ∷ fields)
      → IsNext (place kind stage (flat_map field_text (field ∷ fields) ++ 10 ∷ message)) (Header field) (place kind at.Headers (flat_map field_text fields ++ 10 ∷ message))
  header_next stage field fields message may fits = (
    (
      may,
      all_head IsField field fields fits,
      fields_unspaced fields (10 ∷ message) (all_tail IsField field fields fits) (message, refl),
      append_assoc (field_text field) (flat_map field_text fields) (10 ∷ message),
    ),
    refl,
    refl,
  )

  other_silent : (field : Field) → field.name ≢ signature_name kind → signature_told kind (Header field) ≡ None
  other_silent field differs = by (is_named (signature_name kind) field) refl
    where
      by : (t : _) → is_named (signature_name kind) field ≡ t → cond t (Some (Some field)) None ≡ None
      by false is = refl
      by _ is = absurd (differs (same_text field.name (signature_name kind) (sym is)))

  over_headers : (stage : Stage) (first rest : List Field) (message : List ℕ) → MayHead stage (first ++ rest) → All IsField (first ++ rest) → All (λ field. field.name ≢ signature_name kind) first
      → Silent (place kind stage (flat_map field_text (first ++ rest) ++ 10 ∷ message))
      → (last : Stage) × MayHead last rest × All IsField rest × Silent (place kind last (flat_map field_text rest ++ 10 ∷ message))
  over_headers stage [] rest message may fits others so_far = (stage, may, fits, so_far)
  over_headers stage (field ∷ first) rest message may fits others so_far =
      let Other : Field → Type 0 = λ f. f.name ≢ signature_name kind in
      over_headers at.Headers first rest message (inl refl) (all_tail IsField field (first ++ rest) fits) (all_tail Other field first others)
      (tells_on (signature_told kind) here (place kind stage (flat_map field_text (field ∷ (first ++ rest)) ++ 10 ∷ message)) (place kind at.Headers (flat_map field_text (first ++ rest) ++ 10 ∷ message)) (Header field) so_far
      (header_next stage field (first ++ rest) message may fits) (other_silent field (all_head Other field first others)))

-- the headers are next
abbrev AtHeaders : Kind → List ℕ → Parts → Type 0
AtHeaders kind input parts = (stage : Stage) × MayHead kind (start kind input) stage parts.headers × Tells (signature_told kind) (start kind input) [] (place kind stage (after_encoding parts))

to_headers : (kind : Kind) (input : List ℕ) (parts : Parts) → SpellsCommit (hex_len kind) input parts → AtHeaders kind input parts
to_headers kind input parts s = over_encoding parts.encoding s.encoding s.no_encoding committer
  where
    tree : Tells (signature_told kind) (start kind input) [] (place kind at.Parents (after_tree parts))
    tree =
        let id = id_of_hex kind parts.tree s.tree in
        tells_on (signature_told kind) (start kind input) (start kind input) (place kind at.Parents (after_tree parts)) (Tree id.0) (tells_start (signature_told kind) (start kind input))
        ((refl, record { digits = parts.tree; hex = s.tree; id_spelled = id.1; spelled = s.spelled }), refl, refl) refl

    author : Tells (signature_told kind) (start kind input) [] (place kind at.Committer (after_author parts))
    author = tells_on (signature_told kind) (start kind input) (place kind at.Parents (after_parents parts)) (place kind at.Committer (after_author parts)) (Author parts.author)
        (over_parents kind (start kind input) parts.parents (after_parents parts) s.parents tree) ((refl, s.author, refl), refl, refl) refl

    committer : Tells (signature_told kind) (start kind input) [] (place kind at.Encoding (encoding_text parts.encoding ++ after_encoding parts))
    committer = tells_on (signature_told kind) (start kind input) (place kind at.Committer (after_author parts)) (place kind at.Encoding (after_committer parts)) (Committer parts.committer) author ((refl, s.committer, refl), refl, refl) refl

    over_encoding : (encoding : Option (List ℕ)) → IfSome encoding (Lacks 10) → (encoding ≡ None → ¬ IsEncodingFirst parts.headers)
        → Tells (signature_told kind) (start kind input) [] (place kind at.Encoding (encoding_text encoding ++ after_encoding parts)) → AtHeaders kind input parts
    over_encoding None lacks untold so_far = (at.Encoding, inr (refl, untold refl), so_far)
    over_encoding (Some name) lacks untold so_far = (
      at.Headers,
      inl refl,
      tells_on (signature_told kind) (start kind input) (place kind at.Encoding (line (codes "encoding") name ++ after_encoding parts)) (place kind at.Headers (after_encoding parts)) (Encoding name) so_far ((refl, lacks, refl), refl, refl) refl,
    )

-- ---- the laws

pub finds_first_header : (kind : Kind) (input : List ℕ) (parts : Parts) (first more : List Field) (header : Field) → SpellsCommit (hex_len kind) input parts → parts.headers ≡ first ++ header ∷ more
    → All (λ field. field.name ≢ signature_name kind) first → header.name ≡ signature_name kind
    → (cut : Cut) × FindsSignature kind input (Some cut) × (cut.header ≡ header) × (cut.before ++ cut.behind ≡ commit_text (with_headers parts (first ++ more)))
finds_first_header kind input parts first more header s are others named =
    let at_headers = to_headers kind input parts s in
    let may = subst (MayHead kind (start kind input) at_headers.0) are at_headers.1 in
    let so_far = subst (λ hs. Tells (signature_told kind) (start kind input) [] (place kind at_headers.0 (flat_map field_text hs ++ 10 ∷ parts.message))) are at_headers.2 in
    let last = over_headers kind (start kind input) at_headers.0 first (header ∷ more) parts.message may (subst (All IsField) are s.headers) others so_far in
    let behind = flat_map field_text more ++ 10 ∷ parts.message in (
      record { before = front parts first; header = header; behind = behind },
      record {
        at = place kind last.0 (flat_map field_text (header ∷ more) ++ 10 ∷ parts.message);
        past = place kind at.Headers behind;
        none_before = last.3;
        next = header_next kind (start kind input) last.0 header more parts.message last.1 last.2;
        named = named;
        whole = s.spelled ∙ ap (λ hs. commit_text (with_headers parts hs)) are ∙ cut_text parts first (header ∷ more) ∙ ap (λ t. front parts first ++ t) (append_assoc (field_text header) (flat_map field_text more) (10 ∷ parts.message));
        left = refl;
      },
      refl,
      sym (cut_text parts first more),
    )

pub finds_none : (kind : Kind) (input : List ℕ) (parts : Parts) → SpellsCommit (hex_len kind) input parts → All (λ field. field.name ≢ signature_name kind) parts.headers → FindsSignature kind input None
finds_none kind input parts s others =
    let at_headers = to_headers kind input parts s in
    let are : parts.headers ≡ parts.headers ++ [] = sym (append-nil parts.headers) in
    let may = subst (MayHead kind (start kind input) at_headers.0) are at_headers.1 in
    let so_far = subst (λ hs. Tells (signature_told kind) (start kind input) [] (place kind at_headers.0 (flat_map field_text hs ++ 10 ∷ parts.message))) are at_headers.2 in
    let last = over_headers kind (start kind input) at_headers.0 parts.headers [] parts.message may (subst (All IsField) are s.headers) others so_far in
    let stage : (last.0 ≡ at.Encoding) ⊎ (last.0 ≡ at.Headers) = elim last.1 [ inl e ↦ inr e | inr e ↦ inl e.0 ] in
    let end = place kind at.Headers [] in
    (end, tells_one (signature_told kind) (start kind input) (place kind last.0 (10 ∷ parts.message)) end (Message parts.message) None last.3 ((stage, refl, refl), refl, refl) refl)

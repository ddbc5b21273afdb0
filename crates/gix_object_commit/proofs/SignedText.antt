-- The text that is signed.
use Rattle.std.proofs.Common.{◌≡◌, ◌∙◌, ap, refl, sym, ℕ, Bool, true, false, cond, not, List, [], ◌∷◌, ◌++◌, map, append_assoc, append-nil}
use Rattle.std.specs.Prelude.{codes, flat_map}
use Rattle.std.proofs.lemmas.Grind.{flat_map-append}
use Rattle.std.proofs.lemmas.List.{map-append}
use Rattle.gix_hash.specs.Id.{id_of}
use Rattle.gix_hash.specs.declared.kind.Kind.{Kind}
use Rattle.gix_hash.specs.declared.kind.Kind.TheVariants.{Sha1, Sha256}
use Rattle.gix_object_lines.specs.Bytes.{without_last_feed}
use Rattle.gix_object_lines.specs.HexLine.{hex_line}
use Rattle.gix_object_lines.specs.Person.{actor_line, own_person}
use Rattle.gix_object_commit.specs.Commit.{commit_text, field_text, line, encoding_text}
use Rattle.gix_object_commit.specs.OwnedText.{own_digits, own_field, own_parts, own_parts_with}
use Rattle.gix_object_commit.specs.Signature.{signature_name}
use Rattle.gix_object_commit.specs.Signing.{IsSignedBy, IsWithHeaders, is_signature, unsigned, unsigned_text, signature_header}
use Rattle.gix_object_commit.specs.declared.commit.owned.Commit.{Commit}
use Rattle.gix_object_commit.specs.declared.header.ExtraHeader.{ExtraHeader}
use Rattle.gix_object_commit.proofs.UnsignedLines.{unsigned_append}

-- commits that are the same but for their headers have the same texts with the same headers
text_same : (commit other : Commit) (headers own : List ExtraHeader) → IsWithHeaders commit own other → commit_text (own_parts_with headers other) ≡ commit_text (own_parts_with headers commit)
text_same commit other headers own is = λ i. commit_text (record {
  tree = own_digits (is.tree i);
  parents = map own_digits (is.parents i).items;
  author = own_person (is.author i);
  committer = own_person (is.committer i);
  encoding = is.encoding i;
  headers = map own_field headers;
  message = is.message i;
})

pub bare_text : (commit bare : Commit) → IsWithHeaders commit (unsigned commit.extra_headers.items) bare → commit_text (own_parts bare) ≡ unsigned_text commit
bare_text commit bare is =
    ap (λ hs. commit_text (own_parts_with hs bare)) is.own_headers ∙ text_same commit bare (unsigned commit.extra_headers.items) (unsigned commit.extra_headers.items) is

-- ---- no signature is left, and the new one is none of the others

unsigned_twice : (headers : List ExtraHeader) → unsigned (unsigned headers) ≡ unsigned headers
unsigned_twice [] = refl
unsigned_twice (header ∷ headers) = by (is_signature header) refl (unsigned_twice headers)
  where
    by : (b : Bool) → is_signature header ≡ b → unsigned (unsigned headers) ≡ unsigned headers → unsigned (unsigned (header ∷ headers)) ≡ unsigned (header ∷ headers)
    by true is later = ap (λ b. unsigned (cond (not b) (header ∷ unsigned headers) (unsigned headers))) is ∙ later ∙ sym (ap (λ b. cond (not b) (header ∷ unsigned headers) (unsigned headers)) is)
    by false is later =
        ap (λ b. unsigned (cond (not b) (header ∷ unsigned headers) (unsigned headers))) is
        ∙ ap (λ b. cond (not b) (header ∷ unsigned (unsigned headers)) (unsigned (unsigned headers))) is
        ∙ ap (λ hs. header ∷ hs) later
        ∙ sym (ap (λ b. cond (not b) (header ∷ unsigned headers) (unsigned headers)) is)

is_new : (kind : Kind) (value : List ℕ) → unsigned (record { name = signature_name kind; value = value } ∷ []) ≡ []
is_new Sha1 value = refl
is_new Sha256 value = refl

pub same_text : (commit signed : Commit) (signature : List ℕ) → IsSignedBy signature commit signed → unsigned_text signed ≡ unsigned_text commit
same_text commit signed signature is =
    let kept = unsigned commit.extra_headers.items in
    let header = signature_header commit signature in
    let headers : unsigned signed.extra_headers.items ≡ kept =
    ap unsigned is.own_headers
    ∙ unsigned_append kept (header ∷ [])
    ∙ ap (λ hs. unsigned kept ++ hs) (is_new (id_of commit.tree).kind (without_last_feed signature))
    ∙ append-nil (unsigned kept)
    ∙ unsigned_twice commit.extra_headers.items in
    ap (λ hs. commit_text (own_parts_with hs signed)) headers ∙ text_same commit signed kept (kept ++ header ∷ []) is

-- ---- where the new one is put in

-- the lines before the further headers, and a text after them
abbrev lines_then : Commit → List ℕ → List ℕ
lines_then commit text =
    let parts = own_parts commit in
    hex_line (codes "tree") parts.tree
    ++ (flat_map (hex_line (codes "parent")) parts.parents ++ (line (codes "author") (actor_line parts.author) ++ (line (codes "committer") (actor_line parts.committer) ++ (encoding_text parts.encoding ++ text))))

lines_append : (commit : Commit) (x y : List ℕ) → lines_then commit (x ++ y) ≡ lines_then commit x ++ y
lines_append commit x y =
    let parts = own_parts commit in
    let e = encoding_text parts.encoding in
    let c = line (codes "committer") (actor_line parts.committer) in
    let a = line (codes "author") (actor_line parts.author) in
    let p = flat_map (hex_line (codes "parent")) parts.parents in
    let h = hex_line (codes "tree") parts.tree in
    ap (λ t. h ++ (p ++ (a ++ (c ++ t)))) (sym (append_assoc e x y))
    ∙ ap (λ t. h ++ (p ++ (a ++ t))) (sym (append_assoc c (e ++ x) y))
    ∙ ap (λ t. h ++ (p ++ t)) (sym (append_assoc a (c ++ (e ++ x)) y))
    ∙ ap (λ t. h ++ t) (sym (append_assoc p (a ++ (c ++ (e ++ x))) y))
    ∙ sym (append_assoc h (p ++ (a ++ (c ++ (e ++ x)))) y)

abbrev header_lines : List ExtraHeader → List ℕ
header_lines headers = flat_map field_text (map own_field headers)

text_more : (headers : List ExtraHeader) (header : ExtraHeader) (commit : Commit)
    → commit_text (own_parts_with (headers ++ header ∷ []) commit) ≡ lines_then commit (header_lines headers) ++ (field_text (own_field header) ++ 10 ∷ commit.message)
text_more headers header commit =
    let end = 10 ∷ commit.message in
    let one : header_lines (headers ++ header ∷ []) ≡ header_lines headers ++ field_text (own_field header) =
    ap (flat_map field_text) (map-append own_field headers (header ∷ []))
    ∙ flat_map-append field_text (map own_field headers) (own_field header ∷ [])
    ∙ ap (λ t. header_lines headers ++ t) (append-nil (field_text (own_field header))) in
    ap (λ t. lines_then commit (t ++ end)) one
    ∙ ap (lines_then commit) (append_assoc (header_lines headers) (field_text (own_field header)) end)
    ∙ lines_append commit (header_lines headers) (field_text (own_field header) ++ end)

pub put_in : (commit signed : Commit) (signature : List ℕ) → IsSignedBy signature commit signed → (front : List ℕ) × (unsigned_text commit ≡ front ++ 10 ∷ commit.message)
    × (commit_text (own_parts signed) ≡ front ++ (field_text (own_field (signature_header commit signature)) ++ 10 ∷ commit.message))
put_in commit signed signature is =
    let kept = unsigned commit.extra_headers.items in
    let header = signature_header commit signature in
    let whole = ap (λ hs. commit_text (own_parts_with hs signed)) is.own_headers ∙ text_same commit signed (kept ++ header ∷ []) (kept ++ header ∷ []) is in
    (lines_then commit (header_lines kept), lines_append commit (header_lines kept) (10 ∷ commit.message), whole ∙ text_more kept header commit)

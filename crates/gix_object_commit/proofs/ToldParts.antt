-- The tokens of a commit are its parts.
use Rattle.std.proofs.Common.{◌≡◌, ◌∙◌, ap, refl, sym, subst, ℕ, List, [], ◌∷◌, ◌++◌, append_assoc, inl, inr, Option, None, Some}
use Rattle.std.specs.Prelude.{◌⊎◌, codes, flat_map, All, IfSome}
use Rattle.std.specs.List.{AllZip}
use Rattle.gix_hash.specs.Id.{Id}
use Rattle.gix_hash.specs.Kind.{hex_len}
use Rattle.gix_hash.specs.Views.{IsHexOfId}
use Rattle.gix_hash.specs.declared.kind.Kind.{Kind}
use Rattle.gix_object_lines.specs.Bytes.{Lacks}
use Rattle.gix_object_lines.specs.HexLine.{hex_line, IsHex}
use Rattle.gix_object_commit.specs.declared.ref_iter.Stage.{Stage}
use Rattle.gix_object_commit.specs.declared.ref_iter.Stage.TheVariants as at
use Rattle.gix_object_commit.specs.Commit.{Field, Parts, encoding_text, field_text, IsField, IsEncodingFirst, SpellsCommit}
use Rattle.gix_object_commit.specs.ReadingOn.{Reads}
use Rattle.gix_object_commit.specs.Tokens.{Part, Tree, Parent, Author, Committer, Encoding, Header, Message, IsPartAt, Place, start, stage_after}
use Rattle.gix_object_commit.specs.Whole.{TellsParts, encoding_tokens, header_tokens, parent_tokens}
use Rattle.gix_object_lines.proofs.HexDigits.{id_of_hex}
use Rattle.gix_object_commit.proofs.Left.{no_part}
use Rattle.gix_object_commit.proofs.Lines.{fields_unspaced}
use Rattle.gix_object_commit.proofs.OnePart.{one_next}
use Rattle.gix_object_commit.proofs.Progress.{all_head, all_tail}
use Rattle.gix_object_commit.proofs.Whole.{after_tree, after_parents, after_author, after_committer}

-- ---- the reader gives them

abbrev place : Kind → Stage → List ℕ → Place
place kind stage input = record { kind = kind; stage = stage; input = input }

abbrev pub end : Kind → Place
end kind = place kind at.Headers []

step : (here : Place) (part : Part) (rest : List ℕ) (tokens : List Part) (there : Place) → IsPartAt here.kind here.stage here.input part rest
    → Reads (place here.kind (stage_after part) rest) tokens there → Reads here (part ∷ tokens) there
step here part rest tokens there is reads = (place here.kind (stage_after part) rest, (is, refl, refl), reads)

message_read : (kind : Kind) (stage : Stage) (message : List ℕ) → (stage ≡ at.Encoding) ⊎ (stage ≡ at.Headers) → Reads (place kind stage (10 ∷ message)) (Message message ∷ []) (end kind)
message_read kind stage message may = step (place kind stage (10 ∷ message)) (Message message) [] [] (end kind) (may, refl, refl) refl

headers_read : (kind : Kind) (fields : List Field) (message : List ℕ) → All IsField fields
    → Reads (place kind at.Headers (flat_map field_text fields ++ 10 ∷ message)) (header_tokens fields ++ Message message ∷ []) (end kind)
headers_read kind [] message fit = message_read kind at.Headers message (inr refl)
headers_read kind (field ∷ fields) message fit =
    let rest = flat_map field_text fields ++ 10 ∷ message in
    let more = all_tail IsField field fields fit in
    step (place kind at.Headers (flat_map field_text (field ∷ fields) ++ 10 ∷ message)) (Header field) rest (header_tokens fields ++ Message message ∷ []) (end kind)
    (inl refl, all_head IsField field fields fit, fields_unspaced fields (10 ∷ message) more (message, refl), append_assoc (field_text field) (flat_map field_text fields) (10 ∷ message))
    (headers_read kind fields message more)

untold_read : (kind : Kind) (fields : List Field) (message : List ℕ) → All IsField fields → ¬ IsEncodingFirst fields
    → Reads (place kind at.Encoding (flat_map field_text fields ++ 10 ∷ message)) (header_tokens fields ++ Message message ∷ []) (end kind)
untold_read kind [] message fit none = message_read kind at.Encoding message (inl refl)
untold_read kind (field ∷ fields) message fit none =
    let rest = flat_map field_text fields ++ 10 ∷ message in
    let more = all_tail IsField field fields fit in
    step (place kind at.Encoding (flat_map field_text (field ∷ fields) ++ 10 ∷ message)) (Header field) rest (header_tokens fields ++ Message message ∷ []) (end kind)
    (inr (refl, none), all_head IsField field fields fit, fields_unspaced fields (10 ∷ message) more (message, refl), append_assoc (field_text field) (flat_map field_text fields) (10 ∷ message))
    (headers_read kind fields message more)

encoding_read : (kind : Kind) (encoding : Option (List ℕ)) (fields : List Field) (message : List ℕ) → IfSome encoding (Lacks 10) → All IsField fields → (encoding ≡ None → ¬ IsEncodingFirst fields)
    → Reads (place kind at.Encoding (encoding_text encoding ++ (flat_map field_text fields ++ 10 ∷ message))) (encoding_tokens encoding ++ (header_tokens fields ++ Message message ∷ [])) (end kind)
encoding_read kind None fields message in_line fit untold = untold_read kind fields message fit (untold refl)
encoding_read kind (Some name) fields message in_line fit untold =
    let rest = flat_map field_text fields ++ 10 ∷ message in
    step (place kind at.Encoding (encoding_text (Some name) ++ rest)) (Encoding name) rest (header_tokens fields ++ Message message ∷ []) (end kind) (refl, in_line, refl)
    (headers_read kind fields message fit)

parents_read : (kind : Kind) (parents : List (List ℕ)) (after : List ℕ) (tokens : List Part) (there : Place) → All (IsHex (hex_len kind)) parents → Reads (place kind at.Parents after) tokens there
    → (ids : List Id) × AllZip IsHexOfId parents ids × Reads (place kind at.Parents (flat_map (hex_line (codes "parent")) parents ++ after)) (parent_tokens ids ++ tokens) there
parents_read kind [] after tokens there hex reads = ([], tt, reads)
parents_read kind (digits ∷ parents) after tokens there hex reads =
    let fits = all_head (IsHex (hex_len kind)) digits parents hex in
    let id = id_of_hex kind digits fits in
    let later = parents_read kind parents after tokens there (all_tail (IsHex (hex_len kind)) digits parents hex) reads in
    let rest = flat_map (hex_line (codes "parent")) parents ++ after in (
      id.0 ∷ later.0,
      (id.1, later.1),
      step (place kind at.Parents (flat_map (hex_line (codes "parent")) (digits ∷ parents) ++ after)) (Parent id.0) rest (parent_tokens later.0 ++ tokens) there
          (refl, record { digits = digits; hex = fits; id_spelled = id.1; spelled = append_assoc (hex_line (codes "parent") digits) (flat_map (hex_line (codes "parent")) parents) after })
          later.2,
    )

pub parts_read : (kind : Kind) (input : List ℕ) (parts : Parts) → SpellsCommit (hex_len kind) input parts → (tokens : List Part) × TellsParts parts tokens × Reads (start kind input) tokens (end kind)
parts_read kind input parts s =
    let message : List Part = Message parts.message ∷ [] in
    let headers = encoding_tokens parts.encoding ++ (header_tokens parts.headers ++ message) in
    let encoding = encoding_read kind parts.encoding parts.headers parts.message s.encoding s.headers s.no_encoding in
    let committer = step (place kind at.Committer (after_author parts)) (Committer parts.committer) (after_committer parts) headers (end kind) (refl, s.committer, refl) encoding in
    let author = step (place kind at.Parents (after_parents parts)) (Author parts.author) (after_author parts) (Committer parts.committer ∷ headers) (end kind) (refl, s.author, refl) committer in
    let parents = parents_read kind parts.parents (after_parents parts) (Author parts.author ∷ (Committer parts.committer ∷ headers)) (end kind) s.parents author in
    let tree = id_of_hex kind parts.tree s.tree in
    let tokens = parent_tokens parents.0 ++ (Author parts.author ∷ (Committer parts.committer ∷ headers)) in (
      Tree tree.0 ∷ tokens,
      record { tree = tree.0; parents = parents.0; tree_spelled = tree.1; parents_spelled = parents.1; in_order = refl },
      step (start kind input) (Tree tree.0) (after_tree parts) tokens (end kind) (refl, record { digits = parts.tree; hex = s.tree; id_spelled = tree.1; spelled = s.spelled }) parents.2,
    )

-- ---- and no others

nothing_next : (here : Place) (part : Part) (rest : List ℕ) → here.input ≡ [] → IsPartAt here.kind here.stage here.input part rest → ⊥
nothing_next here part rest empty is = no_part here.kind here.stage part rest (subst (λ input. IsPartAt here.kind here.stage input part rest) empty is)

pub reads_once : (here there last : Place) (tokens others : List Part) → Reads here tokens there → there.input ≡ [] → Reads here others last → last.input ≡ [] → tokens ≡ others
reads_once here there last [] [] reads ends again end = refl
reads_once here there last [] (part ∷ others) reads ends (next, is, again) end =
    absurd (nothing_next here part next.input (ap (λ (p : Place). p.input) reads ∙ ends) is.0)
reads_once here there last (part ∷ tokens) [] (next, is, reads) ends again end =
    absurd (nothing_next here part next.input (ap (λ (p : Place). p.input) again ∙ end) is.0)
reads_once here there last (part ∷ tokens) (other ∷ others) (next, is, reads) ends (next', is', again) end =
    let same = one_next here part other next next' is is' in
    ap (λ p. p ∷ tokens) same.0 ∙ ap (λ ts. other ∷ ts) (reads_once next there last tokens others reads ends (subst (λ p. Reads p others last) (sym same.1) again) end)

-- The pieces of a commit that was signed.
use Rattle.std.proofs.Common.{◌≡◌, ◌∙◌, ap, refl, sym, ℕ, not, Option, None, Some, List, [], ◌∷◌, ◌++◌, map, append_assoc}
use Rattle.std.specs.Prelude.{codes}
use Rattle.std.specs.Option.{option_map}
use Rattle.std.proofs.lemmas.List.{map-append}
use Rattle.gix_hash.specs.Id.{id_of}
use Rattle.gix_hash.specs.declared.kind.Kind.{Kind}
use Rattle.gix_hash.specs.declared.kind.Kind.TheVariants.{Sha1, Sha256}
use Rattle.gix_object_lines.specs.Writes.{Refusal, cause_of}
use Rattle.gix_object_lines.specs.declared.lines.actor.Actor.{Actor}
use Rattle.gix_object_lines.specs.declared.write.Error.TheVariants.{Header}
use Rattle.gix_object_lines.specs.Bytes.{without_last_feed}
use Rattle.gix_object_commit.specs.Commit.{Field, Parts, encoding_text}
use Rattle.gix_object_commit.specs.OwnedText.{own_digits, own_field, own_parts, own_person_piece, own_author_pieces, own_committer_pieces, own_front_pieces, own_pieces_with, own_refusal, own_refusal_with}
use Rattle.gix_object_commit.specs.Signature.{signature_name}
use Rattle.gix_object_commit.specs.Signing.{IsSignedBy, IsWithHeaders, signature_header, unsigned, unsigned_fault}
use Rattle.gix_object_commit.specs.Writing.{field_piece, message_piece, id_pieces, encoding_pieces, header_pieces, message_pieces, encoding_cause, is_encoding_first, refused_unless, unspellable_unless}
use Rattle.gix_object_lines.specs.Pieces.{Piece, first_refused}
use Rattle.gix_object_lines.specs.Person.{own_person}
use Rattle.gix_object_commit.specs.declared.commit.owned.Commit.{Commit}
use Rattle.gix_object_commit.specs.declared.header.ExtraHeader.{ExtraHeader}
use Rattle.gix_object_commit.proofs.OwnCommits.{pieces_are}
use Rattle.gix_object_commit.proofs.OwnedLaws.{accepted}
use Rattle.gix_object_commit.proofs.OwnTexts.{folded_is}
use Rattle.gix_object_commit.proofs.Written.{none_refused}

-- a piece that is fine before the message
put_before_end : (before : List ℕ) (ps : List Piece) (piece : Piece) (message : List ℕ) → piece.cause ≡ None
    → first_refused before (ps ++ message_piece message ∷ []) ≡ None → first_refused before (ps ++ (piece ∷ (message_piece message ∷ []))) ≡ None
put_before_end before [] piece message fits none = accepted before piece (message_piece message ∷ []) fits refl
put_before_end before (p ∷ ps) piece message fits none =
    let one = none_refused before p (ps ++ message_piece message ∷ []) none in
    accepted before p (ps ++ (piece ∷ (message_piece message ∷ []))) one.0 (put_before_end (before ++ p.text) ps piece message fits one.1)

-- the header of a signature is fine, and none is named as the line for the encoding is
fits : (kind : Kind) (value : List ℕ) → (field_piece (own_field (record { name = signature_name kind; value = value }))).cause ≡ None
fits Sha1 value = ap refused_unless (folded_is value)
fits Sha256 value = ap refused_unless (folded_is value)

first_stays : (kind : Kind) (value : List ℕ) (headers : List ExtraHeader) → is_encoding_first (map own_field (headers ++ record { name = signature_name kind; value = value } ∷ [])) ≡ is_encoding_first (map own_field headers)
first_stays Sha1 value [] = refl
first_stays Sha256 value [] = refl
first_stays kind value (header ∷ headers) = refl

no_refusal : (refusal : Option Refusal) → cause_of refusal ≡ None → refusal ≡ None
no_refusal None none = refl
no_refusal (Some refusal) none = absurd cc

cause_stays : (encoding : Option (List ℕ)) (a b : List Field) → is_encoding_first a ≡ is_encoding_first b → encoding_cause encoding a ≡ encoding_cause encoding b
cause_stays None a b same = ap (λ first. unspellable_unless (not first)) same
cause_stays (Some name) a b same = refl

front_stays : (commit : Commit) (a b : List Field) → is_encoding_first a ≡ is_encoding_first b → own_front_pieces a commit ≡ own_front_pieces b commit
front_stays commit a b same =
    ap (λ cause. id_pieces (own_parts commit) ++ (own_author_pieces commit ++ (own_committer_pieces commit ++ record { text = encoding_text commit.encoding; cause = option_map Header cause } ∷ [])))
    (cause_stays commit.encoding a b same)

-- a commit whose headers are followed by a fine one
more_fine : (commit : Commit) (headers : List ExtraHeader) (kind : Kind) (value : List ℕ)
    → own_refusal_with headers commit ≡ None → own_refusal_with (headers ++ record { name = signature_name kind; value = value } ∷ []) commit ≡ None
more_fine commit headers kind value none =
    let header : ExtraHeader = record { name = signature_name kind; value = value } in
    let all = headers ++ header ∷ [] in
    let end : List Piece = message_piece commit.message ∷ [] in
    let front = own_front_pieces (map own_field headers) commit in
    let lines = map field_piece (map own_field headers) in
    let piece = field_piece (own_field header) in
    let apart : own_pieces_with headers commit ≡ (front ++ lines) ++ end = sym (pieces_are headers commit) ∙ sym (append_assoc front lines end) in
    let more : map field_piece (map own_field all) ≡ lines ++ piece ∷ [] = ap (map field_piece) (map-append own_field headers (header ∷ [])) ∙ map-append field_piece (map own_field headers) (own_field header ∷ []) in
    let together : own_pieces_with all commit ≡ (front ++ lines) ++ (piece ∷ end) =
    sym (pieces_are all commit)
    ∙ ap (λ ps. ps ++ (map field_piece (map own_field all) ++ end)) (front_stays commit (map own_field all) (map own_field headers) (first_stays kind value headers))
    ∙ ap (λ ps. front ++ (ps ++ end)) more
    ∙ ap (λ ps. front ++ ps) (append_assoc lines (piece ∷ []) end)
    ∙ sym (append_assoc front lines (piece ∷ end)) in
    ap (first_refused []) together ∙ put_before_end [] (front ++ lines) piece commit.message (fits kind value) (sym (ap (first_refused []) apart) ∙ none)

abbrev in_order : Parts → Actor → Actor → List Piece
in_order parts author committer =
    id_pieces parts ++ (own_person_piece (codes "author") author ∷ (own_person_piece (codes "committer") committer ∷ (encoding_pieces parts ++ (header_pieces parts ++ message_pieces parts))))

pieces_same : (commit other : Commit) (headers own : List ExtraHeader) → IsWithHeaders commit own other → own_pieces_with headers other ≡ own_pieces_with headers commit
pieces_same commit other headers own is = λ i. in_order (record {
  tree = own_digits (is.tree i);
  parents = map own_digits (is.parents i).items;
  author = own_person (is.author i);
  committer = own_person (is.committer i);
  encoding = is.encoding i;
  headers = map own_field headers;
  message = is.message i;
}) (is.author i) (is.committer i)

pub signed_is_fine : (commit signed : Commit) (signature : List ℕ) → unsigned_fault commit ≡ None → IsSignedBy signature commit signed → own_refusal signed ≡ None
signed_is_fine commit signed signature none is =
    let kept = unsigned commit.extra_headers.items in
    let all = kept ++ signature_header commit signature ∷ [] in
    ap (λ hs. own_refusal_with hs signed) is.own_headers
    ∙ ap (first_refused []) (pieces_same commit signed all all is)
    ∙ more_fine commit kept (id_of commit.tree).kind (without_last_feed signature) (no_refusal (own_refusal_with kept commit) none)

-- A commit of the store is written whole, as the text of the plain repository's commit.
use Rattle.std.proofs.Common.{◌≡◌, ◌≢◌, ◌∙◌, ap, refl, sym, subst, ℕ, ◌%◌, true, not, ◌&&◌, List, [], ◌∷◌, ◌++◌, map}
use Rattle.std.specs.Prelude.{IsTrue, MatchOption, Option, None, Some, Vec, codes, unsigned_abs, ◌==◌, nat_lt}
use Rattle.std.specs.Fmt.{signed_decimal}
use Rattle.std.specs.List.{list_all}
use Rattle.std.specs.declared.alloc.Global.{Global}
use Rattle.std.proofs.lemmas.Bool.Decides.{Decides-eqb, Decides-ltb}
use Rattle.gix_hash.specs.Id.{id_of}
use Rattle.gix_hash.specs.Kind.{hex_len}
use Rattle.gix_hash.specs.declared.kind.Kind.{Kind}
use Rattle.gix_hash.specs.declared.object_id.ObjectId.{ObjectId}
use Rattle.gix_object_lines.specs.Time.{offset_text}
use Rattle.gix_object_lines.specs.Writes.{Refusal}
use Rattle.gix_object_lines.specs.declared.write.Error as write
use Rattle.gix_object_lines.specs.declared.lines.actor.Actor as lines
use Rattle.gix_object_commit.specs.Commit.{Parts, SpellsCommit, commit_text}
use Rattle.gix_object_commit.specs.OwnedText.{is_own_person, is_whole_offset, own_digits, own_field, own_parts, own_person_piece, own_refusal}
use Rattle.gix_object_commit.specs.Writable.{IsPlainPerson}
use Rattle.gix_object_commit.specs.Writing.{encoding_pieces, header_pieces, holds, id_pieces, is_plain, message_pieces, person_piece, refused_unless}
use Rattle.gix_object_lines.specs.Pieces.{Piece, first_refused, refused_or}
use Rattle.gix_object_lines.specs.Person.{own_person}
use Rattle.gix_object_commit.specs.declared.commit.owned.Commit.{Commit}
use Rattle.gix_object_commit.proofs.Accepted.{accepted}
use Rattle.history_model.specs.Bytes.{Bytes}
use Rattle.history_model.specs.Forms.{is_actor_part, is_id}
use Rattle.history_model.specs.Objects.{CommitValue, commit_content, hex}
use Rattle.history_model.proofs.OnePairTexts.{part_plain}
use Rattle.history_texts.specs.Actors.{HasActorForm}
use Rattle.history_texts.specs.Commits.{SaysCommit, IsPlainCommit}
use Rattle.history_texts.specs.Formats.{own_actor, parts_of, person_of}
use Rattle.history_texts.proofs.ActorTexts.{actor_parts}
use Rattle.history_texts.proofs.CommitTexts.{plain_spelled, text_of_commit}
use Rattle.history_texts.proofs.Spelled.{and_from}
use Rattle.gix_ref_file.proofs.Rooted.{both}

-- ---- the parts that are written

digits_same : (ids : List ObjectId) → map own_digits ids ≡ map hex (map id_of ids)
digits_same [] = refl
digits_same (id ∷ ids) = ap (λ rest. own_digits id ∷ rest) (digits_same ids)

person_same : (actor : lines.Actor) → HasActorForm actor → own_person actor ≡ person_of (own_actor actor)
person_same actor formed = λ i. record { name = actor.name; email = actor.email; time = signed_decimal (formed.plain_time.since i) ++ 32 ∷ offset_text actor.time.offset }

pub parts_same : (kind : Kind) (commit : Commit) → IsPlainCommit kind commit → own_parts commit ≡ parts_of commit
parts_same kind commit plain =
    λ i. record {
      tree = own_digits commit.tree;
      parents = digits_same commit.parents.items i;
      author = person_same commit.author plain.author i;
      committer = person_same commit.committer plain.committer i;
      encoding = plain.encoding i;
      headers = map own_field (plain.headers i);
      message = commit.message;
    }

-- ---- none of them is refused

part_fits : (part : Bytes) → IsTrue (is_actor_part part) → is_plain part ≡ true
part_fits part is =
    and_from (not (holds 60 part)) (not (holds 62 part) && not (holds 10 part)) (ap not (part_plain 60 refl part is))
    (and_from (not (holds 62 part)) (not (holds 10 part)) (ap not (part_plain 62 refl part is)) (ap not (part_plain 10 refl part is)))

actor_fits : (actor : lines.Actor) → HasActorForm actor → is_own_person actor ≡ true
actor_fits actor formed =
    let parts = actor_parts (own_actor actor) formed.actor in
    let amount = unsigned_abs actor.time.offset in
    let whole = formed.plain_time.whole in
    and_from (is_plain actor.name) (is_plain actor.email && is_whole_offset actor.time.offset) (part_fits actor.name parts.name)
    (and_from (is_plain actor.email) (is_whole_offset actor.time.offset) (part_fits actor.email parts.email)
    (and_from (amount % 60 == 0) (nat_lt amount 360_000) ((Decides-eqb (amount % 60) 0).1 whole.0) ((Decides-ltb amount 360_000).1 whole.1)))

plain_person : (actor : lines.Actor) → HasActorForm actor → IsPlainPerson (own_person actor)
plain_person actor formed =
    let parts = actor_parts (own_actor actor) formed.actor in
    record {
      name = record { no_open = part_plain 60 refl actor.name parts.name; no_close = part_plain 62 refl actor.name parts.name; in_line = part_plain 10 refl actor.name parts.name };
      email = record { no_open = part_plain 60 refl actor.email parts.email; no_close = part_plain 62 refl actor.email parts.email; in_line = part_plain 10 refl actor.email parts.email };
    }

no_name : (encoding : Option Bytes) → encoding ≡ None → encoding ≢ Some []
no_name encoding none is = cc

none_at : (cause : Option write.Error) (before : Bytes) (later : Option Refusal) → refused_or cause before later ≡ None → (cause ≡ None) × (later ≡ None)
none_at None before later none = (refl, none)
none_at (Some cause) before later none = absurd cc

on : (before : Bytes) (piece : Piece) (rest : List Piece) → piece.cause ≡ None → first_refused (before ++ piece.text) rest ≡ None → first_refused before (piece ∷ rest) ≡ None
on before piece rest fits later = ap (λ c. refused_or c before (first_refused (before ++ piece.text) rest)) fits ∙ later

-- two pieces in the place of others of the same texts
exchanged : (before : Bytes) (ps : List Piece) (a b c d : Piece) (rest : List Piece) → c.text ≡ a.text → d.text ≡ b.text → c.cause ≡ None → d.cause ≡ None
    → first_refused before (ps ++ (a ∷ (b ∷ rest))) ≡ None → first_refused before (ps ++ (c ∷ (d ∷ rest))) ≡ None
exchanged before [] a b c d rest s t f g none =
    let one = none_at a.cause before (first_refused (before ++ a.text) (b ∷ rest)) none in
    let two = none_at b.cause (before ++ a.text) (first_refused ((before ++ a.text) ++ b.text) rest) one.1 in
    let last : first_refused ((before ++ c.text) ++ d.text) rest ≡ None = (λ i. first_refused ((before ++ s i) ++ t i) rest) ∙ two.1 in
    on before c (d ∷ rest) f (on (before ++ c.text) d rest g last)
exchanged before (piece ∷ ps) a b c d rest s t f g none =
    let one = none_at piece.cause before (first_refused (before ++ piece.text) (ps ++ (a ∷ (b ∷ rest)))) none in
    on before piece (ps ++ (c ∷ (d ∷ rest))) one.0 (exchanged (before ++ piece.text) ps a b c d rest s t f g one.1)

pub none_refused : (kind : Kind) (commit : Commit) → IsPlainCommit kind commit → own_refusal commit ≡ None
none_refused kind commit plain =
    let parts = own_parts commit in
    let has = both (is_id kind (id_of commit.tree)) (list_all (is_id kind) (map id_of commit.parents.items)) plain.ids in
    let spelled : SpellsCommit (hex_len kind) (commit_text parts) parts =
    subst (λ (p : Parts). SpellsCommit (hex_len kind) (commit_text p) p) (sym (parts_same kind commit plain))
    (plain_spelled kind (id_of commit.tree) (map id_of commit.parents.items) (own_actor commit.author) (own_actor commit.committer) commit.message has.0 has.1 plain.author.actor plain.committer.actor) in
    let fits = accepted kind (commit_text parts) parts spelled
    (record { author = plain_person commit.author plain.author; committer = plain_person commit.committer plain.committer; encoding = no_name commit.encoding plain.encoding }) in
    exchanged [] (id_pieces parts) (person_piece (codes "author") parts.author) (person_piece (codes "committer") parts.committer)
    (own_person_piece (codes "author") commit.author) (own_person_piece (codes "committer") commit.committer)
    (encoding_pieces parts ++ (header_pieces parts ++ message_pieces parts)) refl refl
    (ap refused_unless (actor_fits commit.author plain.author)) (ap refused_unless (actor_fits commit.committer plain.committer)) fits

-- ---- so the value's content is written

pub value_written : (kind : Kind) (commit : Commit) (value : CommitValue) (found : Option (Vec ℕ Global)) → SaysCommit kind commit value
    → MatchOption found (own_refusal commit ≢ None) (λ text. (own_refusal commit ≡ None) × (text.items ≡ commit_text (own_parts commit)))
    → MatchOption found ⊥ (λ text. text.items ≡ commit_content kind value)
value_written kind commit value None is refused = refused (none_refused kind commit is.plain)
value_written kind commit value (Some text) is told = told.1 ∙ ap commit_text (parts_same kind commit is.plain) ∙ text_of_commit kind commit value is

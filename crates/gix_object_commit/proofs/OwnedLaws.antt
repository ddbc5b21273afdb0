-- What is written of a commit that owns its parts without a refusal spells them.
use Rattle.std.proofs.Common.{◌≡◌, ◌∙◌, ap, refl, ℕ, Bool, true, ◌&&◌, None, List, [], ◌∷◌, ◌++◌, length}
use Rattle.std.specs.Prelude.{FitsSigned, codes}
use Rattle.std.specs.Int.{w64}
use Rattle.gix_object_lines.specs.Actor.{TellsTime}
use Rattle.gix_object_lines.specs.Time.{time_text}
use Rattle.gix_object_lines.specs.declared.lines.actor.Actor.{Actor}
use Rattle.gix_object_lines.specs.TimeTest.{tells_time}
use Rattle.gix_object_lines.proofs.TimeTests.{tells_time-Decides}
use Rattle.gix_object_lines.proofs.TimeLemmas.{time_written}
use Rattle.gix_object_commit.specs.Commit.{SpellsCommit, commit_text}
use Rattle.gix_object_commit.specs.OwnedText.{own_parts, own_person_piece, own_refusal, is_own_person, is_whole_offset}
use Rattle.gix_object_commit.specs.Writing.{is_plain, is_person, refused_unless, id_pieces, person_piece, encoding_pieces, header_pieces, message_pieces, commit_refusal}
use Rattle.gix_object_lines.specs.Pieces.{Piece, first_refused, refused_or}
use Rattle.gix_object_lines.specs.Person.{own_person}
use Rattle.gix_object_commit.specs.declared.commit.owned.Commit.{Commit}
use Rattle.gix_object_commit.proofs.OwnTexts.{own_spellable}
use Rattle.gix_object_commit.proofs.Written.{fine, none_refused, written}
use Rattle.std.proofs.lemmas.Bool.{and_parts}

-- ---- one piece in the place of another of the same text

pub accepted : (before : List ℕ) (piece : Piece) (rest : List Piece) → piece.cause ≡ None → first_refused (before ++ piece.text) rest ≡ None → first_refused before (piece ∷ rest) ≡ None
accepted before piece rest fits later = ap (λ c. refused_or c before (first_refused (before ++ piece.text) rest)) fits ∙ later

exchanged : (before : List ℕ) (ps : List Piece) (a b c d : Piece) (rest : List Piece) → c.text ≡ a.text → d.text ≡ b.text
    → (a.cause ≡ None → c.cause ≡ None) → (b.cause ≡ None → d.cause ≡ None)
    → first_refused before (ps ++ (a ∷ (b ∷ rest))) ≡ None → first_refused before (ps ++ (c ∷ (d ∷ rest))) ≡ None
exchanged before [] a b c d rest s t f g none =
    let one = none_refused before a (b ∷ rest) none in
    let two = none_refused (before ++ a.text) b rest one.1 in
    let last : first_refused ((before ++ c.text) ++ d.text) rest ≡ None = ap (λ x. first_refused ((before ++ x) ++ d.text) rest) s ∙ ap (λ y. first_refused ((before ++ a.text) ++ y) rest) t ∙ two.1 in
    accepted before c (d ∷ rest) (f one.0) (accepted (before ++ c.text) d rest (g two.0) last)
exchanged before (piece ∷ ps) a b c d rest s t f g none =
    let one = none_refused before piece (ps ++ (a ∷ (b ∷ rest))) none in
    accepted before piece (ps ++ (c ∷ (d ∷ rest))) one.0 (exchanged (before ++ piece.text) ps a b c d rest s t f g one.1)

-- ---- an actor that is written

all_true : (a b c : Bool) → a ≡ true → b ≡ true → c ≡ true → (a && (b && c)) ≡ true
all_true a b c p q r = λ i. p i && (q i && r i)

told : (actor : Actor) → FitsSigned w64 actor.time.seconds → is_own_person actor ≡ true → TellsTime (time_text actor.time)
told actor fits e = (actor.time, time_written actor.time fits (own_spellable actor e).offset_spellable)

person_fits : (actor : Actor) → FitsSigned w64 actor.time.seconds → is_own_person actor ≡ true → is_person (own_person actor) ≡ true
person_fits actor fits e =
    let a = and_parts (is_plain actor.name) (is_plain actor.email && is_whole_offset actor.time.offset) e in
    let b = and_parts (is_plain actor.email) (is_whole_offset actor.time.offset) a.1 in
    all_true (is_plain actor.name) (is_plain actor.email) (tells_time (time_text actor.time)) a.0 b.0 ((tells_time-Decides (time_text actor.time)).1 (told actor fits e))

piece_fits : (word : List ℕ) (actor : Actor) → FitsSigned w64 actor.time.seconds → (own_person_piece word actor).cause ≡ None → (person_piece word (own_person actor)).cause ≡ None
piece_fits word actor fits none = ap refused_unless (person_fits actor fits (fine (is_own_person actor) none))

-- the actors of a commit whose pieces aren't refused
person_told : (before : List ℕ) (ps : List Piece) (word : List ℕ) (actor : Actor) (rest : List Piece) → first_refused before (ps ++ (own_person_piece word actor ∷ rest)) ≡ None
    → (is_own_person actor ≡ true) × ((after : List ℕ) × (first_refused after rest ≡ None))
person_told before [] word actor rest none =
    let one = none_refused before (own_person_piece word actor) rest none in
    (fine (is_own_person actor) one.0, (before ++ (own_person_piece word actor).text, one.1))
person_told before (piece ∷ ps) word actor rest none =
    let one = none_refused before piece (ps ++ (own_person_piece word actor ∷ rest)) none in
    person_told (before ++ piece.text) ps word actor rest one.1

pub owned_written : (commit : Commit) → FitsSigned w64 commit.author.time.seconds → FitsSigned w64 commit.committer.time.seconds → own_refusal commit ≡ None → SpellsCommit (length (own_parts commit).tree) (commit_text (own_parts commit)) (own_parts commit)
owned_written commit author committer none =
    let parts = own_parts commit in
    let end : List Piece = encoding_pieces parts ++ (header_pieces parts ++ message_pieces parts) in
    let a = person_told [] (id_pieces parts) (codes "author") commit.author (own_person_piece (codes "committer") commit.committer ∷ end) none in
    let c = person_told a.1.0 [] (codes "committer") commit.committer end a.1.1 in
    let fits : commit_refusal parts ≡ None =
    exchanged [] (id_pieces parts) (own_person_piece (codes "author") commit.author) (own_person_piece (codes "committer") commit.committer)
    (person_piece (codes "author") parts.author) (person_piece (codes "committer") parts.committer) end refl refl
    (piece_fits (codes "author") commit.author author) (piece_fits (codes "committer") commit.committer committer) none in
    written parts fits

-- What is left of a commit after some of its parts.
use Rattle.std.proofs.Common.{◌≡◌, ◌≢◌, ◌∙◌, ap, refl, sym, subst, ℕ, Bool, true, false, List, [], ◌∷◌, ◌++◌, append_assoc, Option, Some, None, inl, inr, arith}
use Rattle.std.specs.Prelude.{codes, flat_map, All, IfSome}
use Rattle.std.proofs.lemmas.List.Elements.{All-nil, All-cons}
use Rattle.gix_hash.specs.declared.kind.Kind.{Kind}
use Rattle.gix_hash.specs.Kind.{hex_len}
use Rattle.gix_hash.specs.Id.{Id}
use Rattle.gix_object_lines.specs.Bytes.{Lacks}
use Rattle.gix_object_lines.specs.HexLine.{hex_line, IsHex}
use Rattle.gix_object_lines.proofs.Cuts.{cut_once}
use Rattle.gix_object_commit.specs.declared.ref_iter.Stage.{Stage}
use Rattle.gix_object_commit.specs.declared.ref_iter.Stage.TheVariants as at
use Rattle.gix_object_commit.specs.Commit.{Field, Parts, line, encoding_text, field_text, IsPerson, IsField, IsEncodingFirst}
use Rattle.gix_object_commit.specs.Reading.{IsUnspaced}
use Rattle.gix_object_commit.specs.Tokens.{Part, Tree, Parent, Author, Committer, Encoding, Header, Message, IsIdLine, IsPartAt, stage_after}
use Rattle.gix_object_commit.specs.Whole.{IsCommit, is_message}
use Rattle.gix_object_lines.proofs.HexDigits.{id_of_hex}
use Rattle.gix_object_lines.specs.Person.{Person, actor_line}
use Rattle.gix_object_commit.proofs.Lines.{line_shape, field_no_message, fields_unspaced}
use Rattle.gix_object_commit.proofs.Once.{hex_once, person_once, field_once, encoding_once}
use Rattle.gix_object_commit.proofs.Progress.{all_head, all_tail}
use Rattle.gix_object_commit.proofs.Whole.{after_tree, after_author, after_committer, no_encoding}

-- ---- what may be left at each stage

-- further headers and the message
pub record HeadersOn (input : List ℕ) : Type 0 where
  pub fields : List Field
  pub message : List ℕ
  pub fit : All IsField fields
  pub spelled : input ≡ flat_map field_text fields ++ 10 ∷ message

pub record EncodingOn (input : List ℕ) : Type 0 where
  pub encoding : Option (List ℕ)
  pub fields : List Field
  pub message : List ℕ
  pub in_line : IfSome encoding (Lacks 10)
  pub fit : All IsField fields
  pub untold : encoding ≡ None → ¬ IsEncodingFirst fields
  pub spelled : input ≡ encoding_text encoding ++ (flat_map field_text fields ++ 10 ∷ message)

pub record CommitterOn (input : List ℕ) : Type 0 where
  pub person : Person
  pub rest : List ℕ
  pub fits : IsPerson person
  pub spelled : input ≡ line (codes "committer") (actor_line person) ++ rest
  pub on : EncodingOn rest

pub record ParentsOn (kind : Kind) (input : List ℕ) : Type 0 where
  pub parents : List (List ℕ)
  pub author : Person
  pub rest : List ℕ
  pub hex : All (IsHex (hex_len kind)) parents
  pub fits : IsPerson author
  pub spelled : input ≡ flat_map (hex_line (codes "parent")) parents ++ (line (codes "author") (actor_line author) ++ rest)
  pub on : CommitterOn rest

pub record TreeOn (kind : Kind) (input : List ℕ) : Type 0 where
  pub digits : List ℕ
  pub rest : List ℕ
  pub hex : IsHex (hex_len kind) digits
  pub spelled : input ≡ hex_line (codes "tree") digits ++ rest
  pub on : ParentsOn kind rest

abbrev pub IsFrom : Kind → Stage → List ℕ → Type 0
IsFrom kind at.Tree input = TreeOn kind input
IsFrom kind at.Parents input = ParentsOn kind input
IsFrom kind at.Committer input = CommitterOn input
IsFrom kind at.Encoding input = EncodingOn input
IsFrom kind at.Headers input = HeadersOn input

-- nothing is required after the message
abbrev pub IsLeft : Kind → Stage → List ℕ → Bool → Type 0
IsLeft kind stage input true = Unit {0}
IsLeft kind stage input false = IsFrom kind stage input

-- ---- the whole

pub commit_to : (kind : Kind) (input : List ℕ) → IsCommit kind input → TreeOn kind input
commit_to kind input (parts, s) = record {
  digits = parts.tree;
  rest = after_tree parts;
  hex = s.tree;
  spelled = s.spelled;
  on = record {
    parents = parts.parents;
    author = parts.author;
    rest = after_author parts;
    hex = s.parents;
    fits = s.author;
    spelled = refl;
    on = record {
      person = parts.committer;
      rest = after_committer parts;
      fits = s.committer;
      spelled = refl;
      on = record { encoding = parts.encoding; fields = parts.headers; message = parts.message; in_line = s.encoding; fit = s.headers; untold = s.no_encoding; spelled = refl };
    };
  };
}

pub commit_from : (kind : Kind) (input : List ℕ) → TreeOn kind input → IsCommit kind input
commit_from kind input t =
    let p = t.on in
    let c = p.on in
    let e = c.on in
    let parts : Parts = record { tree = t.digits; parents = p.parents; author = p.author; committer = c.person; encoding = e.encoding; headers = e.fields; message = e.message } in
    let people : p.rest ≡ after_author parts = c.spelled ∙ ap (λ r. line (codes "committer") (actor_line c.person) ++ r) e.spelled in
    let parents : t.rest ≡ after_tree parts = p.spelled ∙ ap (λ r. flat_map (hex_line (codes "parent")) p.parents ++ (line (codes "author") (actor_line p.author) ++ r)) people in (
      parts,
      record { spelled = t.spelled ∙ ap (λ r. hex_line (codes "tree") t.digits ++ r) parents; tree = t.hex; parents = p.hex; author = p.fits; committer = c.fits; encoding = e.in_line; headers = e.fit; no_encoding = e.untold },
    )

-- ---- every part is there

no_line : (word text rest : List ℕ) (x : ℕ) (more : List ℕ) → word ≡ x ∷ more → [] ≡ line word text ++ rest → ⊥
no_line word text rest x more is e = let clash : [] ≡ x ∷ (more ++ 32 ∷ (text ++ 10 ∷ rest)) = e ∙ line_shape word text rest ∙ ap (λ w. w ++ 32 ∷ (text ++ 10 ∷ rest)) is in cc

no_field : (field : Field) (rest : List ℕ) → IsField field → [] ≡ field_text field ++ rest → ⊥
no_field field rest is e = named field.name field.value is.named e
  where
    named : (name value : List ℕ) → name ≢ [] → [] ≡ line name value ++ rest → ⊥
    named [] value some e = some refl
    named (x ∷ name) value some e = cc

pub no_part : (kind : Kind) (stage : Stage) (part : Part) (rest : List ℕ) → IsPartAt kind stage [] part rest → ⊥
no_part kind stage (Tree id) rest is = let e = is.1.spelled in cc
no_part kind stage (Parent id) rest is = let e = is.1.spelled in cc
no_part kind stage (Author person) rest is = no_line (codes "author") (actor_line person) rest _ _ refl is.2
no_part kind stage (Committer person) rest is = no_line (codes "committer") (actor_line person) rest _ _ refl is.2
no_part kind stage (Encoding name) rest is = no_line (codes "encoding") name rest _ _ refl is.2
no_part kind stage (Header field) rest is = no_field field rest is.1 is.3
no_part kind stage (Message message) rest is = let e = is.1 in cc

-- if something is left, some part is next
abbrev pub HasPart : Kind → Stage → List ℕ → Type 0
HasPart kind stage input = (part : Part) × (rest : List ℕ) × IsPartAt kind stage input part rest

parent_there : (kind : Kind) (input : List ℕ) (digits rest : List ℕ) → IsHex (hex_len kind) digits → input ≡ hex_line (codes "parent") digits ++ rest → HasPart kind at.Parents input
parent_there kind input digits rest hex spelled =
    let id = id_of_hex kind digits hex in
    (Parent id.0, rest, (refl, record { digits = digits; hex = hex; id_spelled = id.1; spelled = spelled }))

from_parents : (kind : Kind) (input : List ℕ) → ParentsOn kind input → HasPart kind at.Parents input
from_parents kind input p = go p.parents p.hex p.spelled
  where
    go : (parents : List (List ℕ)) → All (IsHex (hex_len kind)) parents → input ≡ flat_map (hex_line (codes "parent")) parents ++ (line (codes "author") (actor_line p.author) ++ p.rest) → HasPart kind at.Parents input
    go [] hex spelled = (Author p.author, p.rest, (refl, p.fits, spelled))
    go (x ∷ parents) hex spelled = parent_there kind input x _ (all_head (IsHex (hex_len kind)) x parents hex) (spelled ∙ append_assoc (hex_line (codes "parent") x) (flat_map (hex_line (codes "parent")) parents) _)

from_headers : (kind : Kind) (input : List ℕ) → HeadersOn input → HasPart kind at.Headers input
from_headers kind input h = go h.fields h.fit h.spelled
  where
    go : (fields : List Field) → All IsField fields → input ≡ flat_map field_text fields ++ 10 ∷ h.message → HasPart kind at.Headers input
    go [] fit spelled = (Message h.message, [], (inr refl, spelled, refl))
    go (field ∷ fields) fit spelled = (
      Header field,
      flat_map field_text fields ++ 10 ∷ h.message,
      (
        inl refl,
        all_head IsField field fields fit,
        fields_unspaced fields (10 ∷ h.message) (all_tail IsField field fields fit) (h.message, refl),
        spelled ∙ append_assoc (field_text field) (flat_map field_text fields) (10 ∷ h.message),
      ),
    )

from_encoding : (kind : Kind) (input : List ℕ) → EncodingOn input → HasPart kind at.Encoding input
from_encoding kind input e = told e.encoding e.in_line e.untold e.spelled
  where
    go : (fields : List Field) → All IsField fields → ¬ IsEncodingFirst fields → input ≡ flat_map field_text fields ++ 10 ∷ e.message → HasPart kind at.Encoding input
    go [] fit untold spelled = (Message e.message, [], (inl refl, spelled, refl))
    go (field ∷ fields) fit untold spelled = (
      Header field,
      flat_map field_text fields ++ 10 ∷ e.message,
      (
        inr (refl, untold),
        all_head IsField field fields fit,
        fields_unspaced fields (10 ∷ e.message) (all_tail IsField field fields fit) (e.message, refl),
        spelled ∙ append_assoc (field_text field) (flat_map field_text fields) (10 ∷ e.message),
      ),
    )

    told : (encoding : Option (List ℕ)) → IfSome encoding (Lacks 10) → (encoding ≡ None → ¬ IsEncodingFirst e.fields) → input ≡ encoding_text encoding ++ (flat_map field_text e.fields ++ 10 ∷ e.message) → HasPart kind at.Encoding input
    told None in_line untold spelled = go e.fields e.fit (untold refl) spelled
    told (Some name) in_line untold spelled = (Encoding name, flat_map field_text e.fields ++ 10 ∷ e.message, (refl, in_line, spelled))

pub has_part : (kind : Kind) (stage : Stage) (input : List ℕ) → IsFrom kind stage input → HasPart kind stage input
has_part kind at.Tree input t =
    let id = id_of_hex kind t.digits t.hex in
    (Tree id.0, t.rest, (refl, record { digits = t.digits; hex = t.hex; id_spelled = id.1; spelled = t.spelled }))
has_part kind at.Parents input p = from_parents kind input p
has_part kind at.Committer input c = (Committer c.person, c.rest, (refl, c.fits, c.spelled))
has_part kind at.Encoding input e = from_encoding kind input e
has_part kind at.Headers input h = from_headers kind input h

-- ---- a step forth

parent_on : (kind : Kind) (input : List ℕ) (id : Id) (rest : List ℕ) → IsIdLine kind (codes "parent") input id rest → ParentsOn kind input → ParentsOn kind rest
parent_on kind input id rest is p = go p.parents p.hex p.spelled
  where
    go : (parents : List (List ℕ)) → All (IsHex (hex_len kind)) parents → input ≡ flat_map (hex_line (codes "parent")) parents ++ (line (codes "author") (actor_line p.author) ++ p.rest) → ParentsOn kind rest
    go [] hex spelled = absurd (let heads : ◌≡◌ {A = ℕ} 112 97 = cc (is.spelled, spelled) in omega arith)
    go (x ∷ parents) hex spelled =
        let author = line (codes "author") (actor_line p.author) ++ p.rest in
        let same = hex_once (codes "parent") is.digits x rest (flat_map (hex_line (codes "parent")) parents ++ author) (is.hex.0 ∙ sym (all_head (IsHex (hex_len kind)) x parents hex).0)
        (sym is.spelled ∙ spelled ∙ append_assoc (hex_line (codes "parent") x) (flat_map (hex_line (codes "parent")) parents) author) in
        record { parents = parents; author = p.author; rest = p.rest; hex = all_tail (IsHex (hex_len kind)) x parents hex; fits = p.fits; spelled = same.1; on = p.on }

author_on : (kind : Kind) (input : List ℕ) (person : Person) (rest : List ℕ) → IsPerson person → input ≡ line (codes "author") (actor_line person) ++ rest → ParentsOn kind input → CommitterOn rest
author_on kind input person rest fits whole p = go p.parents p.spelled
  where
    go : (parents : List (List ℕ)) → input ≡ flat_map (hex_line (codes "parent")) parents ++ (line (codes "author") (actor_line p.author) ++ p.rest) → CommitterOn rest
    go [] spelled = subst CommitterOn (sym (person_once (codes "author") person p.author rest p.rest fits p.fits (sym whole ∙ spelled)).1) p.on
    go (x ∷ parents) spelled = absurd (let heads : ◌≡◌ {A = ℕ} 97 112 = cc (whole, spelled) in omega arith)

encoding_on : (input name rest : List ℕ) → Lacks 10 name → input ≡ line (codes "encoding") name ++ rest → EncodingOn input → HeadersOn rest
encoding_on input name rest lacks whole e =
    let same = encoding_once (Some name) e.encoding rest (flat_map field_text e.fields ++ 10 ∷ e.message) lacks e.in_line (λ none. absurd cc) (λ none. no_encoding e.fields e.message e.fit (e.untold none)) (sym whole ∙ e.spelled) in
    record { fields = e.fields; message = e.message; fit = e.fit; spelled = same.1 }

-- a header that isn't named as the encoding comes if there is none
untold_on : (input : List ℕ) (field : Field) (rest : List ℕ) → IsField field → field.name ≢ codes "encoding" → input ≡ field_text field ++ rest → EncodingOn input → HeadersOn input
untold_on input field rest fits differs whole e = go e.encoding e.spelled
  where
    go : (encoding : Option (List ℕ)) → input ≡ encoding_text encoding ++ (flat_map field_text e.fields ++ 10 ∷ e.message) → HeadersOn input
    go None spelled = record { fields = e.fields; message = e.message; fit = e.fit; spelled = spelled }
    go (Some name) spelled =
        let after = flat_map field_text e.fields ++ 10 ∷ e.message in
        absurd (differs (sym (cut_once 32 (codes "encoding") (name ++ 10 ∷ after) field.name (field.value ++ 10 ∷ rest) refl fits.name_one_word
        (sym (line_shape (codes "encoding") name after) ∙ sym spelled ∙ whole ∙ line_shape field.name field.value rest)).0))

header_on : (input : List ℕ) (field : Field) (rest : List ℕ) → IsField field → IsUnspaced rest → input ≡ field_text field ++ rest → HeadersOn input → HeadersOn rest
header_on input field rest fits unspaced whole h = go h.fields h.fit h.spelled
  where
    go : (fields : List Field) → All IsField fields → input ≡ flat_map field_text fields ++ 10 ∷ h.message → HeadersOn rest
    go [] fit spelled = absurd (field_no_message field rest h.message fits (sym spelled ∙ whole))
    go (x ∷ fields) fit spelled =
        let after = flat_map field_text fields ++ 10 ∷ h.message in
        let later = all_tail IsField x fields fit in
        let same = field_once field x rest after fits (all_head IsField x fields fit) unspaced (fields_unspaced fields (10 ∷ h.message) later (h.message, refl))
        (sym whole ∙ spelled ∙ append_assoc (field_text x) (flat_map field_text fields) (10 ∷ h.message)) in
        record { fields = fields; message = h.message; fit = later; spelled = same.1 }

pub step_on : (kind : Kind) (stage : Stage) (input : List ℕ) (part : Part) (rest : List ℕ) → IsPartAt kind stage input part rest → IsFrom kind stage input → IsLeft kind (stage_after part) rest (is_message part)
step_on kind stage input (Tree id) rest is from =
    let t : TreeOn kind input = subst (λ s. IsFrom kind s input) is.0 from in
    let same = hex_once (codes "tree") is.1.digits t.digits rest t.rest (is.1.hex.0 ∙ sym t.hex.0) (sym is.1.spelled ∙ t.spelled) in
    subst (ParentsOn kind) (sym same.1) t.on
step_on kind stage input (Parent id) rest is from = parent_on kind input id rest is.1 (subst (λ s. IsFrom kind s input) is.0 from)
step_on kind stage input (Author person) rest is from = author_on kind input person rest is.1 is.2 (subst (λ s. IsFrom kind s input) is.0 from)
step_on kind stage input (Committer person) rest is from =
    let c : CommitterOn input = subst (λ s. IsFrom kind s input) is.0 from in
    subst EncodingOn (sym (person_once (codes "committer") person c.person rest c.rest is.1 c.fits (sym is.2 ∙ c.spelled)).1) c.on
step_on kind stage input (Encoding name) rest is from = encoding_on input name rest is.1 is.2 (subst (λ s. IsFrom kind s input) is.0 from)
step_on kind stage input (Header field) rest is from =
    elim is.0 [
      | inl e ↦ header_on input field rest is.1 is.2 is.3 (subst (λ s. IsFrom kind s input) e from)
      | inr e ↦ header_on input field rest is.1 is.2 is.3 (untold_on input field rest is.1 e.1 is.3 (subst (λ s. IsFrom kind s input) e.0 from))
    ]
step_on kind stage input (Message message) rest is from = tt

-- ---- and back

header_back : (input : List ℕ) (field : Field) (rest : List ℕ) (h : HeadersOn rest) → input ≡ field_text field ++ rest → input ≡ flat_map field_text (field ∷ h.fields) ++ 10 ∷ h.message
header_back input field rest h whole = whole ∙ ap (λ r. field_text field ++ r) h.spelled ∙ sym (append_assoc (field_text field) (flat_map field_text h.fields) (10 ∷ h.message))

pub step_back : (kind : Kind) (stage : Stage) (input : List ℕ) (part : Part) (rest : List ℕ) → IsPartAt kind stage input part rest → IsLeft kind (stage_after part) rest (is_message part) → IsFrom kind stage input
step_back kind stage input (Tree id) rest is on =
    let t : TreeOn kind input = record { digits = is.1.digits; rest = rest; hex = is.1.hex; spelled = is.1.spelled; on = on } in
    subst (λ s. IsFrom kind s input) (sym is.0) t
step_back kind stage input (Parent id) rest is on =
    let p : ParentsOn kind rest = on in
    let author = line (codes "author") (actor_line p.author) ++ p.rest in
    let more : ParentsOn kind input = record {
      parents = is.1.digits ∷ p.parents;
      author = p.author;
      rest = p.rest;
      hex = All-cons (IsHex (hex_len kind)) is.1.digits p.parents is.1.hex p.hex;
      fits = p.fits;
      spelled = is.1.spelled ∙ ap (λ r. hex_line (codes "parent") is.1.digits ++ r) p.spelled ∙ sym (append_assoc (hex_line (codes "parent") is.1.digits) (flat_map (hex_line (codes "parent")) p.parents) author);
      on = p.on;
    } in
    subst (λ s. IsFrom kind s input) (sym is.0) more
step_back kind stage input (Author person) rest is on =
    let p : ParentsOn kind input = record { parents = []; author = person; rest = rest; hex = All-nil (IsHex (hex_len kind)); fits = is.1; spelled = is.2; on = on } in
    subst (λ s. IsFrom kind s input) (sym is.0) p
step_back kind stage input (Committer person) rest is on =
    let c : CommitterOn input = record { person = person; rest = rest; fits = is.1; spelled = is.2; on = on } in
    subst (λ s. IsFrom kind s input) (sym is.0) c
step_back kind stage input (Encoding name) rest is on =
    let h : HeadersOn rest = on in
    let e : EncodingOn input = record { encoding = Some name; fields = h.fields; message = h.message; in_line = is.1; fit = h.fit; untold = λ none. absurd cc; spelled = is.2 ∙ ap (λ r. line (codes "encoding") name ++ r) h.spelled } in
    subst (λ s. IsFrom kind s input) (sym is.0) e
step_back kind stage input (Header field) rest is on =
    let h : HeadersOn rest = on in
    let whole = header_back input field rest h is.3 in
    let fit = All-cons IsField field h.fields is.1 h.fit in
    elim is.0 [
      | inl e ↦ (let more : HeadersOn input = record { fields = field ∷ h.fields; message = h.message; fit = fit; spelled = whole } in subst (λ s. IsFrom kind s input) (sym e) more)
      | inr e ↦ (let more : EncodingOn input = record { encoding = None; fields = field ∷ h.fields; message = h.message; in_line = tt; fit = fit; untold = λ none. e.1; spelled = whole } in subst (λ s. IsFrom kind s input) (sym e.0) more)
    ]
step_back kind stage input (Message message) rest is on =
    elim is.0 [
      | inl e ↦ (let last : EncodingOn input = record { encoding = None; fields = []; message = message; in_line = tt; fit = All-nil IsField; untold = λ none first. first; spelled = is.1 } in subst (λ s. IsFrom kind s input) (sym e) last)
      | inr e ↦ (let last : HeadersOn input = record { fields = []; message = message; fit = All-nil IsField; spelled = is.1 } in subst (λ s. IsFrom kind s input) (sym e) last)
    ]

message_ends : (kind : Kind) (stage : Stage) (input : List ℕ) (part : Part) (rest : List ℕ) → IsPartAt kind stage input part rest → is_message part ≡ true → rest ≡ []
message_ends kind stage input (Tree id) rest is e = absurd cc
message_ends kind stage input (Parent id) rest is e = absurd cc
message_ends kind stage input (Author person) rest is e = absurd cc
message_ends kind stage input (Committer person) rest is e = absurd cc
message_ends kind stage input (Encoding name) rest is e = absurd cc
message_ends kind stage input (Header field) rest is e = absurd cc
message_ends kind stage input (Message message) rest is e = is.2

-- what is read so far is the beginning of a commit exactly where the rest goes on as one, and after
-- the message is nothing
pub record IsReadSoFar (kind : Kind) (input : List ℕ) (stage : Stage) (rest : List ℕ) (whole : Bool) : Type 0 where
  pub on : IsCommit kind input → IsLeft kind stage rest whole
  pub back : IsLeft kind stage rest whole → IsCommit kind input
  pub ended : whole ≡ true → rest ≡ []

pub none_read : (kind : Kind) (input : List ℕ) → IsReadSoFar kind input at.Tree input false
none_read kind input = record { on = λ is. commit_to kind input is; back = λ is. commit_from kind input is; ended = λ e. absurd cc }

pub one_read : (kind : Kind) (input : List ℕ) (stage : Stage) (rest : List ℕ) (whole : Bool) (part : Part) (after : List ℕ) → IsReadSoFar kind input stage rest whole → IsPartAt kind stage rest part after
    → IsReadSoFar kind input (stage_after part) after (is_message part)
one_read kind input stage rest true part after so_far is = absurd (no_part kind stage part after (subst (λ t. IsPartAt kind stage t part after) (so_far.ended refl) is))
one_read kind input stage rest false part after so_far is = record {
  on = λ commit. step_on kind stage rest part after is (so_far.on commit);
  back = λ left. so_far.back (step_back kind stage rest part after is left);
  ended = message_ends kind stage rest part after is;
}

-- if no part is next, no commit is spelled
pub stuck : (kind : Kind) (input : List ℕ) (stage : Stage) (rest : List ℕ) (whole : Bool) → IsReadSoFar kind input stage rest whole → rest ≢ [] → ((part : Part) (after : List ℕ) → ¬ IsPartAt kind stage rest part after) → IsCommit kind input → ⊥
stuck kind input stage rest true so_far some none is = some (so_far.ended refl)
stuck kind input stage rest false so_far some none is = let next = has_part kind stage rest (so_far.on is) in none next.0 next.1 next.2

-- at the end the message was the last part, or no commit is spelled
pub ends_whole : (kind : Kind) (input : List ℕ) (stage : Stage) (rest : List ℕ) (whole : Bool) → IsReadSoFar kind input stage rest whole → rest ≡ [] → IsCommit kind input → whole ≡ true
ends_whole kind input stage rest true so_far none is = refl
ends_whole kind input stage rest false so_far none is =
    let next = has_part kind stage rest (so_far.on is) in
    absurd (no_part kind stage next.0 next.1 (subst (λ t. IsPartAt kind stage t next.0 next.1) none next.2))

pub whole_is : (kind : Kind) (input : List ℕ) (stage : Stage) (rest : List ℕ) (whole : Bool) → IsReadSoFar kind input stage rest whole → whole ≡ true → IsCommit kind input
whole_is kind input stage rest true so_far e = so_far.back tt
whole_is kind input stage rest false so_far e = absurd cc

-- A tag as it is written.
use Rattle.std.specs.Prelude.{ℕ, List, [], ◌∷◌, ◌++◌, codes, Bool, false, true, not, ◌||◌, ◌==◌, Option, None, Some, if◌then◌else◌}
use Rattle.std.specs.List.{list_any}
use Rattle.std.specs.Option.{option_map}
use Rattle.gix_object_lines.specs.HexLine.{hex_line, is_id}
use Rattle.gix_object_lines.specs.Kind.{kind_word}
use Rattle.gix_object_lines.specs.TimeTest.{tells_time}
use Rattle.gix_object_lines.specs.Writes.{Refusal}
use Rattle.gix_object_lines.specs.declared.encode.Error.TheVariants.{Unspellable}
use Rattle.gix_object_lines.specs.declared.write.Error.TheVariants.{Header, TagName}
use Rattle.gix_object_lines.specs.declared.write.TagNameError.{TagNameError}
use Rattle.gix_object_lines.specs.Person.{Person}
use Rattle.gix_object_tag.specs.BodyTest.{is_whole_body}
use Rattle.gix_object_tag.specs.NameTest.{name_fault}
use Rattle.gix_object_tag.specs.Pieces.{Piece, all_text, first_refusal}
use Rattle.gix_object_tag.specs.Tag.{Parts}

-- the lines of the target and of its kind's word
abbrev pub head_text : List ℕ → List ℕ → List ℕ
head_text target word = hex_line (codes "object") target ++ (codes "type " ++ (word ++ 10 ∷ []))

abbrev pub name_line : List ℕ → List ℕ
name_line name = codes "tag " ++ (name ++ 10 ∷ [])

abbrev pub tagger_text : Person → List ℕ
tagger_text tagger = tagger.name ++ (codes " <" ++ (tagger.email ++ (codes "> " ++ tagger.time)))

abbrev pub tagger_line : Option Person → List ℕ
tagger_line None = []
tagger_line (Some tagger) = codes "tagger " ++ (tagger_text tagger ++ 10 ∷ [])

-- a line feed parts the message from its signature, unless the message is empty
abbrev pub body_text : List ℕ → Option (List ℕ) → List ℕ
body_text message None = 10 ∷ message
body_text [] (Some signature) = 10 ∷ signature
body_text (byte ∷ message) (Some signature) = 10 ∷ ((byte ∷ message) ++ 10 ∷ signature)

-- ---- what isn't written

-- a part that has no written form: nothing of it
abbrev pub unspellable_unless : Bool → Option Refusal
unspellable_unless fine =
    if fine then None else Some (record { before = []; cause = Header Unspellable })

-- a name that is no tag's: nothing of its line
abbrev pub name_refusal : Option TagNameError → Option Refusal
name_refusal fault = option_map (λ cause. record { before = []; cause = TagName cause }) fault

-- a name or an email with `<`, `>` or a line feed
abbrev pub is_marked : List ℕ → Bool
is_marked part = list_any (λ byte. byte == 60 || byte == 62 || byte == 10) part

abbrev pub is_marked_tagger : Option Person → Bool
is_marked_tagger None = false
is_marked_tagger (Some tagger) = is_marked tagger.name || is_marked tagger.email

-- such a name or email, or a text that is no time
abbrev pub is_bad_tagger : Option Person → Bool
is_bad_tagger None = false
is_bad_tagger (Some tagger) = is_marked_tagger (Some tagger) || not (tells_time tagger.time)

-- a tagger that has no line: nothing of it
abbrev pub tagger_refusal : Bool → Option Refusal
tagger_refusal bad = unspellable_unless (not bad)

-- ---- the whole, from its parts, whether its tagger has no line, and whether its body is whole

abbrev pub head_piece : Parts → Piece
head_piece parts =
    record {
      text =
          head_text parts.target (kind_word parts.target_kind);
      refusal =
          unspellable_unless (is_id parts.target);
    }

abbrev pub name_piece : Parts → Piece
name_piece parts =
    record { text = name_line parts.name; refusal = name_refusal (name_fault parts.name) }

abbrev pub tagger_piece : Parts → Bool → Piece
tagger_piece parts bad = record { text = tagger_line parts.tagger; refusal = tagger_refusal bad }

abbrev pub body_piece : Parts → Bool → Piece
body_piece parts whole =
    record { text = body_text parts.message parts.signature; refusal = unspellable_unless whole }

abbrev pub pieces_of : Parts → Bool → Bool → List Piece
pieces_of parts bad whole =
    head_piece parts ∷ name_piece parts ∷ tagger_piece parts bad ∷ body_piece parts whole ∷ []

abbrev pub tag_text : Parts → List ℕ
tag_text parts = all_text (pieces_of parts false true)

abbrev pub tag_refusal : Parts → Bool → Option Refusal
tag_refusal parts bad =
    first_refusal (pieces_of parts bad (is_whole_body parts.message parts.signature))

-- the same of the lines alone, whatever the body
abbrev pub line_refusal : Parts → Bool → Option Refusal
line_refusal parts bad = first_refusal (pieces_of parts bad true)

-- The text of a reference's own file: an object's id in hexadecimal and a line feed, or `ref: `, a
-- full name and a line feed (gitrepository-layout, "refs" and "HEAD"; git-symbolic-ref).
use Rattle.std.specs.Prelude.{ℕ, ◌==◌, Bool, true, ◌||◌, List, [], ◌∷◌, ◌++◌, take, drop, codes, if◌then◌else◌, Option, Some, None, option_map, IsTrue, IsFalse, ◌≡◌}
use Rattle.gix_hash.specs.Id.{Id}
use Rattle.gix_hash.specs.Kind.{hex_len}
use Rattle.gix_hash.specs.Spelling.{hex_text}
use Rattle.gix_hash.specs.declared.kind.Kind.{Kind}
use Rattle.gix_object_lines.specs.NameTest.{begins, is_full_name}
use Rattle.gix_ref_name.specs.Targets.{Points, ToObject, ToName}
use Rattle.gix_ref_format.specs.Ids.{id_from_hex}
use Rattle.gix_ref_format.specs.Lines.{without_last}
use Rattle.gix_ref_format.specs.declared.loose.Error.{Error}
use Rattle.gix_ref_format.specs.declared.loose.Error.TheVariants.{Parse, RefnameValidation, Memory}

-- what is written
abbrev pub loose_text : Points → List ℕ
loose_text (ToObject id) = hex_text id.digits ++ 10 ∷ []
loose_text (ToName name) = codes "ref: " ++ name ++ 10 ∷ []

-- ---- what is read: also more spaces before a name, CR LF or nothing at the end, and what white space parts from an id

abbrev pub without_spaces : List ℕ → List ℕ
without_spaces [] = []
without_spaces (byte ∷ rest) = if byte == 32 then without_spaces rest else byte ∷ rest

-- a space, tab, line feed or carriage return
abbrev pub is_space : ℕ → Bool
is_space byte = byte == 32 || byte == 9 || byte == 10 || byte == 13

-- nothing, or white space before anything
abbrev pub ends_word : List ℕ → Bool
ends_word [] = true
ends_word (byte ∷ rest) = is_space byte

abbrev pub is_symbolic : List ℕ → Bool
is_symbolic text = begins (codes "ref: ") text

-- the part of a symbolic text that is to be a name
abbrev pub referent : List ℕ → List ℕ
referent text = without_last 13 (without_last 10 (without_spaces (drop 5 text)))

-- the id that begins the text
abbrev pub leading_id : Kind → List ℕ → Option Id
leading_id kind text =
    if ends_word (drop (hex_len kind) text) then id_from_hex kind (take (hex_len kind) text)
    else None

-- the target that a text names
abbrev pub loose_target : Kind → List ℕ → Option Points
loose_target kind text =
    if is_symbolic text
    then (if is_full_name (referent text) then Some (ToName (referent text)) else None)
    else option_map ToObject (leading_id kind text)

-- why a text names none
abbrev pub LooseFault : Kind → List ℕ → Error → Type 0
LooseFault kind text Parse = IsFalse (is_symbolic text) × (leading_id kind text ≡ None)
LooseFault kind text RefnameValidation =
    IsTrue (is_symbolic text) × IsFalse (is_full_name (referent text))
LooseFault kind text Memory = Unit {0}

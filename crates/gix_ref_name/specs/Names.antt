-- What contracts see of views of names, what is printed of a name, and how a name is made of bytes.
use Rattle.std.specs.Prelude.{ℕ, ◌≡◌, Bool, List, Result, Ok, Err, IsTrue, IsFalse, encode_utf8_all}
use Rattle.bstr.specs.BStr.{bstr_bytes}
use Rattle.bstr.specs.Utf8.{lossy_chars}
use Rattle.gix_ref_name.specs.declared.fullname.view.FullNameRef.{FullNameRef}
use Rattle.gix_ref_name.specs.declared.name.view.PartialNameRef.{PartialNameRef}
use Rattle.gix_ref_name.specs.declared.name.error.Error.{Error}
use Rattle.gix_ref_name.specs.declared.name.error.Error.TheVariants.{Invalid, Memory}

-- the bytes of a full name
abbrev pub name_of : FullNameRef → List ℕ
name_of name = bstr_bytes name.bytes

-- the bytes of a partial name
abbrev pub part_of : PartialNameRef → List ℕ
part_of name = bstr_bytes name.bytes

-- what `{}` prints of a name: its characters, with U+FFFD for bytes that are none
abbrev pub printed : List ℕ → List ℕ
printed name = encode_utf8_all (lossy_chars name)

-- The text makes a name if it passes the test, and is `Invalid` exactly if it doesn't.
abbrev pub Makes : (List ℕ → Bool) → List ℕ → Result (List ℕ) Error → Type 0
Makes test text (Ok name) = (name ≡ text) × IsTrue (test text)
Makes test text (Err Invalid) = IsFalse (test text)
Makes test text (Err Memory) = Unit {0}

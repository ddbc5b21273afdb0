-- Names whose characters are composed (git-config, `core.precomposeUnicode`).
use Rattle.std.specs.Prelude.{ℕ, List, chars, encode_utf8_all, if◌then◌else◌}
use Rattle.std.specs.Str.{is_utf8}
use Rattle.unicode_normalization.specs.Forms.{nfc}

-- a text in form C; bytes that are no text stay
abbrev pub composed : List ℕ → List ℕ
composed bytes = if is_utf8 bytes then encode_utf8_all (nfc (chars bytes)) else bytes

-- What a signature signs.
use Rattle.std.specs.Prelude.{ℕ, List, ◌++◌}
use Rattle.bstr.specs.BStr.{bstr_bytes}
use Rattle.gix_object_signature.specs.declared.signed.SignedData.{SignedData}

abbrev pub signed_bytes : SignedData → List ℕ
signed_bytes signed = bstr_bytes signed.before ++ bstr_bytes signed.behind

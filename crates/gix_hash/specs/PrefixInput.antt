-- What a prefix feeds a hasher of `Hash`.
use Rattle.std.specs.Prelude.{ℕ, ◌≡◌, ◌-◌, ◌++◌, List, [], ◌∷◌, length, replicate, IsTrue}
use Rattle.std.proofs.Common.{ap}
use Rattle.gix_hash.specs.Kind.{hex_len}
use Rattle.std.specs.Hash as fed
use Rattle.gix_hash.specs.Id.{Id, bytes_from}
use Rattle.gix_hash.specs.Order.{id_eq}
use Rattle.gix_hash.specs.OrderLaws.{id_eq-same}

-- what a prefix feeds a hasher: its bytes with zeros after them, and then its number of digits
abbrev pub prefix_input : Id → List (List ℕ)
prefix_input p =
    (bytes_from (p.digits ++ replicate (hex_len p.kind - length p.digits) 0) ∷ [])
    ++ fed.usize (length p.digits)

-- equal prefixes are fed alike
pub same_input : (x y : Id) → IsTrue (id_eq x y) → prefix_input x ≡ prefix_input y
same_input x y h = ap prefix_input (id_eq-same x y h)

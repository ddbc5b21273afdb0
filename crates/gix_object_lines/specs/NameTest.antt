-- The rules of names as tests, which compute. The contracts of `lines::is_partial_name` and
-- `lines::is_full_name` say that the tests are the rules in `PartialName` and `FullName`.
use Rattle.std.specs.Prelude.{ℕ, Bool, not, ◌&&◌, ◌||◌, ◌==◌, nat_eq, nat_lt, nat_le, List, [], ◌∷◌, codes}
use Rattle.std.specs.List.{list_any, list_all, starts_with, ends_with}
use Rattle.std.specs.Str.{bytes_eq}
use Rattle.std.specs.Set.{is_member}

abbrev pub begins : List ℕ → List ℕ → Bool
begins front name = starts_with nat_eq name front

abbrev pub ends : List ℕ → List ℕ → Bool
ends back name = ends_with nat_eq name back

abbrev pub holds : List ℕ → List ℕ → Bool
holds part [] = begins part []
holds part (byte ∷ rest) = begins part (byte ∷ rest) || holds part rest

abbrev pub is_barred : ℕ → Bool
is_barred byte = nat_lt byte 32 || (byte == 127 || is_member nat_eq (codes " ~^:?*[\\") byte)

-- no rule is broken
abbrev pub is_partial_name : List ℕ → Bool
is_partial_name name =
    not (bytes_eq name [])
    && (not (begins (codes ".") name)
    && (not (holds (codes "/.") name)
    && (not (ends (codes ".lock") name)
    && (not (holds (codes ".lock/") name)
    && (not (holds (codes "..") name)
    && (not (list_any is_barred name)
    && (not (begins (codes "/") name)
    && (not (ends (codes "/") name)
    && (not (holds (codes "//") name)
    && (not (ends (codes ".") name)
    && (not (holds (codes "@{") name)
    && not (bytes_eq name (codes "@")))))))))))))

-- a capital letter or `_`
abbrev pub is_capital : ℕ → Bool
is_capital byte = (nat_le 65 byte && nat_le byte 90) || byte == 95

-- capital letters and `_` alone
abbrev pub is_capitals : List ℕ → Bool
is_capitals name = list_all is_capital name

abbrev pub has_slash : List ℕ → Bool
has_slash name = is_member nat_eq name 47

-- a partial name of two components or more, or of capitals alone
abbrev pub is_full_name : List ℕ → Bool
is_full_name name = is_partial_name name && (has_slash name || is_capitals name)

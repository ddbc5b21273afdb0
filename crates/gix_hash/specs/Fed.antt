-- A hasher is a kind and all bytes fed so far.
use Rattle.std.specs.Prelude.{ℕ, List, [], ◌++◌, ◌≡◌}
use Rattle.std.proofs.Common.{subst, sym}
use Rattle.std.proofs.lemmas.List.{append-nil, append_assoc}
use Rattle.sha1.specs.Sha1 as one
use Rattle.sha2.specs.Hashers.{Holds256}
use Rattle.gix_hash.specs.declared.kind.Kind.{Kind}
use Rattle.gix_hash.specs.declared.kind.Kind.TheVariants as kinds
use Rattle.gix_hash.specs.Id.{Id}
use Rattle.gix_hash.specs.Hasher.{id_of_message}
use Rattle.gix_hash.specs.declared.hasher.state.Hasher.{Hasher}
use Rattle.gix_hash.specs.declared.hasher.state.State.{State}
use Rattle.gix_hash.specs.declared.hasher.state.State.TheVariants.{Sha1, Sha256}

-- the state of a hasher of that kind that was fed these bytes
abbrev pub StateHasFed : State → Kind → List ℕ → Type 0
StateHasFed (Sha1 s) kinds.Sha1 fed = one.Holds s fed
StateHasFed (Sha1 s) kinds.Sha256 fed = ⊥
StateHasFed (Sha256 s) kinds.Sha1 fed = ⊥
StateHasFed (Sha256 s) kinds.Sha256 fed = Holds256 s fed

-- the hasher is of that kind, and was fed these bytes
abbrev pub HasFed : Hasher → Kind → List ℕ → Type 0
HasFed h kind fed = StateHasFed h.state kind fed

-- whatever the one hasher was fed, the other was fed that and then these bytes
abbrev pub FedMore : Hasher → Hasher → List ℕ → Type 0
FedMore old new bytes =
    (kind : Kind) (fed : List ℕ) → HasFed old kind fed → HasFed new kind (fed ++ bytes)

-- the id is the digest of what the hasher was fed and then these bytes
abbrev pub IsDigestOf : Hasher → Id → List ℕ → Type 0
IsDigestOf hasher id bytes =
    (kind : Kind) (fed : List ℕ) → HasFed hasher kind fed → id ≡ id_of_message kind (fed ++ bytes)

-- a hasher that was fed nothing more
pub fed_none : (hasher : Hasher) → FedMore hasher hasher []
fed_none hasher kind fed h =
    subst (λ (all : List ℕ). HasFed hasher kind all) (sym (append-nil fed)) h

-- two feeds in a row are one of both
pub fed_then : (a b c : Hasher) (xs ys : List ℕ) → FedMore a b xs → FedMore b c ys
    → FedMore a c (xs ++ ys)
fed_then a b c xs ys f g kind fed h =
    subst (λ (all : List ℕ). HasFed c kind all) (append_assoc fed xs ys)
    (g kind (fed ++ xs) (f kind fed h))

-- What a sink has taken, call after call.
use Rattle.std.proofs.Common.{ℕ, Option, Some, None, List, ◌++◌, ap, ◌∙◌, append_assoc}
use Rattle.std.specs.Io.KnownBytes.{Appends, Keeps}

pub appends_then : (a b c : Option (List ℕ)) (xs ys : List ℕ) → Appends a b xs → Appends b c ys → Appends a c (xs ++ ys)
appends_then None b c xs ys h k = tt
appends_then (Some ks) None c xs ys h k = absurd h
appends_then (Some ks) (Some ls) None xs ys h k = k
appends_then (Some ks) (Some ls) (Some ms) xs ys h k = k ∙ ap (λ zs. zs ++ ys) h ∙ append_assoc ks xs ys

pub keeps_after : (a b c : Option (List ℕ)) (xs : List ℕ) → Appends a b xs → Keeps b c → Appends a c xs
keeps_after None b c xs h k = tt
keeps_after (Some ks) None c xs h k = absurd h
keeps_after (Some ks) (Some ls) None xs h k = k
keeps_after (Some ks) (Some ls) (Some ms) xs h k = k ∙ h

-- Writes in a row, the last of which stopped.
use Rattle.std.proofs.Common.{◌≡◌, ◌∙◌, ap, sym, subst, List, ℕ, ◌≤◌, ◌+◌, Option, ◌++◌, length, length-append, take, arith}
use Rattle.std.proofs.Math.Seq.{take-append-add}
use Rattle.std.proofs.lemmas.List.{take-append-le}
use Rattle.std.proofs.KnownBytes.{Appends-trans}
use Rattle.std.specs.Io.KnownBytes.{Appends}
use Rattle.gix_hash.specs.Writes.{AppendsFewer}

-- a beginning of a part is one of the whole
pub front_of : (a b : Option (List ℕ)) (part rest text : List ℕ) → text ≡ part ++ rest → AppendsFewer a b part → AppendsFewer a b text
front_of a b part rest text whole front =
    let len = length-append part rest in
    let same : length text ≡ length (part ++ rest) = ap (λ (t : List ℕ). length t) whole in
    let less = front.1 in
    let within : front.0 ≤ length part = omega arith in
    let first = ap (take front.0) whole ∙ take-append-le front.0 part rest within in
    (front.0, omega arith, subst (Appends a b) (sym first) front.2)

-- some parts were written, and then a beginning of the next
pub front_then : (a b c : Option (List ℕ)) (done part rest text : List ℕ) → text ≡ (done ++ part) ++ rest → Appends a b done → AppendsFewer b c part → AppendsFewer a c text
front_then a b c done part rest text whole written front =
    let sum = length-append done part in
    let less = front.1 in
    let both = take-append-add done part front.0 in
    let all = Appends-trans a b c done (take front.0 part) written front.2 in
    front_of a c (done ++ part) rest text whole (length done + front.0, omega arith, subst (Appends a c) (sym both) all)

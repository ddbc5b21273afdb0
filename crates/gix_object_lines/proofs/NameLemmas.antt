-- Where a part of a name is.
use Rattle.std.proofs.Common.{◌≡◌, ◌∙◌, ap, refl, sym, ℕ, ◌+◌, ◌<◌, List, ◌++◌, length, take, drop, length-append, Option, Some, None, true, arith}
use Rattle.std.specs.Prelude.{is_some}
use Rattle.std.proofs.lemmas.List.{take-append-drop, drop_at}
use Rattle.std.proofs.lemmas.List.Prefix.{at_from_reads, at_reads}
use Rattle.memchr.specs.Find.{FindsNeedle, OccursAt}
use Rattle.gix_object_lines.specs.PartialName.{Holds}

holds_from : (name part : List ℕ) (k : ℕ) → OccursAt name part k → Holds part name
holds_from name part k occurs = (take k name, (drop (k + length part) name, sym (take-append-drop k name) ∙ ap (λ t. take k name ++ t) (at_from_reads 0 name part k occurs.fits occurs.reads)))

occurs_from : (name part : List ℕ) (h : Holds part name) → OccursAt name part (length h.0)
occurs_from name part h =
    let front = h.0 in
    let rest = h.1.0 in
    let behind : drop (length front) name ≡ part ++ rest = ap (drop (length front)) h.1.1 ∙ drop_at front (part ++ rest) _ refl in
    record {
      fits = omega (arith, ap length h.1.1, length-append front (part ++ rest), length-append part rest);
      reads = at_reads 0 name part (length front) rest behind;
    }

pub found : (name part : List ℕ) (r : Option ℕ) → FindsNeedle name part 0 r → (is_some r ≡ true → Holds part name) × (Holds part name → is_some r ≡ true)
found name part None h = (λ e. absurd cc, λ held. absurd (h (length held.0) (omega arith) (within held) (occurs_from name part held)))
  where
    within : (held : Holds part name) → length held.0 < length name + 1
    within held = omega (arith, ap length held.1.1, length-append held.0 (part ++ held.1.0))
found name part (Some k) h = (λ _. holds_from name part k h.1, λ _. refl)

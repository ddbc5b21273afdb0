-- Whether a front begins a text, and what follows it.
use Rattle.std.proofs.Common.{◌≡◌, ◌∙◌, ap, refl, sym, ℕ, Bool, true, false, List, ◌++◌, length, drop}
use Rattle.std.specs.Prelude.{◌≢◌, if◌then◌else◌}
use Rattle.std.proofs.lemmas.List.{drop_at}
use Rattle.gix_object_lines.specs.NameTest.{begins}
use Rattle.gix_object_lines.proofs.NameTests.{begins-Decides}
use Rattle.gix_ref_name.specs.Fronts.{with_front, without_front}
use Rattle.std.proofs.lemmas.Bool.{false_from_ne_true}

pub begins_some : (front text rest : List ℕ) → text ≡ front ++ rest → begins front text ≡ true
begins_some front text rest is = (begins-Decides front text).1 (rest, is)

pub begins_none : (front text : List ℕ) → ((rest : List ℕ) → text ≢ front ++ rest) → begins front text ≡ false
begins_none front text never = false_from_ne_true (begins front text) (λ e. let h = (begins-Decides front text).0 e in never h.0 h.1)

pub without_some : (front text rest : List ℕ) → text ≡ front ++ rest → rest ≡ without_front front text
without_some front text rest is =
    sym (drop_at front rest _ refl) ∙ ap (drop (length front)) (sym is)
    ∙ ap (λ (b : Bool). if b then drop (length front) text else text) (sym (begins_some front text rest is))

pub without_none : (front text : List ℕ) → ((rest : List ℕ) → text ≢ front ++ rest) → text ≡ without_front front text
without_none front text never = ap (λ (b : Bool). if b then drop (length front) text else text) (sym (begins_none front text never))

pub with_there : (front text : List ℕ) → begins front text ≡ true → text ≡ with_front front text
with_there front text is = ap (λ (b : Bool). if b then text else front ++ text) (sym is)

pub with_added : (front text : List ℕ) → begins front text ≡ false → front ++ text ≡ with_front front text
with_added front text is = ap (λ (b : Bool). if b then text else front ++ text) (sym is)

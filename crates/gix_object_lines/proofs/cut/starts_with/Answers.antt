use Rattle.std.proofs.Common.{◌≡◌, refl, Bor, List, ℕ, Option, Some, None, ◌++◌}
use Rattle.std.specs.Prelude.{◌≢◌, ◌↔◌, IsTrue, MatchOption}
use Rattle.std.specs.Option.{is_some}
use Rattle.gix_object_lines.specs.Bytes.{IsBeginningOf}
use Rattle.gix_object_lines.proofs.cut.starts_with.Goals as goal

told : (bytes front : List ℕ) (r : Option (Bor (List ℕ))) → MatchOption r ((rest : List ℕ) → bytes ≢ front ++ rest) (λ rest. bytes ≡ front ++ rest.now) → IsTrue (is_some r) ↔ IsBeginningOf front bytes
told bytes front None h = (λ e. cc, λ begins. absurd (h begins.0 begins.1))
told bytes front (Some rest) h = (λ e. (rest.now, h), λ begins. refl)

pub returns : goal.returns
returns c = rw c.is_some.ensures (told c.args.bytes.now c.args.front.now c.strip_prefix.result c.strip_prefix.ensures)

use Rattle.std.specs.Prelude.{ℕ, ◌==◌}
use Rattle.std.proofs.lemmas.Bool.Decides.{Decides-eqb}
use Rattle.std.proofs.lemmas.Slice.Eq.{strip_prefix_is}
use Rattle.gix_object_lines.proofs.cut.strip_prefix.Goals as goal

pub returns : goal.returns
returns c = strip_prefix_is {E = λ (x : ℕ) (y : ℕ). x == y} Decides-eqb c.args.bytes.now c.args.front.now c.strip_prefix.result c.strip_prefix.ensures.cases

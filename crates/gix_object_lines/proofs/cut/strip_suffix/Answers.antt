use Rattle.std.specs.Prelude.{ℕ, ◌==◌}
use Rattle.std.proofs.lemmas.Bool.Decides.{Decides-eqb}
use Rattle.std.proofs.lemmas.Slice.Eq.{strip_suffix_is}
use Rattle.gix_object_lines.proofs.cut.strip_suffix.Goals as goal

pub returns : goal.returns
returns c = strip_suffix_is {E = λ (x : ℕ) (y : ℕ). x == y} Decides-eqb c.args.bytes.now c.args.back.now c.strip_suffix.result c.strip_suffix.ensures.cases

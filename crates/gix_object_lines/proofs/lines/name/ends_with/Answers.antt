use Rattle.std.proofs.Common.{ℕ, take, length, ◌-◌}
use Rattle.std.specs.Prelude.{◌==◌}
use Rattle.std.proofs.lemmas.Bool.Decides.{Decides-eqb}
use Rattle.std.proofs.lemmas.Slice.Eq.{ends_is}
use Rattle.gix_object_lines.proofs.lines.name.ends_with.Goals as goal

pub returns : goal.returns
returns c =
    let ends = ends_is {E = λ (x : ℕ) (y : ℕ). x == y} Decides-eqb c.args.name.now c.args.back.now c.ends_with.result c.ends_with.ensures.value in
    (λ e. (take (length c.args.name.now - length c.args.back.now) c.args.name.now, ends.0 e), λ h. ends.1 h.0 h.1)

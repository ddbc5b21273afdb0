use Rattle.std.proofs.Common.{◌==◌, ◌∙◌, ℕ, ap, refl}
use Rattle.std.specs.Int.RustNames.{bit_and}
use Rattle.gix_traverse_commit_known.proofs.FlagFacts.{gone, stays}
use Rattle.gix_traverse_commit_known.proofs.nodes.WalkFlags.as_unmet.Goals as goal

pub returns-clause-met : goal.returns-clause-met
returns-clause-met c = ap (λ (b : ℕ). bit_and b 1 == 1) (c.difference.ensures tt) ∙ ap (λ (b : ℕ). b == 1) (gone c.args.self.0 254 1 refl)

pub returns-clause-asked : goal.returns-clause-asked
returns-clause-asked c = ap (λ (b : ℕ). bit_and b 64 == 64) (c.difference.ensures tt) ∙ ap (λ (b : ℕ). b == 64) (stays c.args.self.0 254 64 refl)

pub returns-clause-hidden : goal.returns-clause-hidden
returns-clause-hidden c = ap (λ (b : ℕ). bit_and b 8 == 8) (c.difference.ensures tt) ∙ ap (λ (b : ℕ). b == 8) (stays c.args.self.0 254 8 refl)

use Rattle.std.proofs.Common.{◌≡◌, ◌∙◌, sym, inl, inr, true}
use Rattle.std.specs.Prelude.{All, Contains, ◌⊎◌}
use Rattle.std.proofs.lemmas.Bool.{false≢true}
use Rattle.gix_object_lines.specs.FullName.{IsCapital}
use Rattle.gix_object_lines.proofs.lines.full_name.is_full_name.Goals as goal

pub returns-then-has_slash-clause-ruled : goal.returns-then-has_slash-clause-ruled
returns-then-has_slash-clause-ruled c = (
  λ e. record { partial = c.is_partial_name.ensures.ruled.0 c.if-is_partial_name.true; parted = inl (c.has_slash.ensures.ruled.0 e) },
  λ is. c.if-has_slash.true,
)

pub returns-else-has_slash-clause-ruled : goal.returns-else-has_slash-clause-ruled
returns-else-has_slash-clause-ruled c = (
  λ e. record { partial = c.is_partial_name.ensures.ruled.0 c.if-is_partial_name.true; parted = inr (c.is_capitals.ensures.ruled.0 e) },
  λ is. parts is.parted,
)
  where
    parts : Contains c.args.name.now 47 ⊎ All IsCapital c.args.name.now → c.is_capitals.result ≡ true
    parts (inl slash) = absurd (false≢true (sym c.if-has_slash.false ∙ c.has_slash.ensures.ruled.1 slash))
    parts (inr all) = c.is_capitals.ensures.ruled.1 all

use Rattle.std.proofs.Common.{◌≡◌, ◌∙◌, ap, sym, refl, Bool, true, false, not, length, inl, inr}
use Rattle.std.specs.Prelude.{◌==◌}
use Rattle.std.proofs.lemmas.Bool.{false≢true, not-true}
use Rattle.std.proofs.lemmas.Bool.Decides.{Decides-eqb}
use Rattle.std.proofs.lemmas.Slice.Eq.{slice_eq-Decides}
use Rattle.gix_object_lines.proofs.lines.name.obeys_rules.Goals as goal

-- what was tested and didn't hold
refused : {P : Type 0} (b : Bool) → b ≡ false → (P → b ≡ true) → P → ⊥
refused b fails f p = false≢true (sym fails ∙ f p)

not_true : (b : Bool) → (b ≡ true → ⊥) → not b ≡ true
not_true true h = absurd (h refl)
not_true false h = refl

pub returns : goal.returns
returns c = (
  λ e. record {
    some = λ none. false≢true (sym c.if-is_empty.false ∙ c.is_empty.ensures ∙ ap (λ n. length n == 0) none);
    no_dot_first = λ h. refused c.has_barred_start.result c.if-has_barred_start.false c.has_barred_start.ensures.1 (inl h);
    no_dot_behind_slash = λ h. refused c.holds_barred_edge.result c.if-holds_barred_edge.false c.holds_barred_edge.ensures.1 (inl h);
    no_lock_last = λ h. refused c.has_barred_end.result c.if-has_barred_end.false c.has_barred_end.ensures.1 (inl h);
    no_lock_before_slash = λ h. refused c.holds_barred_edge.result c.if-holds_barred_edge.false c.holds_barred_edge.ensures.1 (inr h);
    no_two_dots = λ h. refused c.holds_double.result c.if-holds_double.false c.holds_double.ensures.1 (inl h);
    no_barred_byte = λ h. refused c.holds_barred_byte.result (not-true c.holds_barred_byte.result e) c.holds_barred_byte.ensures.1 h;
    no_slash_first = λ h. refused c.has_barred_start.result c.if-has_barred_start.false c.has_barred_start.ensures.1 (inr h);
    no_slash_last = λ h. refused c.has_barred_end.result c.if-has_barred_end.false c.has_barred_end.ensures.1 (inr (inr h));
    no_two_slashes = λ h. refused c.holds_double.result c.if-holds_double.false c.holds_double.ensures.1 (inr h);
    no_dot_last = λ h. refused c.has_barred_end.result c.if-has_barred_end.false c.has_barred_end.ensures.1 (inr (inl h));
    no_at_brace = λ h. refused c.holds.result c.if-holds.false c.holds.ensures.1 h;
    no_at_alone = λ at. refused c.eq.result c.if-eq.false (slice_eq-Decides Decides-eqb _ _ _ c.eq.ensures).1 (at ∙ sym c.as_slice.ensures);
  },
  λ is. not_true c.holds_barred_byte.result (λ e. is.no_barred_byte (c.holds_barred_byte.ensures.0 e)),
)

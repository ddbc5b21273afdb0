use Rattle.std.proofs.Common.{◌≡◌, ◌∙◌, ap, sym, ℕ, false, not, List, Option, Some, None, refl, arith}
use Rattle.std.specs.Prelude.{is_some, slice_index}
use Rattle.std.proofs.lemmas.Bool.Decides.{Decides-eqb}
use Rattle.memchr.specs.Find.{IsFirstByte, is_byte}
use Rattle.gix_object_lines.specs.Bytes.{Lacks}
use Rattle.gix_object_lines.proofs.Cuts.{lacks_from}
use Rattle.gix_object_lines.proofs.CutLemmas.{lacks_at}
use Rattle.gix_object_lines.proofs.cut.lacks.Goals as goal
use Rattle.std.proofs.lemmas.Bool.{not-false}

told : (byte : ℕ) (text : List ℕ) (r : Option ℕ) → IsFirstByte (is_byte byte) text r → (is_some r ≡ false → Lacks byte text) × (Lacks byte text → is_some r ≡ false)
told byte text None h = (λ _. lacks_from byte text (λ k below is. h k (omega arith) below ((Decides-eqb (slice_index text k) byte).1 is)), λ _. refl)
told byte text (Some k) h = (λ e. absurd cc, λ l. absurd (lacks_at byte text k h.0.high l ((Decides-eqb (slice_index text k) byte).0 h.1)))

pub returns : goal.returns
returns c = let t = told c.args.byte c.args.bytes.now c.memchr.result c.memchr.ensures in (λ e. t.0 (c.is_none.ensures ∙ ap not e), λ l. not-false c.is_none.result (sym c.is_none.ensures ∙ t.1 l))

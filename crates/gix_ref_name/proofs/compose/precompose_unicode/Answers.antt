use Rattle.std.proofs.Common.{◌≡◌, ◌∙◌, sym, ap, refl, ℕ, Bool, true, false, List}
use Rattle.std.proofs.lemmas.Result.{IfOk-weaker}
use Rattle.std.specs.Prelude.{chars, encode_utf8_all, if◌then◌else◌}
use Rattle.std.specs.Str.{is_utf8, IsUtf8}
use Rattle.std.proofs.lemmas.Str.{is_utf8-from_IsUtf8, IsUtf8-from_is_utf8, chars_from_encodes}
use Rattle.unicode_normalization.specs.Forms.{nfc}
use Rattle.unicode_normalization.proofs.FormsLemmas.{nfc_idem}
use Rattle.gix_ref_name.specs.Composed.{composed}
use Rattle.gix_ref_name.proofs.compose.precompose_unicode.Goals as goal
use Rattle.std.proofs.lemmas.Bool.{false_from_ne_true}

of_text : (bytes text : List ℕ) → IsUtf8 bytes → text ≡ bytes → encode_utf8_all (nfc (chars text)) ≡ composed bytes
of_text bytes text valid is =
    ap (λ (t : List ℕ). encode_utf8_all (nfc (chars t))) is
    ∙ ap (λ (b : Bool). if b then encode_utf8_all (nfc (chars bytes)) else bytes) (sym (is_utf8-from_IsUtf8 bytes valid))

of_none : (bytes : List ℕ) → (IsUtf8 bytes → ⊥) → bytes ≡ composed bytes
of_none bytes invalid =
    ap (λ (b : Bool). if b then encode_utf8_all (nfc (chars bytes)) else bytes) (sym (false_from_ne_true (is_utf8 bytes) (λ e. invalid (IsUtf8-from_is_utf8 bytes e))))

-- what is composed stays so
stays : (text cs : List ℕ) → IsUtf8 text → text ≡ encode_utf8_all (nfc cs) → composed text ≡ text
stays text cs valid is =
    sym (of_text text text valid refl) ∙ ap (λ (l : List ℕ). encode_utf8_all (nfc l)) (sym (chars_from_encodes (nfc cs) text valid (sym is))) ∙ ap encode_utf8_all (nfc_idem cs) ∙ sym is

pub returns-in_ok-text-in-Ok-clause-value : goal.returns-in_ok-text-in-Ok-clause-value
returns-in_ok-text-in-Ok-clause-value c =
    let is = of_text c.args.bytes.now c.in-Ok.text.now c.in-Ok.ensures.cases.1 c.in-Ok.ensures.cases.0 in
    rw (← is, ← c.in_ok-text-in-Ok.ensures, ← c.as_str.ensures.value, ← c.as_bytes.ensures.value) c.from_slice.ensures

pub returns-in_ok-text-in-Ok-clause-stays : goal.returns-in_ok-text-in-Ok-clause-stays
returns-in_ok-text-in-Ok-clause-stays c =
    let text = c.as_bytes.ensures.value ∙ c.as_str.ensures.value ∙ c.in_ok-text-in-Ok.ensures in
    IfOk-weaker c.from_slice.result _ _ (λ t h. ap composed h ∙ stays c.as_bytes.result.now _ c.as_bytes.ensures.utf8 text ∙ sym h) c.from_slice.ensures

pub returns-in-Err-clause-value : goal.returns-in-Err-clause-value
returns-in-Err-clause-value c = rw (← (of_none c.args.bytes.now c.in-Err.ensures.cases.0)) c.from_slice-in-Err.ensures

pub returns-in-Err-clause-stays : goal.returns-in-Err-clause-stays
returns-in-Err-clause-stays c =
    IfOk-weaker c.from_slice-in-Err.result _ _ (λ t h. ap composed h ∙ sym (of_none c.args.bytes.now c.in-Err.ensures.cases.0) ∙ sym h) c.from_slice-in-Err.ensures

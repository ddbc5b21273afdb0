use Rattle.std.proofs.Common.{◌≡◌, ◌∙◌, ap, sym, refl, subst, ◌++◌, ◌-◌, take, length, length-append, arith, List, ℕ, [], Option, Some, None}
use Rattle.bstr.specs.BStr.{bstr_bytes}
use Rattle.gix_object_tag.specs.Signature.{IsBare, IsSignedBy, IsSignatureOf}
use Rattle.gix_object_signature.specs.declared.format.SignatureRef.{SignatureRef}
use Rattle.gix_object_signature.specs.declared.signed.SignedData.{SignedData}
use Rattle.gix_object_tag.specs.Views.{parts_of}
use Rattle.gix_object_tag.proofs.SignedLemmas.{unsigned}
use Rattle.gix_object_tag.proofs.TagLemmas.{tag_ends, before_back}
use Rattle.gix_object_tag.proofs.tag.ref_iter.TagRefIter.signature.Goals as goal

signed_by : (input : List ℕ) (text : Option (List ℕ)) (found : SignatureRef) (signed : SignedData) (back : List ℕ) → IsSignatureOf text found → bstr_bytes found.signature ≡ back → input ≡ bstr_bytes signed.before ++ back → bstr_bytes signed.behind ≡ [] → IsSignedBy input text (Some (found, signed))
signed_by input None found signed back is same whole none = let e = is.signature in absurd cc
signed_by input (Some s) found signed back is same whole none =
    let one : s ≡ back = let e = is.signature in cc in
    (is, whole ∙ ap (λ t. bstr_bytes signed.before ++ t) (sym one), none)

pub returns-clause-read : goal.returns-clause-read
returns-clause-read c =
    let parts = parts_of c.in_ok-tag.tag in
    let input = c.args.input.now in
    let found = c.in-Some.found in
    let back = bstr_bytes found.signature in
    let is = c.in-Some.ensures in
    let whole = before_back input back (tag_ends c.args.hash_kind input parts back c.in_ok-tag.ensures.read is.signature) in
    let front = c.new.ensures ∙ ap (λ (t : List ℕ). take (length input - length t) input) c.as_bytes.ensures in
    (parts, c.in_ok-tag.ensures.read, signed_by input parts.signature found _ back is refl (whole ∙ ap (λ t. t ++ back) (sym front)) c.new-2.ensures)

pub returns-clause-every : goal.returns-clause-every
returns-clause-every c = λ parts is.
    let input = c.args.input.now in
    let found = c.in-Some.found in
    let back = bstr_bytes found.signature in
    let same = c.in_ok-tag.ensures.every parts is in
    let told : IsSignatureOf parts.signature found = subst (λ p. IsSignatureOf p.signature found) same c.in-Some.ensures in
    let whole = before_back input back (tag_ends c.args.hash_kind input parts back is told.signature) in
    let front = c.new.ensures ∙ ap (λ (t : List ℕ). take (length input - length t) input) c.as_bytes.ensures in
    signed_by input parts.signature found _ back told refl (whole ∙ ap (λ t. t ++ back) (sym front)) c.new-2.ensures

pub returns-in_err-tag-clause-every : goal.returns-in_err-tag-clause-every
returns-in_err-tag-clause-every c = λ parts is. absurd (c.in_err-tag.ensures.every parts is)

pub returns-in_default-clause-every : goal.returns-in_default-clause-every
returns-in_default-clause-every c = λ parts is.
    unsigned c.args.hash_kind c.args.input.now parts is (subst (λ p. IsBare p.signature) (c.in_ok-tag.ensures.every parts is) c.in_default.ensures)

pub slice_bounds-before-count : goal.slice_bounds-before-count
slice_bounds-before-count c =
    let back = bstr_bytes c.in-Some.found.signature in
    let cut = tag_ends c.args.hash_kind c.args.input.now (parts_of c.in_ok-tag.tag) back c.in_ok-tag.ensures.read c.in-Some.ensures.signature in
    omega (arith, ap length cut.1, length-append cut.0 back, ap length c.as_bytes.ensures)

use Rattle.std.proofs.Common.{◌≡◌, ◌∙◌, ap, sym, map, take, drop, suc, ◌∷◌}
use Rattle.std.proofs.lemmas.List.{take_all}
use Rattle.gix_object_commit.specs.OwnedText.{own_field}
use Rattle.gix_object_commit.specs.Signing.{is_signature, unsigned}
use Rattle.gix_object_commit.specs.Writing.{is_encoding_first}
use Rattle.gix_object_commit.proofs.UnsignedLines.{first_unsigned, none_unsigned}
use Rattle.gix_object_commit.proofs.commit.unsigned.is_encoding_first_unsigned.Goals as goal

pub returns-then-not-is_signature : goal.returns-then-not-is_signature
returns-then-not-is_signature c =
    let xs = c.args.headers.now in
    let i = c.loop-header.header-index in
    let header = c.header-item.result in
    let is = sym (ap is_signature c.header-item.is) ∙ sym c.is_signature.ensures ∙ c.if-not-is_signature.true in
    c.is_named_encoding.ensures
    ∙ ap (λ h. is_encoding_first (map own_field (h ∷ unsigned (drop (suc i) xs)))) c.header-item.is
    ∙ sym (ap (λ hs. is_encoding_first (map own_field hs)) (first_unsigned xs i header c.loop-header-test.true c.loop-header.invariant is))

pub loop-header-preserved : goal.loop-header-preserved
loop-header-preserved c =
    let is = sym (ap is_signature c.header-item.is) ∙ sym c.is_signature.ensures ∙ c.if-not-is_signature.false in
    none_unsigned c.args.headers.now c.loop-header.header-index c.header-item.result c.loop-header-test.true c.loop-header.invariant is

pub returns : goal.returns
returns c =
    let xs = c.args.headers.now in
    let whole : take c.loop-header.header-index xs ≡ xs = take_all c.loop-header.header-index xs c.loop-header-test.false in
    sym (ap (λ hs. is_encoding_first (map own_field hs)) (sym (ap unsigned whole) ∙ c.loop-header.invariant))

use Rattle.std.proofs.Common.{◌≡◌, ◌∙◌, ap, sym, Some, None}
use Rattle.std.proofs.lemmas.Bool.Decides.{same_from_decides}
use Rattle.bstr.specs.BStr.{bstr_bytes}
use Rattle.gix_object_tag.specs.BodyTest.{is_whole_body}
use Rattle.gix_object_tag.specs.Views.{text_of}
use Rattle.gix_object_tag.proofs.BodyTests.{is_whole_body-Decides}
use Rattle.gix_object_tag.proofs.tag.spelling.is_whole_body.Goals as goal

pub returns-in-Some : goal.returns-in-Some
returns-in-Some c =
    let message = bstr_bytes c.args.message in
    let signature = bstr_bytes c.in-Some.signature in
    let same : c.has_one_armor.result ≡ is_whole_body message (Some signature) = same_from_decides _ _ (rw c.as_bytes.ensures at c.has_one_armor.ensures) (is_whole_body-Decides message (Some signature)) in
    same ∙ ap (λ s. is_whole_body message (text_of s)) (sym c.in-Some.is)

pub returns-in-None : goal.returns-in-None
returns-in-None c =
    let message = bstr_bytes c.args.message in
    let same : c.has_no_armor.result ≡ is_whole_body message None = same_from_decides _ _ (rw c.as_bytes-in-None.ensures at c.has_no_armor.ensures) (is_whole_body-Decides message None) in
    same ∙ ap (λ s. is_whole_body message (text_of s)) (sym c.in-None.is)

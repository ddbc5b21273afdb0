use Rattle.std.proofs.Common.{◌≡◌, ◌∙◌, sym, Result, Ok, Err}
use Rattle.std.specs.Prelude.{IsOkAnd}
use Rattle.gix_object_tag.specs.Tag.{Parts}
use Rattle.gix_object_tag.specs.Views.{parts_of}
use Rattle.gix_object_tag.specs.declared.tag.TagRef.{TagRef}
use Rattle.gix_object_tag.proofs.laws.one_tag.Goals as goal

same : {E : Type 0} (r : Result TagRef E) (one other : Parts) → IsOkAnd r (λ tag. parts_of tag ≡ one) → IsOkAnd r (λ tag. parts_of tag ≡ other) → one ≡ other
same (Ok tag) one other a b = sym a ∙ b
same (Err e) one other a b = absurd a

pub returns : goal.returns
returns c = λ one other a b. same c.from_bytes-tag.result one other (c.from_bytes-tag.ensures.every one a) (c.from_bytes-tag.ensures.every other b)

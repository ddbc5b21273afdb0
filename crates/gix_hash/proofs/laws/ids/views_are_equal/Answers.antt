use Rattle.std.proofs.Common.{ap}
use Rattle.gix_hash.specs.Id.{Id, digits_of}
use Rattle.gix_hash.specs.Spelling.{hex_text}
use Rattle.gix_hash.proofs.ByteLists.{viewed-Decides, digits_of-injective}
use Rattle.gix_hash.proofs.LawLemmas.{bytes-AreDigits, same_text, same_view}
use Rattle.gix_hash.proofs.laws.ids.views_are_equal.Goals as goal

pub returns : goal.returns
returns c =
    let xs = c.args.one.bytes.now in
    let ys = c.args.other.bytes.now in
    let ids = viewed-Decides xs ys c.eq.result c.eq.ensures in
    let hx = bytes-AreDigits (digits_of xs) c.as_bytes.result.now c.as_bytes.ensures.digits c.bytes_fit.ensures in
    let hy = bytes-AreDigits (digits_of ys) c.as_bytes-2.result.now c.as_bytes-2.ensures.digits c.bytes_fit-2.ensures in
    record {
      ids = ids;
      texts = (
        λ h. ap (λ (id : Id). hex_text id.digits) (ids.0 h),
        λ h. ids.1 (same_view xs ys (digits_of-injective xs ys (same_text (digits_of xs) (digits_of ys) hx hy h))),
      );
    }

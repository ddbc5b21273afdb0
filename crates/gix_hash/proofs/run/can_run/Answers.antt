use Rattle.std.proofs.Common.{◌≡◌, ◌<◌, ◌≤◌, ◌-◌, ◌*◌, ℕ, List, length, ap, subst, false, inl, inr, arith}
use Rattle.std.specs.List.{slice_index_or}
use Rattle.std.specs.Ordering.{is_gt}
use Rattle.std.proofs.lemmas.Bool.{cases_lt, false≢true}
use Rattle.gix_hash.specs.Id.{id_of, digits_of}
use Rattle.gix_hash.specs.Order.{digits_cmp}
use Rattle.gix_hash.specs.declared.object_id.ObjectId.{ObjectId}
use Rattle.gix_hash.proofs.ByteLists.{length-digits_of}
use Rattle.gix_hash.proofs.Edges.{ascending_more, neighbour_test, at_default, too_few_digits}
use Rattle.gix_hash.proofs.run.can_run.Goals as goal
use Rattle.gix_hash.proofs.run.can_run.Goals.{else-i-gt0-via-then-i-gt0+else-not-comes_no_later, else-i-gt0-via-else-i-gt0}

pub ids-preserved : goal.ids-preserved
ids-preserved c =
    let inv = c.ids.invariant in
    let ids = c.args.ids.now in
    let n : ℕ = c.ids.i in
    let room : n < length ids = omega arith in
    let next : 0 < n → (d : ObjectId) → is_gt (digits_cmp (id_of (slice_index_or ids (n - 1) d)).digits (id_of (slice_index_or ids n d)).digits) ≡ false =
    λ some d. elim c.else-i-gt0.branch [
      | else-i-gt0-via-then-i-gt0+else-not-comes_no_later w ↦ neighbour_test ids n _ _ d w.comes_no_later.result some room w.comes_no_later.ensures w.if-not-comes_no_later.false
      | else-i-gt0-via-else-i-gt0 w ↦ absurd (omega arith)
    ] in
    let digits = length-digits_of c.as_slice.result.now in
    let same = ap (λ (ds : List ℕ). length ds) c.as_slice.ensures.digits in
    let test = c.if-as_slice-hex_len.false in
    let own : c.hex_len-hex_len.result ≤ length (digits_of c.as_slice.result.now) = omega arith in
    let here_enough = subst (λ (m : ℕ). c.hex_len-hex_len.result ≤ m) same own in
    record {
      count = inv.count;
      ascending = ascending_more ids n room inv.ascending next;
      enough = λ k d low. elim (cases_lt k n) [
        | inl under ↦ inv.enough k d under
        | inr over ↦
            let here : n ≡ k = omega arith in
            subst (λ (j : ℕ). c.hex_len-hex_len.result ≤ length (id_of (slice_index_or ids j d)).digits) here
            (at_default ids n _ d (λ x. c.hex_len-hex_len.result ≤ length (id_of x).digits) room here_enough)
      ];
    }

pub returns-then-as_slice-hex_len : goal.returns-then-as_slice-hex_len
returns-then-as_slice-hex_len c =
    let ids = c.args.ids.now in
    let n : ℕ = c.ids.i in
    let room : n < length ids = omega arith in
    let few : 2 * length c.as_slice.result.now < length c.args.prefix.now.digits = omega arith in (
      λ no. absurd (false≢true no),
      λ both. absurd (too_few_digits ids c.args.prefix.now n _ c.as_slice.result.now both.1 room c.as_slice.ensures.digits few),
    )

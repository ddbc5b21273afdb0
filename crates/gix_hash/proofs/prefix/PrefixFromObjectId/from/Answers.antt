use Rattle.std.proofs.Common.{◌≡◌, ◌∙◌, ◌-◌, ◌*◌, ℕ, List, length, replicate, ap, sym, arith}
use Rattle.std.proofs.lemmas.List.{take_all, drop_all}
use Rattle.gix_hash.specs.Kind.{hex_len}
use Rattle.gix_hash.specs.Id.{Id, id_of}
use Rattle.gix_hash.proofs.KindLemmas.{hex_len-byte_len}
use Rattle.gix_hash.proofs.ByteLists.{length-digits_of}
use Rattle.gix_hash.proofs.prefix.PrefixFromObjectId.from.Goals as goal

pub invariant_of-result : goal.invariant_of-result
invariant_of-result c =
    let id = id_of c.args.value in
    let n : ℕ = 2 * length c.as_slice.result.now in
    let digits : length id.digits ≡ n = ap (λ (ds : List ℕ). length ds) (sym c.as_slice.ensures.digits) ∙ length-digits_of c.as_slice.result.now in
    let kind = hex_len-byte_len id.kind in
    let whole = c.as_slice.ensures.whole in
    let none : hex_len id.kind - n ≡ 0 = omega arith in
    record {
      whole = omega arith;
      fits = omega arith;
      zeros = drop_all n id.digits (omega arith) ∙ ap (λ (k : ℕ). replicate {A = ℕ} k 0) (sym none);
    }

pub returns : goal.returns
returns c =
    let id = id_of c.args.value in
    let n : ℕ = 2 * length c.as_slice.result.now in
    let digits : length id.digits ≡ n = ap (λ (ds : List ℕ). length ds) (sym c.as_slice.ensures.digits) ∙ length-digits_of c.as_slice.result.now in
    ap (λ (ds : List ℕ). let r : Id = record { kind = id.kind; digits = ds } in r) (take_all n id.digits (omega arith))

use Rattle.std.proofs.Common.{◌≡◌, List, ℕ, refl, sym, ap, subst, ◌∙◌}
use Rattle.gix_hash.specs.declared.object_id.ObjectId.{ObjectId}
use Rattle.gix_hash.specs.Id.{id_of, bytes_of}
use Rattle.gix_hash.specs.Lending.{with_bytes}
use Rattle.gix_hash.specs.Views.{IsBytesOf}
use Rattle.gix_hash.proofs.ByteLists.{IsBytesOf-same}
use Rattle.gix_hash.proofs.object_id.ObjectId.as_mut_slice.Goals as goal

pub returns-in-Sha1 : goal.returns-in-Sha1
returns-in-Sha1 c =
    let id = c.args.self.now in
    let value : c.as_mut_slice.result.now ≡ c.in-Sha1.bytes = rw c.in-Sha1.is at c.as_mut_slice.ensures.value in
    let same = IsBytesOf-same id c.as_slice-all.result.now c.as_slice-all.ensures ∙ (ap bytes_of c.in-Sha1.is ∙ sym value) in (
      (refl, λ w. ap (λ (x : ObjectId). with_bytes x w) (sym c.in-Sha1.is)),
      record { writes_back = tt; bytes = subst (λ (xs : List ℕ). IsBytesOf xs (id_of id)) same c.as_slice-all.ensures },
    )

pub returns-in-Sha256 : goal.returns-in-Sha256
returns-in-Sha256 c =
    let id = c.args.self.now in
    let value : c.as_mut_slice-in-Sha256.result.now ≡ c.in-Sha256.bytes = rw c.in-Sha256.is at c.as_mut_slice-in-Sha256.ensures.value in
    let same = IsBytesOf-same id c.as_slice-all.result.now c.as_slice-all.ensures ∙ (ap bytes_of c.in-Sha256.is ∙ sym value) in (
      (refl, λ w. ap (λ (x : ObjectId). with_bytes x w) (sym c.in-Sha256.is)),
      record { writes_back = tt; bytes = subst (λ (xs : List ℕ). IsBytesOf xs (id_of id)) same c.as_slice-all.ensures },
    )

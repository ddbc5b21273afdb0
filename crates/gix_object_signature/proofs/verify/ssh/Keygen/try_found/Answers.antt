use Rattle.std.proofs.Common.{◌≡◌, ◌∙◌, ap, map, refl, List, ℕ, Err}
use Rattle.std.proofs.lemmas.Result.{err_from_is_err_and}
use Rattle.std.specs.Prelude.{filter, not, ◌==◌, length}
use Rattle.std.specs.List.{slice_split}
use Rattle.gix_object_signature.specs.Signing.{without_cr}
use Rattle.gix_object_signature.specs.VerifyingSsh.{NoMemory, TriedAll, principals}
use Rattle.gix_object_signature.proofs.verify.ssh.Keygen.try_found.Goals as goal

-- the lines that aren't empty
abbrev lines : List ℕ → List (List ℕ)
lines text = filter (λ line. not (length line == 0)) (slice_split (λ byte. byte == 10) text)

pub returns-in_err-text-clause-told : goal.returns-in_err-text-clause-told
returns-in_err-text-clause-told g c =
    let stopped = err_from_is_err_and c.from_residual.result c.from_residual.ensures.1 in
    NoMemory (stopped.1 ∙ ap Err stopped.2) refl

pub returns-in_err-names-clause-told : goal.returns-in_err-names-clause-told
returns-in_err-names-clause-told g c =
    let stopped = err_from_is_err_and c.from_residual-in_err-names.result c.from_residual-in_err-names.ensures.1 in
    NoMemory (stopped.1 ∙ ap Err stopped.2) refl

pub returns-clause-told : goal.returns-clause-told
returns-clause-told g c =
    let tried : map (λ name. name.now) c.as_slice.result.now ≡ principals c.args.found.output =
    ap (map (λ name. name.now)) c.as_slice.ensures.value ∙ c.in_ok-names.ensures ∙ ap lines (c.as_bytes-2.ensures ∙ c.in_ok-text.ensures ∙ ap without_cr c.as_bytes.ensures) in
    TriedAll (rw tried at c.try_each.ensures.told)

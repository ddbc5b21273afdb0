use Rattle.std.proofs.Common.{◌∙◌, sym, ap, subst, ◌++◌}
use Rattle.std.specs.Prelude.{IsFalse}
use Rattle.std.proofs.lemmas.List.{append_cancel_left}
use Rattle.gix_object_lines.specs.NameTest.{is_full_name}
use Rattle.gix_ref_store.proofs.reference.Reference.name_without_namespace.Goals as goal

pub returns-in-Err : goal.returns-in-Err
returns-in-Err c = λ other is.
    let rest = c.in_ok-rest.rest.now in
    let own = sym c.to_path.ensures ∙ c.in_ok-rest.ensures ∙ ap (λ front. front ++ rest) c.as_bytes.ensures in
    subst (λ t. IsFalse (is_full_name t)) (append_cancel_left c.args.namespace.now rest other (sym own ∙ is)) c.in-Err.ensures

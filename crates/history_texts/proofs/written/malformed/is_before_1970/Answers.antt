use Rattle.std.proofs.Common.{◌↔◌, subst, sym}
use Rattle.std.specs.Prelude.{IfOk, IsTrue}
use Rattle.gix_object_lines.specs.declared.kind.Kind.{Kind as ObjectKind}
use Rattle.history_texts.specs.Malformed.{IsBefore1970}
use Rattle.history_texts.proofs.written.malformed.is_before_1970.Goals as goal

pub returns-in-Commit : goal.returns-in-Commit
returns-in-Commit c =
    subst (λ (kind : ObjectKind). IfOk c.is_commit_before_1970.result (λ is. IsTrue is ↔ IsBefore1970 c.args.digests kind c.args.content.now)) (sym c.in-Commit.is) c.is_commit_before_1970.ensures

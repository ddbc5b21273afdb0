use Rattle.std.proofs.Common.{◌<◌, ◌≤◌, refl, sym, ◌∙◌, ap, subst, length, Err}
use Rattle.std.proofs.lemmas.Result.{err_from_is_err_and}
use Rattle.gix_object_lines.specs.declared.kind.Kind.TheVariants as kinds
use Rattle.history_model.specs.Bytes.{Bytes}
use Rattle.history_model.specs.Forms.{max_content}
use Rattle.history_model.specs.declared.Fault.TheVariants.{File}
use Rattle.history_texts.proofs.CommitWrites.{value_written}
use Rattle.history_plans.specs.Plans.{IsMade, MakesCommit}
use Rattle.history_repository.specs.declared.stopped.Stopped.TheVariants.{Refused}
use Rattle.history_plans.proofs.Planned.{commit_is}
use Rattle.history_plans.proofs.TimesLemmas.{never_absent}
use Rattle.history_plans.proofs.planning.commit_object.Goals as goal

pub returns-in_err-commit_bytes : goal.returns-in_err-commit_bytes
returns-in_err-commit_bytes g c = λ value said.
    let stopped = err_from_is_err_and c.from_residual.result c.from_residual.ensures.1 in
    subst (MakesCommit c.args.repository.now.objects.kind value) (sym (stopped.1 ∙ ap Err stopped.2)) tt

pub returns-in_err-content : goal.returns-in_err-content
returns-in_err-content g c = λ value said.
    let kind = c.args.repository.now.objects.kind in
    let parts = c.plain_commit-commit.ensures in
    let told = commit_is kind c.args.tree c.args.parents.items c.args.actors c.args.message.items value said c.plain_commit-commit.result parts.tree parts.parents parts.author parts.committer parts.message (parts.plain kind) in
    let written = value_written kind c.plain_commit-commit.result value c.in_ok-commit_bytes.field-0 told c.in_ok-commit_bytes.ensures in
    absurd (never_absent _ c.in_ok-commit_bytes.field-0 c.in_err-content.field-0.0 File c.in_err-content.ensures.value written)

pub returns-in_err-new_object : goal.returns-in_err-new_object
returns-in_err-new_object g c = λ value said.
    let kind = c.args.repository.now.objects.kind in
    let parts = c.plain_commit-commit.ensures in
    let told = commit_is kind c.args.tree c.args.parents.items c.args.actors c.args.message.items value said c.plain_commit-commit.result parts.tree parts.parents parts.author parts.committer parts.message (parts.plain kind) in
    let text_is = rw c.in_ok-content.ensures.ok_part at (value_written kind c.plain_commit-commit.result value c.in_ok-commit_bytes.field-0 told c.in_ok-commit_bytes.ensures) in
    let stopped = err_from_is_err_and c.from_residual-in_err-new_object.result c.from_residual-in_err-new_object.ensures.1 in
    let large = c.in_err-new_object.ensures in
    subst (MakesCommit kind value) (sym (stopped.1 ∙ ap Err (stopped.2 ∙ ap Refused large.0)))
    (refl, subst (λ (bytes : Bytes). max_content < length bytes) text_is large.1)

pub returns : goal.returns
returns g c = λ value said.
    let kind = c.args.repository.now.objects.kind in
    let parts = c.plain_commit-commit.ensures in
    let told = commit_is kind c.args.tree c.args.parents.items c.args.actors c.args.message.items value said c.plain_commit-commit.result parts.tree parts.parents parts.author parts.committer parts.message (parts.plain kind) in
    let text_is = rw c.in_ok-content.ensures.ok_part at (value_written kind c.plain_commit-commit.result value c.in_ok-commit_bytes.field-0 told c.in_ok-commit_bytes.ensures) in
    let made = c.in_ok-new_object.ensures in (
      subst (λ (bytes : Bytes). length bytes ≤ max_content) text_is made.1,
      subst (λ (bytes : Bytes). IsMade kind kinds.Commit bytes c.in_ok-new_object.field-0) text_is made.0,
    )

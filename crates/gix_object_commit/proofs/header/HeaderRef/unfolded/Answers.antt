use Rattle.std.proofs.Common.{◌∙◌, ap}
use Rattle.gix_object_commit.specs.Commit.{unfolded}
use Rattle.gix_object_commit.proofs.Folds.{unfolded_folded}
use Rattle.gix_object_commit.proofs.Results.{if_ok_by}
use Rattle.gix_object_commit.proofs.header.HeaderRef.unfolded.Goals as goal

pub returns-clause-told : goal.returns-clause-told
returns-clause-told c =
    if_ok_by c.unfold.result (λ value is told spelled. is ∙ ap unfolded (c.as_bytes.ensures ∙ spelled) ∙ unfolded_folded told) c.unfold.ensures

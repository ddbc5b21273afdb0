use Rattle.std.proofs.Common.{◌∙◌, sym, ◌<◌, length, arith}
use Rattle.gix_object_commit.specs.Owned.{IsHeaderOf}
use Rattle.gix_object_commit.specs.LineViews.{field_of}
use Rattle.gix_object_commit.proofs.Owning.{zip_more}
use Rattle.gix_object_commit.proofs.Results.{when_pushed}
use Rattle.gix_object_commit.proofs.commit.owned.own_headers.Goals as goal

pub loop-header-preserved : goal.loop-header-preserved
loop-header-preserved c =
    let pushed = when_pushed c.push.result _ _ _ (sym c.is_err.ensures.value ∙ c.if-is_err.false) c.push.ensures.items in
    let below : c.loop-header.header-index < length c.args.headers.now = omega arith in
    zip_more IsHeaderOf field_of c.args.headers.now c.loop-header.header-index _ _ _ _ below c.loop-header.invariant c.in_ok-copy.ensures.own pushed

use Rattle.std.proofs.Common.{◌∙◌, sym, ◌<◌, length, inr, arith}
use Rattle.std.proofs.lemmas.Result.{err_from_is_err_and}
use Rattle.bstr.specs.BStr.{bstr_bytes}
use Rattle.gix_object_lines.proofs.HexDigits.{spells_none}
use Rattle.gix_object_commit.specs.Owned.{IsOwnId, SpellsNoId}
use Rattle.gix_object_commit.proofs.Owning.{any_at, zip_more}
use Rattle.gix_object_commit.proofs.Results.{when_ok}
use Rattle.gix_object_commit.proofs.commit.owned.own_ids.Goals as goal

pub returns-in_err-id-clause-refused : goal.returns-in_err-id-clause-refused
returns-in_err-id-clause-refused c =
    let p = err_from_is_err_and c.from_residual.result c.from_residual.ensures.1 in
    let below : c.loop-text.text-index < length c.args.texts.now = omega arith in
    rw (p.1, p.2) (inr (c.in_err-id.ensures.refused.0, any_at SpellsNoId bstr_bytes c.args.texts.now c.loop-text.text-index _ below (spells_none _ c.in_err-id.ensures.refused.1)))

pub loop-text-preserved : goal.loop-text-preserved
loop-text-preserved c =
    let pushed = when_ok c.push.result (sym c.is_err.ensures.value ∙ c.if-is_err.false) c.push.ensures.ok in
    let below : c.loop-text.text-index < length c.args.texts.now = omega arith in
    zip_more IsOwnId bstr_bytes c.args.texts.now c.loop-text.text-index _ _ _ _ below c.loop-text.invariant c.in_ok-id.ensures.own pushed

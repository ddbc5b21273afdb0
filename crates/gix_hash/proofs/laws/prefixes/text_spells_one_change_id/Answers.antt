use Rattle.std.proofs.Common.{◌∙◌, sym}
use Rattle.gix_hash.proofs.LawLemmas.{one_reading}
use Rattle.gix_hash.proofs.laws.prefixes.text_spells_one_change_id.Goals as goal

pub returns : goal.returns
returns c =
    one_reading c.args.one.now c.args.other.now (sym c.requires.one.whole ∙ c.requires.other.whole) (sym c.requires.one.spelled ∙ c.requires.other.spelled)

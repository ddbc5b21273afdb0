use Rattle.std.proofs.Common.{◌∙◌, sym}
use Rattle.gix_hash.proofs.LawLemmas.{one_reading}
use Rattle.gix_hash.specs.Id.{id_of}
use Rattle.gix_hash.proofs.laws.ids.text_spells_one_id.Goals as goal

pub returns : goal.returns
returns c =
    one_reading (id_of c.args.one.now) (id_of c.args.other.now) (sym c.requires.one.whole ∙ c.requires.other.whole) (sym c.requires.one.spelled ∙ c.requires.other.spelled)

use Rattle.std.proofs.Common.{◌∙◌, sym, rules, tests}
use Rattle.std.proofs.lemmas.Iterator.{YieldsList-from_slice}
use Rattle.std.proofs.lemmas.Iterator.Search.{any_from_yields_List}
use Rattle.history_repository.specs.Meanings.{is_not_a_commit, meaning_of}
use Rattle.history_repository.proofs.WordCauses.{any_map}
use Rattle.history_repository.proofs.words.have_no_commit.Goals as goal

pub returns : goal.returns
returns c =
    any_from_yields_List (λ meaning. is_not_a_commit (meaning_of meaning)) _ _ c.any.result c.any.ensures.ran (YieldsList-from_slice c.args.meanings.now cc) (λ x b q k. search (rules, tests))
    ∙ sym (any_map is_not_a_commit meaning_of c.args.meanings.now)

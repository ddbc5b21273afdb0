use Rattle.std.proofs.Common.{sym, subst}
use Rattle.gix_object_any.specs.Object.{SpellsValue}
use Rattle.gix_object_any.proofs.ReadBack.{bytes_again, accepted}
use Rattle.gix_object_any.proofs.laws.read_object_is_written_back.Goals as goal

pub returns-clause-bytes : goal.returns-clause-bytes
returns-clause-bytes c = λ value is one.
    bytes_again c.args.hash_kind c.content_of-content.result.now c.args.bytes.now c.read_tree_is_written.ensures.bytes c.read_is_written-2.ensures.bytes value is (c.content_of-content.ensures is.kind is.content is.spelled) one

pub returns-clause-accepted : goal.returns-clause-accepted
returns-clause-accepted c = λ value is fits.
    accepted c.args.hash_kind c.content_of-content.result.now c.read_tree_is_written.ensures.accepted c.read_is_written.ensures.accepted (λ parts is named plain. c.read_is_written-2.ensures.accepted parts is (named, plain)) value
    (subst (λ content. SpellsValue c.args.hash_kind content value) (sym (c.content_of-content.ensures is.kind is.content is.spelled)) is.told.spelled) fits

use Rattle.std.proofs.Common.{rules, Some, None}
use Rattle.bstr.specs.BStr.{bstr_bytes}
use Rattle.gix_object_tag.specs.Tag.{SpellsBody}
use Rattle.gix_object_tag.proofs.TagLemmas.{one_body}
use Rattle.gix_object_tag.proofs.tag.decode.body.Goals as goal

pub returns-in-Some-clause-every : goal.returns-in-Some-clause-every
returns-in-Some-clause-every c = λ message signature is.
    let read : SpellsBody c.args.text.now (bstr_bytes c.new.result) (Some (bstr_bytes c.new-in-Some.result)) = search rules in
    one_body c.args.text.now (bstr_bytes c.new.result) (Some (bstr_bytes c.new-in-Some.result)) message signature read is

pub returns-in-None-clause-every : goal.returns-in-None-clause-every
returns-in-None-clause-every c = λ message signature is.
    let read : SpellsBody c.args.text.now (bstr_bytes c.new-in-None.result) None = search rules in
    one_body c.args.text.now (bstr_bytes c.new-in-None.result) None message signature read is

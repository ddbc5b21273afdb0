use Rattle.gix_object_tag.proofs.tag.write_owned.TagWriteTo.write_to.Goals as goal

pub returns : goal.returns
returns g c = rw (c.is_whole_body.ensures, c.as_bstr-message.ensures, c.bstr_of-signature.ensures) at c.write_with.ensures

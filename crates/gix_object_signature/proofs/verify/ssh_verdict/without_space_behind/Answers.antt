use Rattle.std.proofs.lemmas.Str.Ascii.{trim_ascii_end_is}
use Rattle.gix_object_signature.specs.SshVerdict.{without_space_behind}
use Rattle.gix_object_signature.proofs.verify.ssh_verdict.without_space_behind.Goals as goal

pub returns : goal.returns
unfolding without_space_behind
returns c = trim_ascii_end_is c.args.line.now c.trim_ascii_end.result.now c.trim_ascii_end.ensures.value

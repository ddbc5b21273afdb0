use Rattle.std.proofs.Common.{◌<◌, ◌^◌, ap, length, length-append, arith}
use Rattle.gix_object_lines.specs.Header.{header_text}
use Rattle.gix_object_any.proofs.OneObject.{same_cut}
use Rattle.gix_object_any.proofs.laws.one_kind_and_content.Goals as goal

pub returns : goal.returns
returns c = λ kind other content rest is is'.
    let fits : length content < 2 ^ 64 = omega (arith, ap length is, length-append (header_text kind (length content)) content, c.well_formed.0.0) in
    let fits' : length rest < 2 ^ 64 = omega (arith, ap length is', length-append (header_text other (length rest)) rest, c.well_formed.0.0) in
    same_cut c.args.bytes.now c.loose_header-header.result kind other content rest _ _
    (c.loose_header-header.ensures.back kind (length content) content fits is)
    (c.loose_header-header.ensures.back other (length rest) rest fits' is') is is'

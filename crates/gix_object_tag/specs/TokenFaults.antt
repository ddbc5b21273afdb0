-- Why no part of a tag is next, by what may come next (git-mktag).
use Rattle.std.specs.Prelude.{ℕ, List, codes}
use Rattle.gix_hash.specs.Kind.{hex_len}
use Rattle.gix_hash.specs.declared.kind.Kind as hash
use Rattle.gix_object_lines.specs.HexLine.{HexLineFault}
use Rattle.gix_object_lines.specs.declared.decode.Error.{Error}
use Rattle.gix_object_tag.specs.Faults.{KindFault, NameFault, TaggerFault, RestFault}
use Rattle.gix_object_tag.specs.declared.tag.ref_iter.Stage.{Stage}
use Rattle.gix_object_tag.specs.declared.tag.ref_iter.Stage.TheVariants as at

abbrev pub IsFaultAt : hash.Kind → Stage → List ℕ → Error → Type 0
IsFaultAt kind at.Target input error = HexLineFault (codes "object") (hex_len kind) input error
IsFaultAt kind at.TargetKind input error = KindFault input error
IsFaultAt kind at.Name input error = NameFault input error
IsFaultAt kind at.Tagger input error = TaggerFault input error
IsFaultAt kind at.Body input error = RestFault input error

use Rattle.std.proofs.Common.{refl, length}
use Rattle.std.proofs.lemmas.List.{take_at}
use Rattle.std.proofs.lemmas.Str.{IsUtf8-from_ascii}
use Rattle.gix_hash.proofs.spelling.written.Goals as goal

pub from_utf8_unchecked-requires : goal.from_utf8_unchecked-requires
from_utf8_unchecked-requires c =
    rw (c.copy_from_slice.ensures.after, take_at c.args.text.now _ (length c.args.text.now) refl) (IsUtf8-from_ascii _ c.requires.ascii)

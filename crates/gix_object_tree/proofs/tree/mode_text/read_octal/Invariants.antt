use Rattle.gix_object_tree.proofs.Octals.{ReadTo}
use Rattle.gix_object_tree.proofs.tree.mode_text.read_octal.Given as goal

abbrev pub invariant-loop-byte : goal.invariant-loop-byte
invariant-loop-byte l = ReadTo l.text l.byte-index l.number

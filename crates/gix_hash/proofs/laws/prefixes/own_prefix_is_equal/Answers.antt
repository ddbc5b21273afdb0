use Rattle.std.proofs.Common.{take, sym, drop}
use Rattle.std.proofs.lemmas.List.{take-append-drop}
use Rattle.gix_hash.specs.Id.{id_of}
use Rattle.gix_hash.proofs.Edges.{begins_equal}
use Rattle.gix_hash.proofs.laws.prefixes.own_prefix_is_equal.Goals as goal

pub returns : goal.returns
returns c =
    (begins_equal (take c.args.hex_len (id_of c.args.id.now).digits) (id_of c.args.id.now).digits).1 (drop c.args.hex_len (id_of c.args.id.now).digits, sym (take-append-drop c.args.hex_len (id_of c.args.id.now).digits))

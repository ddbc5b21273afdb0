use Rattle.std.proofs.Common.{sym, ◌∙◌}
use Rattle.gix_hash.proofs.Reading.{decode_sized-spells, decode_sized-fault}
use Rattle.gix_hash.proofs.object_id.ObjectId.from_hex.Goals as goal

pub returns-in-Ok : goal.returns-in-Ok
returns-in-Ok c = record {
  whole = c.in-40.is;
  spelled = decode_sized-spells c.args.buffer.now _ 20 c.in-40.is (sym c.from_hex.ensures ∙ c.in-Ok.is);
}

pub returns-in-Err : goal.returns-in-Err
returns-in-Err c = (
  λ other. absurd (other c.in-40.is),
  decode_sized-fault c.args.buffer.now 20 _ c.in-40.is (sym c.from_hex.ensures ∙ c.in-Err.is),
)

pub returns-in-Ok-from_hex : goal.returns-in-Ok-from_hex
returns-in-Ok-from_hex c = record {
  whole = c.in-64.is;
  spelled = decode_sized-spells c.args.buffer.now _ 32 c.in-64.is (sym c.from_hex-in-64.ensures ∙ c.in-Ok-from_hex.is);
}

pub returns-in-Err-from_hex : goal.returns-in-Err-from_hex
returns-in-Err-from_hex c = (
  λ _. c.in-64.is,
  decode_sized-fault c.args.buffer.now 32 _ c.in-64.is (sym c.from_hex-in-64.ensures ∙ c.in-Err-from_hex.is),
)

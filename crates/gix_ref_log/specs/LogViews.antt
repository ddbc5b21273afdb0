-- What the values of a log's lines hold.
use Rattle.bstr.specs.BStr.{bstr_bytes}
use Rattle.gix_ref_log.specs.LogLine.{LineParts}
use Rattle.gix_ref_log.specs.declared.line.LineRef.{LineRef}

abbrev pub parts_of : LineRef → LineParts
parts_of line = record {
  before = bstr_bytes line.previous_oid;
  after = bstr_bytes line.new_oid;
  name = bstr_bytes line.signature.name;
  email = bstr_bytes line.signature.email;
  time = bstr_bytes line.signature.time;
  message = bstr_bytes line.message;
}

use Rattle.std.proofs.Common.{◌≡◌, ◌+◌, length, arith}
use Rattle.gix_object_commit.specs.Commit.{field_text}
use Rattle.gix_object_commit.specs.OwnedText.{own_field}
use Rattle.gix_object_commit.proofs.OwnTexts.{header_length, sum_told}
use Rattle.gix_object_commit.proofs.commit.write_owned.add_own_header.Goals as goal

pub returns-in_err-total : goal.returns-in_err-total
returns-in_err-total c =
    let long = header_length c.args.header.now c.as_bytes.result.now c.as_bytes-value.result.now c.as_bytes.ensures c.as_bytes-value.ensures in
    rw c.from_residual.ensures (omega (arith, long, c.in_err-total.ensures))

pub returns : goal.returns
returns c =
    let header = c.args.header.now in
    let long = header_length header c.as_bytes.result.now c.as_bytes-value.result.now c.as_bytes.ensures c.as_bytes-value.ensures in
    let sum : c.in_ok-total.total + c.count_feeds.result ≡ c.args.before + length (field_text (own_field header)) = omega (arith, long, c.in_ok-total.ensures, c.count_feeds.ensures) in
    sum_told c.checked_add.result (c.in_ok-total.total + c.count_feeds.result) _ sum c.checked_add.ensures

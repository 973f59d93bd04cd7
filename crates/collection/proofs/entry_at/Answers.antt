-- `entry_at` meets its contract.
use Rattle.std.proofs.Common.{◌≡◌, arith}
use Rattle.collection.specs.Contents.{offset_of, length_of, rule_of}
use Rattle.collection.proofs.Entries.{two_read, four_read, entry_number}
use Rattle.collection.proofs.entry_at.Goals as goal

pub returns : goal.returns
returns c =
    let file = c.args.file.now in
    let i = c.args.i in
    let count = c.count_of.ensures.value in
    let there = c.if-i-count_of.false in
    let offset : c.from_le_bytes.result ≡ offset_of file i =
    entry_number file i count there 4 0 (omega arith) (four_read file _ _ c.bytes_at.ensures c.from_le_bytes.ensures) (omega arith) in
    let length : c.from_le_bytes-2.result ≡ length_of file i =
    entry_number file i count there 2 4 (omega arith) (two_read file _ _ c.bytes_at-2.ensures c.from_le_bytes-2.ensures) (omega arith) in
    let rule : c.from_le_bytes-3.result ≡ rule_of file i =
    entry_number file i count there 2 6 (omega arith) (two_read file _ _ c.bytes_at-3.ensures c.from_le_bytes-3.ensures) (omega arith) in
    cc

use Rattle.dbl_offset_content.proofs.OffsetLaws.{offset_some}
use Rattle.dbl_offset_content.proofs.decoding.read_offset.Goals as goal

pub returns : goal.returns
returns c =
    let n = c.in_ok-numbers.numbers in
    let tables = c.in_ok-tables.tables in
    rw (c.make.ensures, c.make-2.ensures) (offset_some c.args.bytes.now c.in_ok-format.format c.in_ok-format.rest.now c.in_ok-identity.identity c.in_ok-identity.rest.now (n.incarnation, n.start, n.lsn, n.end_lsn) c.in_ok-numbers.rest.now tables.infos tables.versions.items tables.cursors.items
    c.in_ok-tables.rest.now c.in_ok-format.ensures c.in_ok-identity.ensures c.in_ok-numbers.ensures c.in_ok-tables.ensures.read c.in_ok-tables.ensures.versions c.in_ok-tables.ensures.long)

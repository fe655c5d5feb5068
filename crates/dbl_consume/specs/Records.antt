-- A record that borrows its line.
use Rattle.dbl_record.specs.Acts.{Reading}
use Rattle.dbl_record.specs.Reading.{told_by}
use Rattle.dbl_consume.specs.declared.parsed.ParsedRecord.{ParsedRecord}
use Rattle.dbl_consume.specs.JsonValues.{data_at}

-- the record of a parsed line
abbrev pub recorded_as : ParsedRecord → Reading
recorded_as parsed = told_by (data_at parsed.tape) parsed.topic

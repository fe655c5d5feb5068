-- A table's version in an offset's bytes, by the bytes' format, 1 or 2. Format 1 has no versions: each table has version 1.
use Rattle.std.specs.Prelude.{ℕ, ◌==◌, nat_lt, List, [], Ok, Err, if◌then◌else◌}
use Rattle.std.specs.Int.{w64}
use Rattle.dbl_record.specs.declared.error.RecordError.{RecordError}
use Rattle.dbl_record.specs.declared.error.RecordError.TheVariants.{BadRecord}
use Rattle.dbl_record.specs.Fields.{number64}
use Rattle.dbl_record.specs.GroupReading.{Read, ◌>>=◌, number_at}

-- The bytes of a table's version. Format 1 has none.
unfoldable pub version_form : ℕ → ℕ → List ℕ
version_form format version = if format == 1 then [] else number64 version

-- The error of bytes that encode no offset.
abbrev pub no_offset : RecordError
no_offset = BadRecord 0

-- Reads a table's version, which must be at least 1. In format 1 each table has version 1.
unfoldable pub table_version_at : ℕ → List ℕ → Read ℕ
table_version_at format bytes =
    if format == 1 then Ok (1, bytes) else (do
      version ← number_at w64 0 bytes
      if nat_lt 0 version.0 then Ok version else Err no_offset)

-- Valid offsets, and the bytes that encode them.
use Rattle.std.specs.Prelude.{◌≡◌, ◌⊎◌, ℕ, ◌<◌, ◌≤◌, ◌^◌, IsTrue, List, length}
use Rattle.std.specs.List.{AllByRecursion, AllZip}
use Rattle.dbl_model_table.specs.Identities.{is_good_identity}
use Rattle.dbl_model_history.specs.Laws.{AreDistinctTables}
use Rattle.dbl_model_history.specs.Cursors.{AreCursorsOf}
use Rattle.dbl_offset_content.specs.declared.offset.Offset.{Offset}
use Rattle.dbl_offset_content.specs.Entries.{FitsOffset, bytes_in_format}

-- Whether an offset is valid: its identity is one that a connector may use, incarnations are counted from 1, reading doesn't begin after
-- the last commit, and it has 1 to 64 distinct tables, each with its version, counted from 1, and its progress.
pub record IsOffset (offset : Offset) : Type 0 where
  pub identity : IsTrue (is_good_identity offset.identity)
  pub counted : 1 ≤ offset.incarnation
  pub incarnation : offset.incarnation ≤ 2 ^ 63
  pub order : offset.start.0 ≤ offset.lsn.0
  pub some : 1 ≤ length offset.infos
  pub few : length offset.infos ≤ 64
  pub distinct : AreDistinctTables offset.infos
  pub cursors : AreCursorsOf offset.infos offset.cursors
  pub versions : AllZip (λ info version. (1 ≤ version) × (version < 2 ^ 64)) offset.infos offset.versions

-- Whether the offset has bytes in the format: in format 2, and in format 1, which has no versions, if each table has version 1.
abbrev pub HasFormat : ℕ → Offset → Type 0
HasFormat format offset = (format ≡ 2) ⊎ ((format ≡ 1) × AllByRecursion (λ version. version ≡ 1) offset.versions)

-- Whether the bytes encode the offset, in one of the two formats.
pub record EncodesOffset (bytes : List ℕ) (offset : Offset) : Type 0 where
  pub asked : IsOffset offset
  pub fits : FitsOffset offset
  pub format : ℕ
  pub has_format : HasFormat format offset
  pub spelled : bytes ≡ bytes_in_format format offset

-- Whether the bytes encode some offset.
abbrev pub IsOffsetEntry : List ℕ → Type 0
IsOffsetEntry bytes = (offset : Offset) × EncodesOffset bytes offset

-- Why a column of a table can't be masked.
use Rattle.std.specs.Prelude.{◌&&◌, not, Bool, ℕ, if◌then◌else◌, Option, Some, None, List, bytes_eq}
use Rattle.std.specs.List.{list_any}
use Rattle.dbl_model_table.specs.declared.table.RawColumn.{RawColumn}
use Rattle.dbl_model_table.specs.declared.table.RawTable.{RawTable}
use Rattle.dbl_hooks_masks.specs.declared.fault.MaskFault.{MaskFault}
use Rattle.dbl_hooks_masks.specs.declared.fault.MaskFault.TheVariants.{NoColumn, KeyColumn, NotText}
use Rattle.dbl_hooks_masks.specs.Messages.{is_text_type}

-- Whether a column of the catalogue has this name.
abbrev pub is_named : List ℕ → RawColumn → Bool
is_named name column = bytes_eq name column.name

-- Whether a column of the catalogue has this name and a type of texts.
abbrev pub is_masked : List ℕ → RawColumn → Bool
is_masked name column = is_named name column && is_text_type column.oid

-- Why the column of this name can't be masked in the table: there is none, it is in the key, or its type has no texts; the first of these.
abbrev pub mask_fault : RawTable → List ℕ → Option MaskFault
mask_fault raw name =
    if not (list_any (is_named name) raw.columns) then Some NoColumn
    else if list_any (bytes_eq name) raw.key then Some KeyColumn
    else if list_any (is_masked name) raw.columns then None
    else Some NotText

-- The stores that the contents of their disks represent.
use Rattle.std.specs.Prelude.{ℕ, Option, List}
use Rattle.dbl_record.specs.declared.record.Record.{Record}
use Rattle.dbl_topic.specs.Logs.{IsLog}
use Rattle.dbl_offset_content.specs.declared.offset.Offset.{Offset}
use Rattle.dbl_offset.specs.Stores.{IsStore}

-- The contents of the stores: the groups of the topic log, and the offset, if one is stored.
pub record Stores : Type 0 where
  pub groups : List (List Record)
  pub offset : Option Offset

-- The bytes of a topics disk and those of an offsets disk represent these stores.
pub record ReadAsStores (topics offsets : List ℕ) (stores : Stores) : Type 0 where
  pub log : IsLog topics stores.groups
  pub store : IsStore offsets stores.offset

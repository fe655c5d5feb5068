-- What calls keep of an offset store.
use Rattle.std.specs.Prelude.{◌≡◌, Result, Err, OnOk}
use Rattle.dbl_base.specs.Streams.{FailsOnlyIfCounted}
use Rattle.dbl_disk.specs.Model.{DiskModel}
use Rattle.dbl_offset.specs.Stores.{ExtendsOffsets, IsLive, StoreOn, disk_of}

-- What every call keeps of a store: it can be used after Ok, extends the old one, and failed only if its disk's count of faults rose.
pub record KeepsStore {D T E : Type 0} (model : DiskModel D) (store new_store : StoreOn D) (result : Result T E) (failed : E) : Type 0 where
  pub live : OnOk result (IsLive new_store)
  pub comes : ExtendsOffsets model store new_store
  pub cause : FailsOnlyIfCounted (result ≡ Err failed) (model.faults (disk_of store)) (model.faults (disk_of new_store))

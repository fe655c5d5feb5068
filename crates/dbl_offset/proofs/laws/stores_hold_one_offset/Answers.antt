use Rattle.std.proofs.Common.{◌≡◌, ◌⊎◌, Option, Some, List, ℕ, subst}
use Rattle.dbl_offset_content.specs.declared.offset.Offset.{Offset}
use Rattle.dbl_offset.specs.Stores.{IsStore}
use Rattle.dbl_offset.proofs.StoreLaws.{one_store, store_of}
use Rattle.dbl_offset.proofs.laws.stores_hold_one_offset.Goals as goal

pub returns-clause-bytes : goal.returns-clause-bytes
returns-clause-bytes g c store offset holds =
    let stores = store_of g.D.Disk store offset holds in
    (stores.bytes, stores.told, stores.is)

pub returns-clause-left : goal.returns-clause-left
returns-clause-left g c store offset left holds may =
    let stores = store_of g.D.Disk store offset holds in
    one_store stores.bytes left offset (subst (λ (b : List ℕ). IsStore b left) (stores.only may.0 may.1) may.2) stores.is

pub returns-clause-held : goal.returns-clause-held
returns-clause-held g c store offset holds =
    let stores = store_of g.D.Disk store offset holds in
    (stores.bytes, g.met.D.Disk.seen_may_be_left store.disk stores.bytes stores.told, stores.is)

pub returns-clause-one_of : goal.returns-clause-one_of
returns-clause-one_of g c disk old left new leaves may =
    let here = leaves may.0 may.1 in
    subst (λ (o : Option Offset). (o ≡ old) ⊎ (o ≡ Some new)) (one_store may.0 here.0 left here.1 may.2) here.2

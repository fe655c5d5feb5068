use Rattle.std.proofs.Common.{◌≡◌, length, refl, ap, arith}
use Rattle.dbl_offset.specs.Stores.{disk_of}
use Rattle.dbl_offset.proofs.laws.stores_come_of_stores.Goals as goal

pub returns-clause-itself : goal.returns-clause-itself
returns-clause-itself g c store most known = known

pub returns-clause-on : goal.returns-clause-on
returns-clause-on g c first second third one two most known = two most (one most known)

pub returns-clause-told : goal.returns-clause-told
returns-clause-told g c old new offset extends held =
    let after = extends (record { most = length held.bytes; faults = g.D.Disk.faults (disk_of old) }) (record { bytes = held.bytes; told = held.told; short = omega arith; steady = λ live. refl }) in
    (after.bytes, after.told)

pub returns-clause-grown : goal.returns-clause-grown
returns-clause-grown g c old new before after extends was now =
    let found = extends (record { most = length before; faults = g.D.Disk.faults (disk_of old) }) (record { bytes = before; told = was; short = omega arith; steady = λ live. refl }) in
    let is : after ≡ found.bytes = cc (found.told) in
    omega (arith, ap length is, found.short)

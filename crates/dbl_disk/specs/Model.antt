-- The ghost members of the trait `Disk` as one value.
use Rattle.dbl_disk.specs.declared.disk.Disk.{Ghosts}

-- what the ghost members say of a disk: the known contents, the contents that a crash may leave, the faults and the calls made
abbrev pub DiskModel : Type 0 → Type 1
DiskModel D = Ghosts D

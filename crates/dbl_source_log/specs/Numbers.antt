-- The positions and times of a log whose commits are counted from 1.
use Rattle.std.specs.Prelude.{ℕ, ℤ, pos, ◌+◌, ◌*◌, ◌/◌, ◌%◌, ◌^◌}
use Rattle.dbl_base.specs.declared.lsn.Lsn.{Lsn}

-- The limit of a history's number of commits, below which its LSNs and times have 64 bits.
abbrev pub commit_limit : ℕ
commit_limit = 2 ^ 40

-- The limit of the number of a commit whose LSNs and time have 64 bits.
abbrev pub number_limit : ℕ
number_limit = 2 ^ 41

-- The LSN of commit n.
abbrev pub lsn_of : ℕ → Lsn
lsn_of n = record { 0 = 256 * n }

-- The LSN after commit n.
abbrev pub end_lsn_of : ℕ → Lsn
end_lsn_of n = record { 0 = 256 * n + 40 }

-- The transaction number of commit n.
abbrev pub xid_of : ℕ → ℕ
xid_of n = n % 2 ^ 32

-- The time of commit n, a second after the one before, in microseconds since 2000-01-01 UTC.
abbrev pub time_of : ℕ → ℤ
time_of n = pos (1000000 * n)

-- The number of commits up to an LSN, for a log of any length: reading after it begins with the next one.
abbrev pub commits_upto : Lsn → ℕ
commits_upto after = after.0 / 256

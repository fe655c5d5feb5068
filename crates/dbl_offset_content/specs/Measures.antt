-- The length of an offset's bytes, within 64 bits.
use Rattle.std.specs.Prelude.{◌≡◌, ℕ, ◌+◌, ◌-◌, ◌^◌, ◌≤◌, min}

-- The maximum length of an offset in bytes.
abbrev pub offset_limit : ℕ
offset_limit = 2 ^ 28

-- A number, or the greatest one of 64 bits.
abbrev pub capped : ℕ → ℕ
capped n = min n (2 ^ 64 - 1)

-- Whether the result is the capped length after `size` more bytes, and the format can represent them if that is at most the limit.
pub record Measures (before size : ℕ) (Fits : Type 0) (result : ℕ) : Type 0 where
  pub long : result ≡ capped (before + size)
  pub fits : result ≤ offset_limit → Fits

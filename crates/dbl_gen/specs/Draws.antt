-- Pseudorandom numbers. Source: D. E. Knuth, MMIX, for the constants of the linear congruential generator.
use Rattle.std.specs.Prelude.{ℕ, ◌+◌, ◌*◌, ◌/◌, ◌%◌, ◌^◌}

-- the next state
abbrev pub next_state : ℕ → ℕ
next_state state = (state * 6364136223846793005 + 1442695040888963407) % 2 ^ 64

-- the number drawn in a state
abbrev pub drawn : ℕ → ℕ
drawn state = state / 2 ^ 33

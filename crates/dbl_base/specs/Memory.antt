-- The state of the in-memory streams and disks.
use Rattle.std.specs.Prelude.{ℕ, List}

-- the numbers, from 1, of the calls planned to fail, with the number of calls made and of faults counted
pub record Plan : Type 0 where
  pub planned : List ℕ
  pub calls : ℕ
  pub faults : ℕ

-- the plan before the first call
abbrev pub new_plan : List ℕ → Plan
new_plan planned = record { planned = planned; calls = 0; faults = 0 }

-- the state of an in-memory input: its unread bytes and its plan of faults
pub record Unread : Type 0 where
  pub left : List ℕ
  pub plan : Plan

-- the state of an in-memory output: the bytes written and its plan of faults
pub record Kept : Type 0 where
  pub written : List ℕ
  pub plan : Plan

-- Whatever the disks and the input tell, there is an answer.
use Rattle.std.proofs.Common.{◌≡◌, ◌≢◌, ◌⊎◌, ℕ, ◌≤◌, Ok, Err, List, [], ◌∷◌, length, refl, inl, inr}
use Rattle.std.proofs.lemmas.Bool.{cases_lt}
use Rattle.dbl_base.specs.Streams.{input_limit}
use Rattle.dbl_model_table.proofs.Capturable.{capturable}
use Rattle.dbl_demo.proofs.DemoWorkloadOneOfLaws.{workload_or_refused}
use Rattle.dblog_init.specs.declared.error.InitError.TheVariants.{NotEmpty, InputTooLong}
use Rattle.dblog_init.specs.declared.error.Store.TheVariants.{Wal, Topics, Offsets}
use Rattle.dblog_init.specs.Answers.{Answers, AnswersInput, AreEmpty, InitEnd, InitInput}
use Rattle.dblog_init.specs.Answers.AnswersInput.{too_long, refused, made}
use Rattle.dblog_init.specs.Answers.Answers.{wal_holds, topics_hold, offsets_hold, all_empty}
use Rattle.dblog_init.specs.Errors.{demo_error}
use Rattle.dblog_init.specs.Laws.{InitAnswersStand}

empty_or_not : (bytes : List ℕ) → (bytes ≡ []) ⊎ (bytes ≢ [])
empty_or_not [] = inl refl
empty_or_not (b ∷ bytes) = inr (λ none. cc)

-- the input means something
abbrev AnsweredInput : List ℕ → Type 0
AnsweredInput bytes = (end : InitEnd) × AnswersInput bytes end

by_workload : (bytes : List ℕ) → length bytes ≤ input_limit → AnsweredInput bytes
by_workload bytes short =
    elim (workload_or_refused capturable bytes) [
      | inl w ↦ (Ok tt, made short w.0 w.1 refl)
      | inr e ↦ (Err (demo_error e.0), refused short e.0 e.1 refl)
    ]

input_stands : (bytes : List ℕ) → AnsweredInput bytes
input_stands bytes =
    elim (cases_lt input_limit (length bytes)) [
      | inl long ↦ (Err InputTooLong, too_long long refl)
      | inr short ↦ by_workload bytes short
    ]

module _ (given : InitInput) where
  abbrev Answered : Type 0
  Answered = (end : InitEnd) × Answers given end

  by_input : AreEmpty given → Answered
  by_input none = let input = input_stands given.input in (input.0, all_empty none input.1)

  answered : Answered
  answered =
      elim (empty_or_not given.wal) [
        | inr some ↦ (Err (NotEmpty Wal), wal_holds some refl)
        | inl wal ↦ elim (empty_or_not given.topics) [
          | inr some ↦ (Err (NotEmpty Topics), topics_hold wal some refl)
          | inl topics ↦ elim (empty_or_not given.offsets) [
            | inr some ↦ (Err (NotEmpty Offsets), offsets_hold wal topics some refl)
            | inl offsets ↦ by_input (record { wal = wal; topics = topics; offsets = offsets })
          ]
        ]
      ]

pub answers_stand : InitAnswersStand
answers_stand given = answered given

-- Theorems about the stores and the answers.
use Rattle.std.specs.Prelude.{◌≡◌, ℕ, List}
use Rattle.dbl_pgmsg.specs.Faults.{AreBytes}
use Rattle.dblog_stores.specs.Stores.{Stores, ReadAsStores}
use Rattle.dblog_stores.specs.declared.listing.Listing.{Listing}
use Rattle.dblog_stores.specs.Answers.{LinesAnswer, AnswersTopics, AnswersOffsets, AnswersListing}

-- The contents of the disks represent one pair of stores at most.
abbrev pub StoresAreReadOnce : Type 0
StoresAreReadOnce = (topics offsets : List ℕ) (first second : Stores) → ReadAsStores topics offsets first
    → ReadAsStores topics offsets second → first ≡ second

-- `topics` has one answer at most.
abbrev pub TopicsAnswerOnce : Type 0
TopicsAnswerOnce = (bytes : List ℕ) (first second : LinesAnswer) → AnswersTopics bytes first → AnswersTopics bytes second → first ≡ second

-- `offsets` has one answer at most.
abbrev pub OffsetsAnswerOnce : Type 0
OffsetsAnswerOnce = (bytes : List ℕ) (first second : LinesAnswer) → AnswersOffsets bytes first → AnswersOffsets bytes second
    → first ≡ second

-- `apply` and `compact` each have one answer at most.
abbrev pub ListingAnswersOnce : Type 0
ListingAnswersOnce = (listing : Listing) (topics offsets : List ℕ) (first second : LinesAnswer)
    → AnswersListing listing topics offsets first → AnswersListing listing topics offsets second → first ≡ second

-- `topics` has an answer for any contents of the disk.
abbrev pub TopicsAnswersStand : Type 0
TopicsAnswersStand = (bytes : List ℕ) → AreBytes bytes → (answer : LinesAnswer) × AnswersTopics bytes answer

-- `offsets` has an answer for any contents of the disk.
abbrev pub OffsetsAnswersStand : Type 0
OffsetsAnswersStand = (bytes : List ℕ) → AreBytes bytes → (answer : LinesAnswer) × AnswersOffsets bytes answer

-- `apply` and `compact` each have an answer for any contents of the disks.
abbrev pub ListingAnswersStand : Type 0
ListingAnswersStand = (listing : Listing) (topics offsets : List ℕ) → AreBytes topics → AreBytes offsets → (answer : LinesAnswer)
    × AnswersListing listing topics offsets answer

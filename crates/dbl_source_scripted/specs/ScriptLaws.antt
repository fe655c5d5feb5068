-- The theorems about the source that is played from a script which the trait requires.
use Rattle.std.proofs.Common.{◌≡◌, refl, sym, ap, subst, ◌∙◌}
use Rattle.std.specs.Prelude.{is_some, Option, Some, None, option_map}
use Rattle.dbl_source_model.specs.ModelHistory.History.{IsRising}
use Rattle.dbl_source_model.specs.ModelHistory.Fit.{IsFitHistory}
use Rattle.dbl_source_model.specs.Standings.{Reading, SourceState, CrashState, left_of}
use Rattle.dbl_source_model.specs.Stated.{IsReadRight}
use Rattle.dbl_source_log.specs.declared.reader_position.ReaderPosition.{ReaderPosition}
use Rattle.dbl_source_log.proofs.LogLemmas.{is_rising}
use Rattle.dbl_source_log.proofs.ReaderLemmas.{read_right}
use Rattle.dbl_source_scripted.specs.Played.{Played, standing_of}
use Rattle.dbl_source.specs.LogStates.{reading_at}
use Rattle.dbl_source_scripted.specs.Steps.{HasPlayedState, MayLeavePlayed, WasFair}

-- The state of a played source is unique.
pub one_standing : (source : Played) (s t : SourceState) → HasPlayedState source s → HasPlayedState source t → s ≡ t
one_standing source s t a b = a.1 ∙ sym b.1

-- A crash leaves only the state of a played source.
pub only_left : (source : Played) (s : SourceState) (l : CrashState) → HasPlayedState source s → MayLeavePlayed source l → l ≡ left_of s
only_left source s l a may = may ∙ ap left_of (sym a.1)

-- A crash may leave the state of a played source.
pub may_leave_so : (source : Played) (s : SourceState) → HasPlayedState source s → MayLeavePlayed source (left_of s)
may_leave_so source s a = ap left_of a.1

same_some : {A B : Type 0} (f : A → B) (o : Option A) → is_some (option_map f o) ≡ is_some o
same_some f None = refl
same_some f (Some x) = refl

-- A played source reports a reading if and only if it has a reader.
pub reads_so : (source : Played) (s : SourceState) → HasPlayedState source s → is_some s.reading ≡ is_some source.place
reads_so source s a = ap (λ (t : SourceState). is_some t.reading) a.1 ∙ same_some (reading_at source.tables source.log) source.place

-- The LSNs of a played source's history rise.
pub rising_so : (source : Played) (s : SourceState) → HasPlayedState source s → IsRising s.history
rising_so source s a = subst (λ (t : SourceState). IsRising t.history) (sym a.1) (is_rising source.tables source.log)

-- A crash of a fair source leaves a valid history.
pub fit_so : (source : Played) (l : CrashState) → MayLeavePlayed source l → WasFair source → IsFitHistory l.history
fit_so source l may fair = subst (λ (x : CrashState). IsFitHistory x.history) (sym may) fair.fit

right_at : (source : Played) (place : Option ReaderPosition) (r : Reading) → WasFair source
    → option_map (reading_at source.tables source.log) place ≡ Some r → IsReadRight (standing_of source).history r
right_at source None r fair is = cc
right_at source (Some place) r fair is =
    let same : reading_at source.tables source.log place ≡ r = cc in
    subst (IsReadRight (standing_of source).history) same (read_right source.tables source.log place fair.changes)

-- The messages read of a fair source are correct.
pub right_so : (source : Played) (s : SourceState) (r : Reading) → HasPlayedState source s → WasFair source → s.reading ≡ Some r
    → IsReadRight s.history r
right_so source s r a fair is =
    subst (λ (t : SourceState). IsReadRight t.history r) (sym a.1)
    (right_at source source.place r fair (ap (λ (t : SourceState). t.reading) (sym a.1) ∙ is))

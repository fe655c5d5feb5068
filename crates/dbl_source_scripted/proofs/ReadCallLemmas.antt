-- A read of a played source, by what it answered.
use Rattle.std.proofs.Common.{◌≡◌, ◌∙◌, ℕ, Option, Some, None, List, [], ◌∷◌, map, refl, sym, ap, subst}
use Rattle.std.specs.Prelude.{unwrap_or, option_map, IsSomeAnd, MatchOption}
use Rattle.dbl_pgmsg.specs.declared.messages.Message.{Message}
use Rattle.dbl_pgmsg.specs.Grammar.{Fits, Spells, spelling}
use Rattle.dbl_source_model.specs.Standings.{Reading, SourceState, CrashState, HasState}
use Rattle.dbl_source_model.specs.Calls.{Moved, HasReadOneMore, HasReadAll}
use Rattle.dbl_source_log.specs.declared.reader_position.ReaderPosition.{ReaderPosition}
use Rattle.dbl_source_log.specs.Sent.{told_at}
use Rattle.dbl_source_scripted.specs.declared.asked.Last.{Last}
use Rattle.dbl_source_scripted.specs.Played.{Played, played_messages, with_answer}
use Rattle.dbl_source.specs.LogStates.{reading_at}
use Rattle.dbl_source_scripted.specs.Steps.{KeepsPlayed, HasPlayedState, MayLeavePlayed, WasFair, next_message, IsUnfit, IsAtEnd}
use Rattle.dbl_source_scripted.specs.Exits.{HasReadNext}
use Rattle.dbl_source.proofs.LogStates.{next_sent, none_next}
use Rattle.dbl_source_scripted.proofs.CallLemmas.{WentOn, went_moved, went_read, stood, read_leads, none_leads}

no_reading : (reading : Reading) → None ≡ Some reading → ⊥
no_reading reading is = cc

module _ (old mid : Played) (s : SourceState) (w : WentOn old mid) (kept : KeepsPlayed old) (stands : HasPlayedState old s) where
  -- nothing, where there is no reader or it is at the end
  nothing_leads : (what : Last) → ((place : ReaderPosition) → mid.place ≡ Some place → IsAtEnd mid.log place) → HasState HasPlayedState (with_answer what mid) (λ t. Moved s t × (WasFair mid → HasReadAll s t))
  nothing_leads what ends = by mid.place refl
    where
      by : (o : Option ReaderPosition) → mid.place ≡ o → HasState HasPlayedState (with_answer what mid) (λ t. Moved s t × (WasFair mid → HasReadAll s t))
      by None none =
          stood (with_answer what mid) (λ t. Moved s t × (WasFair mid → HasReadAll s t)) refl (
            went_moved old mid s w kept stands,
            λ fair. record { each = λ reading is infos captured accepted. absurd (no_reading reading (sym (ap (option_map (reading_at mid.tables mid.log)) none) ∙ is)) },
          )
      by (Some place) at = none_leads old mid s w kept stands what place at (ends place at)

  pub reads_lead : (new : Played) (what : Last) (read : Option (List ℕ)) → HasReadNext mid new read
      → MatchOption read (HasState HasPlayedState (with_answer what new) (λ t. Moved s t × (WasFair (with_answer what new) → HasReadAll s t))) (λ bytes. (m : Message) × Spells bytes m × HasState HasPlayedState (with_answer what new) (HasReadOneMore m s))
  reads_lead new what None read =
      subst (λ (p : Played). HasState HasPlayedState (with_answer what p) (λ t. Moved s t × (WasFair (with_answer what p) → HasReadAll s t))) (sym read.is) (nothing_leads what read.ends)
  reads_lead new what (Some bytes) read = (
    read.message,
    read.spelled,
    subst (λ (p : Played). HasState HasPlayedState (with_answer what p) (HasReadOneMore read.message s)) (sym read.is) (read_leads old mid s w kept stands what read.place read.next read.message read.was read.same read.told),
  )

-- a crash leaves what it would have left before the message was read
pub read_left : (mid new : Played) (l : CrashState) (read : Option (List ℕ)) → HasReadNext mid new read → MayLeavePlayed new l → MayLeavePlayed mid l
read_left mid new l None read may = subst (λ (p : Played). MayLeavePlayed p l) read.is may
read_left mid new l (Some bytes) read may = subst (λ (p : Played). MayLeavePlayed p l) read.is may

pub read_fair : (mid new : Played) (read : Option (List ℕ)) → HasReadNext mid new read → WasFair new → WasFair mid
read_fair mid new None read fair = subst WasFair read.is fair
read_fair mid new (Some bytes) read fair = subst WasFair read.is fair

-- the message, where there is one, is the newest of those that were read
pub read_taken : (old mid new : Played) (read : Option (List ℕ)) → WentOn old mid → KeepsPlayed old → HasReadNext mid new read
    → MatchOption read (map spelling (played_messages new) ≡ map spelling (played_messages old)) (λ bytes. map spelling (played_messages new) ≡ bytes ∷ map spelling (played_messages old))
read_taken old mid new None w kept read = ap (λ (p : Played). map spelling (played_messages p)) read.is ∙ went_read old mid w kept
read_taken old mid new (Some bytes) w kept read =
    let here : told_at mid.tables mid.log read.place ≡ played_messages mid = ap (λ (o : Option ReaderPosition). unwrap_or (option_map (told_at mid.tables mid.log) o) []) (sym read.was) in
    ap (λ (p : Played). map spelling (played_messages p)) read.is
    ∙ ap (map spelling) read.told
    ∙ ap (λ (b : List ℕ). b ∷ map spelling (told_at mid.tables mid.log read.place)) (sym read.spelled.spelled)
    ∙ ap (λ (ms : List Message). bytes ∷ map spelling ms) here
    ∙ ap (λ (past : List (List ℕ)). bytes ∷ past) (went_read old mid w kept)

same_place : (a b : ReaderPosition) → Some a ≡ Some b → a ≡ b
same_place a b is = cc

-- where it answers, the next message has a spelling
pub not_unfit : (mid new : Played) (read : Option (List ℕ)) → HasReadNext mid new read → IsUnfit mid → ⊥
not_unfit mid new None read unfit =
    subst (λ (o : Option Message). IsSomeAnd o (λ message. ¬ Fits message)) (none_next mid.tables mid.log mid.confirmed unfit.0 (read.ends unfit.0 unfit.1)) unfit.2
not_unfit mid new (Some bytes) read unfit =
    let same : read.place ≡ unfit.0 = same_place read.place unfit.0 (sym read.was ∙ unfit.1) in
    let next : next_message mid unfit.0 ≡ Some read.message = ap (next_message mid) (sym same) ∙ next_sent mid.tables mid.log mid.confirmed read.place read.next read.message read.same read.told in
    let never : ¬ Fits read.message = subst (λ (o : Option Message). IsSomeAnd o (λ message. ¬ Fits message)) next unfit.2 in
    never read.spelled.fits

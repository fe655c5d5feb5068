-- The records of one more change of an open transaction.
use Rattle.std.proofs.Common.{◌≡◌, ◌∙◌, ◌+◌, ◌≤◌, ℕ, ℤ, true, false, List, [], ◌∷◌, ◌++◌, length, length-append, map, replicate, None, refl, ap, arith}
use Rattle.std.proofs.lemmas.List.{length-replicate}
use Rattle.dbl_record.specs.declared.record.Record.{Record}
use Rattle.dbl_model_table.specs.declared.change.Change.{Change}
use Rattle.dbl_model_table.specs.declared.change.Commit.{Commit}
use Rattle.dbl_model_table.specs.declared.change.Head.{Head}
use Rattle.dbl_model_table.specs.Heads.{commit_so_far}
use Rattle.dbl_model_event.specs.Events.{Notice, Event, notices, numbered}
use Rattle.dbl_model_event.specs.EventJson.{print}
use Rattle.dbl_envelope_json.specs.declared.stamp.Stamp.{Stamp}
use Rattle.dbl_envelope_json.specs.Frames.{events_from}
use Rattle.dbl_envelope.specs.declared.so_far.OpenRecords.{OpenRecords}
use Rattle.dbl_envelope.specs.SoFar.{records_after, made_by, HasTails, HasMadeRecords, AppendsRecords}
use Rattle.dbl_envelope.specs.Suits.{Suits}
use Rattle.dbl_envelope.specs.Writers.{Captured, change_records}
use Rattle.dbl_envelope.proofs.CommitLemmas.{change_count}
use Rattle.dbl_envelope.proofs.TailLemmas.{no_tails}

-- events whose last one is the last of its commit
numbered_last : (position ordinal : ℕ) (ns : List Notice) → events_from position ordinal true ns ≡ numbered position ordinal ns
numbered_last position ordinal [] = refl
numbered_last position ordinal (n ∷ []) = refl
numbered_last position ordinal (n ∷ m ∷ ns) =
    ap (λ (es : List Event). record { notice = n; position = position; ordinal = ordinal; last = false } ∷ es) (numbered_last position (ordinal + 1) (m ∷ ns))

abbrev pub stamp_at : ℕ → Stamp
stamp_at ordinal = record { ordinal = ordinal; last = true }

records_last : (captured : Captured) (head : Head) (now : ℤ) (made : ℕ) (change : Change)
    → change_records captured (commit_so_far head []) now (stamp_at made) change ≡ records_after captured head now made change
unfolding change_records
records_last captured head now made change =
    ap (map (print captured.identity (commit_so_far head []) now)) (numbered_last head.lsn.0 made (notices captured.infos change))

-- the change's records as this transaction's
pub records_made : (captured : Captured) (head : Head) (now : ℤ) (made : ℕ) (change : Change) (records : OpenRecords)
    → HasMadeRecords captured head now made records
    → change_records captured records.commit records.now_ms (stamp_at (made_by records)) change ≡ records_after captured head now made change
records_made captured head now made change records is =
    ap (λ (c : Commit). change_records captured c records.now_ms (stamp_at (made_by records)) change) is.commit
    ∙ ap (λ (t : ℤ). change_records captured (commit_so_far head []) t (stamp_at (made_by records)) change) is.now_is
    ∙ ap (λ (n : ℕ). change_records captured (commit_so_far head []) now (stamp_at n) change) is.made_is
    ∙ records_last captured head now made change

-- between one and three records
pub few_more : (captured : Captured) (commit : Commit) (now : ℤ) (stamp : Stamp) (change : Change) (old new : List Record) → Suits captured.infos change
    → new ≡ old ++ change_records captured commit now stamp change
    → (length old + 1 ≤ length new) × (length new ≤ length old + 3)
few_more captured commit now stamp change old new suits is =
    let told = change_records captured commit now stamp change in
    let count = change_count captured commit now stamp change suits in
    let long : length new ≡ length old + length told = ap length is ∙ length-append old told in
    (omega (arith, count.1, long), omega (arith, count.0, long))

pub appends : (captured : Captured) (head : Head) (now : ℤ) (made : ℕ) (change : Change) (old new : List Record) (before after : OpenRecords)
    → HasMadeRecords captured head now made before
    → new ≡ old ++ change_records captured before.commit before.now_ms (stamp_at (made_by before)) change → after.commit ≡ before.commit
    → after.now_ms ≡ before.now_ms
    → made_by after + length old ≡ made_by before + length new → HasTails captured after → AppendsRecords captured head now made change old new after
appends captured head now made change old new before after is pushed commit time counted tails =
    let recs = records_after captured head now made change in
    let appended : new ≡ old ++ recs = pushed ∙ ap (λ (l : List Record). old ++ l) (records_made captured head now made change before is) in
    let long : length new ≡ length old + length recs = ap length appended ∙ length-append old recs in
    record {
      appended = appended;
      makes = record {
        commit = commit ∙ is.commit;
        now_is = time ∙ is.now_is;
        made_is = omega (arith, counted, is.made_is, long);
        tails = tails;
      };
    }

-- none was made yet
pub none_made : (captured : Captured) (head : Head) (now : ℤ) (records : OpenRecords) (count : ℕ) → records.commit ≡ commit_so_far head []
    → records.now_ms ≡ now → made_by records ≡ 0 → count ≡ length captured.infos
    → records.tails.items ≡ replicate count None → HasMadeRecords captured head now 0 records
none_made captured head now records count commit time made long tails = record {
  commit = commit;
  now_is = time;
  made_is = made;
  tails = record {
    long = ap length tails ∙ (length-replicate count None ∙ long);
    tails = no_tails captured records.commit records.now_ms records.tails.items count tails;
  };
}

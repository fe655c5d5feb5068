-- A report's counts are whole where the topic log is small.
use Rattle.std.proofs.Common.{◌≡◌, ◌∙◌, ℕ, ◌+◌, ◌*◌, ◌<◌, ◌≤◌, ◌^◌, Bool, List, [], ◌∷◌, length, filter, ap, arith, length-append}
use Rattle.std.specs.List.{flat_map}
use Rattle.std.proofs.lemmas.List.Concat.{flat_map-append}
use Rattle.std.proofs.lemmas.List.Sums.{length-filter, count_by-le-length}
use Rattle.dbl_record.specs.declared.record.Record.{Record}
use Rattle.dbl_record.specs.Acts.{is_progress}
use Rattle.dbl_record.specs.Cuts.{joined}
use Rattle.dbl_journal.specs.Form.{body, frame, up_to_gate, magic}
use Rattle.dbl_topic.specs.Logs.{AreLogEntries}
use Rattle.dbl_capture_laws.specs.Faithful.Kinds.{is_row}
use Rattle.dbl_capture_laws.specs.CaptureWork.Groups.{counted}
use Rattle.dblog_promise.specs.PromiseLaws.{SmallLogsAreCounted}

-- a journal has no more entries than bytes
frames : (entries : List (List ℕ)) → length entries ≤ length (flat_map frame entries)
frames [] = omega arith
frames (entry ∷ entries) = omega (arith, frames entries, length-append (body entry) (flat_map frame entries))

few_entries : (entries : List (List ℕ)) → length entries ≤ length (up_to_gate entries)
unfolding up_to_gate
few_entries entries = omega (arith, frames entries, length-append magic (flat_map frame entries))

-- and each of a topic log has at most 1,000 records
few_records : (entries : List (List ℕ)) (groups : List (List Record)) → AreLogEntries entries groups → length (joined groups) ≤ 1000 * length entries
few_records [] [] are = omega arith
few_records [] (group ∷ groups) are = absurd are
few_records (entry ∷ entries) [] are = absurd are
few_records (entry ∷ entries) (group ∷ groups) are = omega (arith, are.0.few, few_records entries groups are.1, length-append group (joined groups))

within : (n most : ℕ) → most < 2 ^ 40 → n ≤ 1000 * most → counted 0 n ≡ n
within n most small few = omega (arith, small, few)

fewer : (p : Record → Bool) (records : List Record) (most : ℕ) → length records ≤ most → length (filter p records) ≤ most
fewer p records most few = omega (arith, length-filter p records, count_by-le-length p records, few)

pub small_logs_are_counted : SmallLogsAreCounted
small_logs_are_counted bytes groups old more report log small is are =
    let long : length bytes ≡ length (up_to_gate log.entries) + length log.journal.rest = ap length log.journal.spelled ∙ length-append (up_to_gate log.entries) log.journal.rest in
    let most : length log.entries < 2 ^ 40 = omega (arith, long, few_entries log.entries, small) in
    let parts : length (joined groups) ≡ length (joined old) + length (joined more) =
    ap (λ (gs : List (List Record)). length (joined gs)) is ∙ ap length (flat_map-append (λ (group : List Record). group) old more) ∙ length-append (joined old) (joined more) in
    let few : length (joined more) ≤ 1000 * length log.entries = omega (arith, parts, few_records log.entries groups log.are) in
    record {
      records = are.records ∙ within (length (joined more)) (length log.entries) most few;
      chunks = are.chunks ∙ within (length (filter (λ (item : Record). is_progress item.topic) (joined more))) (length log.entries) most
          (fewer (λ (item : Record). is_progress item.topic) (joined more) (1000 * length log.entries) few);
      rows = are.rows ∙ within (length (filter is_row (joined more))) (length log.entries) most (fewer is_row (joined more) (1000 * length log.entries) few);
    }

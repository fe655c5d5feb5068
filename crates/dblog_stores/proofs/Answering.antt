-- What commands answer, by what was read.
use Rattle.std.proofs.Common.{◌≡◌, ◌⊎◌, ℕ, Bool, Option, Some, None, Ok, Err, List, map, refl, sym, subst, inl, inr}
use Rattle.dbl_record.specs.declared.record.Record.{Record}
use Rattle.dbl_record.specs.Consumers.{consumer_of}
use Rattle.dbl_record.specs.Cuts.{joined}
use Rattle.dbl_consume.specs.Printing.{row_line}
use Rattle.dbl_topic.specs.Logs.{IsLog}
use Rattle.dbl_offset_content.specs.declared.offset.Offset.{Offset}
use Rattle.dbl_offset.specs.Stores.{IsStore}
use Rattle.dblog_stores.specs.declared.error.CommandError.{CommandError}
use Rattle.dblog_stores.specs.declared.error.CommandError.TheVariants.{NotStarted}
use Rattle.dblog_stores.specs.Answers.{AnswersListing, AnswersOffsets, AnswersTopics, HasNoOffset, IsNoLog, first_refused, no_log, no_offset, offset_lines, refused, topic_lines}
use Rattle.dblog_stores.specs.declared.listing.Listing.{Listing}
use Rattle.dblog_stores.specs.declared.listing.Listing.TheVariants.{Rows, KeptRecords}
use Rattle.dblog_stores.specs.Stores.{ReadAsStores}
use Rattle.dblog_stores.specs.Compacting.{HasMarkedAll, kept_lines, marked_lines}
use Rattle.dblog_stores.proofs.Marked.{lines_kept}
use Rattle.dblog_stores.specs.Applying.{AppliesStores, AppliesGroups, PrintedAs, PrintedRows, TellsOffset, bad, printed, stopped}
use Rattle.dblog_stores.specs.Consuming.{RefusesAt, readings_of}
use Rattle.dblog_stores.specs.Ends.{CommandEnd, Ends, IsExternalCommandError, Runs, answered, cut}

-- ---- errors of opening

pub no_topics_run : (bytes : List ℕ) (error : CommandError) (before : Option (List ℕ)) → IsExternalCommandError error ⊎ IsNoLog bytes error → Runs (AnswersTopics bytes) (Err error) before before
no_topics_run bytes error before (inl outside) = cut outside refl
no_topics_run bytes error before (inr why) = answered (Err error) why (refl, refl)

pub no_offsets_run : (bytes : List ℕ) (error : CommandError) (before : Option (List ℕ)) → IsExternalCommandError error ⊎ HasNoOffset bytes error → Runs (AnswersOffsets bytes) (Err error) before before
no_offsets_run bytes error before (inl outside) = cut outside refl
no_offsets_run bytes error before (inr why) = answered (Err error) why (refl, refl)

pub no_log_run : (listing : Listing) (topics offsets : List ℕ) (error : CommandError) (before : Option (List ℕ)) → IsExternalCommandError error ⊎ IsNoLog topics error → Runs (AnswersListing listing topics offsets) (Err error) before before
no_log_run listing topics offsets error before (inl outside) = cut outside refl
no_log_run listing topics offsets error before (inr why) = answered (Err error) (no_log why) (refl, refl)

pub no_store_run : (listing : Listing) (topics offsets : List ℕ) (groups : List (List Record)) (error : CommandError) (before : Option (List ℕ)) → IsLog topics groups → IsExternalCommandError error ⊎ HasNoOffset offsets error → Runs (AnswersListing listing topics offsets) (Err error) before before
no_store_run listing topics offsets groups error before log (inl outside) = cut outside refl
no_store_run listing topics offsets groups error before log (inr why) = answered (Err error) (no_offset groups log why) (refl, refl)

-- ---- what was read

pub topics_run : (bytes : List ℕ) (groups : List (List Record)) (end : CommandEnd) (before after : Option (List ℕ)) → IsLog bytes groups → Ends (Ok (topic_lines groups)) end before after → Runs (AnswersTopics bytes) end before after
topics_run bytes groups end before after log ends = answered (Ok (topic_lines groups)) (groups, log, refl) ends

pub offset_run : (bytes : List ℕ) (stored : Option Offset) (end : CommandEnd) (before after : Option (List ℕ)) → IsStore bytes stored → TellsOffset stored end before after → Runs (AnswersOffsets bytes) end before after
offset_run bytes None end before after store tells = subst (λ e. Runs (AnswersOffsets bytes) e before after) (sym tells.0) (answered (Err NotStarted) store (refl, tells.1))
offset_run bytes (Some offset) end before after store tells = answered (Ok (offset_lines offset)) (offset, store, refl) tells

listing_run : (listing : Listing) (topics offsets : List ℕ) (groups : List (List Record)) (offset : Offset) (end : CommandEnd) (before after : Option (List ℕ))
    → ReadAsStores topics offsets (record { groups = groups; offset = Some offset }) → first_refused offset.identity.placeholder groups ≡ None
    → PrintedAs listing offset.identity.placeholder groups end before after → Runs (AnswersListing listing topics offsets) end before after
listing_run Rows topics offsets groups offset end before after read none rows =
    answered (Ok (map row_line rows.rows)) (record { groups = groups; offset = offset; read = read; taken = none; rows = rows.rows; are = rows.are; lines_are = refl }) rows.ends
listing_run KeptRecords topics offsets groups offset end before after read none ends =
    answered (Ok (kept_lines offset.identity.placeholder groups)) (record { groups = groups; offset = offset; read = read; taken = none; lines_are = refl }) ends

groups_run : (listing : Listing) (topics offsets : List ℕ) (groups : List (List Record)) (offset : Offset) (end : CommandEnd) (before after : Option (List ℕ))
    → IsLog topics groups → IsStore offsets (Some offset) → AppliesGroups listing offset.identity.placeholder groups end before after
    → Runs (AnswersListing listing topics offsets) end before after
groups_run listing topics offsets groups offset end before after log store (stopped outside same) = cut outside same
groups_run listing topics offsets groups offset end before after log store (bad error is first same) =
    subst (λ e. Runs (AnswersListing listing topics offsets) e before after) (sym is)
    (answered (Err error)
    (refused (record { groups = groups; offset = offset; read = record { log = log; store = store }; index = first.index; first = first.first; error_is = first.error_is }))
    (refl, same))
groups_run listing topics offsets groups offset end before after log store (printed none lists) =
    listing_run listing topics offsets groups offset end before after (record { log = log; store = store }) none lists

pub apply_run : (listing : Listing) (topics offsets : List ℕ) (groups : List (List Record)) (stored : Option Offset) (end : CommandEnd) (before after : Option (List ℕ))
    → IsLog topics groups → IsStore offsets stored → AppliesStores listing groups stored end before after → Runs (AnswersListing listing topics offsets) end before after
apply_run listing topics offsets groups None end before after log store applies =
    subst (λ e. Runs (AnswersListing listing topics offsets) e before after) (sym applies.0) (answered (Err NotStarted) (no_offset groups log store) (refl, applies.1))
apply_run listing topics offsets groups (Some offset) end before after log store applies =
    groups_run listing topics offsets groups offset end before after log store applies

-- ---- groups that were consumed

pub groups_refused : (listing : Listing) (placeholder : List ℕ) (groups : List (List Record)) (error : CommandError) (before : Option (List ℕ)) → RefusesAt placeholder groups error → AppliesGroups listing placeholder groups (Err error) before before
groups_refused listing placeholder groups error before (inl outside) = stopped outside refl
groups_refused listing placeholder groups error before (inr first) = bad error refl first refl

pub groups_printed : (placeholder held : List ℕ) (groups : List (List Record)) (end : CommandEnd) (before after : Option (List ℕ)) → first_refused placeholder groups ≡ None → held ≡ placeholder → PrintedRows (consumer_of held (readings_of (joined groups))) end before after
    → AppliesGroups Rows placeholder groups end before after
groups_printed placeholder held groups end before after none same rows = printed none (subst (λ p. PrintedRows (consumer_of p (readings_of (joined groups))) end before after) same rows)

pub kept_printed : (placeholder : List ℕ) (groups : List (List Record)) (found : List Bool) (end : CommandEnd) (before after : Option (List ℕ))
    → HasMarkedAll placeholder groups found → Ends (Ok (marked_lines found groups)) end before after → AppliesGroups KeptRecords placeholder groups end before after
kept_printed placeholder groups found end before after all ends =
    printed all.none (subst (λ (lines : List (List ℕ)). Ends (Ok lines) end before after) (lines_kept placeholder groups found all) ends)

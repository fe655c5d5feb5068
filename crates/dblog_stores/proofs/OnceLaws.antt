-- Stores are read in one way, and each command has one answer.
use Rattle.std.proofs.Common.{◌≡◌, ◌∙◌, ℕ, Some, None, Ok, Err, List, map, refl, sym, ap, subst}
use Rattle.dbl_record.specs.declared.record.Record.{Record}
use Rattle.dbl_record.specs.Consumers.{consumer}
use Rattle.dbl_record.specs.Cuts.{joined}
use Rattle.dbl_record.specs.Line.{line_of}
use Rattle.dbl_record.specs.Reading.{as_line}
use Rattle.dbl_compact.specs.Kept.{kept}
use Rattle.dbl_consume.specs.Printing.{AreRowsOf, row_line}
use Rattle.dbl_consume.proofs.RowLemmas.{rows_are_one}
use Rattle.dbl_journal.specs.Form.{IsFaultAt}
use Rattle.dbl_journal.proofs.Reading.{one_fault}
use Rattle.dbl_topic.specs.Logs.{HasBadEntry, IsLog}
use Rattle.dbl_topic.specs.SinkLaws.{one_log}
use Rattle.dbl_topic.proofs.LogLaws as logs
use Rattle.dbl_offset_content.specs.declared.offset.Offset.{Offset}
use Rattle.dbl_offset.specs.Stores.{HasBadOffset, IsNoStoreAt, IsStore}
use Rattle.dbl_offset.proofs.StoreLaws.{no_bad_offset, no_fault, not_both, one_bad_offset, one_no_store, one_store}
use Rattle.dblog_stores.specs.declared.error.CommandError.{CommandError}
use Rattle.dblog_stores.specs.declared.error.CommandError.TheVariants.{OutputFailed, Memory, Failed, NotStarted, NotAStore, BadEntry}
use Rattle.dblog_stores.specs.declared.error.Store.TheVariants.{Topics, Offsets}
use Rattle.dblog_stores.specs.declared.listing.Listing.{Listing}
use Rattle.dblog_stores.specs.declared.listing.Listing.TheVariants.{Rows, KeptRecords}
use Rattle.dblog_stores.specs.Answers.{AppliesNot, HasNoOffset, IsNoLog, PrintsConsumer, PrintsKept, PrintsListing, RefusesGroup, first_refused, no_log, no_offset, offset_lines, refused, topic_lines}
use Rattle.dblog_stores.specs.Laws.{ListingAnswersOnce, OffsetsAnswerOnce, StoresAreReadOnce, TopicsAnswerOnce}

pub stores_once : StoresAreReadOnce
stores_once topics offsets first second a b =
    let groups = one_log topics first.groups second.groups a.log b.log in
    let offset = one_store offsets first.offset second.offset a.store b.store in
    λ i. record { groups = groups i; offset = offset i }

-- ---- why bytes are no topic log

data NoLog (bytes : List ℕ) (error : CommandError) : Type 0 where
  no_journal : (at : ℕ) → error ≡ NotAStore Topics at → IsFaultAt bytes at → NoLog bytes error
  bad_entry : (index : ℕ) → error ≡ BadEntry Topics index → HasBadEntry bytes index → NoLog bytes error

no_log_is : (bytes : List ℕ) (error : CommandError) → IsNoLog bytes error → NoLog bytes error
no_log_is bytes OutputFailed why = absurd why
no_log_is bytes Memory why = absurd why
no_log_is bytes (Failed store) why = absurd why
no_log_is bytes NotStarted why = absurd why
no_log_is bytes (NotAStore Topics at) why = no_journal at refl why
no_log_is bytes (NotAStore Offsets at) why = absurd why
no_log_is bytes (BadEntry Topics index) why = bad_entry index refl why
no_log_is bytes (BadEntry Offsets index) why = absurd why

log_not : (bytes : List ℕ) (groups : List (List Record)) (error : CommandError) → IsLog bytes groups → NoLog bytes error → ⊥
log_not bytes groups error log (no_journal at is fault) = logs.not_faulty bytes groups at log fault
log_not bytes groups error log (bad_entry index is bad) = logs.not_bad bytes groups index log bad

one_no_log : (bytes : List ℕ) (first second : CommandError) → NoLog bytes first → NoLog bytes second → first ≡ second
one_no_log bytes first second (no_journal at is fault) (no_journal at' is' fault') = is ∙ ap (λ n. NotAStore Topics n) (one_fault bytes at at' fault fault') ∙ sym is'
one_no_log bytes first second (no_journal at is fault) (bad_entry index is' bad) = absurd (logs.one_cause bytes index at bad fault)
one_no_log bytes first second (bad_entry index is bad) (no_journal at is' fault) = absurd (logs.one_cause bytes index at bad fault)
one_no_log bytes first second (bad_entry index is bad) (bad_entry index' is' bad') = is ∙ ap (λ n. BadEntry Topics n) (logs.one_entry bytes index index' bad bad') ∙ sym is'

pub topics_once : TopicsAnswerOnce
topics_once bytes (Ok lines) (Ok others) a b = ap (λ ls. Ok ls) (a.2 ∙ ap topic_lines (one_log bytes a.0 b.0 a.1 b.1) ∙ sym b.2)
topics_once bytes (Ok lines) (Err error) a b = absurd (log_not bytes a.0 error a.1 (no_log_is bytes error b))
topics_once bytes (Err error) (Ok lines) a b = absurd (log_not bytes b.0 error b.1 (no_log_is bytes error a))
topics_once bytes (Err error) (Err other) a b = ap (λ e. Err e) (one_no_log bytes error other (no_log_is bytes error a) (no_log_is bytes other b))

-- ---- why bytes hold no offset

data NoOffset (bytes : List ℕ) (error : CommandError) : Type 0 where
  no_store : (at : ℕ) → error ≡ NotAStore Offsets at → IsNoStoreAt bytes at → NoOffset bytes error
  bad_offset : (index : ℕ) → error ≡ BadEntry Offsets index → HasBadOffset bytes index → NoOffset bytes error
  none_stored : error ≡ NotStarted → IsStore bytes None → NoOffset bytes error

no_offset_is : (bytes : List ℕ) (error : CommandError) → HasNoOffset bytes error → NoOffset bytes error
no_offset_is bytes OutputFailed why = absurd why
no_offset_is bytes Memory why = absurd why
no_offset_is bytes (Failed store) why = absurd why
no_offset_is bytes NotStarted why = none_stored refl why
no_offset_is bytes (NotAStore Topics at) why = absurd why
no_offset_is bytes (NotAStore Offsets at) why = no_store at refl why
no_offset_is bytes (BadEntry Topics index) why = absurd why
no_offset_is bytes (BadEntry Offsets index) why = bad_offset index refl why

none_some : (offset : Offset) → None ≡ Some offset → ⊥
none_some offset e = cc

offset_not : (bytes : List ℕ) (offset : Offset) (error : CommandError) → IsStore bytes (Some offset) → NoOffset bytes error → ⊥
offset_not bytes offset error store (no_store at is fault) = no_fault bytes (Some offset) at store fault
offset_not bytes offset error store (bad_offset index is bad) = no_bad_offset bytes (Some offset) index store bad
offset_not bytes offset error store (none_stored is none) = none_some offset (one_store bytes None (Some offset) none store)

one_no_offset : (bytes : List ℕ) (first second : CommandError) → NoOffset bytes first → NoOffset bytes second → first ≡ second
one_no_offset bytes first second (no_store at is fault) (no_store at' is' fault') = is ∙ ap (λ n. NotAStore Offsets n) (one_no_store bytes at at' fault fault')
    ∙ sym is'
one_no_offset bytes first second (no_store at is fault) (bad_offset index is' bad) = absurd (not_both bytes at index fault bad)
one_no_offset bytes first second (no_store at is fault) (none_stored is' none) = absurd (no_fault bytes None at none fault)
one_no_offset bytes first second (bad_offset index is bad) (no_store at is' fault) = absurd (not_both bytes at index fault bad)
one_no_offset bytes first second (bad_offset index is bad) (bad_offset index' is' bad') = is ∙ ap (λ n. BadEntry Offsets n) (one_bad_offset bytes index index' bad bad') ∙ sym is'
one_no_offset bytes first second (bad_offset index is bad) (none_stored is' none) = absurd (no_bad_offset bytes None index none bad)
one_no_offset bytes first second (none_stored is none) (no_store at is' fault) = absurd (no_fault bytes None at none fault)
one_no_offset bytes first second (none_stored is none) (bad_offset index is' bad) = absurd (no_bad_offset bytes None index none bad)
one_no_offset bytes first second (none_stored is none) (none_stored is' none') = is ∙ sym is'

some_one : (a b : Offset) → Some a ≡ Some b → a ≡ b
some_one a b e = cc

one_offset : (bytes : List ℕ) (a b : Offset) → IsStore bytes (Some a) → IsStore bytes (Some b) → a ≡ b
one_offset bytes a b first second = some_one a b (one_store bytes (Some a) (Some b) first second)

pub offsets_once : OffsetsAnswerOnce
offsets_once bytes (Ok lines) (Ok others) a b = ap (λ ls. Ok ls) (a.2 ∙ ap offset_lines (one_offset bytes a.0 b.0 a.1 b.1) ∙ sym b.2)
offsets_once bytes (Ok lines) (Err error) a b = absurd (offset_not bytes a.0 error a.1 (no_offset_is bytes error b))
offsets_once bytes (Err error) (Ok lines) a b = absurd (offset_not bytes b.0 error b.1 (no_offset_is bytes error a))
offsets_once bytes (Err error) (Err other) a b = ap (λ e. Err e) (one_no_offset bytes error other (no_offset_is bytes error a) (no_offset_is bytes other b))

-- ---- `apply`

some_number : (m n : ℕ) → Some m ≡ Some n → m ≡ n
some_number m n e = cc

none_number : (n : ℕ) → None ≡ Some n → ⊥
none_number n e = cc

module _ (topics offsets : List ℕ) where
  -- the first group that is refused, of stores that are read in two ways
  same_first : (groups others : List (List Record)) (offset other : Offset) → IsLog topics groups → IsLog topics others → IsStore offsets (Some offset) → IsStore offsets (Some other)
      → first_refused offset.identity.placeholder groups ≡ first_refused other.identity.placeholder others
  same_first groups others offset other log log' store store' =
      let same = one_log topics groups others log log' in
      let one = one_offset offsets offset other store store' in
      ap (λ gs. first_refused offset.identity.placeholder gs) same ∙ ap (λ (o : Offset). first_refused o.identity.placeholder others) one

  one_refused : (first second : CommandError) → RefusesGroup topics offsets first → RefusesGroup topics offsets second → first ≡ second
  one_refused first second a b =
      let index = some_number a.index b.index (sym a.first ∙ same_first a.groups b.groups a.offset b.offset a.read.log b.read.log a.read.store b.read.store ∙ b.first) in
      a.error_is ∙ ap (λ n. BadEntry Topics n) index ∙ sym b.error_is

  one_not : (first second : CommandError) → AppliesNot topics offsets first → AppliesNot topics offsets second → first ≡ second
  one_not first second (no_log a) (no_log b) = one_no_log topics first second (no_log_is topics first a) (no_log_is topics second b)
  one_not first second (no_log a) (no_offset groups log b) = absurd (log_not topics groups first log (no_log_is topics first a))
  one_not first second (no_log a) (refused b) = absurd (log_not topics b.groups first b.read.log (no_log_is topics first a))
  one_not first second (no_offset groups log a) (no_log b) = absurd (log_not topics groups second log (no_log_is topics second b))
  one_not first second (no_offset groups log a) (no_offset groups' log' b) = one_no_offset offsets first second (no_offset_is offsets first a) (no_offset_is offsets second b)
  one_not first second (no_offset groups log a) (refused b) = absurd (offset_not offsets b.offset first b.read.store (no_offset_is offsets first a))
  one_not first second (refused a) (no_log b) = absurd (log_not topics a.groups second a.read.log (no_log_is topics second b))
  one_not first second (refused a) (no_offset groups log b) = absurd (offset_not offsets a.offset second a.read.store (no_offset_is offsets second b))
  one_not first second (refused a) (refused b) = one_refused first second a b

  prints_not : (groups others : List (List Record)) (offset other : Offset) → IsLog topics groups → IsLog topics others → IsStore offsets (Some offset)
      → IsStore offsets (Some other) → first_refused offset.identity.placeholder groups ≡ None
      → (index : ℕ) → first_refused other.identity.placeholder others ≡ Some index → ⊥
  prints_not groups others offset other log log' store store' none index some =
      none_number index (sym none ∙ same_first groups others offset other log log' store store' ∙ some)

  lists_not : (groups : List (List Record)) (offset : Offset) → IsLog topics groups → IsStore offsets (Some offset)
      → first_refused offset.identity.placeholder groups ≡ None → (error : CommandError) → AppliesNot topics offsets error → ⊥
  lists_not groups offset log store none error (no_log b) = log_not topics groups error log (no_log_is topics error b)
  lists_not groups offset log store none error (no_offset groups' log' b) = offset_not offsets offset error store (no_offset_is offsets error b)
  lists_not groups offset log store none error (refused b) = prints_not groups b.groups offset b.offset log b.read.log store b.read.store none b.index b.first

  listing_not : (listing : Listing) (lines : List (List ℕ)) (error : CommandError) → PrintsListing listing topics offsets lines
      → AppliesNot topics offsets error → ⊥
  listing_not Rows lines error a b = lists_not a.groups a.offset a.read.log a.read.store a.taken error b
  listing_not KeptRecords lines error a b = lists_not a.groups a.offset a.read.log a.read.store a.taken error b

  one_prints : (lines others : List (List ℕ)) → PrintsConsumer topics offsets lines → PrintsConsumer topics offsets others → lines ≡ others
  one_prints lines others a b =
      let same = one_log topics a.groups b.groups a.read.log b.read.log in
      let one = one_offset offsets a.offset b.offset a.read.store b.read.store in
      let here = subst (λ gs. AreRowsOf (consumer a.offset.identity.placeholder (map as_line (joined gs))) a.rows) same a.are in
      let there = subst (λ (o : Offset). AreRowsOf (consumer o.identity.placeholder (map as_line (joined b.groups))) a.rows) one here in
      a.lines_are ∙ ap (map row_line) (rows_are_one _ a.rows b.rows there b.are) ∙ sym b.lines_are

  one_kept : (lines others : List (List ℕ)) → PrintsKept topics offsets lines → PrintsKept topics offsets others → lines ≡ others
  one_kept lines others a b =
      let same = one_log topics a.groups b.groups a.read.log b.read.log in
      let one = one_offset offsets a.offset b.offset a.read.store b.read.store in
      a.lines_are ∙ ap (λ (gs : List (List Record)). map line_of (kept a.offset.identity.placeholder (joined gs))) same
      ∙ ap (λ (o : Offset). map line_of (kept o.identity.placeholder (joined b.groups))) one ∙ sym b.lines_are

  one_listing : (listing : Listing) (lines others : List (List ℕ)) → PrintsListing listing topics offsets lines → PrintsListing listing topics offsets others
      → lines ≡ others
  one_listing Rows lines others a b = one_prints lines others a b
  one_listing KeptRecords lines others a b = one_kept lines others a b

pub listings_once : ListingAnswersOnce
listings_once listing topics offsets (Ok lines) (Ok others) a b = ap (λ ls. Ok ls) (one_listing topics offsets listing lines others a b)
listings_once listing topics offsets (Ok lines) (Err error) a b = absurd (listing_not topics offsets listing lines error a b)
listings_once listing topics offsets (Err error) (Ok lines) a b = absurd (listing_not topics offsets listing lines error b a)
listings_once listing topics offsets (Err error) (Err other) a b = ap (λ e. Err e) (one_not topics offsets error other a b)

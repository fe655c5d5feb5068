-- Each command has an answer, for any bytes of the disks.
use Rattle.std.proofs.Common.{◌≡◌, ◌∙◌, ◌⊎◌, ℕ, zero, suc, ◌+◌, ◌^◌, ◌<◌, ◌≤◌, Option, Some, None, Ok, Err, List, [], ◌∷◌, ◌++◌, map, length, take, drop, get_or, refl, sym, ap, subst, arith, append_assoc, inl, inr, length-append, length-drop, take-append-drop}
use Rattle.std.specs.Prelude.{slice_get}
use Rattle.std.specs.Int.{from_be_bytes, to_be_bytes, w32}
use Rattle.std.specs.List.{All, AllByRecursion, flat_map}
use Rattle.std.proofs.lemmas.Bool.{cases_eq, cases_lt}
use Rattle.std.proofs.lemmas.List.{length-take-le, take-take, take_at, take_more}
use Rattle.std.proofs.lemmas.List.Elements.{All-cons, All-nil}
use Rattle.std.proofs.lemmas.Nat.{be_bytes_4, from_be_bytes-to_be_bytes_4}
use Rattle.dbl_record.specs.declared.record.Record.{Record}
use Rattle.dbl_record.specs.Cuts.{joined}
use Rattle.dbl_record.specs.Groups.{IsGroup}
use Rattle.dbl_record.specs.Line.{line_of}
use Rattle.dbl_record.specs.Reading.{as_line}
use Rattle.dbl_record.specs.Acts.{reading_of}
use Rattle.dbl_record.proofs.FieldLaws.{IsBytes}
use Rattle.dbl_record.proofs.GroupLaws.{either, not_both, one_group}
use Rattle.dbl_consume.specs.Printing.{row_line}
use Rattle.dbl_compact.specs.Kept.{kept}
use Rattle.dbl_consume.proofs.StandLemmas.{rows_stand}
use Rattle.dbl_journal.specs.Form.{HasBadMagic, HasNoBody, IsBroken, IsClosed, IsEntry, IsFaultAt, IsJournal, body, frame, up_to_gate, magic}
use Rattle.dbl_journal.proofs.Appends.{length-body, length-magic}
use Rattle.dbl_journal.proofs.Scans.{differs_at, has_magic}
use Rattle.dbl_topic.specs.Logs.{AreLogEntries, IsLog, IsLogEntry}
use Rattle.dbl_pgmsg.specs.Faults.{AreBytes}
use Rattle.dbl_offset_content.specs.declared.offset.Offset.{Offset}
use Rattle.dbl_offset.specs.Stores.{IsStore}
use Rattle.dbl_offset.proofs.StoreLaws.{store_or_not}
use Rattle.dblog_stores.specs.declared.error.CommandError.{CommandError}
use Rattle.dblog_stores.specs.declared.error.CommandError.TheVariants.{NotStarted, NotAStore, BadEntry}
use Rattle.dblog_stores.specs.declared.error.Store.TheVariants.{Topics, Offsets}
use Rattle.dblog_stores.specs.declared.listing.Listing.{Listing}
use Rattle.dblog_stores.specs.declared.listing.Listing.TheVariants.{Rows, KeptRecords}
use Rattle.dblog_stores.specs.Stores.{ReadAsStores}
use Rattle.dblog_stores.specs.Answers.{LinesAnswer, AnswersListing, PrintsListing, HasNoOffset, IsNoLog, first_refused, no_log, no_offset, offset_lines, refused, topic_lines}
use Rattle.dblog_stores.specs.Laws.{ListingAnswersStand, OffsetsAnswersStand, TopicsAnswersStand}

-- ---- bytes

all_right : (xs ys : List ℕ) → AreBytes (xs ++ ys) → AreBytes ys
all_right [] ys all = all
all_right (x ∷ xs) ys all = all_right xs ys all.1

all_left : (xs ys : List ℕ) → AreBytes (xs ++ ys) → AreBytes xs
all_left [] ys all = tt
all_left (x ∷ xs) ys all = (all.0, all_left xs ys all.1)

are_bytes : (bytes : List ℕ) → AreBytes bytes → IsBytes bytes
are_bytes [] all i = omega arith
are_bytes (b ∷ bytes) all zero = all.0
are_bytes (b ∷ bytes) all (suc i) = are_bytes bytes all.1 i

take_bytes : (n : ℕ) (bytes : List ℕ) → AreBytes bytes → AreBytes (take n bytes)
take_bytes zero bytes all = tt
take_bytes (suc n) [] all = tt
take_bytes (suc n) (b ∷ bytes) all = (all.0, take_bytes n bytes all.1)

-- ---- an entry, or none

-- the bytes begin with an entry
record HasBody (bytes : List ℕ) : Type 0 where
  entry : List ℕ
  rest : List ℕ
  short : IsEntry entry
  spelled : bytes ≡ body entry ++ rest

entry_long : (bytes entry rest : List ℕ) → bytes ≡ body entry ++ rest → length bytes ≡ 4 + length entry + length rest
entry_long bytes entry rest is = omega (arith, ap length is, length-append (body entry) rest, length-body entry)

told_long : (bytes entry rest : List ℕ) → IsEntry entry → bytes ≡ body entry ++ rest → from_be_bytes w32 (take 4 bytes) ≡ length entry
unfolding body
told_long bytes entry rest short is =
    let quad : List ℕ = to_be_bytes w32 (length entry) in
    ap (λ bs. from_be_bytes w32 (take 4 bs)) (is ∙ append_assoc quad entry rest) ∙ ap (from_be_bytes w32) (take_at quad (entry ++ rest) 4 refl) ∙ from_be_bytes-to_be_bytes_4 (length entry) (omega arith)

whole_body : (bytes : List ℕ) (n : ℕ) → AreBytes bytes → n ≡ from_be_bytes w32 (take 4 bytes) → n ≤ 2 ^ 28 → n + 4 ≤ length bytes → HasBody bytes
unfolding body
whole_body bytes n fit is short enough =
    let entry : List ℕ = take n (drop 4 bytes) in
    let long : length entry ≡ n = length-take-le n (drop 4 bytes) (omega (arith, length-drop 4 bytes)) in
    let quad : to_be_bytes w32 n ≡ take 4 bytes = be_bytes_4 (take 4 bytes) n (length-take-le 4 bytes (omega arith)) (are_bytes (take 4 bytes) (take_bytes 4 bytes fit)) is in
    let parts : bytes ≡ take 4 bytes ++ (entry ++ drop n (drop 4 bytes)) = sym (take-append-drop 4 bytes) ∙ ap (λ bs. take 4 bytes ++ bs) (sym (take-append-drop n (drop 4 bytes))) in
    record {
      entry = entry;
      rest = drop n (drop 4 bytes);
      short = omega (arith, long);
      spelled =
          parts ∙ ap (λ q. q ++ (entry ++ drop n (drop 4 bytes))) (sym quad) ∙ sym (append_assoc (to_be_bytes w32 n) entry (drop n (drop 4 bytes)))
          ∙ ap (λ m. (to_be_bytes w32 m ++ entry) ++ drop n (drop 4 bytes)) (sym long);
    }

body_or_none : (bytes : List ℕ) → AreBytes bytes → HasBody bytes ⊎ HasNoBody bytes
body_or_none bytes fit =
    let n : ℕ = from_be_bytes w32 (take 4 bytes) in
    elim (cases_lt (2 ^ 28) n) [
      | inl much ↦ inr (λ entry rest short is. omega (arith, much, told_long bytes entry rest short is, short))
      | inr fine ↦ elim (cases_lt (length bytes) (n + 4)) [
        | inl cut ↦ inr (λ entry rest short is. omega (arith, cut, told_long bytes entry rest short is, entry_long bytes entry rest is))
        | inr enough ↦ inl (whole_body bytes n fit refl fine enough)
      ]
    ]

-- ---- entries, and what is after them

record Walk (bytes : List ℕ) (End : List ℕ → Type 0) : Type 0 where
  entries : List (List ℕ)
  rest : List ℕ
  each : All IsEntry entries
  spelled : bytes ≡ flat_map frame entries ++ rest
  ends : End rest

walk_on : (bytes : List ℕ) (gate : ℕ) (End : List ℕ → Type 0) → gate ≡ 1 → (b : HasBody bytes) → Walk b.rest End → Walk (gate ∷ bytes) End
walk_on bytes gate End is b w = record {
  entries = b.entry ∷ w.entries;
  rest = w.rest;
  each = All-cons IsEntry b.entry w.entries b.short w.each;
  spelled =
      ap (λ g. g ∷ bytes) is ∙ ap (λ bs. 1 ∷ bs) (b.spelled ∙ ap (λ bs. body b.entry ++ bs) w.spelled ∙ sym (append_assoc (body b.entry) (flat_map frame w.entries) w.rest));
  ends = w.ends;
}

walk : (n : ℕ) (bytes : List ℕ) → AreBytes bytes → length bytes ≤ n → Walk bytes IsClosed ⊎ Walk bytes IsBroken
walk n [] fit few = inr (record { entries = []; rest = []; each = All-nil IsEntry; spelled = refl; ends = tt })
walk zero (gate ∷ bytes) fit few = absurd (omega (arith, few))
walk (suc n) (gate ∷ bytes) fit few =
    elim (cases_eq gate 1) [
      | inr other ↦ inl (record { entries = []; rest = gate ∷ bytes; each = All-nil IsEntry; spelled = refl; ends = other })
      | inl one ↦ elim (body_or_none bytes fit.1) [
        | inr none ↦ inr (record { entries = []; rest = gate ∷ bytes; each = All-nil IsEntry; spelled = refl; ends = (one, none) })
        | inl b ↦ elim (walk n b.rest (all_right (body b.entry) b.rest (subst AreBytes b.spelled fit.1)) (omega (arith, few, entry_long bytes b.entry b.rest b.spelled))) [
          | inl w ↦ inl (walk_on bytes gate IsClosed one b w)
          | inr w ↦ inr (walk_on bytes gate IsBroken one b w)
        ]
      ]
    ]

-- ---- the magic

magic_or_bad : (k n : ℕ) (bytes : List ℕ) → k + n ≡ 8 → take k bytes ≡ take k magic → ((at : ℕ) × HasBadMagic bytes at) ⊎ (take 8 bytes ≡ take 8 magic)
magic_or_bad k zero bytes all same = let is : k ≡ 8 = omega arith in inr (subst (λ m. take m bytes ≡ take m magic) is same)
magic_or_bad k (suc n) bytes all same =
    let below : k < 8 = omega arith in
    elim (cases_lt k (length bytes)) [
      | inr end ↦ inl (k, record { within = below; same = same; differs = differs_at bytes k below (inl end) })
      | inl there ↦ elim (cases_eq (get_or bytes k 0) (get_or magic k 0)) [
        | inr other ↦ inl (k, record { within = below; same = same; differs = differs_at bytes k below (inr other) })
        | inl equal ↦ magic_or_bad (k + 1) n bytes (omega arith)
            (take_more bytes k 0 there ∙ ap (λ bs. bs ++ get_or bytes k 0 ∷ []) same ∙ ap (λ b. take k magic ++ b ∷ []) equal ∙ sym (take_more magic k 0 (omega (arith, length-magic))))
      ]
    ]

journal_stands : (bytes : List ℕ) → AreBytes bytes → ((entries : List (List ℕ)) × IsJournal bytes entries) ⊎ ((at : ℕ) × IsFaultAt bytes at)
unfolding up_to_gate
journal_stands bytes fit =
    elim (magic_or_bad 0 8 bytes refl refl) [
      | inl bad ↦ inr (bad.0, inl bad.1)
      | inr same ↦ (
          let is : bytes ≡ magic ++ drop 8 bytes = has_magic bytes (take 8 bytes) refl (take-take 8 8 bytes (omega arith) ∙ same) in
          elim (walk (length (drop 8 bytes)) (drop 8 bytes) (all_right magic (drop 8 bytes) (subst AreBytes is fit)) (omega arith)) [
            | inl w ↦ inl (w.entries, record { rest = w.rest; spelled = is ∙ ap (λ bs. magic ++ bs) w.spelled ∙ sym (append_assoc magic (flat_map frame w.entries) w.rest); closed = w.ends; each = w.each })
            | inr w ↦ inr (
              length (up_to_gate w.entries),
              inr (record { entries = w.entries; rest = w.rest; spelled = is ∙ ap (λ bs. magic ++ bs) w.spelled ∙ sym (append_assoc magic (flat_map frame w.entries) w.rest); each = w.each; place = refl; broken = w.ends }),
            )
          ]
          )
    ]

-- each entry of a journal is made of its bytes
entries_fit : (entries : List (List ℕ)) (rest : List ℕ) → AreBytes (flat_map frame entries ++ rest) → AllByRecursion AreBytes entries
unfolding body
entries_fit [] rest fit = tt
entries_fit (entry ∷ entries) rest fit =
    let parts = subst AreBytes (append_assoc (frame entry) (flat_map frame entries) rest) fit in
    (all_right (to_be_bytes w32 (length entry)) entry (all_left (frame entry) (flat_map frame entries ++ rest) parts).1, entries_fit entries rest (all_right (frame entry) (flat_map frame entries ++ rest) parts))

journal_fits : (bytes : List ℕ) (entries : List (List ℕ)) → AreBytes bytes → IsJournal bytes entries → AllByRecursion AreBytes entries
unfolding up_to_gate
journal_fits bytes entries fit journal =
    entries_fit entries journal.rest (all_right magic (flat_map frame entries ++ journal.rest) (subst AreBytes (journal.spelled ∙ append_assoc magic (flat_map frame entries) journal.rest) fit))

-- ---- topics

-- the first entry that is no group
record FirstBad (entries : List (List ℕ)) : Type 0 where
  index : ℕ
  before : List (List Record)
  are : AreLogEntries (take index entries) before
  entry : List ℕ
  there : slice_get entries index ≡ Some entry
  bad : (group : List Record) → ¬ IsLogEntry entry group

counted : (entry : List ℕ) (group : List Record) → AreBytes entry → IsGroup entry group → IsLogEntry entry group ⊎ ((other : List Record) → ¬ IsLogEntry entry other)
counted entry group fit is =
    elim (cases_lt 0 (length group)) [
      | inr none ↦ inr (λ other log. omega (arith, none, log.some, ap length (one_group entry group other is log.is)))
      | inl some ↦ elim (cases_lt 1000 (length group)) [
        | inl much ↦ inr (λ other log. omega (arith, much, log.few, ap length (one_group entry group other is log.is)))
        | inr few ↦ inl (record { is = is; some = some; few = few })
      ]
    ]

entry_or_bad : (entry : List ℕ) → AreBytes entry → ((group : List Record) × IsLogEntry entry group) ⊎ ((group : List Record) → ¬ IsLogEntry entry group)
entry_or_bad entry fit =
    elim (either entry fit) [
      | inr bad ↦ inr (λ group log. not_both entry group bad.0 log.is bad.1)
      | inl found ↦ elim (counted entry found.0 fit found.1) [
        | inl log ↦ inl (found.0, log)
        | inr none ↦ inr none
      ]
    ]

groups_or_bad : (entries : List (List ℕ)) → AllByRecursion AreBytes entries → ((groups : List (List Record)) × AreLogEntries entries groups) ⊎ FirstBad entries
groups_or_bad [] fit = inl ([], tt)
groups_or_bad (entry ∷ entries) fit =
    elim (entry_or_bad entry fit.0) [
      | inr none ↦ inr (record { index = 0; before = []; are = tt; entry = entry; there = refl; bad = none })
      | inl found ↦ elim (groups_or_bad entries fit.1) [
        | inl rest ↦ inl (found.0 ∷ rest.0, (found.1, rest.1))
        | inr bad ↦ inr (record { index = suc bad.index; before = found.0 ∷ bad.before; are = (found.1, bad.are); entry = bad.entry; there = bad.there; bad = bad.bad })
      ]
    ]

-- bytes are a topic log, or an error tells why not
log_stands : (bytes : List ℕ) → AreBytes bytes → ((groups : List (List Record)) × IsLog bytes groups) ⊎ ((error : CommandError) × IsNoLog bytes error)
log_stands bytes fit =
    elim (journal_stands bytes fit) [
      | inr fault ↦ inr (NotAStore Topics fault.0, fault.1)
      | inl found ↦ elim (groups_or_bad found.0 (journal_fits bytes found.0 fit found.1)) [
        | inl groups ↦ inl (groups.0, record { entries = found.0; journal = found.1; are = groups.1 })
        | inr bad ↦ inr (BadEntry Topics bad.index, record { entries = found.0; journal = found.1; before = bad.before; are = bad.are; entry = bad.entry; there = bad.there; bad = bad.bad })
      ]
    ]

pub topics_stand : TopicsAnswersStand
topics_stand bytes fit =
    elim (log_stands bytes fit) [
      | inl log ↦ (Ok (topic_lines log.0), (log.0, log.1, refl))
      | inr none ↦ (Err none.0, none.1)
    ]

-- ---- offsets

stored_or_not : (bytes : List ℕ) (offset : Option Offset) → IsStore bytes offset → ((stored : Offset) × IsStore bytes (Some stored))
    ⊎ ((error : CommandError) × HasNoOffset bytes error)
stored_or_not bytes None store = inr (NotStarted, store)
stored_or_not bytes (Some offset) store = inl (offset, store)

-- bytes hold an offset, or an error tells why not
offset_stands : (bytes : List ℕ) → AreBytes bytes → ((offset : Offset) × IsStore bytes (Some offset)) ⊎ ((error : CommandError) × HasNoOffset bytes error)
offset_stands bytes fit =
    elim (store_or_not bytes (are_bytes bytes fit)) [
      | inl found ↦ stored_or_not bytes found.0 found.1
      | inr fault ↦ elim fault [
        | inl none ↦ inr (NotAStore Offsets none.0, none.1)
        | inr bad ↦ inr (BadEntry Offsets bad.0, bad.1)
      ]
    ]

pub offsets_stand : OffsetsAnswersStand
offsets_stand bytes fit =
    elim (offset_stands bytes fit) [
      | inl stored ↦ (Ok (offset_lines stored.0), (stored.0, stored.1, refl))
      | inr none ↦ (Err none.0, none.1)
    ]

-- ---- `apply` and `compact`

listing_stands : (listing : Listing) (topics stored : List ℕ) (groups : List (List Record)) (offset : Offset)
    → ReadAsStores topics stored (record { groups = groups; offset = Some offset }) → first_refused offset.identity.placeholder groups ≡ None
    → (lines : List (List ℕ)) × PrintsListing listing topics stored lines
listing_stands Rows topics stored groups offset read none =
    let rows = rows_stand offset.identity.placeholder (map reading_of (map as_line (joined groups))) in
    (map row_line rows.0, record { groups = groups; offset = offset; read = read; taken = none; rows = rows.0; are = rows.1; lines_are = refl })
listing_stands KeptRecords topics stored groups offset read none =
    (map line_of (kept offset.identity.placeholder (joined groups)), record { groups = groups; offset = offset; read = read; taken = none; lines_are = refl })

listed : (listing : Listing) (topics stored : List ℕ) (groups : List (List Record)) (offset : Offset) → IsLog topics groups → IsStore stored (Some offset)
    → (first : Option ℕ) → first_refused offset.identity.placeholder groups ≡ first → (answer : LinesAnswer) × AnswersListing listing topics stored answer
listed listing topics stored groups offset log store (Some index) is = (
  Err (BadEntry Topics index),
  refused (record { groups = groups; offset = offset; read = record { log = log; store = store }; index = index; first = is; error_is = refl }),
)
listed listing topics stored groups offset log store None is =
    let found = listing_stands listing topics stored groups offset (record { log = log; store = store }) is in (Ok found.0, found.1)

pub listings_stand : ListingAnswersStand
listings_stand listing topics stored fit other =
    elim (log_stands topics fit) [
      | inr none ↦ (Err none.0, no_log none.1)
      | inl log ↦ elim (offset_stands stored other) [
        | inr none ↦ (Err none.0, no_offset log.0 log.1 none.1)
        | inl found ↦ listed listing topics stored log.0 found.0 log.1 found.1 (first_refused found.0.identity.placeholder log.0) refl
      ]
    ]

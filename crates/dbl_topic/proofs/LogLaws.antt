-- Topic logs are read in one way.
use Rattle.std.proofs.Common.{◌≡◌, ℕ, zero, suc, ◌+◌, ◌<◌, List, [], ◌∷◌, ◌++◌, length, take, Some, refl, sym, ap, subst, ◌∙◌, arith, inl, inr}
use Rattle.std.specs.Prelude.{map, slice_get}
use Rattle.std.proofs.lemmas.Bool.{cases_lt}
use Rattle.dbl_record.specs.declared.record.Record.{Record}
use Rattle.dbl_record.specs.Cuts.{joined}
use Rattle.dbl_record.specs.Groups.{group_form}
use Rattle.dbl_journal.specs.Form.{IsFaultAt}
use Rattle.dbl_journal.specs.Stored.{size}
use Rattle.dbl_journal.proofs.Reading.{one_journal, journal_or_fault}
use Rattle.dbl_record.proofs.GroupLaws.{one_group}
use Rattle.dbl_topic.specs.SinkLaws.{one_log}
use Rattle.dbl_topic.specs.Logs.{IsLogEntry, AreLogEntries, IsLog, HoldRecords, HasBadEntry, log_size}

-- the entries are the forms of the groups
pub forms_of : (entries : List (List ℕ)) (groups : List (List Record)) → AreLogEntries entries groups → entries ≡ map group_form groups
forms_of [] [] are = refl
forms_of [] (g ∷ groups) are = absurd are
forms_of (e ∷ entries) [] are = absurd are
forms_of (e ∷ entries) (g ∷ groups) are = ap (λ (x : List ℕ). x ∷ entries) are.0.is.spelled ∙ ap (λ (es : List (List ℕ)). group_form g ∷ es) (forms_of entries groups are.1)

pub length-entries : (entries : List (List ℕ)) (groups : List (List Record)) → AreLogEntries entries groups → length entries ≡ length groups
length-entries [] [] are = refl
length-entries [] (g ∷ groups) are = absurd are
length-entries (entry ∷ entries) [] are = absurd are
length-entries (entry ∷ entries) (g ∷ groups) are = ap suc (length-entries entries groups are.1)

pub entries-push : (entries : List (List ℕ)) (groups : List (List Record)) (entry : List ℕ) (group : List Record) → AreLogEntries entries groups → IsLogEntry entry group → AreLogEntries (entries ++ entry ∷ []) (groups ++ group ∷ [])
entries-push [] [] entry group are is = (is, tt)
entries-push [] (g ∷ groups) entry group are is = absurd are
entries-push (e ∷ entries) [] entry group are is = absurd are
entries-push (e ∷ entries) (g ∷ groups) entry group are is = (are.0, entries-push entries groups entry group are.1 is)

-- how many bytes are taken where this group is put after the others
pub size_of : (entries : List (List ℕ)) (groups : List (List Record)) (entry : List ℕ) (group : List Record) → AreLogEntries entries groups → IsLogEntry entry group → size (entries ++ entry ∷ []) ≡ log_size (groups ++ group ∷ [])
size_of entries groups entry group are is = ap size (forms_of (entries ++ entry ∷ []) (groups ++ group ∷ []) (entries-push entries groups entry group are is))

-- the entry at a number is that of the group at the number
pub entry_at : (entries : List (List ℕ)) (groups : List (List Record)) (number : ℕ) (entry : List ℕ) → AreLogEntries entries groups → slice_get entries number ≡ Some entry → (group : List Record) × (slice_get groups number ≡ Some group) × IsLogEntry entry group
entry_at [] groups number entry are there = absurd (let e = there in cc)
entry_at (e ∷ entries) [] number entry are there = absurd are
entry_at (e ∷ entries) (g ∷ groups) zero entry are there = (g, refl, subst (λ (x : List ℕ). IsLogEntry x g) (let h = there in cc) are.0)
entry_at (e ∷ entries) (g ∷ groups) (suc number) entry are there = entry_at entries groups number entry are.1 there

pub one_records : (bytes : List ℕ) (first second : List Record) → HoldRecords bytes first → HoldRecords bytes second → first ≡ second
one_records bytes first second a b = a.2 ∙ ap joined (one_log bytes a.0 b.0 a.1 b.1) ∙ sym b.2

pub not_bad : (bytes : List ℕ) (groups : List (List Record)) (index : ℕ) → IsLog bytes groups → HasBadEntry bytes index → ⊥
not_bad bytes groups index log bad =
    let same = one_journal bytes bad.entries log.entries bad.journal log.journal in
    let here = entry_at log.entries groups index bad.entry log.are (subst (λ (es : List (List ℕ)). slice_get es index ≡ Some bad.entry) same bad.there) in
    bad.bad here.0 here.2

pub not_faulty : (bytes : List ℕ) (groups : List (List Record)) (at : ℕ) → IsLog bytes groups → IsFaultAt bytes at → ⊥
not_faulty bytes groups at log fault = journal_or_fault bytes log.entries at log.journal fault

pub one_cause : (bytes : List ℕ) (index at : ℕ) → HasBadEntry bytes index → IsFaultAt bytes at → ⊥
one_cause bytes index at bad fault = journal_or_fault bytes bad.entries at bad.journal fault

-- what stands at a number is among the first entries, where they are more
slice_get-take : (entries : List (List ℕ)) (number more : ℕ) (entry : List ℕ) → number < more → slice_get entries number ≡ Some entry → slice_get (take more entries) number ≡ Some entry
slice_get-take [] number more entry lt there = absurd (let e = there in cc)
slice_get-take (e ∷ entries) number zero entry lt there = absurd (omega arith)
slice_get-take (e ∷ entries) zero (suc more) entry lt there = there
slice_get-take (e ∷ entries) (suc number) (suc more) entry lt there = slice_get-take entries number more entry (omega arith) there

not_before : (bytes : List ℕ) (first second : ℕ) → HasBadEntry bytes first → HasBadEntry bytes second → first < second → ⊥
not_before bytes first second a b lt =
    let same = one_journal bytes a.entries b.entries a.journal b.journal in
    let there = slice_get-take b.entries first second a.entry lt (subst (λ (es : List (List ℕ)). slice_get es first ≡ Some a.entry) same a.there) in
    let here = entry_at (take second b.entries) b.before first a.entry b.are there in
    a.bad here.0 here.2

pub one_entry : (bytes : List ℕ) (first second : ℕ) → HasBadEntry bytes first → HasBadEntry bytes second → first ≡ second
one_entry bytes first second a b =
    elim (cases_lt first second) [
      | inl lt ↦ absurd (not_before bytes first second a b lt)
      | inr le ↦ elim (cases_lt second first) [ inl lt ↦ absurd (not_before bytes second first b a lt) | inr ge ↦ omega arith ]
    ]

-- a group that is read from an entry is the group at its number
pub same_at : (entries : List (List ℕ)) (groups : List (List Record)) (number : ℕ) (entry : List ℕ) (group : List Record) → AreLogEntries entries groups → slice_get entries number ≡ Some entry → IsLogEntry entry group → slice_get groups number ≡ Some group
same_at entries groups number entry group are there is =
    let here = entry_at entries groups number entry are there in
    here.1 ∙ ap (λ (g : List Record). Some g) (one_group entry here.0 group here.2.is is.is)

take_more : (entries : List (List ℕ)) (number : ℕ) (entry : List ℕ) → slice_get entries number ≡ Some entry → take (number + 1) entries ≡ take number entries ++ entry ∷ []
take_more [] number entry there = absurd (let e = there in cc)
take_more (e ∷ entries) zero entry there = let same : e ≡ entry = (let h = there in cc) in ap (λ (x : List ℕ). x ∷ []) same
take_more (e ∷ entries) (suc number) entry there =
    let k : suc number + 1 ≡ suc (number + 1) = omega arith in
    ap (λ (n : ℕ). take n (e ∷ entries)) k ∙ ap (λ (es : List (List ℕ)). e ∷ es) (take_more entries number entry there)

-- one more entry of a topic log
pub entries_more : (entries : List (List ℕ)) (groups : List (List Record)) (number : ℕ) (entry : List ℕ) (group : List Record) → AreLogEntries (take number entries) groups → slice_get entries number ≡ Some entry → IsLogEntry entry group → AreLogEntries (take (number + 1) entries) (groups ++ group ∷ [])
entries_more entries groups number entry group are there is =
    subst (λ (es : List (List ℕ)). AreLogEntries es (groups ++ group ∷ [])) (sym (take_more entries number entry there)) (entries-push (take number entries) groups entry group are is)

-- What is read of a line, and what it does.
use Rattle.std.proofs.Common.{◌≡◌, ◌∙◌, ◌≤◌, ℕ, List, true, false, is_some, Option, Some, Ordering, Less, Equal, Greater, nat_cmp, unwrap_or, option_map, option_and_then, refl, sym, ap, ap₂, subst, arith, codes}
use Rattle.std.specs.Ordering.{match_ordering}
use Rattle.std.specs.Cmp.Lexicographic.{slice_cmp}
use Rattle.serde_json.specs.Data.{Data, null, boolean, number, string, array, object, Members, no_members, member, depth, members_depth}
use Rattle.serde_json.specs.Find.{get_member, as_null}
use Rattle.serde_json.specs.Read.{read}
use Rattle.serde_json.specs.Written.{has_float}
use Rattle.dbl_record.specs.declared.reading.Line.{Line}
use Rattle.dbl_record.specs.Line.{text_or_null}
use Rattle.dbl_record.specs.Laws.{IsTextOf}
use Rattle.dbl_record.specs.Acts.{json_in}
use Rattle.dbl_record.specs.Reading.{topic_in, part_in, told_by, Retells, LinesTellRecords, LinesReadOnce, RecordsTellData}
use Rattle.dbl_record.proofs.Back.{read-compact_text}

abbrev depth_or : Option Data → ℕ
depth_or found = depth (unwrap_or found null)

choice : (o : Ordering) (d : Data) (rest : Option Data) (n : ℕ) → depth d ≤ n → depth_or rest ≤ n → depth_or (match_ordering o rest (Some d) rest) ≤ n
choice Less d rest n here there = there
choice Equal d rest n here there = here
choice Greater d rest n here there = there

member_depth : (name : List ℕ) (ms : Members) (n : ℕ) → members_depth ms ≤ n → depth_or (get_member name ms) ≤ n
member_depth name no_members n h = omega arith
member_depth name (member other d ms) n h = choice (slice_cmp nat_cmp name other) d (get_member name ms) n (omega (arith, h)) (member_depth name ms n (omega (arith, h)))

-- a member nests no deeper than its object
pub part_depth : (name : List ℕ) (d : Data) (n : ℕ) → depth d ≤ n → depth (part_in name d) ≤ n
part_depth name null n h = omega arith
part_depth name (boolean b) n h = omega arith
part_depth name (number x) n h = omega arith
part_depth name (string s) n h = omega arith
part_depth name (array ds) n h = omega arith
part_depth name (object ms) n h = member_depth name ms n (omega (arith, h))

-- one text is read as one whole
same_whole : (text : List ℕ) (d e : Data) → json_in text ≡ Some d → json_in text ≡ Some e → d ≡ e
same_whole text d e p q = let same : Some d ≡ Some e = sym p ∙ q in cc

pub lines_tell_records : LinesTellRecords
lines_tell_records text line h =
    ap (option_and_then (λ whole. option_map (told_by whole) (topic_in whole))) h.is_read
    ∙ ap (option_map (told_by h.whole)) h.topic_is
    ∙ ap₂ (λ key value. Some (record { topic = line.topic; key = key; value = value })) (sym h.key_is.reads) (sym h.value_is.reads)

same_topic : (a b : List ℕ) (o : Option (List ℕ)) → o ≡ Some a → o ≡ Some b → a ≡ b
same_topic a b o p q = let same : Some a ≡ Some b = sym p ∙ q in cc

same_text : (name : List ℕ) (d e f : Data) (a b : List ℕ) → e ≡ d → f ≡ d → has_float (part_in name d) ≡ false → Retells (part_in name e) a → Retells (part_in name f) b → a ≡ b
same_text name d e f a b e_is f_is flat p q =
    let p' : Retells (part_in name d) a = subst (λ w. Retells (part_in name w) a) e_is p in
    let q' : Retells (part_in name d) b = subst (λ w. Retells (part_in name w) b) f_is q in
    p'.compact flat ∙ sym (q'.compact flat)

same_line : (a b : Line) → a.topic ≡ b.topic → a.key ≡ b.key → a.value ≡ b.value → a ≡ b
same_line a b topics keys values i = record { topic = topics i; key = keys i; value = values i }

pub lines_read_once : LinesReadOnce
lines_read_once text whole a b is_read key_flat value_flat p q =
    let first = same_whole text p.whole whole p.is_read is_read in
    let second = same_whole text q.whole whole q.is_read is_read in
    same_line a b
    (same_topic a.topic b.topic (topic_in whole) (subst (λ w. topic_in w ≡ Some a.topic) first p.topic_is) (subst (λ w. topic_in w ≡ Some b.topic) second q.topic_is))
    (same_text (codes "key") whole p.whole q.whole a.key b.key first second key_flat p.key_is q.key_is)
    (same_text (codes "value") whole p.whole q.whole a.value b.value first second value_flat p.value_is q.value_is)

pub json_in-text : (deep : ℕ) (text : List ℕ) (d : Data) → deep ≤ 127 → IsTextOf deep text d → json_in text ≡ Some d
unfolding json_in
json_in-text deep text d bound h = let shallow = h.shallow in ap read h.compact ∙ read-compact_text d h.whole (omega arith)

pub records_tell_data : RecordsTellData
records_tell_data item key value k v =
    ap₂ (λ a b. record { topic = item.topic; key = a; value = b }) (json_in-text 127 (text_or_null item.key) key (omega arith) k) (json_in-text 127 (text_or_null item.value) value (omega arith) v)

pub null_is : (d : Data) → is_some (as_null d) ≡ true → d ≡ null
null_is null e = refl
null_is (boolean b) e = absurd (cc)
null_is (number x) e = absurd (cc)
null_is (string s) e = absurd (cc)
null_is (array ds) e = absurd (cc)
null_is (object ms) e = absurd (cc)

-- Lines are compact text, and so they are read back.
use Rattle.std.proofs.Common.{◌≡◌, ◌∙◌, ℕ, ◌<◌, ◌≤◌, ◌^◌, List, [], ◌∷◌, ◌++◌, Bool, true, false, Option, Some, None, IfSome, map, refl, ap, ap₂, append_assoc, codes, decimal, arith}
use Rattle.std.specs.List.{join_with_byte}
use Rattle.json.specs.Print.{quoted}
use Rattle.serde_json.specs.Data.{Data, boolean, number, unsigned, string, object, Members, no_members, member, members_depth}
use Rattle.serde_json.specs.Read.{read}
use Rattle.serde_json.specs.Written.{compact_text, members_text}
use Rattle.dbl_record.specs.declared.record.Record.{Record}
use Rattle.dbl_record.specs.Line.{Part, part_text, object_text, key_header, truth_text, text_or_null, headers_of, line_of}
use Rattle.dbl_record.specs.Whole.{MembersAreWhole}
use Rattle.dbl_record.specs.Laws.{IsDataText, LinesReadBack}
use Rattle.dbl_record.proofs.Back.{read-compact_text}

-- the members with their compact texts
abbrev parts_of : Members → List Part
parts_of no_members = []
parts_of (member name d ms) = (name, compact_text d) ∷ parts_of ms

last_part : (n c t e : List ℕ) → ((n ++ c) ++ t) ++ e ≡ n ++ (c ++ (t ++ e))
last_part n c t e = simp append_assoc

more_parts : (n c t s more e all : List ℕ) → more ++ e ≡ all → (((n ++ c) ++ t) ++ (s ++ more)) ++ e ≡ n ++ (c ++ (t ++ (s ++ all)))
more_parts n c t s more e all is = simp append_assoc (ap (λ x. n ++ (c ++ (t ++ (s ++ x)))) is)

parts_text : (name : List ℕ) (d : Data) (ms : Members)
    → join_with_byte 44 (part_text (name, compact_text d) ∷ map part_text (parts_of ms)) ++ codes "}" ≡ quoted name ++ 58 ∷ (compact_text d ++ members_text true ms)
parts_text name d no_members = last_part (quoted name) (codes ":") (compact_text d) (codes "}")
parts_text name d (member other e ms) =
    more_parts (quoted name) (codes ":") (compact_text d) (codes ",") (join_with_byte 44 (part_text (other, compact_text e) ∷ map part_text (parts_of ms))) (codes "}")
    (quoted other ++ 58 ∷ (compact_text e ++ members_text true ms)) (parts_text other e ms)

-- an object's text is its compact text
compact_object : (ms : Members) → object_text (parts_of ms) ≡ compact_text (object ms)
compact_object no_members = refl
compact_object (member name d ms) = ap (λ t. 123 ∷ t) (parts_text name d ms)

truth_is : (b : Bool) → truth_text b ≡ compact_text (boolean b)
truth_is true = refl
truth_is false = refl

abbrev place_members : Bool → ℕ → ℕ → Members
place_members last ordinal position =
    member (codes "dblog.last") (boolean last) (member (codes "dblog.ordinal") (number (unsigned ordinal)) (member (codes "dblog.position") (number (unsigned position)) no_members))

abbrev place_parts : Bool → ℕ → ℕ → List Part
place_parts last ordinal position = (codes "dblog.last", truth_text last) ∷ (codes "dblog.ordinal", decimal ordinal) ∷ (codes "dblog.position", decimal position) ∷ []

place_parts_are : (last : Bool) (ordinal position : ℕ) → place_parts last ordinal position ≡ parts_of (place_members last ordinal position)
place_parts_are last ordinal position = ap (λ t. (codes "dblog.last", t) ∷ (codes "dblog.ordinal", decimal ordinal) ∷ (codes "dblog.position", decimal position) ∷ []) (truth_is last)

place_whole : (last : Bool) (ordinal position : ℕ) → ordinal < 2 ^ 64 → position < 2 ^ 64 → MembersAreWhole (place_members last ordinal position)
place_whole last ordinal position o p = (tt, (refl, (refl, tt)), (o, (refl, tt), (p, tt, tt)))

-- the headers' parts are those of whole members
record AreHeaders (parts : List Part) : Type 0 where
  headers : Members
  parts_are : parts ≡ parts_of headers
  whole : MembersAreWhole headers
  shallow : members_depth headers ≤ 125

headers_found : (newkey oldkey : Option (List ℕ)) (last : Bool) (ordinal position : ℕ) → IfSome newkey (IsDataText 125) → IfSome oldkey (IsDataText 125) → ordinal < 2 ^ 64 → position < 2 ^ 64
    → AreHeaders ((key_header (codes "__debezium.newkey") newkey ++ key_header (codes "__debezium.oldkey") oldkey) ++ place_parts last ordinal position)
headers_found None None last ordinal position n o fits fits' = record {
  headers = place_members last ordinal position;
  parts_are = place_parts_are last ordinal position;
  whole = place_whole last ordinal position fits fits';
  shallow = omega arith;
}
headers_found None (Some b) last ordinal position n o fits fits' = let shallow = o.1.shallow in record {
  headers = member (codes "__debezium.oldkey") o.0 (place_members last ordinal position);
  parts_are = ap₂ (λ t ps. (codes "__debezium.oldkey", t) ∷ ps) o.1.compact (place_parts_are last ordinal position);
  whole = (o.1.whole, (refl, (refl, (refl, tt))), place_whole last ordinal position fits fits');
  shallow = omega arith;
}
headers_found (Some a) None last ordinal position n o fits fits' = let shallow = n.1.shallow in record {
  headers = member (codes "__debezium.newkey") n.0 (place_members last ordinal position);
  parts_are = ap₂ (λ t ps. (codes "__debezium.newkey", t) ∷ ps) n.1.compact (place_parts_are last ordinal position);
  whole = (n.1.whole, (refl, (refl, (refl, tt))), place_whole last ordinal position fits fits');
  shallow = omega arith;
}
headers_found (Some a) (Some b) last ordinal position n o fits fits' = let shallow = n.1.shallow in let shallow' = o.1.shallow in record {
  headers = member (codes "__debezium.newkey") n.0 (member (codes "__debezium.oldkey") o.0 (place_members last ordinal position));
  parts_are = ap₂ (λ t ps. (codes "__debezium.newkey", t) ∷ ps) n.1.compact (ap₂ (λ t ps. (codes "__debezium.oldkey", t) ∷ ps) o.1.compact (place_parts_are last ordinal position));
  whole = (n.1.whole, (refl, (refl, (refl, (refl, tt)))), (o.1.whole, (refl, (refl, (refl, tt))), place_whole last ordinal position fits fits'));
  shallow = omega arith;
}

abbrev line_members : Members → Data → List ℕ → Data → Members
line_members headers key topic value = member (codes "headers") (object headers) (member (codes "key") key (member (codes "topic") (string topic) (member (codes "value") value no_members)))

-- a line of texts is the compact text of their data
line_compact : (item : Record) (headers : Members) (key value : Data) → headers_of item ≡ parts_of headers → text_or_null item.key ≡ compact_text key → text_or_null item.value ≡ compact_text value
    → line_of item ≡ compact_text (object (line_members headers key item.topic value))
unfolding line_of
line_compact item headers key value are key_is value_is =
    let headers_text = ap object_text are ∙ compact_object headers in
    ap₂ (λ h k. object_text ((codes "headers", h) ∷ (codes "key", k) ∷ (codes "topic", quoted item.topic) ∷ (codes "value", text_or_null item.value) ∷ [])) headers_text key_is
    ∙ ap (λ v. object_text ((codes "headers", compact_text (object headers)) ∷ (codes "key", compact_text key) ∷ (codes "topic", quoted item.topic) ∷ (codes "value", v) ∷ [])) value_is
    ∙ compact_object (line_members headers key item.topic value)

pub lines_read_back : LinesReadBack
lines_read_back item key value h =
    let found = headers_found item.newkey item.oldkey item.last item.ordinal item.position h.newkey_is h.oldkey_is h.ordinal_fits h.position_fits in
    let whole = object (line_members found.headers key item.topic value) in
    record {
      whole = whole;
      is_read =
          ap read (line_compact item found.headers key value found.parts_are h.key_is.compact h.value_is.compact)
          ∙ read-compact_text whole (found.whole, (refl, (refl, (refl, tt))), (h.key_is.whole, (refl, (refl, tt)), (tt, (refl, tt), (h.value_is.whole, tt, tt)))) (omega arith);
      topic_is = refl;
      key_is = refl;
      value_is = refl;
    }

-- Pieces appended one after another are the line form.
use Rattle.std.proofs.Common.{◌≡◌, ◌∙◌, ℕ, List, [], ◌∷◌, ◌++◌, Option, Some, None, ap, append_assoc, codes, decimal}
use Rattle.std.proofs.lemmas.Str.{IsUtf8-append}
use Rattle.json.specs.Print.{quoted}
use Rattle.serde_json.proofs.OnLiterals.{serde_json_on_literals}
use Rattle.dbl_record.specs.declared.record.Record.{Record}
use Rattle.dbl_record.specs.Line.{Part, object_text, key_header, key_piece, truth_text, text_or_null, headers_of, line_of, Appends, place_pieces, headers_pieces, head_pieces, tail_pieces}

-- two pieces, one after the other
pub both : {a b c x y : List ℕ} → Appends a b x → Appends b c y → Appends a c (x ++ y)
both {a} {b} {c} {x} {y} p q = record {
  items = q.items ∙ ap (λ t. t ++ y) p.items ∙ append_assoc a x y;
  utf8 = IsUtf8-append x y p.utf8 q.utf8;
}

-- the headers as they are appended, `o` and `e` the brackets, `k` and `j` the keys after their names, and as an object
no_key : (o l m u q r p e : List ℕ) → ((o ++ []) ++ []) ++ ((((l ++ m) ++ (u ++ q)) ++ (r ++ p)) ++ e) ≡ (o ++ ((l ++ m) ++ ((u ++ q) ++ (r ++ p)))) ++ e
no_key o l m u q r p e = simp append_assoc

newkey_alone : (o n k s l m u q r p e : List ℕ) → ((o ++ ((n ++ k) ++ s)) ++ []) ++ ((((l ++ m) ++ (u ++ q)) ++ (r ++ p)) ++ e) ≡ (o ++ ((n ++ k) ++ (s ++ ((l ++ m) ++ ((u ++ q) ++ (r ++ p)))))) ++ e
newkey_alone o n k s l m u q r p e = simp append_assoc

oldkey_alone : (o n k s l m u q r p e : List ℕ) → ((o ++ []) ++ ((n ++ k) ++ s)) ++ ((((l ++ m) ++ (u ++ q)) ++ (r ++ p)) ++ e) ≡ (o ++ ((n ++ k) ++ (s ++ ((l ++ m) ++ ((u ++ q) ++ (r ++ p)))))) ++ e
oldkey_alone o n k s l m u q r p e = simp append_assoc

both_keys : (o n k i j s l m u q r p e : List ℕ)
    → ((o ++ ((n ++ k) ++ s)) ++ ((i ++ j) ++ s)) ++ ((((l ++ m) ++ (u ++ q)) ++ (r ++ p)) ++ e)
    ≡ (o ++ ((n ++ k) ++ (s ++ ((i ++ j) ++ (s ++ ((l ++ m) ++ ((u ++ q) ++ (r ++ p)))))))) ++ e
both_keys o n k i j s l m u q r p e = simp append_assoc

abbrev place_headers : List ℕ → List ℕ → List ℕ → List Part
place_headers last ordinal position = (codes "dblog.last", last) ∷ (codes "dblog.ordinal", ordinal) ∷ (codes "dblog.position", position) ∷ []

headers_are : (newkey oldkey : Option (List ℕ)) (last ordinal position : List ℕ)
    → codes "{" ++ key_piece (codes "\"__debezium.newkey\":") newkey ++ key_piece (codes "\"__debezium.oldkey\":") oldkey
    ++ ((((codes "\"dblog.last\":" ++ last) ++ (codes ",\"dblog.ordinal\":" ++ ordinal)) ++ (codes ",\"dblog.position\":" ++ position)) ++ codes "}")
    ≡ object_text ((key_header (codes "__debezium.newkey") newkey ++ key_header (codes "__debezium.oldkey") oldkey) ++ place_headers last ordinal position)
unfolding serde_json_on_literals
headers_are None None last ordinal position = no_key (codes "{") (codes "\"dblog.last\":") last (codes ",\"dblog.ordinal\":") ordinal (codes ",\"dblog.position\":") position (codes "}")
headers_are (Some a) None last ordinal position = newkey_alone (codes "{") (codes "\"__debezium.newkey\":") a (codes ",") (codes "\"dblog.last\":") last (codes ",\"dblog.ordinal\":") ordinal (codes ",\"dblog.position\":") position (codes "}")
headers_are None (Some b) last ordinal position = oldkey_alone (codes "{") (codes "\"__debezium.oldkey\":") b (codes ",") (codes "\"dblog.last\":") last (codes ",\"dblog.ordinal\":") ordinal (codes ",\"dblog.position\":") position (codes "}")
headers_are (Some a) (Some b) last ordinal position = both_keys (codes "{") (codes "\"__debezium.newkey\":") a (codes "\"__debezium.oldkey\":") b (codes ",") (codes "\"dblog.last\":") last (codes ",\"dblog.ordinal\":") ordinal (codes ",\"dblog.position\":") position (codes "}")

line_grouped : (a h b k d q e v f : List ℕ) → (((((a ++ h) ++ b) ++ k) ++ d) ++ q) ++ ((e ++ v) ++ f) ≡ (a ++ (h ++ (b ++ (k ++ (d ++ (q ++ (e ++ v))))))) ++ f
line_grouped a h b k d q e v f = simp append_assoc

headers_whole : (item : Record) → headers_pieces item ≡ object_text (headers_of item)
unfolding headers_pieces place_pieces
headers_whole item = headers_are item.newkey item.oldkey (truth_text item.last) (decimal item.ordinal) (decimal item.position)

pub line_whole : (item : Record) → (head_pieces item ++ quoted item.topic) ++ tail_pieces item ≡ line_of item
unfolding head_pieces tail_pieces line_of serde_json_on_literals
line_whole item =
    ap (λ h. (((((codes "{\"headers\":" ++ h) ++ codes ",\"key\":") ++ text_or_null item.key) ++ codes ",\"topic\":") ++ quoted item.topic) ++ ((codes ",\"value\":" ++ text_or_null item.value) ++ codes "}")) (headers_whole item)
    ∙ line_grouped (codes "{\"headers\":") (object_text (headers_of item)) (codes ",\"key\":") (text_or_null item.key) (codes ",\"topic\":") (quoted item.topic) (codes ",\"value\":") (text_or_null item.value) (codes "}")

-- The data of a JSON value that borrows its text are those that serde_json parses, and its members are found in them.
use Rattle.std.proofs.Common.{◌≡◌, ◌∙◌, ◌==◌, ℕ, suc, ◌+◌, ◌≤◌, ◌⊎◌, ⊎_elim, inr, List, [], ◌∷◌, ◌++◌, length, length-append, append-nil, slice_index, drop, Bool, true, false, true≢false, ◌&&◌, cond, bytes_eq, Option, Some, None, IsSome, MatchOption, is_some, unwrap_or, option_map, option_and_then, refl, sym, ap, ap₂, subst, arith}
use Rattle.std.proofs.lemmas.Slice.Eq.{bytes_eq-Decides}
use Rattle.fast_float.specs.Text.{scan}
use Rattle.json.specs.Token.{Token}
use Rattle.json.specs.Lex.{tokens}
use Rattle.json.specs.Json as json
use Rattle.json.specs.Find as found
use Rattle.json.specs.Tree.{json_tokens, items_tokens, members_tokens, depth, items_depth, members_depth}
use Rattle.json.proofs.Nesting.{value-depth}
use Rattle.json.proofs.Printed.Trees.{value-json_tokens}
use Rattle.json.proofs.Unique.Spelling.{value-json_tokens_back, tokens-document}
use Rattle.serde_json.specs.Data.{Num, unsigned, Data, null, boolean, number, string, array, object, Items, no_items, item, Members, no_members, member, put}
use Rattle.serde_json.specs.Find.{get, get_member, as_null, as_str, as_object}
use Rattle.serde_json.specs.Read.{number_of, number_from, of_json, of_items, of_members}
use Rattle.serde_json.proofs.Views.{get_member-put, get_member-put_other}
use Rattle.dbl_record.specs.Acts.{json_in}
use Rattle.dbl_consume.specs.JsonValues.{num_in, put_all, data_of, data_items, data_members, json_at, data_at, is_in_range, items_are_in_range, members_are_in_range, token_is_in_range, tokens_are_in_range, opened_by, opened_in}
use Rattle.dbl_consume.specs.Cells.{is_nested}
use Rattle.dbl_consume.specs.Parts.{IsShallow}

-- ---- numbers

pub negative_text : (s : List ℕ) → (slice_index s 0 == 45) ≡ true → number_of s ≡ number_from true (scan (drop 1 s))
unfolding number_of
negative_text s e = rw e

pub positive_text : (s : List ℕ) → (slice_index s 0 == 45) ≡ false → number_of s ≡ number_from false (scan s)
unfolding number_of
positive_text s e = rw e

-- ---- the data of a value whose numbers are within range

numbered : (o : Option Num) → option_map number o ≡ cond (is_some o) (Some (number (unwrap_or o (unsigned 0)))) None
numbered None = refl
numbered (Some n) = refl

mapped : {A B : Type 0} (f : A → B) (b : Bool) (a : A) → option_map f (cond b (Some a) None) ≡ cond b (Some (f a)) None
mapped f true a = refl
mapped f false a = refl

both : (a b : Bool) (d : Data) (ds : Items) → option_and_then (λ e. option_map (item e) (cond b (Some ds) None)) (cond a (Some d) None) ≡ cond (a && b) (Some (item d ds)) None
both true true d ds = refl
both true false d ds = refl
both false b d ds = refl

then_members : (a b : Bool) (d : Data) (f : Data → Option Members) (ms : Members) → f d ≡ cond b (Some ms) None → option_and_then f (cond a (Some d) None) ≡ cond (a && b) (Some ms) None
then_members true b d f ms e = e
then_members false b d f ms e = refl

mutual
  pub of_json-data_of : (j : json.Json) → of_json j ≡ cond (is_in_range j) (Some (data_of j)) None
  of_json-data_of json.null = refl
  of_json-data_of (json.boolean b) = refl
  of_json-data_of (json.number s) = numbered (number_of s)
  of_json-data_of (json.string s) = refl
  of_json-data_of (json.array js) = ap (option_map array) (of_items-data_items js) ∙ mapped array (items_are_in_range js) (data_items js)
  of_json-data_of (json.object ms) = ap (option_map object) (of_members-put_all ms no_members) ∙ mapped object (members_are_in_range ms) (put_all (data_members ms) no_members)

  of_items-data_items : (js : json.Items) → of_items js ≡ cond (items_are_in_range js) (Some (data_items js)) None
  of_items-data_items json.no_items = refl
  of_items-data_items (json.item j js) =
      ap₂ (λ o p. option_and_then (λ d. option_map (item d) p) o) (of_json-data_of j) (of_items-data_items js) ∙ both (is_in_range j) (items_are_in_range js) (data_of j) (data_items js)

  of_members-put_all : (ms : json.Members) (earlier : Members) → of_members ms earlier ≡ cond (members_are_in_range ms) (Some (put_all (data_members ms) earlier)) None
  of_members-put_all json.no_members earlier = refl
  of_members-put_all (json.member k j ms) earlier =
      ap (option_and_then (λ d. of_members ms (put k d earlier))) (of_json-data_of j)
      ∙ then_members (is_in_range j) (members_are_in_range ms) (data_of j) (λ d. of_members ms (put k d earlier)) (put_all (data_members ms) (put k (data_of j) earlier))
      (of_members-put_all ms (put k (data_of j) earlier))

-- ---- the tokens of a value

and_assoc : (a b c : Bool) → (a && b) && c ≡ a && (b && c)
and_assoc true b c = refl
and_assoc false b c = refl

in_range-append : (ts us : List Token) → tokens_are_in_range (ts ++ us) ≡ (tokens_are_in_range ts && tokens_are_in_range us)
in_range-append [] us = refl
in_range-append (t ∷ ts) us = ap (λ b. token_is_in_range t && b) (in_range-append ts us) ∙ sym (and_assoc (token_is_in_range t) (tokens_are_in_range ts) (tokens_are_in_range us))

and_true : (b : Bool) → (b && true) ≡ b
and_true true = refl
and_true false = refl

mutual
  pub in_range-json_tokens : (j : json.Json) → tokens_are_in_range (json_tokens j) ≡ is_in_range j
  in_range-json_tokens json.null = refl
  in_range-json_tokens (json.boolean b) = refl
  in_range-json_tokens (json.number s) = and_true (is_some (number_of s))
  in_range-json_tokens (json.string s) = refl
  in_range-json_tokens (json.array js) = in_range-items_tokens js
  in_range-json_tokens (json.object ms) = in_range-members_tokens ms

  in_range-items_tokens : (js : json.Items) → tokens_are_in_range (items_tokens js) ≡ items_are_in_range js
  in_range-items_tokens json.no_items = refl
  in_range-items_tokens (json.item j js) = in_range-append (json_tokens j) (items_tokens js) ∙ ap₂ (λ a b. a && b) (in_range-json_tokens j) (in_range-items_tokens js)

  in_range-members_tokens : (ms : json.Members) → tokens_are_in_range (members_tokens ms) ≡ members_are_in_range ms
  in_range-members_tokens json.no_members = refl
  in_range-members_tokens (json.member k j ms) = in_range-append (json_tokens j) (members_tokens ms) ∙ ap₂ (λ a b. a && b) (in_range-json_tokens j) (in_range-members_tokens ms)

opened-append : (ts us : List Token) → opened_in (ts ++ us) ≡ opened_in ts + opened_in us
opened-append [] us = omega arith
opened-append (t ∷ ts) us = omega (arith, opened-append ts us)

-- a value nests no deeper than arrays and objects begin in it
mutual
  pub depth-opened : (j : json.Json) → depth j ≤ opened_in (json_tokens j)
  depth-opened json.null = omega arith
  depth-opened (json.boolean b) = omega arith
  depth-opened (json.number s) = omega arith
  depth-opened (json.string s) = omega arith
  depth-opened (json.array js) = omega (arith, items_depth-opened js)
  depth-opened (json.object ms) = omega (arith, members_depth-opened ms)

  items_depth-opened : (js : json.Items) → items_depth js ≤ opened_in (items_tokens js)
  items_depth-opened json.no_items = omega arith
  items_depth-opened (json.item j js) = omega (arith, depth-opened j, items_depth-opened js, opened-append (json_tokens j) (items_tokens js))

  members_depth-opened : (ms : json.Members) → members_depth ms ≤ opened_in (members_tokens ms)
  members_depth-opened json.no_members = omega arith
  members_depth-opened (json.member k j ms) = omega (arith, depth-opened j, members_depth-opened ms, opened-append (json_tokens j) (members_tokens ms))

opened-length : (ts : List Token) → opened_in ts ≤ length ts
opened-length [] = omega arith
opened-length (t ∷ ts) = omega (arith, opened-length ts, one t)
  where
    one : (t : Token) → opened_by t ≤ 1
    one Token.begin_object = omega arith
    one Token.end_object = omega arith
    one Token.begin_array = omega arith
    one Token.end_array = omega arith
    one (Token.key s) = omega arith
    one (Token.string s) = omega arith
    one (Token.number s) = omega arith
    one (Token.boolean b) = omega arith
    one Token.null = omega arith
    one Token.bad = omega arith

abbrev front : Option (json.Json × List Token) → json.Json
front o = unwrap_or (option_map (λ p. p.0) o) json.null

-- the value at the front of tokens is the one that they begin with
pub json_at-is : (ts : List Token) (j : json.Json) → found.BeginsWith ts j → json_at ts ≡ j
unfolding json_at
json_at-is ts j begins =
    let spelled : ts ≡ json_tokens j ++ begins.1 = value-json_tokens_back begins.0 ts begins.1 j begins.2 in
    let shallow : depth j ≤ length ts
    = omega (arith, depth-opened j, opened-length (json_tokens j), ap length spelled, length-append (json_tokens j) begins.1) in
    let is : json.value (length ts) ts ≡ Some (j, begins.1) = ap (json.value (length ts)) spelled ∙ value-json_tokens j (length ts) begins.1 shallow in
    ap front is

pub data_at-is : (ts : List Token) (j : json.Json) → found.BeginsWith ts j → data_at ts ≡ data_of j
data_at-is ts j begins = ap data_of (json_at-is ts j begins)

-- ---- the data of a text

abbrev last : Option (json.Json × List Token) → Option json.Json
last o = option_and_then (λ p. json.if_last p.0 p.1) o

abbrev whole : Option (json.Json × List Token) → Option Data
whole o = option_and_then of_json (last o)

-- what is read at 127 levels is the document
document_of : (text : List ℕ) (j : json.Json) → json.value 127 (tokens text) ≡ Some (j, []) → json.document text ≡ Some j
document_of text j e =
    let spelled : tokens text ≡ json_tokens j ++ [] = value-json_tokens_back 127 (tokens text) [] j e in
    let shallow : depth j ≤ 127 = value-depth 127 (tokens text) [] j e in
    ap last (ap (json.value 128) spelled ∙ value-json_tokens j 128 [] (omega arith))

one_of : (a b : json.Json) → Some a ≡ Some b → a ≡ b
one_of a b e = cc

nothing_whole : (o : Option (json.Json × List Token)) → ((j : json.Json) → o ≡ Some (j, []) → ⊥) → whole o ≡ None
nothing_whole None never = refl
nothing_whole (Some (j, [])) never = absurd (never j refl)
nothing_whole (Some (j, t ∷ ts)) never = refl

some_whole : (o : Option (json.Json × List Token)) → is_some (whole o) ≡ true → (j : json.Json) × (o ≡ Some (j, []))
some_whole None e = absurd (cc)
some_whole (Some (j, [])) e = (j, refl)
some_whole (Some (j, t ∷ ts)) e = absurd (cc)

different : (j : json.Json) → None ≡ Some j → ⊥
different j e = cc

-- a text that is no document isn't JSON for serde_json either
pub no_document : (text : List ℕ) → json.document text ≡ None → json_in text ≡ None
unfolding json_in
no_document text e = nothing_whole (json.value 127 (tokens text)) (λ j is. different j (sym e ∙ document_of text j is))

shallow_value : (text : List ℕ) (j : json.Json) → json.document text ≡ Some j → IsShallow true text → json.value 127 (tokens text) ≡ Some (j, [])
unfolding json_in
shallow_value text j e shallow =
    let spelled : tokens text ≡ json_tokens j = tokens-document text j e in
    ⊎_elim
    (λ (few : opened_in (tokens text) ≤ 127).
    let deep : depth j ≤ 127 = omega (arith, depth-opened j, ap opened_in spelled) in
    ap (json.value 127) (spelled ∙ sym (append-nil (json_tokens j))) ∙ value-json_tokens j 127 [] deep)
    (λ (some : is_some (json_in text) ≡ true).
    let is = some_whole (json.value 127 (tokens text)) some in
    is.1 ∙ ap (λ i. Some (i, [])) (one_of is.0 j (sym (document_of text is.0 is.1) ∙ e)))
    shallow

-- a document that isn't nested too deep is JSON for serde_json if its numbers are within range
pub shallow_document : (text : List ℕ) (j : json.Json) → json.document text ≡ Some j → IsShallow true text → json_in text ≡ cond (tokens_are_in_range (tokens text)) (Some (data_of j)) None
unfolding json_in
shallow_document text j e shallow =
    ap whole (shallow_value text j e shallow) ∙ of_json-data_of j
    ∙ ap (λ b. cond b (Some (data_of j)) None) (sym (ap tokens_are_in_range (tokens-document text j e) ∙ in_range-json_tokens j))

no_value : (o : Option Data) → false ≡ is_some o → o ≡ None
no_value None e = refl
no_value (Some d) e = absurd (cc)

-- a text that serde_json parses isn't nested too deep, and one that it doesn't parse isn't JSON for it
pub shallow_json : (text : List ℕ) (is : Bool) → is ≡ is_some (json_in text) → IsShallow is text
shallow_json text true e = inr (sym e)
shallow_json text false e = no_value (json_in text) e

pub some_is : {A : Type 0} (o : Option A) → IsSome o → (a : A) × (o ≡ Some a)
some_is None h = absurd (cc)
some_is (Some a) h = (a, refl)

-- ---- members

later_or_earlier : Option Data → Option Data → Option Data
later_or_earlier None earlier = earlier
later_or_earlier (Some d) earlier = Some d

put_found : (b : Bool) (name k : List ℕ) (d : Data) (earlier : Members) → bytes_eq k name ≡ b → get_member name (put k d earlier) ≡ cond b (Some d) (get_member name earlier)
put_found true name k d earlier e = subst (λ n. get_member n (put k d earlier) ≡ Some d) ((bytes_eq-Decides k name).0 e) (get_member-put k d earlier)
put_found false name k d earlier e = get_member-put_other name k d earlier (λ same. true≢false (sym ((bytes_eq-Decides k name).1 (sym same)) ∙ e))

one_member : (b : Bool) (o : Option json.Json) (j : json.Json) (p q : Option Data) → p ≡ cond b (Some (data_of j)) q
    → later_or_earlier (option_map data_of o) p ≡ later_or_earlier (option_map data_of (found.later_or o (cond b (Some j) None))) q
unfolding later_or_earlier
one_member true None j p q e = e
one_member false None j p q e = e
one_member true (Some x) j p q e = refl
one_member false (Some x) j p q e = refl

-- the last of the members with a name has it, else an earlier one
get_member-put_all : (name : List ℕ) (ms : json.Members) (earlier : Members) → get_member name (put_all (data_members ms) earlier) ≡ later_or_earlier (option_map data_of (found.get_member name ms)) (get_member name earlier)
unfolding later_or_earlier
get_member-put_all name json.no_members earlier = refl
get_member-put_all name (json.member k j ms) earlier =
    get_member-put_all name ms (put k (data_of j) earlier)
    ∙ one_member (bytes_eq k name) (found.get_member name ms) j (get_member name (put k (data_of j) earlier)) (get_member name earlier) (put_found (bytes_eq k name) name k (data_of j) earlier refl)

none_earlier : (o : Option Data) → later_or_earlier o None ≡ o
unfolding later_or_earlier
none_earlier None = refl
none_earlier (Some d) = refl

pub get-data_of : (name : List ℕ) (j : json.Json) → get name (data_of j) ≡ option_map data_of (found.get name j)
get-data_of name json.null = refl
get-data_of name (json.boolean b) = refl
get-data_of name (json.number s) = refl
get-data_of name (json.string s) = refl
get-data_of name (json.array js) = refl
get-data_of name (json.object ms) = get_member-put_all name ms no_members ∙ none_earlier (option_map data_of (found.get_member name ms))

pub as_str-data_of : (j : json.Json) → found.as_str j ≡ as_str (data_of j)
as_str-data_of json.null = refl
as_str-data_of (json.boolean b) = refl
as_str-data_of (json.number s) = refl
as_str-data_of (json.string s) = refl
as_str-data_of (json.array js) = refl
as_str-data_of (json.object ms) = refl

pub is_null-data_of : (j : json.Json) → found.is_null j ≡ is_some (as_null (data_of j))
is_null-data_of json.null = refl
is_null-data_of (json.boolean b) = refl
is_null-data_of (json.number s) = refl
is_null-data_of (json.string s) = refl
is_null-data_of (json.array js) = refl
is_null-data_of (json.object ms) = refl

-- ---- kinds

pub kind_null : (j : json.Json) → found.is_null j ≡ true → data_of j ≡ null
kind_null json.null e = refl
kind_null (json.boolean b) e = absurd (cc)
kind_null (json.number s) e = absurd (cc)
kind_null (json.string s) e = absurd (cc)
kind_null (json.array js) e = absurd (cc)
kind_null (json.object ms) e = absurd (cc)

pub kind_truth : (j : json.Json) (b : Bool) → Some b ≡ found.as_bool j → data_of j ≡ boolean b
kind_truth json.null b e = absurd (cc)
kind_truth (json.boolean c) b e = let same : b ≡ c = cc in ap boolean (sym same)
kind_truth (json.number s) b e = absurd (cc)
kind_truth (json.string s) b e = absurd (cc)
kind_truth (json.array js) b e = absurd (cc)
kind_truth (json.object ms) b e = absurd (cc)

pub kind_number : (j : json.Json) (text : List ℕ) → Some text ≡ found.as_number j → data_of j ≡ number (num_in text)
kind_number json.null text e = absurd (cc)
kind_number (json.boolean c) text e = absurd (cc)
kind_number (json.number s) text e = let same : text ≡ s = cc in ap (λ t. number (num_in t)) (sym same)
kind_number (json.string s) text e = absurd (cc)
kind_number (json.array js) text e = absurd (cc)
kind_number (json.object ms) text e = absurd (cc)

pub kind_text : (j : json.Json) (text : List ℕ) → Some text ≡ found.as_str j → data_of j ≡ string text
kind_text json.null text e = absurd (cc)
kind_text (json.boolean c) text e = absurd (cc)
kind_text (json.number s) text e = absurd (cc)
kind_text (json.string s) text e = let same : text ≡ s = cc in ap string (sym same)
kind_text (json.array js) text e = absurd (cc)
kind_text (json.object ms) text e = absurd (cc)

pub kind_nested : (j : json.Json) → found.is_null j ≡ false → None ≡ found.as_bool j → None ≡ found.as_number j → None ≡ found.as_str j → is_nested (data_of j) ≡ true
kind_nested json.null p q r s = absurd (cc)
kind_nested (json.boolean b) p q r s = absurd (cc)
kind_nested (json.number t) p q r s = absurd (cc)
kind_nested (json.string t) p q r s = absurd (cc)
kind_nested (json.array js) p q r s = refl
kind_nested (json.object ms) p q r s = refl

-- ---- members found

-- a member found has the data of that name, and none has none
pub found_data : (r : Option (List Token)) (name : List ℕ) (j : json.Json) → found.Finds r (found.get name j) → option_map data_at r ≡ get name (data_of j)
found_data None name j h = sym (get-data_of name j ∙ ap (option_map data_of) h)
found_data (Some ts) name j h = ap Some (data_at-is ts h.0 h.2) ∙ sym (get-data_of name j ∙ ap (option_map data_of) h.1)

-- an object's members, found or not
pub object_found : (j : json.Json) (ms : json.Members) → j ≡ json.object ms → as_object (data_of j) ≡ Some (put_all (data_members ms) no_members)
object_found j ms is = ap (λ i. as_object (data_of i)) is

pub no_object : (j : json.Json) → found.as_object j ≡ None → as_object (data_of j) ≡ None
no_object json.null e = refl
no_object (json.boolean b) e = refl
no_object (json.number s) e = refl
no_object (json.string s) e = refl
no_object (json.array js) e = refl
no_object (json.object ms) e = absurd (cc)

-- the data of a value whose tokens these are
pub part_data : (element now : List Token) (h : found.HasValue element) → element ≡ now → data_at now ≡ data_of h.0
part_data element now h same = sym (ap data_at same) ∙ data_at-is element h.0 h.1

pub is_object_found : (r : Option (List Token)) (j : json.Json) → MatchOption r (found.as_object j ≡ None) (λ rest. (ms : json.Members) × (j ≡ json.object ms) × found.InMembers rest ms)
    → is_some r ≡ is_some (as_object (data_of j))
is_object_found None j h = sym (ap is_some (no_object j h))
is_object_found (Some rest) j h = sym (ap is_some (object_found j h.0 h.1))

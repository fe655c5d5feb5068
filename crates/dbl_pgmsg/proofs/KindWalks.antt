-- Reading a message finds the fault of its fields, kind by kind.
use Rattle.std.proofs.Common.{◌≡◌, ◌≢◌, ℕ, zero, suc, ◌-◌, ◌^◌, ◌<◌, ◌≤◌, Bool, true, false, cond, eqb, ltb, leb, List, [], ◌∷◌, ◌++◌, length, take, drop, Option, Some, None, Result, Ok, Err, refl, sym, ap, subst, ◌∙◌, append_assoc, arith, inl, inr}
use Rattle.std.specs.Int.{w16, w32, w64, from_be_bytes}
use Rattle.std.specs.List.{AllByRecursion}
use Rattle.std.specs.Prelude.{option_map}
use Rattle.std.specs.Str.{is_utf8}
use Rattle.std.proofs.lemmas.Bool.{cases_lt, lt-ltb, le-ltb}
use Rattle.std.proofs.lemmas.List.{take-append-drop, length-append, length-take, length-drop}
use Rattle.dbl_pgmsg.specs.declared.error.MsgError.{MsgError}
use Rattle.dbl_pgmsg.specs.declared.error.MsgError.TheVariants.{Truncated, NotUtf8, NegativeLength, TooManyColumns}
use Rattle.dbl_pgmsg.specs.declared.messages.Message.TheVariants.{Update, Delete, Truncate}
use Rattle.dbl_pgmsg.specs.declared.messages.Tuple.{Tuple}
use Rattle.dbl_pgmsg.specs.declared.messages.OldTuple.{OldTuple}
use Rattle.dbl_pgmsg.specs.declared.messages.OldTuple.TheVariants.{Key, Whole}
use Rattle.dbl_pgmsg.specs.declared.messages.TupleCell.TheVariants.{Null, Unchanged, Text}
use Rattle.dbl_pgmsg.specs.Grammar.{string}
use Rattle.dbl_pgmsg.specs.Reading.{Read, ◌>>=◌, byte_at, number_at, size_at, count_at, utf8_of, before_zero, string_in, string_at, text_at, many_at, counted_at, cell_at, tuple_at, new_at, column_at, begin_at, commit_at, identity_at, relation_at, insert_at, origin_at, type_name_at, old_at, before_at, update_at, delete_at, truncate_at, content_at, logical_at, message_at}
use Rattle.dbl_pgmsg.specs.Fields.{Field, Tag, Raw, String, Identity, ColumnCount, CellCount, RelationCount, Cell, TextLength, Characters, ContentLength, New, Old, OldOrNew, Int8, Int32, Int64, width, fields_after, form, times, kind_fields, counted, sized, cell_fields, new_fields, old_fields, utf8_fields, IsContent, IsWhole, IsCut}
use Rattle.dbl_pgmsg.proofs.FieldLaws.{before_zero_is}
use Rattle.dbl_pgmsg.proofs.Walks.{Walk, walk_done, walk_next, walk_map, Agrees, agrees_if, walk_whole, walk_cut, walk_number, walk_int, walk_signed, walk_byte, walk_many}

-- a choice, and what follows it
bind_if : {A B : Type 0} (b : Bool) (x y : Read A) (next : A × List ℕ → Read B) → (cond b x y >>= next) ≡ cond b (x >>= next) (y >>= next)
bind_if true x y next = refl
bind_if false x y next = refl

bind_bind : {A B C : Type 0} (r : Read A) (f : A × List ℕ → Read B) (g : B × List ℕ → Read C) → ((r >>= f) >>= g) ≡ (r >>= λ x. f x >>= g)
bind_bind (Ok x) f g = refl
bind_bind (Err e) f g = refl

-- no zero byte ends the text
mapped_none : {A B : Type 0} (f : A → B) (o : Option A) → option_map f o ≡ None → o ≡ None
mapped_none f None e = refl
mapped_none f (Some x) e = absurd cc

all_but_zero : (bytes : List ℕ) → before_zero bytes ≡ None → AllByRecursion (λ b. b ≢ 0) bytes
all_but_zero [] e = tt
all_but_zero (zero ∷ bytes) e = absurd cc
all_but_zero (suc b ∷ bytes) e = (λ z. omega arith, all_but_zero bytes (mapped_none _ (before_zero bytes) e))

module _ (total : ℕ) where
  -- a test that fails stands on both sides
  agrees_guard : {A B : Type 0} (b : Bool) (e : MsgError) (x : Result (List Field) MsgError) (rest : List ℕ) (read : Read A) (next : A × List ℕ → Read B) → Agrees total x rest (read >>= next) → Agrees total (cond b (Err e) x) rest (cond b (Err e) read >>= next)
  agrees_guard true e x rest read next agrees = refl
  agrees_guard false e x rest read next agrees = agrees

  agrees_held : {A : Type 0} (b : Bool) (e : MsgError) (x : Result (List Field) MsgError) (rest : List ℕ) (read : Read A) → Agrees total x rest read → Agrees total (cond b x (Err e)) rest (cond b read (Err e))
  agrees_held true e x rest read agrees = agrees
  agrees_held false e x rest read agrees = refl

  -- ---- texts

  agrees_utf8 : (at : ℕ) (text rest : List ℕ) → length rest ≤ total → Agrees total (utf8_fields at text) rest (utf8_of at text >>= λ t. Ok (t, rest))
  unfolding utf8_fields utf8_of
  agrees_utf8 at text rest le = elim (is_utf8 text) as (λ b. Agrees total (cond b (Ok []) (Err (NotUtf8 at))) rest (cond b (Ok text) (Err (NotUtf8 at)) >>= λ t. Ok (t, rest))) [ true ↦ walk_done total text rest le | false ↦ refl ]

  string_in_walk : (bytes : List ℕ) (o : Option (List ℕ × List ℕ)) → length bytes ≤ total → before_zero bytes ≡ o → Walk total (String ∷ []) bytes (string_in total bytes o)
  unfolding string_in string
  string_in_walk bytes None le is = walk_cut total String bytes le (all_but_zero bytes is)
  string_in_walk bytes (Some x) le is =
      let parts = before_zero_is bytes x is in
      let whole : IsWhole String x.0 x.1 bytes = record { content_fits = parts.1; parts = parts.0 ∙ sym (append_assoc x.0 (0 ∷ []) x.1) } in
      walk_whole total String x.0 x.1 bytes _ le whole (agrees_utf8 (total - length bytes) x.0 x.1 (omega (arith, ap (λ (w : List ℕ). length w) parts.0, length-append x.0 (0 ∷ x.1))))

  string_walk : (bytes : List ℕ) → length bytes ≤ total → Walk total (String ∷ []) bytes (string_at total bytes)
  unfolding string_at
  string_walk bytes le = string_in_walk bytes (before_zero bytes) le refl

  -- ---- lengths and numbers of items

  size_walk : {B : Type 0} (field : Field) (fields : ℕ → List Field) (bytes : List ℕ) (next : ℕ × List ℕ → Read B) → width field ≡ Some 4 → ((at : ℕ) (content : List ℕ) → fields_after field at content ≡ sized at (from_be_bytes w32 content) (fields (from_be_bytes w32 content)))
      → length bytes ≤ total → ((n : ℕ) (rest : List ℕ) → length rest ≤ total → Walk total (fields n) rest (next (n, rest))) → Walk total (field ∷ []) bytes (size_at total bytes >>= next)
  unfolding size_at sized
  size_walk {B = B} field fields bytes next is stands le walks =
      let at = total - length bytes in
      let go : ℕ × List ℕ → Read B = λ n. cond (leb (2 ^ 31) n.0) (Err (NegativeLength at)) (Ok n) >>= next in
      subst (λ (r : Read B). Walk total (field ∷ []) bytes r) (sym (bind_bind (number_at w32 total bytes) _ next))
      (walk_number total field w32 bytes go is le (λ content rest less. subst (λ (x : Result (List Field) MsgError). Agrees total x rest (go (from_be_bytes w32 content, rest))) (sym (stands at content))
      (agrees_guard (leb (2 ^ 31) (from_be_bytes w32 content)) (NegativeLength at) (Ok (fields (from_be_bytes w32 content))) rest (Ok (from_be_bytes w32 content, rest)) next (walks (from_be_bytes w32 content) rest less))))

  count_walk : {B : Type 0} (field : Field) (item : List Field) (bytes : List ℕ) (next : ℕ × List ℕ → Read B) → width field ≡ Some 2 → ((at : ℕ) (content : List ℕ) → fields_after field at content ≡ counted at (from_be_bytes w16 content) item)
      → length bytes ≤ total → ((n : ℕ) (rest : List ℕ) → length rest ≤ total → Walk total (times n item) rest (next (n, rest))) → Walk total (field ∷ []) bytes (count_at total bytes >>= next)
  unfolding count_at counted
  count_walk {B = B} field item bytes next is stands le walks =
      let at = total - length bytes in
      let go : ℕ × List ℕ → Read B = λ n. cond (leb (2 ^ 15) n.0) (Err (NegativeLength at)) (cond (ltb 1600 n.0) (Err (TooManyColumns at)) (Ok n)) >>= next in
      subst (λ (r : Read B). Walk total (field ∷ []) bytes r) (sym (bind_bind (number_at w16 total bytes) _ next))
      (walk_number total field w16 bytes go is le (λ content rest less. subst (λ (x : Result (List Field) MsgError). Agrees total x rest (go (from_be_bytes w16 content, rest))) (sym (stands at content))
      (let n = from_be_bytes w16 content in
      let many : Result (List Field) MsgError = cond (ltb 1600 n) (Err (TooManyColumns at)) (Ok (times n item)) in
      agrees_guard (leb (2 ^ 15) n) (NegativeLength at) many rest (cond (ltb 1600 n) (Err (TooManyColumns at)) (Ok (n, rest))) next
      (agrees_guard (ltb 1600 n) (TooManyColumns at) (Ok (times n item)) rest (Ok (n, rest)) next (walks n rest less)))))

  counted_walk : {A : Type 0} (field : Field) (fields : List Field) (item : List ℕ → Read A) (bytes : List ℕ) → width field ≡ Some 2 → ((at : ℕ) (content : List ℕ) → fields_after field at content ≡ counted at (from_be_bytes w16 content) fields)
      → length bytes ≤ total → ((bytes : List ℕ) → length bytes ≤ total → Walk total fields bytes (item bytes)) → Walk total (field ∷ []) bytes (counted_at item total bytes)
  unfolding counted_at
  counted_walk field fields item bytes is stands le walks = count_walk field fields bytes _ is stands le (λ n rest less. walk_many total fields item walks n rest less)

  -- ---- so many bytes

  part_whole : (field : Field) (n : ℕ) (bytes : List ℕ) → width field ≡ Some n → n ≤ length bytes → IsWhole field (take n bytes) (drop n bytes) bytes
  part_whole field n bytes is long =
      let len : length (take n bytes) ≡ n = omega (arith, length-take n bytes) in
      record {
        content_fits = subst (λ (o : Option ℕ). IsContent o (take n bytes)) (sym is) len;
        parts = subst (λ (o : Option ℕ). bytes ≡ form o (take n bytes) ++ drop n bytes) (sym is) (sym (take-append-drop n bytes));
      }

  characters_walk : (n : ℕ) (bytes : List ℕ) → length bytes ≤ total → Walk total (Characters n ∷ []) bytes (cond (ltb (length bytes) n) (Err (Truncated total)) (utf8_of (total - length bytes) (take n bytes) >>= λ text. Ok (text, drop n bytes)))
  characters_walk n bytes le =
      elim (cases_lt (length bytes) n) [
        | inl lt ↦ rw (lt-ltb _ _ lt) (walk_cut total (Characters n) bytes le lt)
        | inr long ↦ rw (le-ltb _ _ long) (walk_whole total (Characters n) (take n bytes) (drop n bytes) bytes _ le (part_whole (Characters n) n bytes refl long) (agrees_utf8 (total - length bytes) (take n bytes) (drop n bytes) (omega (arith, length-drop n bytes))))
      ]

  raw_walk : (n : ℕ) (bytes : List ℕ) → length bytes ≤ total → Walk total (Raw n ∷ []) bytes (cond (ltb (length bytes) n) (Err (Truncated total)) (Ok (take n bytes, drop n bytes)))
  raw_walk n bytes le =
      elim (cases_lt (length bytes) n) [
        | inl lt ↦ rw (lt-ltb _ _ lt) (walk_cut total (Raw n) bytes le lt)
        | inr long ↦ rw (le-ltb _ _ long) (walk_whole total (Raw n) (take n bytes) (drop n bytes) bytes _ le (part_whole (Raw n) n bytes refl long) (walk_done total (take n bytes) (drop n bytes) (omega (arith, length-drop n bytes))))
      ]

  text_walk : (bytes : List ℕ) → length bytes ≤ total → Walk total (TextLength ∷ []) bytes (text_at total bytes)
  unfolding text_at
  text_walk bytes le = size_walk TextLength (λ n. Characters n ∷ []) bytes _ refl (λ at content. refl) le (λ n rest less. characters_walk n rest less)

  content_walk : (bytes : List ℕ) → length bytes ≤ total → Walk total (ContentLength ∷ []) bytes (content_at total bytes)
  unfolding content_at
  content_walk bytes le = size_walk ContentLength (λ n. Raw n ∷ []) bytes _ refl (λ at content. refl) le (λ n rest less. raw_walk n rest less)

  -- ---- rows and columns

  -- a field of one byte
  one_byte : {A : Type 0} (field : Field) (b : ℕ) (rest : List ℕ) (read : Read A) → width field ≡ Some 1 → length (b ∷ rest) ≤ total → Agrees total (fields_after field (total - length (b ∷ rest)) (b ∷ [])) rest read → Walk total (field ∷ []) (b ∷ rest) read
  one_byte field b rest read is le agrees =
      let whole : IsWhole field (b ∷ []) rest (b ∷ rest) = record {
        content_fits = subst (λ (o : Option ℕ). IsContent o (b ∷ [])) (sym is) refl;
        parts = subst (λ (o : Option ℕ). b ∷ rest ≡ form o (b ∷ []) ++ rest) (sym is) refl;
      } in
      walk_whole total field (b ∷ []) rest (b ∷ rest) read le whole agrees

  no_byte : {A : Type 0} (field : Field) → width field ≡ Some 1 → Walk total {A = A} (field ∷ []) [] (Err (Truncated total))
  no_byte field is = let is_cut : 0 < 1 = omega arith in walk_cut total field [] (omega arith) (subst (λ (o : Option ℕ). IsCut o []) (sym is) is_cut)

  cell_walk : (bytes : List ℕ) → length bytes ≤ total → Walk total (Cell ∷ []) bytes (cell_at total bytes)
  unfolding cell_at cell_fields
  cell_walk [] le = no_byte Cell refl
  cell_walk (b ∷ rest) le =
      let less : length rest ≤ total = omega arith in
      one_byte Cell b rest _ refl le
      (agrees_if total (eqb b 110) _ _ rest _ _ (λ is. walk_done total Null rest less) (λ not.
      agrees_if total (eqb b 117) _ _ rest _ _ (λ is. walk_done total Unchanged rest less) (λ not.
      agrees_if total (eqb b 116) _ _ rest _ _ (λ is. walk_map total (TextLength ∷ []) rest (text_at total rest) (λ text. Text text) (text_walk rest less)) (λ not.
      agrees_if total (eqb b 98) _ _ rest _ _ (λ is. refl) (λ not. refl)))))

  tuple_walk : (bytes : List ℕ) → length bytes ≤ total → Walk total (CellCount ∷ []) bytes (tuple_at total bytes)
  unfolding tuple_at
  tuple_walk bytes le = walk_map total (CellCount ∷ []) bytes (counted_at (cell_at total) total bytes) _ (counted_walk CellCount (Cell ∷ []) (cell_at total) bytes refl (λ at content. refl) le cell_walk)

  new_walk : (bytes : List ℕ) → length bytes ≤ total → Walk total (New ∷ []) bytes (new_at total bytes)
  unfolding new_at new_fields
  new_walk [] le = no_byte New refl
  new_walk (b ∷ rest) le = one_byte New b rest _ refl le (agrees_held (eqb b 78) _ (Ok (CellCount ∷ [])) rest (tuple_at total rest) (tuple_walk rest (omega arith)))

  agrees_if_then : {A B : Type 0} (b : Bool) (x y : Result (List Field) MsgError) (rest : List ℕ) (read other : Read A) (next : A × List ℕ → Read B) → Agrees total x rest (read >>= next) → Agrees total y rest (other >>= next) → Agrees total (cond b x y) rest (cond b read other >>= next)
  agrees_if_then true x y rest read other next one two = one
  agrees_if_then false x y rest read other next one two = two

  old_then : {B : Type 0} (at b : ℕ) (rest : List ℕ) (row : List Field) (next : OldTuple × List ℕ → Read B) → at ≡ total - suc (length rest) → length rest ≤ total → ((old : OldTuple) (after : List ℕ) → length after ≤ total → Walk total row after (next (old, after)))
      → Agrees total (old_fields at b row) rest (old_at total (b ∷ rest) >>= next)
  unfolding old_at old_fields
  old_then at b rest row next is le walks =
      agrees_if_then (eqb b 75) _ _ rest _ _ next (walk_next total next (walk_map total (CellCount ∷ []) rest (tuple_at total rest) (λ t. Key t) (tuple_walk rest le)) walks)
      (agrees_if_then (eqb b 79) _ _ rest _ _ next (walk_next total next (walk_map total (CellCount ∷ []) rest (tuple_at total rest) (λ t. Whole t) (tuple_walk rest le)) walks) (rw is refl))

  column_walk : (bytes : List ℕ) → length bytes ≤ total → Walk total (Int8 ∷ String ∷ Int32 ∷ Int32 ∷ []) bytes (column_at total bytes)
  unfolding column_at
  column_walk bytes le =
      walk_next total _ (walk_byte total bytes le) (λ flags rest le.
      walk_next total _ (string_walk rest le) (λ name rest le.
      walk_next total _ (walk_int total w32 rest le) (λ oid rest le.
      walk_next total _ (walk_signed total w32 rest le) (λ modifier rest le. walk_done total _ rest le))))

  -- ---- messages, after their tags

  begin_walk : (bytes : List ℕ) → length bytes ≤ total → Walk total (Int64 ∷ Int64 ∷ Int32 ∷ []) bytes (begin_at total bytes)
  unfolding begin_at
  begin_walk bytes le =
      walk_next total _ (walk_int total w64 bytes le) (λ lsn rest le.
      walk_next total _ (walk_signed total w64 rest le) (λ time rest le.
      walk_next total _ (walk_int total w32 rest le) (λ xid rest le. walk_done total _ rest le)))

  commit_walk : (bytes : List ℕ) → length bytes ≤ total → Walk total (Int8 ∷ Int64 ∷ Int64 ∷ Int64 ∷ []) bytes (commit_at total bytes)
  unfolding commit_at
  commit_walk bytes le =
      walk_next total _ (walk_byte total bytes le) (λ flags rest le.
      walk_next total _ (walk_int total w64 rest le) (λ lsn rest le.
      walk_next total _ (walk_int total w64 rest le) (λ end_lsn rest le.
      walk_next total _ (walk_signed total w64 rest le) (λ time rest le. walk_done total _ rest le))))

  origin_walk : (bytes : List ℕ) → length bytes ≤ total → Walk total (Int64 ∷ String ∷ []) bytes (origin_at total bytes)
  unfolding origin_at
  origin_walk bytes le =
      walk_next total _ (walk_int total w64 bytes le) (λ lsn rest le.
      walk_next total _ (string_walk rest le) (λ name rest le. walk_done total _ rest le))

  type_name_walk : (bytes : List ℕ) → length bytes ≤ total → Walk total (Int32 ∷ String ∷ String ∷ []) bytes (type_name_at total bytes)
  unfolding type_name_at
  type_name_walk bytes le =
      walk_next total _ (walk_int total w32 bytes le) (λ oid rest le.
      walk_next total _ (string_walk rest le) (λ namespace rest le.
      walk_next total _ (string_walk rest le) (λ name rest le. walk_done total _ rest le)))

  identity_walk : (bytes : List ℕ) → length bytes ≤ total → Walk total (Identity ∷ []) bytes (identity_at total bytes)
  unfolding identity_at byte_at
  identity_walk [] le = no_byte Identity refl
  identity_walk (b ∷ rest) le = one_byte Identity b rest _ refl le (agrees_held _ _ (Ok []) rest (Ok (b, rest)) (walk_done total b rest (omega arith)))

  relation_walk : (bytes : List ℕ) → length bytes ≤ total → Walk total (Int32 ∷ String ∷ String ∷ Identity ∷ ColumnCount ∷ []) bytes (relation_at total bytes)
  unfolding relation_at
  relation_walk bytes le =
      walk_next total _ (walk_int total w32 bytes le) (λ oid rest le.
      walk_next total _ (string_walk rest le) (λ namespace rest le.
      walk_next total _ (string_walk rest le) (λ name rest le.
      walk_next total _ (identity_walk rest le) (λ identity rest le.
      walk_next total _ (counted_walk ColumnCount (Int8 ∷ String ∷ Int32 ∷ Int32 ∷ []) (column_at total) rest refl (λ at content. refl) le column_walk) (λ columns rest le. walk_done total _ rest le)))))

  insert_walk : (bytes : List ℕ) → length bytes ≤ total → Walk total (Int32 ∷ New ∷ []) bytes (insert_at total bytes)
  unfolding insert_at
  insert_walk bytes le =
      walk_next total _ (walk_int total w32 bytes le) (λ oid rest le.
      walk_next total _ (new_walk rest le) (λ row rest le. walk_done total _ rest le))

  before_then : {B : Type 0} (bytes : List ℕ) (next : Option OldTuple → Tuple → B) → length bytes ≤ total → Walk total (OldOrNew ∷ []) bytes (before_at total bytes >>= λ before. new_at total before.1 >>= λ row. Ok (next before.0 row.0, row.1))
  unfolding before_at new_at
  before_then [] next le = no_byte OldOrNew refl
  before_then (b ∷ rest) next le =
      let less : length rest ≤ total = omega arith in
      let then : Option OldTuple × List ℕ → Read _ = λ before. new_at total before.1 >>= λ row. Ok (next before.0 row.0, row.1) in
      let old : Read (Option OldTuple) = old_at total (b ∷ rest) >>= λ old. Ok (Some old.0, old.1) in
      subst (λ (r : Read _). Walk total (OldOrNew ∷ []) (b ∷ rest) r) (sym (bind_if (eqb b 78) (Ok (None, b ∷ rest)) old then))
      (one_byte OldOrNew b rest _ refl le
      (agrees_if total (eqb b 78) (Ok (CellCount ∷ [])) _ rest (then (None, b ∷ rest)) (old >>= then)
      (λ is. rw is (walk_map total (CellCount ∷ []) rest (tuple_at total rest) (λ row. next None row) (tuple_walk rest less)))
      (λ not. subst (λ (r : Read _). Agrees total (old_fields (total - suc (length rest)) b (New ∷ [])) rest r) (sym (bind_bind (old_at total (b ∷ rest)) (λ old. Ok (Some old.0, old.1)) then))
      (old_then (total - suc (length rest)) b rest (New ∷ []) (λ old. then (Some old.0, old.1)) refl less (λ old after le. walk_map total (New ∷ []) after (new_at total after) (λ row. next (Some old) row) (new_walk after le))))))

  update_walk : (bytes : List ℕ) → length bytes ≤ total → Walk total (Int32 ∷ OldOrNew ∷ []) bytes (update_at total bytes)
  unfolding update_at
  update_walk bytes le = walk_next total _ (walk_int total w32 bytes le) (λ oid rest le. before_then rest (λ before row. Update oid before row) le)

  old_walk : (bytes : List ℕ) → length bytes ≤ total → {B : Type 0} (next : OldTuple → B) → Walk total (Old ∷ []) bytes (old_at total bytes >>= λ old. Ok (next old.0, old.1))
  unfolding old_at
  old_walk [] le next = no_byte Old refl
  old_walk (b ∷ rest) le next = one_byte Old b rest _ refl le (old_then (total - suc (length rest)) b rest [] (λ old. Ok (next old.0, old.1)) refl (omega arith) (λ old after less. walk_done total (next old) after less))

  delete_walk : (bytes : List ℕ) → length bytes ≤ total → Walk total (Int32 ∷ Old ∷ []) bytes (delete_at total bytes)
  unfolding delete_at
  delete_walk bytes le = walk_next total _ (walk_int total w32 bytes le) (λ oid rest le. old_walk rest le (λ before. Delete oid before))

  truncate_walk : (bytes : List ℕ) → length bytes ≤ total → Walk total (RelationCount ∷ []) bytes (truncate_at total bytes)
  unfolding truncate_at
  truncate_walk bytes le =
      size_walk RelationCount (λ n. Int8 ∷ times n (Int32 ∷ [])) bytes _ refl (λ at content. refl) le (λ n rest le.
      walk_next total _ (walk_byte total rest le) (λ options rest le.
      walk_map total (times n (Int32 ∷ [])) rest (many_at (number_at w32 total) n rest) (λ oids. Truncate options oids) (walk_many total (Int32 ∷ []) (number_at w32 total) (λ bytes le. walk_int total w32 bytes le) n rest le)))

  logical_walk : (bytes : List ℕ) → length bytes ≤ total → Walk total (Int8 ∷ Int64 ∷ String ∷ ContentLength ∷ []) bytes (logical_at total bytes)
  unfolding logical_at
  logical_walk bytes le =
      walk_next total _ (walk_byte total bytes le) (λ flags rest le.
      walk_next total _ (walk_int total w64 rest le) (λ lsn rest le.
      walk_next total _ (string_walk rest le) (λ prefix rest le.
      walk_next total _ (content_walk rest le) (λ content rest le. walk_done total _ rest le))))

  pub message_walk : (bytes : List ℕ) → length bytes ≤ total → Walk total (Tag ∷ []) bytes (message_at total bytes)
  unfolding message_at kind_fields
  message_walk [] le = no_byte Tag refl
  message_walk (b ∷ rest) le =
      let less : length rest ≤ total = omega arith in
      one_byte Tag b rest _ refl le
      (agrees_if total (eqb b 66) _ _ rest _ _ (λ is. begin_walk rest less) (λ not.
      agrees_if total (eqb b 67) _ _ rest _ _ (λ is. commit_walk rest less) (λ not.
      agrees_if total (eqb b 79) _ _ rest _ _ (λ is. origin_walk rest less) (λ not.
      agrees_if total (eqb b 89) _ _ rest _ _ (λ is. type_name_walk rest less) (λ not.
      agrees_if total (eqb b 82) _ _ rest _ _ (λ is. relation_walk rest less) (λ not.
      agrees_if total (eqb b 73) _ _ rest _ _ (λ is. insert_walk rest less) (λ not.
      agrees_if total (eqb b 85) _ _ rest _ _ (λ is. update_walk rest less) (λ not.
      agrees_if total (eqb b 68) _ _ rest _ _ (λ is. delete_walk rest less) (λ not.
      agrees_if total (eqb b 84) _ _ rest _ _ (λ is. truncate_walk rest less) (λ not.
      agrees_held (eqb b 77) _ _ rest (logical_at total rest) (logical_walk rest less)))))))))))

-- Messages: what is read was written, and what was written is read again.
use Rattle.std.proofs.Common.{◌≡◌, ℕ, ℤ, ◌^◌, ◌<◌, ◌≤◌, true, false, eqb, ltb, List, [], ◌∷◌, ◌++◌, length, take, drop, Option, Some, None, Ok, refl, sym, ap, subst, ◌∙◌, append_assoc, arith, inl, inr}
use Rattle.std.specs.Prelude.{IsTrue}
use Rattle.std.specs.List.{flat_map, AllByRecursion}
use Rattle.std.specs.Int.{w32}
use Rattle.std.proofs.lemmas.Bool.{eqb-true, le-ltb, ltb-false}
use Rattle.std.proofs.lemmas.List.{take_at, drop_at, take-append-drop, length-append, length-take}
use Rattle.dbl_base.specs.declared.lsn.Lsn.{Lsn}
use Rattle.dbl_pgmsg.specs.declared.error.MsgError.TheVariants.{Truncated}
use Rattle.dbl_pgmsg.specs.declared.messages.Message.{Message}
use Rattle.dbl_pgmsg.specs.declared.messages.Message.TheVariants.{Begin, Commit, Origin, TypeName, Relation, Insert, Update, Delete, Truncate, Logical}
use Rattle.dbl_pgmsg.specs.declared.messages.RelationColumn.{RelationColumn}
use Rattle.dbl_pgmsg.specs.declared.messages.Tuple.{Tuple}
use Rattle.dbl_pgmsg.specs.declared.messages.OldTuple.{OldTuple}
use Rattle.dbl_pgmsg.specs.declared.messages.OldTuple.TheVariants.{Key, Whole}
use Rattle.dbl_pgmsg.specs.Grammar.{int16, int32, int64, signed64, string, tuple, old_tuple, optional_tuple, column, spelling, is_identity, FitsOld, FitsOptional, FitsFields, Spells}
use Rattle.dbl_pgmsg.specs.Reading.{Read, byte_at, number_at, size_at, many_at, tuple_at, begin_at, commit_at, origin_at, type_name_at, identity_at, relation_at, insert_at, old_at, before_at, update_at, delete_at, truncate_at, content_at, logical_at, message_at}
use Rattle.dbl_pgmsg.proofs.FieldLaws.{IsBytes, IsBytes-rest, IsBytes-drop, IsBytes-take, bind_ok, guard_ok, guard_held, ok_is, Takes, Takes-then, Reads, took, byte_reads, int32_reads, int64_reads, signed64_reads, size_reads, string_reads, many_again, many_takes}
use Rattle.dbl_pgmsg.proofs.RowLaws.{chosen, counted_reads, tuple_reads, new_reads, column_reads}

-- ---- what was written is read again

begin_again : (total : ℕ) (lsn : Lsn) (time : ℤ) (xid : ℕ) (rest : List ℕ) → FitsFields (Begin lsn time xid) → begin_at total (((int64 lsn.0 ++ signed64 time) ++ int32 xid) ++ rest) ≡ Ok (Begin lsn time xid, rest)
unfolding begin_at
begin_again total lsn time xid rest fits =
    let regrouped : ((int64 lsn.0 ++ signed64 time) ++ int32 xid) ++ rest ≡ int64 lsn.0 ++ (signed64 time ++ (int32 xid ++ rest)) = simp append_assoc in
    ap (begin_at total) regrouped ∙ rw ((int64_reads total).again lsn.0 (signed64 time ++ (int32 xid ++ rest)) fits.0, (signed64_reads total).again time (int32 xid ++ rest) fits.1, (int32_reads total).again xid rest fits.2) refl

commit_again : (total flags : ℕ) (lsn end_lsn : Lsn) (time : ℤ) (rest : List ℕ) → FitsFields (Commit flags lsn end_lsn time) → commit_at total (flags ∷ (((int64 lsn.0 ++ int64 end_lsn.0) ++ signed64 time) ++ rest)) ≡ Ok (Commit flags lsn end_lsn time, rest)
unfolding commit_at byte_at
commit_again total flags lsn end_lsn time rest fits =
    let regrouped : flags ∷ (((int64 lsn.0 ++ int64 end_lsn.0) ++ signed64 time) ++ rest) ≡ flags ∷ (int64 lsn.0 ++ (int64 end_lsn.0 ++ (signed64 time ++ rest))) = simp append_assoc in
    ap (commit_at total) regrouped ∙ rw ((int64_reads total).again lsn.0 (int64 end_lsn.0 ++ (signed64 time ++ rest)) fits.1, (int64_reads total).again end_lsn.0 (signed64 time ++ rest) fits.2, (signed64_reads total).again time rest fits.3) refl

origin_again : (total : ℕ) (lsn : Lsn) (name rest : List ℕ) → FitsFields (Origin lsn name) → origin_at total ((int64 lsn.0 ++ string name) ++ rest) ≡ Ok (Origin lsn name, rest)
unfolding origin_at
origin_again total lsn name rest fits =
    ap (origin_at total) (append_assoc (int64 lsn.0) (string name) rest) ∙ rw ((int64_reads total).again lsn.0 (string name ++ rest) fits.0, (string_reads total).again name rest fits.1) refl

type_name_again : (total oid : ℕ) (namespace name rest : List ℕ) → FitsFields (TypeName oid namespace name) → type_name_at total (((int32 oid ++ string namespace) ++ string name) ++ rest) ≡ Ok (TypeName oid namespace name, rest)
unfolding type_name_at
type_name_again total oid namespace name rest fits =
    let regrouped : ((int32 oid ++ string namespace) ++ string name) ++ rest ≡ int32 oid ++ (string namespace ++ (string name ++ rest)) = simp append_assoc in
    ap (type_name_at total) regrouped ∙ rw ((int32_reads total).again oid (string namespace ++ (string name ++ rest)) fits.0, (string_reads total).again namespace (string name ++ rest) fits.1, (string_reads total).again name rest fits.2) refl

identity_again : (total b : ℕ) (rest : List ℕ) → IsTrue (is_identity b) → identity_at total (b ∷ rest) ≡ Ok (b, rest)
unfolding identity_at byte_at
identity_again total b rest h = rw h refl

relation_again : (total oid : ℕ) (namespace name : List ℕ) (identity : ℕ) (columns : List RelationColumn) (rest : List ℕ) → FitsFields (Relation oid namespace name identity columns)
    → relation_at total ((((((int32 oid ++ string namespace) ++ string name) ++ identity ∷ []) ++ int16 (length columns)) ++ flat_map column columns) ++ rest) ≡ Ok (Relation oid namespace name identity columns, rest)
unfolding relation_at
relation_again total oid namespace name identity columns rest fits =
    let cols = int16 (length columns) ++ flat_map column columns in
    let regrouped : (((((int32 oid ++ string namespace) ++ string name) ++ identity ∷ []) ++ int16 (length columns)) ++ flat_map column columns) ++ rest ≡ int32 oid ++ (string namespace ++ (string name ++ (identity ∷ (cols ++ rest)))) = simp append_assoc in
    ap (relation_at total) regrouped ∙ rw ((int32_reads total).again oid (string namespace ++ (string name ++ (identity ∷ (cols ++ rest)))) fits.0, (string_reads total).again namespace (string name ++ (identity ∷ (cols ++ rest))) fits.1, (string_reads total).again name (identity ∷ (cols ++ rest)) fits.2, identity_again total identity (cols ++ rest) fits.3, (counted_reads (column_reads total) total).again columns rest (fits.4, fits.5)) refl

insert_again : (total oid : ℕ) (row : Tuple) (rest : List ℕ) → FitsFields (Insert oid row) → insert_at total (((int32 oid ++ 78 ∷ []) ++ tuple row) ++ rest) ≡ Ok (Insert oid row, rest)
unfolding insert_at
insert_again total oid row rest fits =
    let regrouped : ((int32 oid ++ 78 ∷ []) ++ tuple row) ++ rest ≡ int32 oid ++ (78 ∷ (tuple row ++ rest)) = simp append_assoc in
    ap (insert_at total) regrouped ∙ rw ((int32_reads total).again oid (78 ∷ (tuple row ++ rest)) fits.0, (new_reads total).again row rest fits.1) refl

old_again : (total : ℕ) (old : OldTuple) (rest : List ℕ) → FitsOld old → old_at total (old_tuple old ++ rest) ≡ Ok (old, rest)
unfolding old_at old_tuple
old_again total (Key t) rest fits = rw ((tuple_reads total).again t rest fits) refl
old_again total (Whole t) rest fits = rw ((tuple_reads total).again t rest fits) refl

before_again : (total : ℕ) (before : Option OldTuple) (rest : List ℕ) → FitsOptional before → before_at total (optional_tuple before ++ (78 ∷ rest)) ≡ Ok (before, 78 ∷ rest)
unfolding before_at old_tuple
before_again total None rest fits = refl
before_again total (Some (Key t)) rest fits = rw (old_again total (Key t) (78 ∷ rest) fits) refl
before_again total (Some (Whole t)) rest fits = rw (old_again total (Whole t) (78 ∷ rest) fits) refl

update_again : (total oid : ℕ) (before : Option OldTuple) (row : Tuple) (rest : List ℕ) → FitsFields (Update oid before row) → update_at total ((((int32 oid ++ optional_tuple before) ++ 78 ∷ []) ++ tuple row) ++ rest) ≡ Ok (Update oid before row, rest)
unfolding update_at
update_again total oid before row rest fits =
    let regrouped : (((int32 oid ++ optional_tuple before) ++ 78 ∷ []) ++ tuple row) ++ rest ≡ int32 oid ++ (optional_tuple before ++ (78 ∷ (tuple row ++ rest))) = simp append_assoc in
    ap (update_at total) regrouped ∙ rw ((int32_reads total).again oid (optional_tuple before ++ (78 ∷ (tuple row ++ rest))) fits.0, before_again total before (tuple row ++ rest) fits.1, (new_reads total).again row rest fits.2) refl

delete_again : (total oid : ℕ) (before : OldTuple) (rest : List ℕ) → FitsFields (Delete oid before) → delete_at total ((int32 oid ++ old_tuple before) ++ rest) ≡ Ok (Delete oid before, rest)
unfolding delete_at
delete_again total oid before rest fits =
    ap (delete_at total) (append_assoc (int32 oid) (old_tuple before) rest) ∙ rw ((int32_reads total).again oid (old_tuple before ++ rest) fits.0, old_again total before rest fits.1) refl

truncate_again : (total options : ℕ) (oids rest : List ℕ) → FitsFields (Truncate options oids) → truncate_at total (((int32 (length oids) ++ options ∷ []) ++ flat_map int32 oids) ++ rest) ≡ Ok (Truncate options oids, rest)
unfolding truncate_at byte_at
truncate_again total options oids rest fits =
    let regrouped : ((int32 (length oids) ++ options ∷ []) ++ flat_map int32 oids) ++ rest ≡ int32 (length oids) ++ (options ∷ (flat_map int32 oids ++ rest)) = simp append_assoc in
    ap (truncate_at total) regrouped ∙ rw ((size_reads total).again (length oids) (options ∷ (flat_map int32 oids ++ rest)) fits.1, many_again (int32_reads total) oids rest fits.2) refl

content_again : (total : ℕ) (content rest : List ℕ) → length content < 2 ^ 31 → content_at total ((int32 (length content) ++ content) ++ rest) ≡ Ok (content, rest)
unfolding content_at
content_again total content rest lt =
    let long : ltb (length (content ++ rest)) (length content) ≡ false = le-ltb _ _ (omega (arith, length-append content rest)) in
    ap (content_at total) (append_assoc (int32 (length content)) content rest) ∙ rw ((size_reads total).again (length content) (content ++ rest) lt, long, take_at content rest (length content) refl, drop_at content rest (length content) refl) refl

logical_again : (total flags : ℕ) (lsn : Lsn) (prefix content rest : List ℕ) → FitsFields (Logical flags lsn prefix content)
    → logical_at total (flags ∷ ((((int64 lsn.0 ++ string prefix) ++ int32 (length content)) ++ content) ++ rest)) ≡ Ok (Logical flags lsn prefix content, rest)
unfolding logical_at byte_at
logical_again total flags lsn prefix content rest fits =
    let regrouped : flags ∷ ((((int64 lsn.0 ++ string prefix) ++ int32 (length content)) ++ content) ++ rest) ≡ flags ∷ (int64 lsn.0 ++ (string prefix ++ ((int32 (length content) ++ content) ++ rest))) = simp append_assoc in
    ap (logical_at total) regrouped ∙ rw ((int64_reads total).again lsn.0 (string prefix ++ ((int32 (length content) ++ content) ++ rest)) fits.1, (string_reads total).again prefix ((int32 (length content) ++ content) ++ rest) fits.2, content_again total content rest fits.3) refl

pub message_again : (total : ℕ) (m : Message) (rest : List ℕ) → FitsFields m → message_at total (spelling m ++ rest) ≡ Ok (m, rest)
unfolding message_at spelling
message_again total (Begin lsn time xid) rest fits = begin_again total lsn time xid rest fits
message_again total (Commit flags lsn end_lsn time) rest fits = commit_again total flags lsn end_lsn time rest fits
message_again total (Origin lsn name) rest fits = origin_again total lsn name rest fits
message_again total (TypeName oid namespace name) rest fits = type_name_again total oid namespace name rest fits
message_again total (Relation oid namespace name identity columns) rest fits = relation_again total oid namespace name identity columns rest fits
message_again total (Insert oid row) rest fits = insert_again total oid row rest fits
message_again total (Update oid before row) rest fits = update_again total oid before row rest fits
message_again total (Delete oid before) rest fits = delete_again total oid before rest fits
message_again total (Truncate options oids) rest fits = truncate_again total options oids rest fits
message_again total (Logical flags lsn prefix content) rest fits = logical_again total flags lsn prefix content rest fits

-- ---- what is read was written

all_bytes : (bytes : List ℕ) → IsBytes bytes → AllByRecursion (λ b. b < 2 ^ 8) bytes
all_bytes [] h = tt
all_bytes (b ∷ bytes) h = (h 0, all_bytes bytes (IsBytes-rest b bytes h))

-- What was read was written so.
pub record Taken (bytes : List ℕ) (m : Message) (rest : List ℕ) : Type 0 where
  pub takes : Takes bytes (spelling m) rest
  pub fits : FitsFields m

begin_takes : (total : ℕ) (bytes left : List ℕ) (m : Message) (rest : List ℕ) → Takes bytes (66 ∷ []) left → begin_at total left ≡ Ok (m, rest) → Taken bytes m rest
unfolding begin_at spelling
begin_takes total bytes left m rest so_far e =
    let lsn = took (int64_reads total) bytes (66 ∷ []) left _ (m, rest) so_far e in
    let time = took (signed64_reads total) bytes _ lsn.rest _ (m, rest) lsn.takes lsn.more in
    let xid = took (int32_reads total) bytes _ time.rest _ (m, rest) time.takes time.more in
    let made : Message = Begin (record { 0 = lsn.value }) time.value xid.value in
    subst (λ (y : Message × List ℕ). Taken bytes y.0 y.1) (ok_is (made, xid.rest) (m, rest) xid.more) (record { takes = xid.takes; fits = (lsn.fits, time.fits, xid.fits) })

commit_takes : (total : ℕ) (bytes left : List ℕ) (m : Message) (rest : List ℕ) → Takes bytes (67 ∷ []) left → commit_at total left ≡ Ok (m, rest) → Taken bytes m rest
unfolding commit_at spelling
commit_takes total bytes left m rest so_far e =
    let flags = took (byte_reads total) bytes (67 ∷ []) left _ (m, rest) so_far e in
    let lsn = took (int64_reads total) bytes _ flags.rest _ (m, rest) flags.takes flags.more in
    let end_lsn = took (int64_reads total) bytes _ lsn.rest _ (m, rest) lsn.takes lsn.more in
    let time = took (signed64_reads total) bytes _ end_lsn.rest _ (m, rest) end_lsn.takes end_lsn.more in
    let made : Message = Commit flags.value (record { 0 = lsn.value }) (record { 0 = end_lsn.value }) time.value in
    subst (λ (y : Message × List ℕ). Taken bytes y.0 y.1) (ok_is (made, time.rest) (m, rest) time.more) (record { takes = time.takes; fits = (flags.fits, lsn.fits, end_lsn.fits, time.fits) })

identity_takes : (total : ℕ) (bytes : List ℕ) (b : ℕ) (rest : List ℕ) → IsBytes bytes → identity_at total bytes ≡ Ok (b, rest) → Takes bytes (b ∷ []) rest × IsTrue (is_identity b)
unfolding identity_at
identity_takes total bytes b rest fits e =
    let a = bind_ok (byte_at total bytes) _ (b, rest) e in
    let g = guard_held (is_identity a.0.0) _ (Ok a.0) (b, rest) a.2 in
    let taken = (byte_reads total).takes bytes a.0.0 a.0.1 fits a.1 in
    subst (λ (y : ℕ × List ℕ). Takes bytes (y.0 ∷ []) y.1 × IsTrue (is_identity y.0)) (ok_is a.0 (b, rest) g.1) (taken.0, g.0)

identity_reads : (total : ℕ) → Reads (identity_at total) (λ b. b ∷ []) (λ b. IsTrue (is_identity b))
identity_reads total = record { again = identity_again total; takes = identity_takes total }

relation_takes : (total : ℕ) (bytes left : List ℕ) (m : Message) (rest : List ℕ) → Takes bytes (82 ∷ []) left → relation_at total left ≡ Ok (m, rest) → Taken bytes m rest
unfolding relation_at spelling
relation_takes total bytes left m rest so_far e =
    let oid = took (int32_reads total) bytes (82 ∷ []) left _ (m, rest) so_far e in
    let namespace = took (string_reads total) bytes _ oid.rest _ (m, rest) oid.takes oid.more in
    let name = took (string_reads total) bytes _ namespace.rest _ (m, rest) namespace.takes namespace.more in
    let identity = took (identity_reads total) bytes _ name.rest _ (m, rest) name.takes name.more in
    let columns = took (counted_reads (column_reads total) total) bytes _ identity.rest _ (m, rest) identity.takes identity.more in
    let made : Message = Relation oid.value namespace.value name.value identity.value columns.value in
    let front = (((82 ∷ [] ++ int32 oid.value) ++ string namespace.value) ++ string name.value) ++ identity.value ∷ [] in
    let takes : Takes bytes (spelling made) columns.rest = subst (λ (w : List ℕ). Takes bytes w columns.rest) (sym (append_assoc front (int16 (length columns.value)) (flat_map column columns.value))) columns.takes in
    subst (λ (y : Message × List ℕ). Taken bytes y.0 y.1) (ok_is (made, columns.rest) (m, rest) columns.more) (record { takes = takes; fits = (oid.fits, namespace.fits, name.fits, identity.fits, columns.fits.0, columns.fits.1) })

insert_takes : (total : ℕ) (bytes left : List ℕ) (m : Message) (rest : List ℕ) → Takes bytes (73 ∷ []) left → insert_at total left ≡ Ok (m, rest) → Taken bytes m rest
unfolding insert_at spelling
insert_takes total bytes left m rest so_far e =
    let oid = took (int32_reads total) bytes (73 ∷ []) left _ (m, rest) so_far e in
    let row = took (new_reads total) bytes _ oid.rest _ (m, rest) oid.takes oid.more in
    let made : Message = Insert oid.value row.value in
    let takes : Takes bytes (spelling made) row.rest = subst (λ (w : List ℕ). Takes bytes w row.rest) (sym (append_assoc (73 ∷ [] ++ int32 oid.value) (78 ∷ []) (tuple row.value))) row.takes in
    subst (λ (y : Message × List ℕ). Taken bytes y.0 y.1) (ok_is (made, row.rest) (m, rest) row.more) (record { takes = takes; fits = (oid.fits, row.fits) })

origin_takes : (total : ℕ) (bytes left : List ℕ) (m : Message) (rest : List ℕ) → Takes bytes (79 ∷ []) left → origin_at total left ≡ Ok (m, rest) → Taken bytes m rest
unfolding origin_at spelling
origin_takes total bytes left m rest so_far e =
    let lsn = took (int64_reads total) bytes (79 ∷ []) left _ (m, rest) so_far e in
    let name = took (string_reads total) bytes _ lsn.rest _ (m, rest) lsn.takes lsn.more in
    let made : Message = Origin (record { 0 = lsn.value }) name.value in
    subst (λ (y : Message × List ℕ). Taken bytes y.0 y.1) (ok_is (made, name.rest) (m, rest) name.more) (record { takes = name.takes; fits = (lsn.fits, name.fits) })

type_name_takes : (total : ℕ) (bytes left : List ℕ) (m : Message) (rest : List ℕ) → Takes bytes (89 ∷ []) left → type_name_at total left ≡ Ok (m, rest) → Taken bytes m rest
unfolding type_name_at spelling
type_name_takes total bytes left m rest so_far e =
    let oid = took (int32_reads total) bytes (89 ∷ []) left _ (m, rest) so_far e in
    let namespace = took (string_reads total) bytes _ oid.rest _ (m, rest) oid.takes oid.more in
    let name = took (string_reads total) bytes _ namespace.rest _ (m, rest) namespace.takes namespace.more in
    let made : Message = TypeName oid.value namespace.value name.value in
    subst (λ (y : Message × List ℕ). Taken bytes y.0 y.1) (ok_is (made, name.rest) (m, rest) name.more) (record { takes = name.takes; fits = (oid.fits, namespace.fits, name.fits) })

old_takes : (total : ℕ) (bytes : List ℕ) (old : OldTuple) (rest : List ℕ) → IsBytes bytes → old_at total bytes ≡ Ok (old, rest) → Takes bytes (old_tuple old) rest × FitsOld old
unfolding old_at old_tuple
old_takes total [] old rest fits e = absurd cc
old_takes total (b ∷ bytes) old rest fits e =
    let whole = IsBytes-rest b bytes fits in
    elim (chosen (eqb b 75) _ _ _ e) [
      | inl p ↦
          let a = bind_ok (tuple_at total bytes) (λ t. Ok (Key t.0, t.1)) (old, rest) p.1 in
          let t = (tuple_reads total).takes bytes a.0.0 a.0.1 whole a.1 in
          let takes : Takes (b ∷ bytes) (old_tuple (Key a.0.0)) a.0.1 = record { parts = ap (λ (a : ℕ). a ∷ bytes) (eqb-true b 75 p.0) ∙ ap (λ (w : List ℕ). 75 ∷ w) t.0.parts; rest_fits = t.0.rest_fits } in
          subst (λ (y : OldTuple × List ℕ). Takes (b ∷ bytes) (old_tuple y.0) y.1 × FitsOld y.0) (ok_is (Key a.0.0, a.0.1) (old, rest) a.2) (takes, t.1)
      | inr p ↦
          let g = guard_held (eqb b 79) _ _ (old, rest) p.1 in
          let a = bind_ok (tuple_at total bytes) (λ t. Ok (Whole t.0, t.1)) (old, rest) g.1 in
          let t = (tuple_reads total).takes bytes a.0.0 a.0.1 whole a.1 in
          let takes : Takes (b ∷ bytes) (old_tuple (Whole a.0.0)) a.0.1 = record { parts = ap (λ (a : ℕ). a ∷ bytes) (eqb-true b 79 g.0) ∙ ap (λ (w : List ℕ). 79 ∷ w) t.0.parts; rest_fits = t.0.rest_fits } in
          subst (λ (y : OldTuple × List ℕ). Takes (b ∷ bytes) (old_tuple y.0) y.1 × FitsOld y.0) (ok_is (Whole a.0.0, a.0.1) (old, rest) a.2) (takes, t.1)
    ]

old_reads : (total : ℕ) → Reads (old_at total) old_tuple FitsOld
old_reads total = record { again = old_again total; takes = old_takes total }

before_takes : (total : ℕ) (bytes : List ℕ) (before : Option OldTuple) (rest : List ℕ) → IsBytes bytes → before_at total bytes ≡ Ok (before, rest) → Takes bytes (optional_tuple before) rest × FitsOptional before
unfolding before_at
before_takes total [] before rest fits e = absurd cc
before_takes total (b ∷ bytes) before rest fits e =
    elim (chosen (eqb b 78) _ _ _ e) [
      | inl p ↦ subst (λ (y : Option OldTuple × List ℕ). Takes (b ∷ bytes) (optional_tuple y.0) y.1 × FitsOptional y.0) (ok_is (None, b ∷ bytes) (before, rest) p.1) (record { parts = refl; rest_fits = fits }, tt)
      | inr p ↦
          let a = bind_ok (old_at total (b ∷ bytes)) (λ old. Ok (Some old.0, old.1)) (before, rest) p.1 in
          subst (λ (y : Option OldTuple × List ℕ). Takes (b ∷ bytes) (optional_tuple y.0) y.1 × FitsOptional y.0) (ok_is (Some a.0.0, a.0.1) (before, rest) a.2) (old_takes total (b ∷ bytes) a.0.0 a.0.1 fits a.1)
    ]

update_takes : (total : ℕ) (bytes left : List ℕ) (m : Message) (rest : List ℕ) → Takes bytes (85 ∷ []) left → update_at total left ≡ Ok (m, rest) → Taken bytes m rest
unfolding update_at spelling
update_takes total bytes left m rest so_far e =
    let oid = took (int32_reads total) bytes (85 ∷ []) left _ (m, rest) so_far e in
    let b = bind_ok (before_at total oid.rest) _ (m, rest) oid.more in
    let before = before_takes total oid.rest b.0.0 b.0.1 oid.takes.rest_fits b.1 in
    let before_took = Takes-then bytes (85 ∷ [] ++ int32 oid.value) oid.rest (optional_tuple b.0.0) b.0.1 oid.takes before.0 in
    let row = took (new_reads total) bytes _ b.0.1 _ (m, rest) before_took b.2 in
    let made : Message = Update oid.value b.0.0 row.value in
    let takes : Takes bytes (spelling made) row.rest = subst (λ (w : List ℕ). Takes bytes w row.rest) (sym (append_assoc ((85 ∷ [] ++ int32 oid.value) ++ optional_tuple b.0.0) (78 ∷ []) (tuple row.value))) row.takes in
    subst (λ (y : Message × List ℕ). Taken bytes y.0 y.1) (ok_is (made, row.rest) (m, rest) row.more) (record { takes = takes; fits = (oid.fits, before.1, row.fits) })

delete_takes : (total : ℕ) (bytes left : List ℕ) (m : Message) (rest : List ℕ) → Takes bytes (68 ∷ []) left → delete_at total left ≡ Ok (m, rest) → Taken bytes m rest
unfolding delete_at spelling
delete_takes total bytes left m rest so_far e =
    let oid = took (int32_reads total) bytes (68 ∷ []) left _ (m, rest) so_far e in
    let before = took (old_reads total) bytes _ oid.rest _ (m, rest) oid.takes oid.more in
    let made : Message = Delete oid.value before.value in
    subst (λ (y : Message × List ℕ). Taken bytes y.0 y.1) (ok_is (made, before.rest) (m, rest) before.more) (record { takes = before.takes; fits = (oid.fits, before.fits) })

truncate_takes : (total : ℕ) (bytes left : List ℕ) (m : Message) (rest : List ℕ) → Takes bytes (84 ∷ []) left → truncate_at total left ≡ Ok (m, rest) → Taken bytes m rest
unfolding truncate_at spelling
truncate_takes total bytes left m rest so_far e =
    let count = took (size_reads total) bytes (84 ∷ []) left _ (m, rest) so_far e in
    let options = took (byte_reads total) bytes _ count.rest _ (m, rest) count.takes count.more in
    let a = bind_ok (many_at (number_at w32 total) count.value options.rest) (λ oids. Ok (Truncate options.value oids.0, oids.1)) (m, rest) options.more in
    let oids = many_takes (int32_reads total) count.value options.rest a.0.0 a.0.1 options.takes.rest_fits a.1 in
    let made : Message = Truncate options.value a.0.0 in
    let front : (k : ℕ) → List ℕ = λ k. (84 ∷ [] ++ int32 k) ++ options.value ∷ [] in
    let both = Takes-then bytes (front count.value) options.rest (flat_map int32 a.0.0) a.0.1 options.takes oids.0 in
    let takes : Takes bytes (spelling made) a.0.1 = subst (λ (k : ℕ). Takes bytes (front k ++ flat_map int32 a.0.0) a.0.1) (sym oids.1) both in
    subst (λ (y : Message × List ℕ). Taken bytes y.0 y.1) (ok_is (made, a.0.1) (m, rest) a.2) (record { takes = takes; fits = (options.fits, omega (arith, oids.1, count.fits), oids.2) })

content_takes : (total : ℕ) (bytes content rest : List ℕ) → IsBytes bytes → content_at total bytes ≡ Ok (content, rest) → Takes bytes (int32 (length content) ++ content) rest × ((length content < 2 ^ 31) × AllByRecursion (λ b. b < 2 ^ 8) content)
unfolding content_at
content_takes total bytes content rest fits e =
    let a = bind_ok (size_at total bytes) _ (content, rest) e in
    let n = a.0 in
    let t = (size_reads total).takes bytes n.0 n.1 fits a.1 in
    let g = guard_ok (ltb (length n.1) n.0) (Truncated total) _ (content, rest) a.2 in
    let same = ok_is (take n.0 n.1, drop n.0 n.1) (content, rest) g.1 in
    let long : n.0 ≤ length n.1 = ltb-false _ _ g.0 in
    let content_is : take n.0 n.1 ≡ content = ap (λ (p : List ℕ × List ℕ). p.0) same in
    let rest_is : drop n.0 n.1 ≡ rest = ap (λ (p : List ℕ × List ℕ). p.1) same in
    let len : length content ≡ n.0 = ap (λ (t : List ℕ). length t) (sym content_is) ∙ omega (arith, length-take n.0 n.1) in
    let second : Takes n.1 content rest = record { parts = sym (take-append-drop n.0 n.1) ∙ ap (λ (t : List ℕ). t ++ drop n.0 n.1) content_is ∙ ap (λ (t : List ℕ). content ++ t) rest_is; rest_fits = subst IsBytes rest_is (IsBytes-drop n.0 n.1 t.0.rest_fits) } in
    let both = Takes-then bytes (int32 n.0) n.1 content rest t.0 second in
    (subst (λ (k : ℕ). Takes bytes (int32 k ++ content) rest) (sym len) both, (omega (arith, t.1, len), all_bytes content (subst IsBytes content_is (IsBytes-take n.0 n.1 t.0.rest_fits))))

content_reads : (total : ℕ) → Reads (content_at total) (λ content. int32 (length content) ++ content) (λ content. (length content < 2 ^ 31) × AllByRecursion (λ b. b < 2 ^ 8) content)
content_reads total = record { again = λ content rest fits. content_again total content rest fits.0; takes = content_takes total }

logical_takes : (total : ℕ) (bytes left : List ℕ) (m : Message) (rest : List ℕ) → Takes bytes (77 ∷ []) left → logical_at total left ≡ Ok (m, rest) → Taken bytes m rest
unfolding logical_at spelling
logical_takes total bytes left m rest so_far e =
    let flags = took (byte_reads total) bytes (77 ∷ []) left _ (m, rest) so_far e in
    let lsn = took (int64_reads total) bytes _ flags.rest _ (m, rest) flags.takes flags.more in
    let prefix = took (string_reads total) bytes _ lsn.rest _ (m, rest) lsn.takes lsn.more in
    let content = took (content_reads total) bytes _ prefix.rest _ (m, rest) prefix.takes prefix.more in
    let made : Message = Logical flags.value (record { 0 = lsn.value }) prefix.value content.value in
    let front = ((77 ∷ [] ++ flags.value ∷ []) ++ int64 lsn.value) ++ string prefix.value in
    let takes : Takes bytes (spelling made) content.rest = subst (λ (w : List ℕ). Takes bytes w content.rest) (sym (append_assoc front (int32 (length content.value)) content.value)) content.takes in
    subst (λ (y : Message × List ℕ). Taken bytes y.0 y.1) (ok_is (made, content.rest) (m, rest) content.more) (record { takes = takes; fits = (flags.fits, lsn.fits, prefix.fits, content.fits.0, content.fits.1) })

tagged : (b tag : ℕ) (bytes : List ℕ) → IsBytes (b ∷ bytes) → eqb b tag ≡ true → Takes (b ∷ bytes) (tag ∷ []) bytes
tagged b tag bytes fits is = record { parts = ap (λ (a : ℕ). a ∷ bytes) (eqb-true b tag is); rest_fits = IsBytes-rest b bytes fits }

pub message_takes : (total : ℕ) (bytes : List ℕ) (m : Message) (rest : List ℕ) → IsBytes bytes → message_at total bytes ≡ Ok (m, rest) → Taken bytes m rest
unfolding message_at
message_takes total [] m rest fits e = absurd cc
message_takes total (b ∷ bytes) m rest fits e =
    elim (chosen (eqb b 66) _ _ _ e) [
      | inl p ↦ begin_takes total (b ∷ bytes) bytes m rest (tagged b 66 bytes fits p.0) p.1
      | inr p ↦
          elim (chosen (eqb b 67) _ _ _ p.1) [
            | inl p ↦ commit_takes total (b ∷ bytes) bytes m rest (tagged b 67 bytes fits p.0) p.1
            | inr p ↦
                elim (chosen (eqb b 79) _ _ _ p.1) [
                  | inl p ↦ origin_takes total (b ∷ bytes) bytes m rest (tagged b 79 bytes fits p.0) p.1
                  | inr p ↦
                      elim (chosen (eqb b 89) _ _ _ p.1) [
                        | inl p ↦ type_name_takes total (b ∷ bytes) bytes m rest (tagged b 89 bytes fits p.0) p.1
                        | inr p ↦
                            elim (chosen (eqb b 82) _ _ _ p.1) [
                              | inl p ↦ relation_takes total (b ∷ bytes) bytes m rest (tagged b 82 bytes fits p.0) p.1
                              | inr p ↦
                                  elim (chosen (eqb b 73) _ _ _ p.1) [
                                    | inl p ↦ insert_takes total (b ∷ bytes) bytes m rest (tagged b 73 bytes fits p.0) p.1
                                    | inr p ↦
                                        elim (chosen (eqb b 85) _ _ _ p.1) [
                                          | inl p ↦ update_takes total (b ∷ bytes) bytes m rest (tagged b 85 bytes fits p.0) p.1
                                          | inr p ↦
                                              elim (chosen (eqb b 68) _ _ _ p.1) [
                                                | inl p ↦ delete_takes total (b ∷ bytes) bytes m rest (tagged b 68 bytes fits p.0) p.1
                                                | inr p ↦
                                                    elim (chosen (eqb b 84) _ _ _ p.1) [
                                                      | inl p ↦ truncate_takes total (b ∷ bytes) bytes m rest (tagged b 84 bytes fits p.0) p.1
                                                      | inr p ↦
                                                          let g = guard_held (eqb b 77) _ (logical_at total bytes) (m, rest) p.1 in
                                                          logical_takes total (b ∷ bytes) bytes m rest (tagged b 77 bytes fits g.0) g.1
                                                    ]
                                              ]
                                        ]
                                  ]
                            ]
                      ]
                ]
          ]
    ]

abbrev ok_read : Message × List ℕ → Read Message
ok_read x = Ok x

-- bytes spell one message at most
pub one_message : (bytes : List ℕ) (m n : Message) → Spells bytes m → Spells bytes n → m ≡ n
one_message bytes m n of_m of_n =
    let same : spelling m ++ [] ≡ spelling n ++ [] = ap (λ (w : List ℕ). w ++ []) (sym of_m.spelled ∙ of_n.spelled) in
    let read : ok_read (m, []) ≡ ok_read (n, []) = sym (message_again 0 m [] of_m.fits.fields) ∙ ap (message_at 0) same ∙ message_again 0 n [] of_n.fits.fields in
    ap (λ (x : Message × List ℕ). x.0) (ok_is (m, []) (n, []) read)

-- How long the spelling of a message is, kind by kind.
use Rattle.std.proofs.Common.{◌≡◌, ℕ, ℤ, ◌+◌, ◌*◌, List, [], ◌∷◌, length, Option, refl, sym, subst, arith}
use Rattle.std.specs.List.{flat_map}
use Rattle.std.specs.Int.{w64, cast_unsigned}
use Rattle.std.proofs.lemmas.List.{length-append}
use Rattle.dbl_base.specs.declared.lsn.Lsn.{Lsn}
use Rattle.dbl_pgmsg.specs.declared.messages.Message.{Message}
use Rattle.dbl_pgmsg.specs.declared.messages.Message.TheVariants.{Begin, Commit, Origin, TypeName, Relation, Insert, Update, Delete, Truncate, Logical}
use Rattle.dbl_pgmsg.specs.declared.messages.RelationColumn.{RelationColumn}
use Rattle.dbl_pgmsg.specs.declared.messages.Tuple.{Tuple}
use Rattle.dbl_pgmsg.specs.declared.messages.OldTuple.{OldTuple}
use Rattle.dbl_pgmsg.specs.Grammar.{int32, string, tuple, old_tuple, optional_tuple, column, spelling, FitsFields}
use Rattle.dbl_pgmsg.specs.Room.{Leaves}
use Rattle.dbl_pgmsg.proofs.Sizes.{int16_size, int32_size, int64_size}

pub begin_size : (lsn : Lsn) (time : ℤ) (xid : ℕ) → length (spelling (Begin lsn time xid)) ≡ 21
unfolding spelling
begin_size lsn time xid = simp length-append (omega (arith, int64_size lsn.0, int64_size (cast_unsigned w64 time), int32_size xid))

pub commit_size : (flags : ℕ) (lsn end_lsn : Lsn) (time : ℤ) → length (spelling (Commit flags lsn end_lsn time)) ≡ 26
unfolding spelling
commit_size flags lsn end_lsn time = simp length-append (omega (arith, int64_size lsn.0, int64_size end_lsn.0, int64_size (cast_unsigned w64 time)))

pub origin_size : (lsn : Lsn) (name : List ℕ) → length (spelling (Origin lsn name)) ≡ 9 + length (string name)
unfolding spelling
origin_size lsn name = simp length-append (omega (arith, int64_size lsn.0))

pub type_size : (oid : ℕ) (namespace name : List ℕ) → length (spelling (TypeName oid namespace name)) ≡ 5 + (length (string namespace) + length (string name))
unfolding spelling
type_size oid namespace name = simp length-append (omega (arith, int32_size oid))

pub relation_size : (oid : ℕ) (namespace name : List ℕ) (identity : ℕ) (columns : List RelationColumn) → length (spelling (Relation oid namespace name identity columns)) ≡ 5 + (length (string namespace) + length (string name)) + (3 + length (flat_map column columns))
unfolding spelling
relation_size oid namespace name identity columns = simp length-append (omega (arith, int32_size oid, int16_size (length columns)))

pub insert_size : (oid : ℕ) (row : Tuple) → length (spelling (Insert oid row)) ≡ 6 + length (tuple row)
unfolding spelling
insert_size oid row = simp length-append (omega (arith, int32_size oid))

pub update_size : (oid : ℕ) (before : Option OldTuple) (row : Tuple) → length (spelling (Update oid before row)) ≡ length (optional_tuple before) + (6 + length (tuple row))
unfolding spelling
update_size oid before row = simp length-append (omega (arith, int32_size oid))

pub delete_size : (oid : ℕ) (before : OldTuple) → length (spelling (Delete oid before)) ≡ 5 + length (old_tuple before)
unfolding spelling
delete_size oid before = simp length-append (omega (arith, int32_size oid))

oids_size : (oids : List ℕ) → length (flat_map int32 oids) ≡ 4 * length oids
oids_size [] = refl
oids_size (oid ∷ oids) = omega (arith, oids_size oids, int32_size oid, length-append (int32 oid) (flat_map int32 oids))

pub truncate_size : (options : ℕ) (oids : List ℕ) → length (spelling (Truncate options oids)) ≡ 6 + 4 * length oids
unfolding spelling
truncate_size options oids = simp length-append (omega (arith, int32_size (length oids), oids_size oids))

pub logical_size : (flags : ℕ) (lsn : Lsn) (prefix content : List ℕ) → length (spelling (Logical flags lsn prefix content)) ≡ 10 + (length (string prefix) + (4 + length content))
unfolding spelling
logical_size flags lsn prefix content = simp length-append (omega (arith, int64_size lsn.0, int32_size (length content)))

pub leaves_is : (room size : ℕ) (m n : Message) (r : Option ℕ) → m ≡ n → length (spelling n) ≡ size → Leaves room size (FitsFields n) r → Leaves room (length (spelling m)) (FitsFields m) r
leaves_is room size m n r same long h = subst (λ (x : Message). Leaves room (length (spelling x)) (FitsFields x) r) (sym same) (subst (λ (k : ℕ). Leaves room k (FitsFields n) r) (sym long) h)

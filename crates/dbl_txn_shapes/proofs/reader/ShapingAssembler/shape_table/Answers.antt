use Rattle.std.proofs.Common.{◌≡◌, ◌∙◌, ℕ, ◌∷◌, Some, sym, ap, subst, arith}
use Rattle.std.proofs.lemmas.Result.{err_from_is_err_and}
use Rattle.std.specs.Prelude.{slice_get, slice_set}
use Rattle.dbl_pgmsg.specs.declared.messages.Message.TheVariants as says
use Rattle.dbl_model_commit.specs.Past.{table_named}
use Rattle.dbl_model_commit.specs.Pieces.{changes_so_far}
use Rattle.dbl_model_commit.specs.Shapes.{changes_table}
use Rattle.dbl_txn.specs.Stands.{Stands}
use Rattle.dbl_txn_changes.proofs.Captured.{captured}
use Rattle.dbl_txn_shapes.specs.declared.reader.ShapingAssembler.{ShapingAssembler}
use Rattle.dbl_txn_shapes.specs.Oids.{KnowsOids}
use Rattle.dbl_txn_shapes.specs.Shaping.{IsShaped, IsReady}
use Rattle.dbl_txn_shapes.proofs.ShapingLemmas.{refused_for, shape_name, shape_fails, oids_now, unchanged, same_ready, shaped_ready}
use Rattle.dbl_txn_shapes.proofs.reader.ShapingAssembler.shape_table.Goals as goal

pub returns-in_err-shape : goal.returns-in_err-shape
returns-in_err-shape c = λ infos after ms held namespace name identity s no_mark at. (
    let p = err_from_is_err_and c.from_residual.result c.from_residual.ensures.1 in
    let place = c.args.place in
    let columns = c.args.columns.now.items in
    let info = c.in-Some.info.now in
    let e : c.in-Ok.table ≡ place = omega (arith, c.in-Ok.ensures) in
    let there = captured infos c.deref.result.now place info (c.deref.ensures.value ∙ c.infos.ensures infos after ms held s.stands)
    c.in-Some.ensures.lookup.0 c.in-Some.ensures.lookup.1 in
    let refused_is = refused_for infos ms c.args.oid (table_named namespace name) place c.in-Ok.table info c.args.self.now.oids.items c.has_changed.result
    c.see_oid-other.result
    c.refuses_columns-refused.result no_mark at there s.oids e (c.has_changed.ensures infos after ms held s.stands) c.see_oid-other.ensures.other
    c.refuses_columns-refused.ensures in
    rw (p.1, p.2) (shape_fails infos after ms c.args.oid namespace name identity columns place no_mark at info there c.refuses_columns-refused.result refused_is
    c.in_err-shape.field-0.0 c.in_err-shape.ensures.fault))

pub returns-in-None : goal.returns-in-None
returns-in-None c = λ infos after ms held namespace name identity s no_mark at. (
    let place = c.args.place in
    let columns = c.args.columns.now.items in
    let info = c.in-Some.info.now in
    let e : c.in-Ok.table ≡ place = omega (arith, c.in-Ok.ensures) in
    let there = captured infos c.deref.result.now place info (c.deref.ensures.value ∙ c.infos.ensures infos after ms held s.stands)
    c.in-Some.ensures.lookup.0 c.in-Some.ensures.lookup.1 in
    let refused_is = refused_for infos ms c.args.oid (table_named namespace name) place c.in-Ok.table info c.args.self.now.oids.items c.has_changed.result
    c.see_oid-other.result
    c.refuses_columns-refused.result no_mark at there s.oids e (c.has_changed.ensures infos after ms held s.stands) c.see_oid-other.ensures.other
    c.refuses_columns-refused.ensures in
    let now : ShapingAssembler = record { assembler = c.args.self.now.assembler; oids = c.see_oid-other.new.list } in
    let m = says.Relation c.args.oid namespace name identity columns in
    let oids = subst (KnowsOids infos (m ∷ ms)) (sym c.see_oid-other.ensures.seen)
    (oids_now infos after ms c.args.oid namespace name identity columns place no_mark at info there c.refuses_columns-refused.result refused_is
    c.args.self.now.oids.items s.oids) in
    same_ready infos after ms c.args.oid namespace name identity columns place no_mark at info there
    c.refuses_columns-refused.result refused_is held now s.stands s.stated oids
    (subst (IsShaped info columns) c.in-None.is c.in_ok-shape.ensures.shaped))

pub returns-in-Some-2 : goal.returns-in-Some-2
returns-in-Some-2 c = λ infos after ms held namespace name identity s no_mark at. (
    let place = c.args.place in
    let columns = c.args.columns.now.items in
    let info = c.in-Some.info.now in
    let e : c.in-Ok.table ≡ place = omega (arith, c.in-Ok.ensures) in
    let there = captured infos c.deref.result.now place info (c.deref.ensures.value ∙ c.infos.ensures infos after ms held s.stands)
    c.in-Some.ensures.lookup.0 c.in-Some.ensures.lookup.1 in
    let refused = c.refuses_columns-refused.result in
    let refused_is = refused_for infos ms c.args.oid (table_named namespace name) place c.in-Ok.table info c.args.self.now.oids.items c.has_changed.result
    c.see_oid-other.result
    refused no_mark at there s.oids e (c.has_changed.ensures infos after ms held s.stands) c.see_oid-other.ensures.other c.refuses_columns-refused.ensures in
    let now : ShapingAssembler = record { assembler = c.reshape.new.self; oids = c.see_oid-other.new.list } in
    let m = says.Relation c.args.oid namespace name identity columns in
    let oids = subst (KnowsOids infos (m ∷ ms)) (sym c.see_oid-other.ensures.seen)
    (oids_now infos after ms c.args.oid namespace name identity columns place no_mark at info there refused refused_is c.args.self.now.oids.items s.oids) in
    let shape = c.in-Some-2.shape in
    let shaped = subst (IsShaped info columns) c.in-Some-2.is c.in_ok-shape.ensures.shaped in
    let none = unchanged infos after ms c.args.oid namespace name identity columns place no_mark at info there refused refused_is shaped.0
    c.in_ok-shape.ensures.fault in
    let stands = subst (λ (k : ℕ). Stands (slice_set infos k shape) after ms held c.reshape.new.self) e
    (c.reshape.ensures infos after ms held info s.stands (ap (slice_get infos) e ∙ there) (shape_name info shape columns shaped.1) s.stated
    (ap (λ (k : ℕ). changes_table k (changes_so_far infos ms)) e ∙ none)) in
    subst (λ (k : ℕ). IsReady infos after m ms held now (Some k)) (sym e)
    (shaped_ready infos after ms c.args.oid namespace name identity columns place no_mark at info there refused refused_is held now shape stands s.stated oids shaped.0 shaped.1 c.in_ok-shape.ensures.fault))

use Rattle.std.proofs.Common.{List, refl, ap, sym, subst}
use Rattle.std.specs.List.{AllByRecursion}
use Rattle.std.proofs.lemmas.Result.{err_from_is_err_and}
use Rattle.dbl_tables_rows.specs.declared.rows.Rows.{Rows}
use Rattle.dbl_tables_rows.specs.Views.{Slots}
use Rattle.dbl_tables_rows.specs.Changing.{HasSlot}
use Rattle.dbl_tables_changes.specs.declared.sessions.Session.{Session}
use Rattle.dbl_tables_changes.specs.declared.planned.Write.{Write}
use Rattle.dbl_tables_changes.specs.Written.{WritesAll}
use Rattle.dbl_tables_changes.specs.Taking.{AreReady}
use Rattle.dbl_tables_changes.proofs.JoinLemmas.{untaken_room, taken_parts}
use Rattle.dbl_tables_changes.proofs.taking.take.Goals as goal

-- no room for locks
pub returns-in_err-make_ready-clause-kept : goal.returns-in_err-make_ready-clause-kept
returns-in_err-make_ready-clause-kept c =
    let p = err_from_is_err_and c.from_residual.result c.from_residual.ensures.1 in
    let roomy : Rows = record c.args.rows.now { slots = c.make_ready.new.slots } in
    let listed : Session = record c.args.session.now { keys = c.make_ready.new.keys } in
    rw p.1 (untaken_room c.args.place c.args.name.now c.args.planned c.args.rows.now c.args.session.now c.make_ready.new.slots c.make_ready.new.keys.items c.make_ready.ensures.same roomy listed
    (record { table = refl; places = refl; cleared = refl }) refl (λ n. refl) refl refl refl)

-- no room for the message or the holder
pub returns-in_err-join-clause-kept : goal.returns-in_err-join-clause-kept
returns-in_err-join-clause-kept c =
    let p = err_from_is_err_and c.from_residual-in_err-join.result c.from_residual-in_err-join.ensures.1 in
    let j = c.in_err-join.ensures.kept in
    rw p.1 (untaken_room c.args.place c.args.name.now c.args.planned c.args.rows.now c.args.session.now c.make_ready.new.slots c.make_ready.new.keys.items c.make_ready.ensures.same c.join.new.rows c.join.new.session
    (record { table = j.table.table; places = j.table.places; cleared = j.table.cleared }) j.slots j.holders j.messages j.size_is (ap (λ k. k.items) j.keys))

pub returns-clause-taken : goal.returns-clause-taken
returns-clause-taken c =
    let j = c.in_ok-join.ensures.joined in
    let changed : Rows = record c.join.new.rows { slots = c.hold_all.new.slots } in
    let ready : AreReady c.args.place c.args.planned.writes.items c.make_ready.new.slots c.make_ready.new.keys.items =
    subst (λ (l : List Write). AreReady c.args.place l c.make_ready.new.slots c.make_ready.new.keys.items) c.as_slice.ensures.value c.in_ok-make_ready.ensures.ready in
    taken_parts c.args.place c.args.name.now c.args.planned c.args.rows.now c.args.session.now c.make_ready.new.slots c.make_ready.new.keys.items c.make_ready.ensures.same changed c.join.new.session
    (record { table = j.table.table; places = j.table.places; cleared = j.table.cleared }) (subst (λ (l : Slots). WritesAll c.args.planned.writes.items l c.hold_all.new.slots) j.slots c.hold_all.ensures) j.holders j.messages j.size_is (ap (λ k. k.items) j.keys) ready

-- there is room for each write still
pub hold_all-requires : goal.hold_all-requires
hold_all-requires c = subst (λ (l : Slots). AllByRecursion (λ (w : Write). HasSlot l w.key) c.args.planned.writes.items) (sym c.in_ok-join.ensures.joined.slots)
    (subst (λ (l : List Write). AllByRecursion (λ (w : Write). HasSlot c.make_ready.new.slots w.key) l) c.as_slice.ensures.value c.in_ok-make_ready.ensures.ready.room)

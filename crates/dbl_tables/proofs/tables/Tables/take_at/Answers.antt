use Rattle.std.proofs.Common.{◌≡◌, ◌∙◌, true, false, Some, None, refl, sym, ap, subst}
use Rattle.std.proofs.lemmas.Result.{err_from_is_err_and}
use Rattle.std.specs.Prelude.{IsSome, is_some, slice_get}
use Rattle.std.proofs.lemmas.Option.{slice_get_past, slice_get_read}
use Rattle.dbl_tables.proofs.StoreLemmas.{open_as, take_accepted, take_refused}
use Rattle.dbl_tables.proofs.tables.Tables.take_at.Goals as goal

-- the session is open
pub returns-in_default : goal.returns-in_default
returns-in_default c tables past call st at =
    let closed = open_as tables past c.args.session.now c.args.self.now st false (ap is_some (sym c.in_default.ensures.value)) in
    let contra : true ≡ false = sym at.begun ∙ closed in
    cc

-- the table is there
pub returns-in_default-get_mut : goal.returns-in_default-get_mut
returns-in_default-get_mut c tables past call st at =
    let none : slice_get c.args.self.now.tables.items c.args.place ≡ None = slice_get_past c.args.self.now.tables.items c.args.place c.in_default-get_mut.ensures.item.3 in
    let contra : Some at.there.rows ≡ None = sym at.there.there ∙ none in
    cc

pub returns-in_err-take : goal.returns-in_err-take
returns-in_err-take c tables past call st at =
    let p = err_from_is_err_and c.from_residual.result c.from_residual.ensures.1 in
    rw (p.1, p.2) (take_refused tables past c.args.session.now call c.args.self.now _ c.args.planned c.args.place c.in-Some.state.now c.take.new.session c.in-Some-get_mut.rows.now c.take.new.rows st at c.in-Some.ensures.value
    (slice_get_read c.args.self.now.tables.items _ c.args.place c.in-Some-get_mut.rows.now refl c.in-Some-get_mut.ensures.item.3.0 c.in-Some-get_mut.ensures.item.1) refl
    ((c.get_mut.follows.holds c.take.new.session).3 (subst IsSome c.in-Some.ensures.value refl)).0 c.in_err-take.ensures.kept)

pub returns : goal.returns
returns c tables past call st at =
    take_accepted tables past c.args.session.now call c.args.self.now _ c.args.planned c.args.place c.in-Some.state.now c.take.new.session c.in-Some-get_mut.rows.now c.take.new.rows st at c.in-Some.ensures.value
    (slice_get_read c.args.self.now.tables.items _ c.args.place c.in-Some-get_mut.rows.now refl c.in-Some-get_mut.ensures.item.3.0 c.in-Some-get_mut.ensures.item.1) refl
    ((c.get_mut.follows.holds c.take.new.session).3 (subst IsSome c.in-Some.ensures.value refl)).0 c.in_ok-take.ensures.taken

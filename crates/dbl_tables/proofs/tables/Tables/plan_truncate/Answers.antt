use Rattle.std.proofs.Common.{◌≡◌, ◌∙◌, ℕ, inr, true, false, Some, List, length, refl, sym, ap, subst}
use Rattle.std.proofs.lemmas.Result.{err_from_is_err_and}
use Rattle.std.specs.Prelude.{is_some, option_copied, replicate}
use Rattle.std.specs.List.{AllZip}
use Rattle.dbl_tables_rows.specs.Acts.{is_open, messages_by}
use Rattle.dbl_tables_rows.specs.Given.{SizeGrown}
use Rattle.dbl_tables.specs.Truncates.{place_in, TruncatesAt, FindsFirst}
use Rattle.dbl_tables.proofs.CutLemmas.{truncate_closed}
use Rattle.dbl_tables.proofs.GatherLemmas.{its_session, cut_unknown, utf8_cut, cut_too_long, cut_locked, cut_planned}
use Rattle.dbl_tables.proofs.StoreLemmas.{open_as}
use Rattle.dbl_tables.proofs.tables.Tables.plan_truncate.Goals as goal

-- the session isn't open
pub returns-in_default : goal.returns-in_default
returns-in_default c all past st =
    inr (truncate_closed all past c.args.session.now c.args.self.now st c.args.tables.now (open_as all past c.args.session.now c.args.self.now st false (ap is_some (sym c.in_default.ensures.value))))

-- a table isn't there
pub returns-in_err-places : goal.returns-in_err-places
returns-in_err-places c all past st =
    let p = err_from_is_err_and c.from_residual.result c.from_residual.ensures.1 in
    rw (p.1, p.2) (cut_unknown all past c.args.session.now c.args.self.now st c.args.tables.now (open_as all past c.args.session.now c.args.self.now st true (ap is_some (sym c.in-Some.ensures.value))) c.in_err-places.field-0.0 c.in_err-places.ensures)

-- too long
pub returns-in_default-grown_size : goal.returns-in_default-grown_size
returns-in_default-grown_size c all past st =
    let opened : is_open c.args.session.now past ≡ true = open_as all past c.args.session.now c.args.self.now st true (ap is_some (sym c.in-Some.ensures.value)) in
    let own = its_session all past c.args.session.now c.args.self.now st c.in-Some.state.now c.in-Some.ensures.value in
    let zip : AllZip (λ name place. place_in c.args.self.now.tables.items name ≡ Some place) c.args.tables.now c.in_ok-places.places = c.in_ok-places.ensures in
    let at : TruncatesAt c.in_ok-places.places c.in_ok-message.message = subst (λ (l : List ℕ). TruncatesAt l c.in_ok-message.message) (c.as_slice.ensures.value ∙ c.items.ensures) c.in_ok-message.ensures in
    inr (cut_too_long all past c.args.session.now c.args.self.now st c.args.tables.now opened c.in_ok-places.places zip c.in_ok-message.message at
    (c.in_default-grown_size.ensures (messages_by c.args.session.now past) (utf8_cut all past c.args.session.now c.args.self.now st c.args.tables.now opened c.in_ok-places.places zip c.in_ok-message.message at) own.short own.size))

-- somebody is in the way
pub returns-in-Err : goal.returns-in-Err
returns-in-Err c all past st =
    let opened : is_open c.args.session.now past ≡ true = open_as all past c.args.session.now c.args.self.now st true (ap is_some (sym c.in-Some.ensures.value)) in
    let own = its_session all past c.args.session.now c.args.self.now st c.in-Some.state.now c.in-Some.ensures.value in
    let zip : AllZip (λ name place. place_in c.args.self.now.tables.items name ≡ Some place) c.args.tables.now c.in_ok-places.places = c.in_ok-places.ensures in
    let at : TruncatesAt c.in_ok-places.places c.in_ok-message.message = subst (λ (l : List ℕ). TruncatesAt l c.in_ok-message.message) (c.as_slice.ensures.value ∙ c.items.ensures) c.in_ok-message.ensures in
    let grown : SizeGrown (messages_by c.args.session.now past) c.in_ok-message.message (Some c.in-Some-grown_size.size) =
    c.in-Some-grown_size.ensures (messages_by c.args.session.now past) (utf8_cut all past c.args.session.now c.args.self.now st c.args.tables.now opened c.in_ok-places.places zip c.in_ok-message.message at) own.short own.size in
    let finds : FindsFirst c.args.session.now c.args.self.now.tables.items c.in_ok-places.places (option_copied c.holder_of.result) =
    subst (λ (l : List ℕ). FindsFirst c.args.session.now c.args.self.now.tables.items l (option_copied c.holder_of.result)) (c.as_slice-2.ensures.value ∙ c.items-2.ensures) c.holder_of.ensures in
    cut_locked all past c.args.session.now c.args.self.now st c.args.tables.now opened c.in_ok-places.places zip c.in_ok-message.message at c.in-Some-grown_size.size grown (option_copied c.holder_of.result) finds c.in-Err.error c.in-Err.ensures

pub returns : goal.returns
returns c all past st =
    let opened : is_open c.args.session.now past ≡ true = open_as all past c.args.session.now c.args.self.now st true (ap is_some (sym c.in-Some.ensures.value)) in
    let own = its_session all past c.args.session.now c.args.self.now st c.in-Some.state.now c.in-Some.ensures.value in
    let zip : AllZip (λ name place. place_in c.args.self.now.tables.items name ≡ Some place) c.args.tables.now c.in_ok-places.places = c.in_ok-places.ensures in
    let at : TruncatesAt c.in_ok-places.places c.in_ok-message.message = subst (λ (l : List ℕ). TruncatesAt l c.in_ok-message.message) (c.as_slice.ensures.value ∙ c.items.ensures) c.in_ok-message.ensures in
    let grown : SizeGrown (messages_by c.args.session.now past) c.in_ok-message.message (Some c.in-Some-grown_size.size) =
    c.in-Some-grown_size.ensures (messages_by c.args.session.now past) (utf8_cut all past c.args.session.now c.args.self.now st c.args.tables.now opened c.in_ok-places.places zip c.in_ok-message.message at) own.short own.size in
    let finds : FindsFirst c.args.session.now c.args.self.now.tables.items c.in_ok-places.places (option_copied c.holder_of.result) =
    subst (λ (l : List ℕ). FindsFirst c.args.session.now c.args.self.now.tables.items l (option_copied c.holder_of.result)) (c.as_slice-2.ensures.value ∙ c.items-2.ensures) c.holder_of.ensures in
    let count : c.len.result ≡ length c.in_ok-places.places = c.len.ensures ∙ (c.items-3.result.now.ok.0 ∙ ap length c.items-3.ensures) in
    cut_planned all past c.args.session.now c.args.self.now st c.args.tables.now opened c.in_ok-places.places zip c.in_ok-message.message at c.in-Some-grown_size.size grown (option_copied c.holder_of.result) finds tt c.in-Ok.ensures
    (record { message = c.in_ok-message.message; size = c.in-Some-grown_size.size; places = c.in_ok-places.places; names = c.in-Ok-copies.names }) refl refl refl (c.in-Ok-copies.ensures ∙ ap (λ (n : ℕ). replicate n c.args.session.now) count)

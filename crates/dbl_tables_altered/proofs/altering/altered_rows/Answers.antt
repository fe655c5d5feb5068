use Rattle.std.proofs.Common.{rules, ◌≡◌, ◌⊎◌, ℕ, false, true, Option, List, inl, inr, refl, sym, subst}
use Rattle.std.proofs.lemmas.Result.{err_from_is_err_and}
use Rattle.dbl_model_table.specs.Infos.{catalogue_of}
use Rattle.dbl_tables_rows.specs.Views.{Slots, base_of, committed_in}
use Rattle.dbl_tables_altered.specs.Altered.{HasLongAfter, AreAltered}
use Rattle.dbl_tables_altered.proofs.LengthLemmas.{room_of}
use Rattle.dbl_tables_altered.proofs.altering.altered_rows.Goals as goal

pub returns-in_err-info : goal.returns-in_err-info
returns-in_err-info c columns =
    let p = err_from_is_err_and c.from_residual.result c.from_residual.ensures.1 in
    rw (p.1, p.2) (elim (c.in_err-info.ensures columns) [
      | inl memory ↦ inl memory
      | inr bad ↦ inr (bad.0, inl bad.1)
    ])

pub returns-in_err-slots : goal.returns-in_err-slots
returns-in_err-slots c columns =
    let p = err_from_is_err_and c.from_residual-in_err-slots.result c.from_residual-in_err-slots.ensures.1 in
    let fit = (c.in_ok-info.ensures columns).1 in
    let room = room_of c.args.alteration.now c.args.rows.now.table.info fit in
    rw (p.1, p.2) (elim (c.in_err-slots.ensures room) [
      | inl memory ↦ inl memory
      | inr long ↦ inr (
        long.0,
        inr (
          fit,
          subst (λ (s : Slots). HasLongAfter c.args.alteration.now c.args.oid (catalogue_of c.args.rows.now.table.info).columns (committed_in s)) c.base.ensures long.1,
        ),
      )
    ])

pub returns : goal.returns
returns c columns =
    let of = c.in_ok-info.ensures columns in
    let room = room_of c.args.alteration.now c.args.rows.now.table.info of.1 in
    record {
      fit = of.1;
      columns = of.0;
      full = refl;
      toast = refl;
      places = c.in_ok-places.ensures;
      rows = subst (λ (s : Slots). AreAltered c.args.alteration.now c.args.oid (catalogue_of c.args.rows.now.table.info).columns (committed_in s) c.in_ok-slots.slots) c.base.ensures (c.in_ok-slots.ensures room);
      cleared = refl;
      holders = search rules;
    }

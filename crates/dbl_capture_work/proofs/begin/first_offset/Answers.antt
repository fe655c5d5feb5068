use Rattle.std.proofs.Common.{◌≡◌, ◌∙◌, inl, inr, List, sym, ap, subst, rules}
use Rattle.std.specs.Prelude.{Contains, Err, length, map}
use Rattle.std.proofs.lemmas.Result.{err_from_is_err_and}
use Rattle.dbl_base.specs.declared.lsn.Lsn.{Lsn}
use Rattle.dbl_model_table.specs.declared.table.TableInfo.{TableInfo}
use Rattle.dbl_model_table.specs.declared.table.TableName.{TableName}
use Rattle.dbl_source_model.specs.Standings.{SourceState}
use Rattle.dbl_source_model.specs.Trace.{Head, LastAnswerIs}
use Rattle.dbl_source.specs.SourceLog.declared.error.SourceError.{SourceError}
use Rattle.dbl_capture_work.specs.declared.halt.Halt.TheVariants as halt
use Rattle.dbl_capture_work.specs.Begins.{IsAbsentAfter}
use Rattle.dbl_capture_work.proofs.Exits.{moved_on, rose_after, source_absent, source_failed, taken_on, later_on}
use Rattle.dbl_capture_work.proofs.Describing.{first_is_for, first_is_offset, head_from, infos_on, rest_on}
use Rattle.dbl_capture_work.proofs.begin.first_offset.Goals as goal

pub returns-in_err-tables-clause-fault : goal.returns-in_err-tables-clause-fault
returns-in_err-tables-clause-fault g c =
    let p = err_from_is_err_and c.from_residual.result c.from_residual.ensures.1 in
    rw (p.1, p.2) (elim c.in_err-tables.ensures.fault [
      | inl memory ↦ inl memory
      | inr (inl failed) ↦ inr (inl failed)
      | inr (inr fault) ↦ inr (inr (fault.0, subst (λ (l : List TableName). Contains l fault.0) c.items.ensures fault.1, fault.2))
    ])

pub returns-in_err-tables-clause-absent : goal.returns-in_err-tables-clause-absent
returns-in_err-tables-clause-absent g c s stands =
    let p = err_from_is_err_and c.from_residual.result c.from_residual.ensures.1 in
    rw (p.1, p.2) (subst (λ (l : List TableName). IsAbsentAfter (g.S.Source.stands c.describe_tables.new.src) s l c.in_err-tables.field-0.0) c.items.ensures (c.in_err-tables.ensures.absent s stands))

pub returns-in_err-head-clause-absent : goal.returns-in_err-head-clause-absent
returns-in_err-head-clause-absent g c s stands =
    let p = err_from_is_err_and c.from_residual-in_err-head.result c.from_residual-in_err-head.ensures.1 in
    rw (p.1, p.2) (source_absent (g.S.Source.stands c.head.new.self) s c.args.config.now.tables c.in_err-head.field-0.0)

pub returns-in_err-head-clause-rests : goal.returns-in_err-head-clause-rests
returns-in_err-head-clause-rests g c = record {
  left = λ s l stands may.
      let stood = c.in_ok-tables.ensures.described s stands in
      rest_on s stood.standing l stood.holds.0 (c.head.ensures.left stood.standing l stood.is may);
  some = λ s stands. (
      let stood = c.in_ok-tables.ensures.described s stands in
      c.head.ensures.some stood.standing stood.is);
  still = search rules;
  taken =
      taken_on (g.S.Source.told c.args.src.now) (g.S.Source.told c.describe_tables.new.src) (g.S.Source.told c.head.new.self) c.describe_tables.ensures.rests.taken c.head.ensures.taken;
}

pub returns-in_err-head-clause-source : goal.returns-in_err-head-clause-source
returns-in_err-head-clause-source g c = record {
  live = (let p = err_from_is_err_and c.from_residual-in_err-head.result c.from_residual-in_err-head.ensures.1 in rw p.1 tt);
  honest = λ honest. c.describe_tables.ensures.source.honest (c.head.ensures.honest honest);
  comes = g.met.S.Source.comes_on c.args.src.now c.describe_tables.new.src c.head.new.self c.describe_tables.ensures.source.comes c.head.ensures.comes;
  cause = record { later = later_on (g.S.Source.faults c.args.src.now) (g.S.Source.faults c.describe_tables.new.src) (g.S.Source.faults c.head.new.self) c.describe_tables.ensures.source.cause.later c.head.ensures.cause.later; cause = λ is. let p = err_from_is_err_and c.from_residual-in_err-head.result c.from_residual-in_err-head.ensures.1 in let both : Err p.0 ≡ Err halt.Source = sym p.1 ∙ is in let halted : p.0 ≡ halt.Source = cc in let failed = source_failed c.in_err-head.field-0.0 (sym p.2 ∙ halted) in rose_after (g.S.Source.faults c.args.src.now) (g.S.Source.faults c.describe_tables.new.src) (g.S.Source.faults c.head.new.self) c.describe_tables.ensures.source.cause.later (c.head.ensures.cause.cause (c.in_err-head.was ∙ ap (λ (e : SourceError). Err e) failed)) };
}

pub returns-in_err-offset_at-clause-rests : goal.returns-in_err-offset_at-clause-rests
returns-in_err-offset_at-clause-rests g c = record {
  left = λ s l stands may.
      let stood = c.in_ok-tables.ensures.described s stands in
      rest_on s stood.standing l stood.holds.0 (c.head.ensures.left stood.standing l stood.is may);
  some = λ s stands. (
      let stood = c.in_ok-tables.ensures.described s stands in
      c.head.ensures.some stood.standing stood.is);
  still = λ s t old new.
      let stood = c.in_ok-tables.ensures.described s old in
      let headed = c.in_ok-head.ensures.headed stood.standing stood.is in
      ap (λ (x : SourceState). x.reading) (g.met.S.Source.one c.head.new.self t headed.standing new headed.is) ∙ (headed.holds.0.reading ∙ stood.holds.0.reading);
  taken =
      taken_on (g.S.Source.told c.args.src.now) (g.S.Source.told c.describe_tables.new.src) (g.S.Source.told c.head.new.self) c.describe_tables.ensures.rests.taken c.head.ensures.taken;
}

pub returns-clause-first : goal.returns-clause-first
returns-clause-first g c s stands =
    let stood = c.in_ok-tables.ensures.described s stands in
    let headed = c.in_ok-head.ensures.headed stood.standing stood.is in
    let infos = c.in_ok-tables.tables.infos.items in
    let moved = moved_on s stood.standing headed.standing stood.holds.0 headed.holds.0 in
    let named : map (λ (info : TableInfo). info.name) infos ≡ c.args.config.now.tables = c.in_ok-tables.ensures.named ∙ c.items.ensures in
    record {
      standing = headed.standing;
      is = headed.is;
      holds = (
        moved,
        (
          infos,
          c.in_ok-head.head,
          c.in_ok-offset_at.ensures.first,
          named,
          head_from c.in_ok-head.head s stood.standing headed.standing stood.holds.0 headed.holds.1,
        ),
      );
    }

pub returns-clause-of : goal.returns-clause-of
returns-clause-of g c = first_is_for c.args.config.now c.in_ok-tables.tables.infos.items c.in_ok-head.head c.in_ok-offset_at.field-0 (c.in_ok-tables.ensures.named ∙ c.items.ensures) c.in_ok-offset_at.ensures.first

pub returns-clause-asked : goal.returns-clause-asked
returns-clause-asked g c =
    first_is_offset c.args.config.now c.in_ok-tables.tables.infos.items c.in_ok-tables.tables.versions.items c.in_ok-head.head c.in_ok-offset_at.field-0 c.requires.config (c.in_ok-tables.ensures.named ∙ c.items.ensures) c.in_ok-tables.ensures.counted
    c.in_ok-offset_at.ensures.first c.in_ok-offset_at.ensures.versions

pub returns-clause-described : goal.returns-clause-described
returns-clause-described g c s stands =
    let stood = c.in_ok-tables.ensures.described s stands in
    let headed = c.in_ok-head.ensures.headed stood.standing stood.is in
    let infos = c.in_ok-tables.tables.infos.items in
    let versions = c.in_ok-tables.tables.versions.items in
    record {
      standing = headed.standing;
      is = headed.is;
      holds = rw (c.in_ok-offset_at.ensures.first.infos_are, c.in_ok-offset_at.ensures.versions) (infos_on stood.standing.history headed.standing.history (length s.history.commits) infos versions headed.holds.0.grows stood.holds.1);
    }

pub returns-clause-headed : goal.returns-clause-headed
returns-clause-headed g c = subst (λ (lsn : Lsn). LastAnswerIs (g.S.Source.told c.head.new.self) (Head lsn)) (sym c.in_ok-offset_at.ensures.first.start) c.in_ok-head.ensures.told

pub returns-clause-rests : goal.returns-clause-rests
returns-clause-rests g c = record {
  left = λ s l stands may.
      let stood = c.in_ok-tables.ensures.described s stands in
      rest_on s stood.standing l stood.holds.0 (c.head.ensures.left stood.standing l stood.is may);
  some = λ s stands. (
      let stood = c.in_ok-tables.ensures.described s stands in
      c.head.ensures.some stood.standing stood.is);
  still = λ s t old new.
      let stood = c.in_ok-tables.ensures.described s old in
      let headed = c.in_ok-head.ensures.headed stood.standing stood.is in
      ap (λ (x : SourceState). x.reading) (g.met.S.Source.one c.head.new.self t headed.standing new headed.is) ∙ (headed.holds.0.reading ∙ stood.holds.0.reading);
  taken =
      taken_on (g.S.Source.told c.args.src.now) (g.S.Source.told c.describe_tables.new.src) (g.S.Source.told c.head.new.self) c.describe_tables.ensures.rests.taken c.head.ensures.taken;
}

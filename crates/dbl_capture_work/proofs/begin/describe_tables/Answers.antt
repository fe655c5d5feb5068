use Rattle.std.proofs.Common.{◌≡◌, ◌∙◌, inl, inr, ◌≤◌, ◌<◌, ◌^◌, ℕ, List, [], ◌∷◌, ◌++◌, length, map, get_or, sym, ap, subst, le_refl}
use Rattle.std.specs.Prelude.{Err}
use Rattle.std.proofs.lemmas.Result.{err_from_is_err_and}
use Rattle.dbl_model_table.specs.declared.table.TableInfo.{TableInfo}
use Rattle.dbl_model_table.specs.declared.table.TableName.{TableName}
use Rattle.dbl_source_model.specs.Standings.{SourceState, left_of}
use Rattle.dbl_capture_work.specs.declared.halt.Halt.{Halt}
use Rattle.dbl_capture_work.specs.declared.halt.Halt.TheVariants as halt
use Rattle.dbl_capture_work.proofs.Exits.{later_on, moved_on, none_taken, rose_after, taken_on}
use Rattle.dbl_capture_work.proofs.Describing.{absent_next, described_more, moved_none, name_among, named_push, rest_on, zip_push}
use Rattle.dbl_capture_work.proofs.begin.describe_tables.Goals as goal

pub returns-in_err-infos-clause-rests : goal.returns-in_err-infos-clause-rests
returns-in_err-infos-clause-rests g c = record {
  left = λ s l stands may. inl (g.met.S.Source.only c.args.src.now s l stands may);
  some = λ s stands. (left_of s, g.met.S.Source.may c.args.src.now s stands);
  still = λ s t old new. ap (λ (x : SourceState). x.reading) (g.met.S.Source.one c.args.src.now t s new old);
  taken = none_taken (g.S.Source.told c.args.src.now);
}

pub returns-in_err-versions-clause-rests : goal.returns-in_err-versions-clause-rests
returns-in_err-versions-clause-rests g c = record {
  left = λ s l stands may. inl (g.met.S.Source.only c.args.src.now s l stands may);
  some = λ s stands. (left_of s, g.met.S.Source.may c.args.src.now s stands);
  still = λ s t old new. ap (λ (x : SourceState). x.reading) (g.met.S.Source.one c.args.src.now t s new old);
  taken = none_taken (g.S.Source.told c.args.src.now);
}

pub tables-init : goal.tables-init
tables-init g c = record {
  described = λ s stands. record { standing = s; is = stands; holds = (moved_none s (g.met.S.Source.rising c.args.src.now s stands), rw (c.in_ok-infos.ensures.items, c.in_ok-versions.ensures.items) tt) };
  counted = rw (c.in_ok-infos.ensures.items, c.in_ok-versions.ensures.items) tt;
  named = ap (map (λ (info : TableInfo). info.name)) c.in_ok-infos.ensures.items;
  left = λ s l stands may. inl (g.met.S.Source.only c.args.src.now s l stands may);
  some = λ s stands. (left_of s, g.met.S.Source.may c.args.src.now s stands);
  taken = none_taken (g.S.Source.told c.args.src.now);
  is_live = c.requires;
  was_honest = λ honest. honest;
  comes = g.met.S.Source.comes_self c.args.src.now;
  later = le_refl (g.S.Source.faults c.args.src.now);
}

pub returns-in_err-table-clause-fault : goal.returns-in_err-table-clause-fault
returns-in_err-table-clause-fault g c =
    let p = err_from_is_err_and c.from_residual-in_err-table.result c.from_residual-in_err-table.ensures.1 in
    let names = c.args.names.now.items in
    let i = c.tables.name-index in
    let name = c.name-item.result in
    let items : c.deref-name-items.result.now ≡ names = c.deref-name-items.ensures.value in
    let lt : i < length names = subst (λ (l : List TableName). i < length l) items c.tables-test.true in
    let is : name ≡ get_or names i name = c.name-item.is ∙ ap (λ (l : List TableName). get_or l i name) items in
    rw (p.1, p.2) (elim c.in_err-table.ensures.fault [
      | inl memory ↦ inl memory
      | inr (inl failed) ↦ inr (inl failed)
      | inr (inr fault) ↦ inr (inr (name, name_among names i name lt is, fault))
    ])

pub returns-in_err-table-clause-absent : goal.returns-in_err-table-clause-absent
returns-in_err-table-clause-absent g c s stands =
    let p = err_from_is_err_and c.from_residual-in_err-table.result c.from_residual-in_err-table.ensures.1 in
    let stood = c.tables.invariant.described s stands in
    let names = c.args.names.now.items in
    let i = c.tables.name-index in
    let name = c.name-item.result in
    let items : c.deref-name-items.result.now ≡ names = c.deref-name-items.ensures.value in
    let lt : i < length names = subst (λ (l : List TableName). i < length l) items c.tables-test.true in
    let is : name ≡ get_or names i name = c.name-item.is ∙ ap (λ (l : List TableName). get_or l i name) items in
    rw (p.1, p.2) (absent_next (g.S.Source.stands c.describe_table.new.src) s stood.standing c.tables.infos.items c.tables.versions.items names i name c.in_err-table.field-0.0 lt is stood.holds.0 stood.holds.1 c.tables.invariant.named
    (c.in_err-table.ensures.absent stood.standing stood.is))

pub returns-in_err-table-clause-rests : goal.returns-in_err-table-clause-rests
returns-in_err-table-clause-rests g c = record {
  left = λ s l stands may.
      let stood = c.tables.invariant.described s stands in
      rest_on s stood.standing l stood.holds.0 (c.describe_table.ensures.rests.left stood.standing l stood.is may);
  some = λ s stands. (
      let stood = c.tables.invariant.described s stands in
      c.describe_table.ensures.rests.some stood.standing stood.is);
  still = λ s t old new. (
      let stood = c.tables.invariant.described s old in
      c.describe_table.ensures.rests.still stood.standing t stood.is new ∙ stood.holds.0.reading);
  taken =
      taken_on (g.S.Source.told c.args.src.now) (g.S.Source.told c.tables.src) (g.S.Source.told c.describe_table.new.src) c.tables.invariant.taken c.describe_table.ensures.rests.taken;
}

pub returns-in_err-table-clause-source : goal.returns-in_err-table-clause-source
returns-in_err-table-clause-source g c = record {
  live = (let p = err_from_is_err_and c.from_residual-in_err-table.result c.from_residual-in_err-table.ensures.1 in rw p.1 tt);
  honest = λ honest. c.tables.invariant.was_honest (c.describe_table.ensures.source.honest honest);
  comes = g.met.S.Source.comes_on c.args.src.now c.tables.src c.describe_table.new.src c.tables.invariant.comes c.describe_table.ensures.source.comes;
  cause = record { later = later_on (g.S.Source.faults c.args.src.now) (g.S.Source.faults c.tables.src) (g.S.Source.faults c.describe_table.new.src) c.tables.invariant.later c.describe_table.ensures.source.cause.later; cause = λ is. let p = err_from_is_err_and c.from_residual-in_err-table.result c.from_residual-in_err-table.ensures.1 in let both : Err p.0 ≡ Err halt.Source = sym p.1 ∙ is in let halted : p.0 ≡ halt.Source = cc in rose_after (g.S.Source.faults c.args.src.now) (g.S.Source.faults c.tables.src) (g.S.Source.faults c.describe_table.new.src) c.tables.invariant.later (c.in_err-table.ensures.source.cause.cause (ap (λ (h : Halt). Err h) (sym p.2 ∙ halted))) };
}

pub returns-in_err-push-clause-rests : goal.returns-in_err-push-clause-rests
returns-in_err-push-clause-rests g c = record {
  left = λ s l stands may.
      let stood = c.tables.invariant.described s stands in
      rest_on s stood.standing l stood.holds.0 (c.describe_table.ensures.rests.left stood.standing l stood.is may);
  some = λ s stands. (
      let stood = c.tables.invariant.described s stands in
      c.describe_table.ensures.rests.some stood.standing stood.is);
  still = λ s t old new. (
      let stood = c.tables.invariant.described s old in
      c.describe_table.ensures.rests.still stood.standing t stood.is new ∙ stood.holds.0.reading);
  taken =
      taken_on (g.S.Source.told c.args.src.now) (g.S.Source.told c.tables.src) (g.S.Source.told c.describe_table.new.src) c.tables.invariant.taken c.describe_table.ensures.rests.taken;
}

pub returns-in_err-push-clause-source : goal.returns-in_err-push-clause-source
returns-in_err-push-clause-source g c = record {
  live = (let p = err_from_is_err_and c.from_residual-in_err-push.result c.from_residual-in_err-push.ensures.1 in rw p.1 tt);
  honest = λ honest. c.tables.invariant.was_honest (c.describe_table.ensures.source.honest honest);
  comes = g.met.S.Source.comes_on c.args.src.now c.tables.src c.describe_table.new.src c.tables.invariant.comes c.describe_table.ensures.source.comes;
  cause = record { later = later_on (g.S.Source.faults c.args.src.now) (g.S.Source.faults c.tables.src) (g.S.Source.faults c.describe_table.new.src) c.tables.invariant.later c.describe_table.ensures.source.cause.later; cause = λ is. let p = err_from_is_err_and c.from_residual-in_err-push.result c.from_residual-in_err-push.ensures.1 in let both : Err p.0 ≡ Err halt.Source = sym p.1 ∙ is in let halted : p.0 ≡ halt.Source = cc in let wrong : halt.Memory ≡ halt.Source = sym p.2 ∙ halted in cc };
}

pub returns-in_err-push-2-clause-rests : goal.returns-in_err-push-2-clause-rests
returns-in_err-push-2-clause-rests g c = record {
  left = λ s l stands may.
      let stood = c.tables.invariant.described s stands in
      rest_on s stood.standing l stood.holds.0 (c.describe_table.ensures.rests.left stood.standing l stood.is may);
  some = λ s stands. (
      let stood = c.tables.invariant.described s stands in
      c.describe_table.ensures.rests.some stood.standing stood.is);
  still = λ s t old new. (
      let stood = c.tables.invariant.described s old in
      c.describe_table.ensures.rests.still stood.standing t stood.is new ∙ stood.holds.0.reading);
  taken =
      taken_on (g.S.Source.told c.args.src.now) (g.S.Source.told c.tables.src) (g.S.Source.told c.describe_table.new.src) c.tables.invariant.taken c.describe_table.ensures.rests.taken;
}

pub returns-in_err-push-2-clause-source : goal.returns-in_err-push-2-clause-source
returns-in_err-push-2-clause-source g c = record {
  live = (let p = err_from_is_err_and c.from_residual-in_err-push-2.result c.from_residual-in_err-push-2.ensures.1 in rw p.1 tt);
  honest = λ honest. c.tables.invariant.was_honest (c.describe_table.ensures.source.honest honest);
  comes = g.met.S.Source.comes_on c.args.src.now c.tables.src c.describe_table.new.src c.tables.invariant.comes c.describe_table.ensures.source.comes;
  cause = record { later = later_on (g.S.Source.faults c.args.src.now) (g.S.Source.faults c.tables.src) (g.S.Source.faults c.describe_table.new.src) c.tables.invariant.later c.describe_table.ensures.source.cause.later; cause = λ is. let p = err_from_is_err_and c.from_residual-in_err-push-2.result c.from_residual-in_err-push-2.ensures.1 in let both : Err p.0 ≡ Err halt.Source = sym p.1 ∙ is in let halted : p.0 ≡ halt.Source = cc in let wrong : halt.Memory ≡ halt.Source = sym p.2 ∙ halted in cc };
}

pub tables-preserved : goal.tables-preserved
tables-preserved g c =
    let inv = c.tables.invariant in
    let old = c.args.src.now in
    let mid = c.tables.src in
    let new = c.describe_table.new.src in
    let infos = c.tables.infos.items in
    let versions = c.tables.versions.items in
    let info = c.in_ok-table.table.info in
    let version = c.in_ok-table.table.version in
    let names = c.args.names.now.items in
    let i = c.tables.name-index in
    let name = c.name-item.result in
    let items : c.deref-name-items.result.now ≡ names = c.deref-name-items.ensures.value in
    let lt : i < length names = subst (λ (l : List TableName). i < length l) items c.tables-test.true in
    let is : name ≡ get_or names i name = c.name-item.is ∙ ap (λ (l : List TableName). get_or l i name) items in
    let pushed : c.push.new.self.items ≡ infos ++ info ∷ [] = c.in_ok-push.ensures.items in
    let numbered = c.in_ok-push-2.ensures.items in
    record {
      described = λ s stands. (
          let stood = inv.described s stands in
          let next = c.in_ok-table.ensures.described stood.standing stood.is in
          record {
            standing = next.standing;
            is = next.is;
            holds = (
              moved_on s stood.standing next.standing stood.holds.0 next.holds.0,
              rw (pushed, numbered) (described_more s stood.standing next.standing infos versions info version stood.holds.0 next.holds.0 stood.holds.1 next.holds.2),
            );
          });
      counted = rw (pushed, numbered) (zip_push (λ (x : TableInfo) (v : ℕ). (1 ≤ v) × (v < 2 ^ 64)) infos versions info version inv.counted c.in_ok-table.ensures.counted);
      named = ap (map (λ (x : TableInfo). x.name)) pushed ∙ named_push infos info names i name lt inv.named c.in_ok-table.ensures.named is;
      left = λ s l stands may. (
          let stood = inv.described s stands in
          rest_on s stood.standing l stood.holds.0 (c.describe_table.ensures.rests.left stood.standing l stood.is may));
      some = λ s stands. (
          let stood = inv.described s stands in
          c.describe_table.ensures.rests.some stood.standing stood.is);
      taken = taken_on (g.S.Source.told old) (g.S.Source.told mid) (g.S.Source.told new) inv.taken c.describe_table.ensures.rests.taken;
      is_live = c.in_ok-table.ensures.source.live;
      was_honest = λ honest. inv.was_honest (c.describe_table.ensures.source.honest honest);
      comes = g.met.S.Source.comes_on old mid new inv.comes c.describe_table.ensures.source.comes;
      later = later_on (g.S.Source.faults old) (g.S.Source.faults mid) (g.S.Source.faults new) inv.later c.describe_table.ensures.source.cause.later;
    }

use Rattle.std.proofs.Common.{◌∙◌, inl, inr, Some, Option, length, refl, sym, ap, subst, arith, rules}
use Rattle.std.specs.Prelude.{IfOk}
use Rattle.dbl_source.proofs.SourceModelGrowthLemmas.{grows_none}
use Rattle.dbl_source.specs.SourceModel.Standings.{SourceState, left_of}
use Rattle.dbl_offset_content.specs.declared.offset.Offset.{Offset}
use Rattle.dbl_capture_work.specs.Begins.{IsAgain, IsOffsetFor}
use Rattle.dbl_capture_laws.proofs.Beginnings.{again_for, begins_again, begins_first, first_at_head, first_found, none_again}
use Rattle.dbl_capture_laws.proofs.StepCauses.{OfNone, OfSource, again_of, err_at, err_then, first_of, residual_of}
use Rattle.dbl_capture_laws.proofs.Keeping.{answer_both, answer_then}
use Rattle.dbl_capture_work.proofs.Exits.{none_taken}
use Rattle.dbl_capture_laws.specs.Underway.{IsBeginHalt}
use Rattle.dbl_capture_laws.proofs.Telling.{again_begins, first_begins, not_both}
use Rattle.dbl_capture_laws.proofs.Telling.{again_exhausted, not_exhausted}
use Rattle.dbl_capture_work.specs.Begins.{IsAbsentAfter}
use Rattle.dbl_capture_laws.proofs.Telling.{again_absent}
use Rattle.dbl_capture_laws.specs.Caused.{AsksUnread}
use Rattle.dbl_capture_laws.proofs.Asking.{again_asks, again_found, first_asks}
use Rattle.dbl_capture_laws.specs.Owned.{IsContentFree}
use Rattle.dbl_capture_laws.proofs.Owning.{again_free, first_by_catalogue, first_free}
use Rattle.dbl_capture_work.proofs.WindowHonestLemmas.{captured_stays}
use Rattle.dbl_capture_laws.specs.Captured.{CapturedOrHalts, CapturesOrHalts, IsTableHalt, PassesState}
use Rattle.dbl_capture_laws.specs.Found.{IsFirstIn}
use Rattle.dbl_capture_laws.proofs.Telling.{residual_as}
use Rattle.dbl_capture_laws.proofs.Honest.{captured_tables_can_be_captured}
use Rattle.dbl_capture_laws.proofs.Captured.{again_table, captures_ok, first_table, found_in, passes_here, result_as}
use Rattle.dbl_capture_laws.proofs.Awaited.{again_within, first_within}
use Rattle.dbl_capture_laws.specs.HasState.{IsNotOffsetTooLong}
use Rattle.dbl_capture_laws.proofs.HasState.{again_short, first_short}
use Rattle.dbl_capture_laws.proofs.Excluding.{no_answer, no_ok}
use Rattle.dbl_capture.proofs.opening.offset_of.Goals as goal

-- nothing was asked of the source yet
pub returns-in_err-offset-clause-rests : goal.returns-in_err-offset-clause-rests
returns-in_err-offset-clause-rests g c = record {
  left = λ s l is may. inl (g.met.S.Source.only _ s l is may);
  some = λ s is. (left_of s, g.met.S.Source.may _ s is);
  still = λ s t was now. ap (λ (x : SourceState). x.reading) (g.met.S.Source.one c.args.src.now t s now was);
  taken = none_taken (g.S.Source.told c.args.src.now);
}

pub returns-in_err-offset-clause-source : goal.returns-in_err-offset-clause-source
returns-in_err-offset-clause-source g c = record {
  live = no_ok c.from_residual.result _ _ c.from_residual.ensures.1;
  honest = λ honest. honest;
  comes = g.met.S.Source.comes_self _;
  cause = record { later = omega arith; cause = λ is. absurd (err_at c.from_residual.result _ OfNone (residual_of c.from_residual.result _ OfNone c.from_residual.ensures.1 (again_of c.args.store.now.offset _ c.in_err-offset.ensures.halt)) is) };
}

pub returns-in_err-offset-clause-stops : goal.returns-in_err-offset-clause-stops
returns-in_err-offset-clause-stops g c = record {
  others =
      let of = residual_of c.from_residual.result _ OfNone c.from_residual.ensures.1 (again_of c.args.store.now.offset _ c.in_err-offset.ensures.halt) in (
        λ is. err_at c.from_residual.result _ OfNone of is,
        λ is. err_at c.from_residual.result _ OfNone of is,
      );
  never = λ value at is. err_at c.from_residual.result _ OfNone (residual_of c.from_residual.result _ OfNone c.from_residual.ensures.1 (again_of c.args.store.now.offset _ c.in_err-offset.ensures.halt)) is;
  exhausted = λ h is. again_exhausted c.next_incarnation.result c.from_residual.result c.args.store.now.offset _ h c.next_incarnation.ensures.exhausted c.in_err-offset.was c.from_residual.ensures.1 is;
  short = residual_of c.from_residual.result _ IsNotOffsetTooLong c.from_residual.ensures.1 (again_short c.args.store.now.offset _ c.in_err-offset.ensures.halt);
  ask =
      residual_of c.from_residual.result _ (AsksUnread c.args.config.now c.args.store.now.offset c.args.store.now.offset (g.S.Source.told c.args.src.now)) c.from_residual.ensures.1 (again_asks c.args.config.now c.args.store.now.offset (g.S.Source.told c.args.src.now) _ c.requires.good.some_tables c.in_err-offset.ensures.halt);
  free = residual_of c.from_residual.result _ IsContentFree c.from_residual.ensures.1 (again_free c.args.store.now.offset _ c.in_err-offset.ensures.halt);
  halt =
      residual_of c.from_residual.result _ (IsBeginHalt c.args.config.now c.args.store.now.offset (g.S.Source.told c.args.src.now)) c.from_residual.ensures.1 (again_begins c.args.config.now c.args.store.now.offset (g.S.Source.told c.args.src.now) _ c.in_err-offset.ensures.halt);
}

-- the stored offset
pub returns-in-Some-clause-found : goal.returns-in-Some-clause-found
returns-in-Some-clause-found g c = record {
  begins = λ entry asked same had s is history honest. record {
    standing = s;
    is = is;
    holds = begins_again entry c.args.store.now.offset c.in-Some.offset s same (subst (IsAgain c.args.store.now.offset) c.in-Some.is c.in_ok-offset.ensures.again) had history (g.met.S.Source.rising _ s is);
  };
  offset = search rules;
  of = again_for c.args.config.now c.args.store.now.offset c.in-Some.offset (subst (IsAgain c.args.store.now.offset) c.in-Some.is c.in_ok-offset.ensures.again);
  headed = λ none. absurd (again_found c.args.store.now.offset c.in-Some.offset (subst (IsAgain c.args.store.now.offset) c.in-Some.is c.in_ok-offset.ensures.again) none);
}

pub returns-in-Some-clause-rests : goal.returns-in-Some-clause-rests
returns-in-Some-clause-rests g c = record {
  left = λ s l is may. inl (g.met.S.Source.only _ s l is may);
  some = λ s is. (left_of s, g.met.S.Source.may _ s is);
  still = λ s t was now. ap (λ (x : SourceState). x.reading) (g.met.S.Source.one c.args.src.now t s now was);
  taken = none_taken (g.S.Source.told c.args.src.now);
}

-- a first one
pub returns-in-None-clause-found : goal.returns-in-None-clause-found
returns-in-None-clause-found g c = record {
  begins = λ entry asked same had s is history honest.
      answer_then c.first_offset.result _ _ (answer_both c.first_offset.result _ _ (c.first_offset.ensures.first s is) (c.first_offset.ensures.described s is))
      (λ offset both.
      let stood = first_found g.S.Source.stands c.first_offset.new.src c.args.config.now offset s (g.met.S.Source.one _) (λ t at. (g.met.S.Source.fit _ (left_of t) (g.met.S.Source.may _ t at) honest).unaltered) c.requires.good both.0 both.1 in
      let found = stood.holds in
      record {
        standing = stood.standing;
        is = stood.is;
        holds = begins_first entry c.args.config.now offset s stood.standing asked (same ∙ none_again c.args.store.now.offset (subst (IsAgain c.args.store.now.offset) c.in-None.is c.in_ok-offset.ensures.again)) history (g.met.S.Source.fit _ (left_of stood.standing) (g.met.S.Source.may _ stood.standing stood.is) honest) found.moved found.infos found.head found.is found.names found.are found.at found.described;
      });
  offset = c.first_offset.ensures.asked;
  of = subst (λ (o : Option Offset). IfOk c.first_offset.result (IsOffsetFor c.args.config.now o)) (sym (none_again c.args.store.now.offset (subst (IsAgain c.args.store.now.offset) c.in-None.is c.in_ok-offset.ensures.again))) c.first_offset.ensures.of;
  headed = λ none. answer_then c.first_offset.result _ _ c.first_offset.ensures.headed (λ offset head. (offset.start, head));
}

pub returns-in-None-clause-stops : goal.returns-in-None-clause-stops
returns-in-None-clause-stops g c = record {
  others =
      let of = err_then c.first_offset.result _ OfSource c.first_offset.ensures.fault (λ h is. first_of _ _ h is) in (
        λ is. err_at c.first_offset.result _ OfSource of is,
        λ is. err_at c.first_offset.result _ OfSource of is,
      );
  never = λ value at is. err_at c.first_offset.result _ OfSource (err_then c.first_offset.result _ OfSource c.first_offset.ensures.fault (λ h is. first_of _ _ h is)) is;
  exhausted = λ h is. absurd (not_exhausted c.next_incarnation.result _ c.args.store.now.offset h c.next_incarnation.ensures.exhausted c.in_ok-offset.was is);
  short = err_then c.first_offset.result _ IsNotOffsetTooLong c.first_offset.ensures.fault (λ h is. first_short _ _ h is);
  ask =
      err_then c.first_offset.result _ (AsksUnread c.args.config.now c.args.store.now.offset c.args.store.now.offset (g.S.Source.told c.first_offset.new.src)) c.first_offset.ensures.fault
      (λ h is. first_asks c.args.config.now c.args.store.now.offset (g.S.Source.told c.first_offset.new.src) h c.requires.good.some_tables (none_again c.args.store.now.offset (subst (IsAgain c.args.store.now.offset) c.in-None.is c.in_ok-offset.ensures.again)) is);
  free = err_then c.first_offset.result _ IsContentFree c.first_offset.ensures.fault (first_free c.args.config.now.tables (g.S.Source.told c.first_offset.new.src));
  halt =
      err_then c.first_offset.result _ (IsBeginHalt c.args.config.now c.args.store.now.offset (g.S.Source.told c.first_offset.new.src)) c.first_offset.ensures.fault
      (λ h is. first_begins c.args.config.now c.args.store.now.offset (g.S.Source.told c.first_offset.new.src) h (none_again c.args.store.now.offset (subst (IsAgain c.args.store.now.offset) c.in-None.is c.in_ok-offset.ensures.again)) is);
}

-- ---- counts, and what no call undoes

pub returns-in-Some-clause-source : goal.returns-in-Some-clause-source
returns-in-Some-clause-source g c = record {
  live = c.requires.source_live;
  honest = λ honest. honest;
  comes = g.met.S.Source.comes_self _;
  cause = search rules;
}

pub returns-in-Some-clause-stops : goal.returns-in-Some-clause-stops
returns-in-Some-clause-stops g c = record {
  others = (λ is. absurd (not_both _ _ _ is refl), λ is. absurd (not_both _ _ _ is refl));
  never = λ value at is. absurd (not_both _ _ _ is refl);
  exhausted = λ h is. absurd (not_exhausted c.next_incarnation.result _ c.args.store.now.offset h c.next_incarnation.ensures.exhausted c.in_ok-offset.was is);
  short = tt;
  ask = tt;
  free = tt;
  halt = tt;
}

pub returns-in-Some-clause-by_state : goal.returns-in-Some-clause-by_state
returns-in-Some-clause-by_state g c = record {
  stood = λ s is. record {
    standing = s;
    is = is;
    holds = record { grows = grows_none s.history (g.met.S.Source.rising _ s is); confirmed = refl; reading = refl };
  };
  absent = λ s x. tt;
  described = λ s is none.
      absurd (again_found c.args.store.now.offset c.in-Some.offset (subst (IsAgain c.args.store.now.offset) c.in-Some.is c.in_ok-offset.ensures.again) none);
  captures = λ s is honest none.
      absurd (subst (λ (o : Option Offset). IsAgain o (Some c.in-Some.offset)) none (subst (IsAgain c.args.store.now.offset) c.in-Some.is c.in_ok-offset.ensures.again));
  within = λ s is log. record {
    standing = s;
    is = is;
    holds = again_within s.history c.args.store.now.offset c.in-Some.offset (subst (IsAgain c.args.store.now.offset) c.in-Some.is c.in_ok-offset.ensures.again) log;
  };
  first = λ s was honest none. absurd (again_found c.args.store.now.offset c.in-Some.offset (subst (IsAgain c.args.store.now.offset) c.in-Some.is c.in_ok-offset.ensures.again) none);
}

pub returns-in-None-clause-by_state : goal.returns-in-None-clause-by_state
returns-in-None-clause-by_state g c = record {
  stood = λ s is.
      answer_then c.first_offset.result _ _ (c.first_offset.ensures.first s is)
      (λ offset stood. record { standing = stood.standing; is = stood.is; holds = stood.holds.0 });
  absent = λ s is. c.first_offset.ensures.absent s is;
  described = λ s is none.
      result_as c.first_offset.result _ IsTableHalt
      (λ r. PassesState g.S.Source c.args.src.now c.first_offset.new.src s (λ t. CapturedOrHalts c.args.config.now t.history (length s.history.commits) r × IfOk r (IsFirstIn c.args.config.now s.history t.history)))
      (answer_both c.first_offset.result _ _ (c.first_offset.ensures.first s is) (c.first_offset.ensures.described s is))
      (err_then c.first_offset.result _ IsTableHalt c.first_offset.ensures.fault (λ h fault. first_table _ _ h fault))
      (λ offset both. found_in g.S.Source c.args.src.now c.first_offset.new.src c.args.config.now offset s (g.met.S.Source.one _) (g.met.S.Source.rising _) c.first_offset.ensures.source.comes (g.met.S.Source.comes_self _) both.0 both.1)
      (λ h table. passes_here g.S.Source c.args.src.now c.first_offset.new.src s _ is (g.met.S.Source.rising _ s is) (g.met.S.Source.comes_self _) c.first_offset.ensures.source.comes c.first_offset.ensures.source.honest (inr table, tt));
  captures = λ s is honest none.
      captures_ok c.args.config.now s.history c.first_offset.result _ (answer_both c.first_offset.result _ _ (c.first_offset.ensures.first s is) (c.first_offset.ensures.described s is))
      (λ offset both.
      let stood = first_found g.S.Source.stands c.first_offset.new.src c.args.config.now offset s (g.met.S.Source.one _) (λ t at. (g.met.S.Source.fit _ (left_of t) (g.met.S.Source.may _ t at) honest).unaltered) c.requires.good both.0 both.1 in
      let found = stood.holds in
      captured_tables_can_be_captured s.history c.args.config.now.tables found.infos found.names
      (captured_stays stood.standing.history s.history found.infos (sym found.moved.grows.tables) found.are))
      (err_then c.first_offset.result _ IsTableHalt c.first_offset.ensures.fault (λ h is. first_table _ _ h is));
  within = λ s is log.
      answer_then c.first_offset.result _ _ (c.first_offset.ensures.first s is)
      (λ offset stood. record {
        standing = stood.standing;
        is = stood.is;
        holds = first_within c.args.config.now stood.holds.1.0 stood.holds.1.1 offset s stood.standing stood.holds.1.2 stood.holds.1.4;
      });
  first = λ s was honest none.
      answer_then c.first_offset.result _ _ (answer_both c.first_offset.result _ _ (c.first_offset.ensures.first s was) (c.first_offset.ensures.described s was))
      (λ offset both.
      let stood = first_found g.S.Source.stands c.first_offset.new.src c.args.config.now offset s (g.met.S.Source.one _) (λ t at. (g.met.S.Source.fit _ (left_of t) (g.met.S.Source.may _ t at) honest).unaltered) c.requires.good both.0 both.1 in
      let found = stood.holds in (
        first_by_catalogue c.args.config.now s stood.standing found.infos found.head offset found.moved found.is found.names found.are,
        first_at_head c.args.config.now found.infos found.head offset s stood.standing found.moved (g.met.S.Source.rising _ stood.standing stood.is) found.is found.names found.are found.at found.described,
      ));
}

pub returns-in_err-offset-clause-by_state : goal.returns-in_err-offset-clause-by_state
returns-in_err-offset-clause-by_state g c = record {
  stood = search rules;
  absent = λ s is. residual_of c.from_residual.result _ (IsAbsentAfter (g.S.Source.stands c.args.src.now) s c.args.config.now.tables) c.from_residual.ensures.1 (again_absent (g.S.Source.stands c.args.src.now) s c.args.config.now.tables c.args.store.now.offset _ c.in_err-offset.ensures.halt);
  described = λ s is none.
      passes_here g.S.Source c.args.src.now c.args.src.now s _ is (g.met.S.Source.rising _ s is) (g.met.S.Source.comes_self _) (g.met.S.Source.comes_self _) (λ honest. honest) (
        residual_as c.from_residual.result _ (CapturedOrHalts c.args.config.now s.history (length s.history.commits)) c.from_residual.ensures.1 (inr (again_table c.args.store.now.offset _ none c.in_err-offset.ensures.halt)),
        no_answer c.from_residual.result _ _ c.from_residual.ensures.1,
      );
  captures = λ s is honest none.
      residual_as c.from_residual.result _ (CapturesOrHalts c.args.config.now s.history) c.from_residual.ensures.1 (inr (again_table c.args.store.now.offset _ none c.in_err-offset.ensures.halt));
  within = λ s x x1. no_answer c.from_residual.result _ _ c.from_residual.ensures.1;
  first = λ s x x1 x2. no_answer c.from_residual.result _ _ c.from_residual.ensures.1;
}

use Rattle.std.proofs.Common.{◌≡◌, ◌∙◌, ◌⊎◌, inl, inr, Option, Some, length, refl, sym, subst, le_refl, rules}
use Rattle.std.specs.Prelude.{IfSome}
use Rattle.dbl_model_history.specs.Fit.{IsFitHistory}
use Rattle.dbl_source.specs.SourceModel.Standings.{left_of}
use Rattle.dbl_offset_content.specs.declared.offset.Offset.{Offset}
use Rattle.dbl_offset.specs.Stores.{HoldsOffset, LeavesOffset, disk_of}
use Rattle.dbl_capture_work.specs.declared.halt.Halt.TheVariants as halt
use Rattle.dbl_capture_laws.proofs.StepCauses.{OfNone, OfStore, err_at, residual_is, residual_of, store_of}
use Rattle.dbl_capture_laws.proofs.Endings.{held_same, held_stored}
use Rattle.dbl_capture_laws.proofs.Keeping.{on_err}
use Rattle.dbl_capture_laws.proofs.Openings.{began_at, rest_left, store_left}
use Rattle.dbl_offset.specs.Offsets.{IsOffset}
use Rattle.dbl_capture_work.specs.Begins.{IsOffsetFor}
use Rattle.dbl_capture_laws.specs.Underway.{IsBeginHalt}
use Rattle.dbl_capture_laws.proofs.Telling.{store_begins}
use Rattle.dbl_capture_laws.proofs.Telling.{not_both, residual_on}
use Rattle.dbl_capture_work.specs.Begins.{IsAbsentAfter}
use Rattle.dbl_capture_laws.proofs.Telling.{memory_absent, store_absent}
use Rattle.dbl_capture_laws.proofs.Lasting.{moved_rest}
use Rattle.dbl_capture_laws.specs.Caused.{AsksUnread}
use Rattle.dbl_capture_laws.proofs.Asking.{memory_asks, store_asks}
use Rattle.dbl_capture_work.specs.Begins.{IsTooLong}
use Rattle.dbl_capture_laws.specs.Owned.{IsFirstByCatalogue, IsLongBy}
use Rattle.dbl_capture_laws.specs.Nevers.{IsFaithfulHalt}
use Rattle.dbl_capture_laws.proofs.Owning.{first_long, first_own, free_long, free_own, had_of}
use Rattle.dbl_capture_laws.specs.Captured.{CapturedOrHalts, CapturesOrHalts}
use Rattle.dbl_capture_laws.proofs.Telling.{residual_as}
use Rattle.dbl_capture_laws.proofs.Captured.{captures_by, captures_same, passed_so}
use Rattle.dbl_capture_laws.specs.Found.{IsFirstIn}
use Rattle.dbl_capture_laws.specs.HasState.{IsShortOr}
use Rattle.dbl_capture_laws.proofs.Excluding.{no_answer, no_ok}
use Rattle.dbl_capture.proofs.opening.begin_session.Goals as goal

-- before the store
pub returns-in_err-offset-clause-session : goal.returns-in_err-offset-clause-session
returns-in_err-offset-clause-session g c = record {
  begun = λ tell entry x x1 x2 x3. no_answer c.from_residual.result _ _ c.from_residual.ensures.1;
  left = λ tell entry asked f honest had.
      on_err _ _
      (rest_left f (g.met.K.Sink.only _) (g.met.K.Sink.may _)
      (subst IsFitHistory f.history (g.met.S.Source.fit _ (left_of f.standing) (g.met.S.Source.may _ f.standing f.source_is) (c.offset_of.ensures.source.honest honest)))
      c.offset_of.new.src (λ left is. g.met.S.Source.fit _ left is honest) (g.met.S.Source.rising _ f.standing f.source_is)
      (λ left is. c.offset_of.ensures.rests.left f.standing left f.source_is is) (c.offset_of.ensures.rests.some f.standing f.source_is));
  content = λ entry stored report asked f honest faithful.
      residual_of c.from_residual.result _ (IsFaithfulHalt entry stored report (g.S.Source.stands c.offset_of.new.src) (g.K.Sink.holds c.args.sink.now)) c.from_residual.ensures.1
      (free_own entry stored report (g.S.Source.stands c.offset_of.new.src) (g.K.Sink.holds c.args.sink.now) _ c.in_err-offset.ensures.stops.free);
}

pub returns-in_err-stored-clause-session : goal.returns-in_err-stored-clause-session
returns-in_err-stored-clause-session g c = record {
  begun = λ tell entry x x1 x2 x3. no_answer c.from_residual-in_err-stored.result _ _ c.from_residual-in_err-stored.ensures.1;
  left = λ tell entry asked f honest had.
      on_err _ _
      (rest_left f (g.met.K.Sink.only _) (g.met.K.Sink.may _)
      (subst IsFitHistory f.history (g.met.S.Source.fit _ (left_of f.standing) (g.met.S.Source.may _ f.standing f.source_is) (c.offset_of.ensures.source.honest honest)))
      c.offset_of.new.src (λ left is. g.met.S.Source.fit _ left is honest) (g.met.S.Source.rising _ f.standing f.source_is)
      (λ left is. c.offset_of.ensures.rests.left f.standing left f.source_is is) (c.offset_of.ensures.rests.some f.standing f.source_is));
  content = λ entry stored report asked f honest faithful.
      residual_of c.from_residual-in_err-stored.result halt.Memory (IsFaithfulHalt entry stored report (g.S.Source.stands c.offset_of.new.src) (g.K.Sink.holds c.args.sink.now)) c.from_residual-in_err-stored.ensures.1 tt;
}

-- in it
pub returns-in_err-put_offset-clause-session : goal.returns-in_err-put_offset-clause-session
returns-in_err-put_offset-clause-session g c = record {
  begun = λ tell entry x x1 x2 x3. no_answer c.from_residual-in_err-put_offset.result _ _ c.from_residual-in_err-put_offset.ensures.1;
  left = λ tell entry asked f honest had.
      let stood = c.in_ok-offset.ensures.found.begins entry asked f.offset_is had f.standing f.source_is f.history honest in
      on_err _ _
      (store_left f (g.met.K.Sink.only _) (g.met.K.Sink.may _)
      (subst IsFitHistory f.history (g.met.S.Source.fit _ (left_of f.standing) (g.met.S.Source.may _ f.standing f.source_is) (c.offset_of.ensures.source.honest honest)))
      c.offset_of.new.src (λ left is. g.met.S.Source.fit _ left is honest) stood.standing c.in_ok-offset.offset c.put_offset.new.store stood.is (g.met.S.Source.rising _ stood.standing stood.is)
      (λ left is. g.met.S.Source.only _ stood.standing left stood.is is) (g.met.S.Source.may _ stood.standing stood.is) stood.holds
      (λ t. subst (λ (o : Offset). LeavesOffset g.D.Disk (disk_of c.put_offset.new.store) (λ left. (left ≡ entry.offset) ⊎ (left ≡ Some o))) c.in_ok-stored.ensures (c.put_offset.ensures.left entry.offset (f.store_is t))));
  content = λ entry stored report asked f honest faithful.
      let fit : IsFitHistory entry.history = subst IsFitHistory f.history (g.met.S.Source.fit _ (left_of f.standing) (g.met.S.Source.may _ f.standing f.source_is) (c.offset_of.ensures.source.honest honest)) in
      let stood = c.in_ok-offset.ensures.found.begins entry asked f.offset_is (had_of entry fit faithful) f.standing f.source_is f.history honest in
      residual_of c.from_residual-in_err-put_offset.result _ (IsFaithfulHalt entry stored report (g.S.Source.stands c.offset_of.new.src) (g.K.Sink.holds c.args.sink.now)) c.from_residual-in_err-put_offset.ensures.1
      (first_own entry stored report (g.S.Source.stands c.offset_of.new.src) (g.K.Sink.holds c.args.sink.now) f.standing stood.standing c.in_ok-offset.offset _ faithful f.history f.confirmed fit
      (g.met.S.Source.fit _ _ (g.met.S.Source.may _ stood.standing stood.is) honest) stood.holds stood.is (f.sink_is refl)
      (subst (λ (o : Offset). (c.in_err-put_offset.field-0.0 ≡ halt.Memory) ⊎ ((c.in_err-put_offset.field-0.0 ≡ halt.Offsets) ⊎ IsTooLong o c.in_err-put_offset.field-0.0)) c.in_ok-stored.ensures c.in_err-put_offset.ensures.halt));
}

-- after it
pub returns-clause-session : goal.returns-clause-session
returns-clause-session g c = record {
  begun = λ tell entry asked f honest had.
      let stood = c.in_ok-offset.ensures.found.begins entry asked f.offset_is had f.standing f.source_is f.history honest in
      began_at f c.offset_of.new.src c.put_offset.new.store stood.standing c.in_ok-offset.offset stood.is stood.holds
      (λ t. subst (λ (o : Offset). HoldsOffset g.D.Disk c.put_offset.new.store (Some o)) c.in_ok-stored.ensures (c.in_ok-put_offset.ensures.stored entry.offset (f.store_is t)));
  left = λ tell entry x x1 x2 x3. tt;
  content = λ entry stored report x x1 x2 x3. tt;
}

-- ---- counts, and what no call undoes

pub returns-in_err-offset-clause-stops : goal.returns-in_err-offset-clause-stops
returns-in_err-offset-clause-stops g c = record {
  never = λ value at is. c.offset_of.ensures.stops.never value at (residual_is c.from_residual.result c.offset_of.result _ _ c.in_err-offset.was c.from_residual.ensures.1 is);
  exhausted = λ h is. residual_on c.offset_of.result c.from_residual.result _ h (c.offset_of.ensures.stops.exhausted h is) c.in_err-offset.was c.from_residual.ensures.1;
  ask = residual_of c.from_residual.result _ (AsksUnread c.args.config.now c.args.store.now.offset c.args.store.now.offset (g.S.Source.told c.offset_of.new.src)) c.from_residual.ensures.1 c.in_err-offset.ensures.stops.ask;
  sink = λ is. c.offset_of.ensures.stops.others.0 (residual_is c.from_residual.result c.offset_of.result _ _ c.in_err-offset.was c.from_residual.ensures.1 is);
  halt = residual_of c.from_residual.result _ (IsBeginHalt c.args.config.now c.args.store.now.offset (g.S.Source.told c.offset_of.new.src)) c.from_residual.ensures.1 c.in_err-offset.ensures.stops.halt;
}

pub returns-in_err-stored-clause-stops : goal.returns-in_err-stored-clause-stops
returns-in_err-stored-clause-stops g c = record {
  never = λ value at is. err_at c.from_residual-in_err-stored.result _ OfNone (residual_of c.from_residual-in_err-stored.result halt.Memory OfNone c.from_residual-in_err-stored.ensures.1 tt) is;
  exhausted = λ h is. absurd (not_both c.offset_of.result _ h (c.offset_of.ensures.stops.exhausted h is) c.in_ok-offset.was);
  ask =
      residual_of c.from_residual-in_err-stored.result halt.Memory (AsksUnread c.args.config.now c.args.store.now.offset c.args.store.now.offset (g.S.Source.told c.offset_of.new.src)) c.from_residual-in_err-stored.ensures.1 (memory_asks c.args.config.now c.args.store.now.offset c.args.store.now.offset (g.S.Source.told c.offset_of.new.src) halt.Memory c.requires.good.some_tables refl);
  sink = λ is. err_at c.from_residual-in_err-stored.result _ OfNone (residual_of c.from_residual-in_err-stored.result halt.Memory OfNone c.from_residual-in_err-stored.ensures.1 tt) is;
  halt = residual_of c.from_residual-in_err-stored.result halt.Memory (IsBeginHalt c.args.config.now c.args.store.now.offset (g.S.Source.told c.offset_of.new.src)) c.from_residual-in_err-stored.ensures.1 (inl refl);
}

pub returns-in_err-put_offset-clause-stops : goal.returns-in_err-put_offset-clause-stops
returns-in_err-put_offset-clause-stops g c = record {
  never = λ value at is. err_at c.from_residual-in_err-put_offset.result _ OfStore (residual_of c.from_residual-in_err-put_offset.result _ OfStore c.from_residual-in_err-put_offset.ensures.1 (store_of _ _ c.in_err-put_offset.ensures.halt)) is;
  exhausted = λ h is. absurd (not_both c.offset_of.result _ h (c.offset_of.ensures.stops.exhausted h is) c.in_ok-offset.was);
  ask =
      residual_of c.from_residual-in_err-put_offset.result _ (AsksUnread c.args.config.now c.args.store.now.offset c.put_offset.new.store.offset (g.S.Source.told c.offset_of.new.src)) c.from_residual-in_err-put_offset.ensures.1
      (store_asks c.args.config.now c.args.store.now.offset c.put_offset.new.store.offset (g.S.Source.told c.offset_of.new.src) c.in_ok-stored.stored _ c.requires.good.some_tables c.in_err-put_offset.ensures.keeps (subst IsOffset (sym c.in_ok-stored.ensures) c.in_ok-offset.ensures.found.offset) (subst (IsOffsetFor c.args.config.now c.args.store.now.offset) (sym c.in_ok-stored.ensures) c.in_ok-offset.ensures.found.of) c.in_ok-offset.ensures.found.headed c.in_err-put_offset.ensures.halt);
  sink = λ is. err_at c.from_residual-in_err-put_offset.result _ OfStore (residual_of c.from_residual-in_err-put_offset.result _ OfStore c.from_residual-in_err-put_offset.ensures.1 (store_of _ _ c.in_err-put_offset.ensures.halt)) is;
  halt =
      residual_of c.from_residual-in_err-put_offset.result _ (IsBeginHalt c.args.config.now c.args.store.now.offset (g.S.Source.told c.offset_of.new.src)) c.from_residual-in_err-put_offset.ensures.1
      (store_begins c.args.config.now c.args.store.now.offset (g.S.Source.told c.offset_of.new.src) c.in_ok-stored.stored _ (subst IsOffset (sym c.in_ok-stored.ensures) c.in_ok-offset.ensures.found.offset) (subst (IsOffsetFor c.args.config.now c.args.store.now.offset) (sym c.in_ok-stored.ensures) c.in_ok-offset.ensures.found.of) c.in_err-put_offset.ensures.halt);
}

pub returns-clause-stops : goal.returns-clause-stops
returns-clause-stops g c = record {
  never = λ value at is. absurd (not_both _ _ _ is refl);
  exhausted = λ h is. absurd (not_both c.offset_of.result _ h (c.offset_of.ensures.stops.exhausted h is) c.in_ok-offset.was);
  ask = tt;
  sink = λ is. absurd (not_both _ _ _ is refl);
  halt = tt;
}

pub returns-in_err-offset-clause-state : goal.returns-in_err-offset-clause-state
returns-in_err-offset-clause-state g c = record {
  loads = no_answer c.from_residual.result _ _ c.from_residual.ensures.1;
  held = λ held other. held;
  offset = no_answer c.from_residual.result _ _ c.from_residual.ensures.1;
  of = no_answer c.from_residual.result _ _ c.from_residual.ensures.1;
  keeps = on_err _ _ refl;
}

pub returns-in_err-stored-clause-state : goal.returns-in_err-stored-clause-state
returns-in_err-stored-clause-state g c = record {
  loads = no_answer c.from_residual-in_err-stored.result _ _ c.from_residual-in_err-stored.ensures.1;
  held = λ held other. held;
  offset = no_answer c.from_residual-in_err-stored.result _ _ c.from_residual-in_err-stored.ensures.1;
  of = no_answer c.from_residual-in_err-stored.result _ _ c.from_residual-in_err-stored.ensures.1;
  keeps = on_err _ _ refl;
}

pub returns-in_err-put_offset-clause-state : goal.returns-in_err-put_offset-clause-state
returns-in_err-put_offset-clause-state g c = record {
  loads = no_answer c.from_residual-in_err-put_offset.result _ _ c.from_residual-in_err-put_offset.ensures.1;
  held = λ held other.
      held_same g.D.Disk c.args.store.now c.put_offset.new.store
      (c.in_err-put_offset.ensures.kept (λ is. other (residual_on c.put_offset.result c.from_residual-in_err-put_offset.result _ halt.Offsets (c.in_err-put_offset.was ∙ is) c.in_err-put_offset.was c.from_residual-in_err-put_offset.ensures.1))) held;
  offset = no_answer c.from_residual-in_err-put_offset.result _ _ c.from_residual-in_err-put_offset.ensures.1;
  of = no_answer c.from_residual-in_err-put_offset.result _ _ c.from_residual-in_err-put_offset.ensures.1;
  keeps = on_err _ _ c.in_err-put_offset.ensures.keeps;
}

pub returns-clause-by_state : goal.returns-clause-by_state
returns-clause-by_state g c = record {
  rests = λ s left was may.
      let mid = c.in_ok-offset.ensures.by_state.stood s was in
      moved_rest s mid.standing left mid.holds (g.met.S.Source.only c.offset_of.new.src mid.standing left mid.is may);
  stood = λ s is. c.in_ok-offset.ensures.by_state.stood s is;
  absent = λ s x. tt;
  described = λ s is none. passed_so g.S.Source c.args.src.now c.offset_of.new.src s _ _ (c.in_ok-offset.ensures.by_state.described s is none) (λ t found. record {
    captures = found.0;
    first = subst (λ (o : Option Offset). IfSome o (IsFirstIn c.args.config.now s.history t.history)) (sym c.in_ok-put_offset.ensures.loads) (subst (IsFirstIn c.args.config.now s.history t.history) (sym c.in_ok-stored.ensures) found.1);
  });
  captures = λ s is honest none. c.in_ok-offset.ensures.by_state.captures s is honest none;
  captured = λ s is honest. captures_by c.args.config.now s.history c.args.store.now.offset c.put_offset.new.store.offset (λ none. c.in_ok-offset.ensures.by_state.captures s is honest none);
  first = λ s is honest none. (c.in_ok-offset.ensures.by_state.first s is honest none).1;
  standing = λ s x. tt;
  within = λ s is log. c.in_ok-offset.ensures.by_state.within s is log;
  still = c.offset_of.ensures.rests.still;
  taken = c.offset_of.ensures.rests.taken;
  long = λ s x x1 x2. tt;
}

pub returns-in_err-offset-clause-by_state : goal.returns-in_err-offset-clause-by_state
returns-in_err-offset-clause-by_state g c = record {
  rests = c.offset_of.ensures.rests.left;
  stood = search rules;
  absent = λ s is. residual_of c.from_residual.result _ (IsAbsentAfter (g.S.Source.stands c.offset_of.new.src) s c.args.config.now.tables) c.from_residual.ensures.1 (c.in_err-offset.ensures.by_state.absent s is);
  described = λ s is none. passed_so g.S.Source c.args.src.now c.offset_of.new.src s _ _ (c.in_err-offset.ensures.by_state.described s is none) (λ t found. record {
    captures = residual_as c.from_residual.result _ (CapturedOrHalts c.args.config.now t.history (length s.history.commits)) c.from_residual.ensures.1 found.0;
    first = subst (λ (o : Option Offset). IfSome o (IsFirstIn c.args.config.now s.history t.history)) (sym none) tt;
  });
  captures = λ s is honest none. residual_as c.from_residual.result _ (CapturesOrHalts c.args.config.now s.history) c.from_residual.ensures.1 (c.in_err-offset.ensures.by_state.captures s is honest none);
  captured = λ s is honest. captures_same c.args.config.now s.history c.args.store.now.offset c.args.store.now.offset refl;
  first = λ s x x1 x2. no_answer c.from_residual.result _ _ c.from_residual.ensures.1;
  standing = λ s is. residual_of c.from_residual.result _ (IsShortOr (g.S.Source.stands c.offset_of.new.src)) c.from_residual.ensures.1 (inl c.in_err-offset.ensures.stops.short);
  within = λ s x x1. no_answer c.from_residual.result _ _ c.from_residual.ensures.1;
  still = c.offset_of.ensures.rests.still;
  taken = c.offset_of.ensures.rests.taken;
  long = λ s was honest none. residual_of c.from_residual.result _ (IsLongBy c.args.config.now s.history) c.from_residual.ensures.1 (free_long c.args.config.now s.history _ c.in_err-offset.ensures.stops.free);
}

pub returns-in_err-stored-clause-by_state : goal.returns-in_err-stored-clause-by_state
returns-in_err-stored-clause-by_state g c = record {
  rests = λ s left was may.
      let mid = c.in_ok-offset.ensures.by_state.stood s was in
      moved_rest s mid.standing left mid.holds (g.met.S.Source.only c.offset_of.new.src mid.standing left mid.is may);
  stood = search rules;
  absent = λ s is. residual_of c.from_residual-in_err-stored.result halt.Memory (IsAbsentAfter (g.S.Source.stands c.offset_of.new.src) s c.args.config.now.tables) c.from_residual-in_err-stored.ensures.1 (memory_absent (g.S.Source.stands c.offset_of.new.src) s c.args.config.now.tables halt.Memory refl);
  described = λ s is none. passed_so g.S.Source c.args.src.now c.offset_of.new.src s _ _ (c.in_ok-offset.ensures.by_state.described s is none) (λ t found. record {
    captures = residual_as c.from_residual-in_err-stored.result halt.Memory (CapturedOrHalts c.args.config.now t.history (length s.history.commits)) c.from_residual-in_err-stored.ensures.1 (inl found.0);
    first = subst (λ (o : Option Offset). IfSome o (IsFirstIn c.args.config.now s.history t.history)) (sym none) tt;
  });
  captures = λ s is honest none. residual_as c.from_residual-in_err-stored.result halt.Memory (CapturesOrHalts c.args.config.now s.history) c.from_residual-in_err-stored.ensures.1 (inr tt);
  captured = λ s is honest. captures_same c.args.config.now s.history c.args.store.now.offset c.args.store.now.offset refl;
  first = λ s x x1 x2. no_answer c.from_residual-in_err-stored.result _ _ c.from_residual-in_err-stored.ensures.1;
  standing = λ s is. residual_of c.from_residual-in_err-stored.result halt.Memory (IsShortOr (g.S.Source.stands c.offset_of.new.src)) c.from_residual-in_err-stored.ensures.1 (inl tt);
  within = λ s x x1. no_answer c.from_residual-in_err-stored.result _ _ c.from_residual-in_err-stored.ensures.1;
  still = c.offset_of.ensures.rests.still;
  taken = c.offset_of.ensures.rests.taken;
  long = λ s was honest none. residual_of c.from_residual-in_err-stored.result halt.Memory (IsLongBy c.args.config.now s.history) c.from_residual-in_err-stored.ensures.1 tt;
}

pub returns-in_err-put_offset-clause-by_state : goal.returns-in_err-put_offset-clause-by_state
returns-in_err-put_offset-clause-by_state g c = record {
  rests = λ s left was may.
      let mid = c.in_ok-offset.ensures.by_state.stood s was in
      moved_rest s mid.standing left mid.holds (g.met.S.Source.only c.offset_of.new.src mid.standing left mid.is may);
  stood = search rules;
  absent = λ s is. residual_of c.from_residual-in_err-put_offset.result _ (IsAbsentAfter (g.S.Source.stands c.offset_of.new.src) s c.args.config.now.tables) c.from_residual-in_err-put_offset.ensures.1 (store_absent (g.S.Source.stands c.offset_of.new.src) s c.args.config.now.tables _ _ c.in_err-put_offset.ensures.halt);
  described = λ s is none. passed_so g.S.Source c.args.src.now c.offset_of.new.src s _ _ (c.in_ok-offset.ensures.by_state.described s is none) (λ t found. record {
    captures = residual_as c.from_residual-in_err-put_offset.result _ (CapturedOrHalts c.args.config.now t.history (length s.history.commits)) c.from_residual-in_err-put_offset.ensures.1 (inl found.0);
    first = subst (λ (o : Option Offset). IfSome o (IsFirstIn c.args.config.now s.history t.history)) (sym (c.in_err-put_offset.ensures.keeps ∙ none)) tt;
  });
  captures = λ s is honest none.
      residual_as c.from_residual-in_err-put_offset.result _ (CapturesOrHalts c.args.config.now s.history) c.from_residual-in_err-put_offset.ensures.1 (inl (c.in_ok-offset.ensures.by_state.captures s is honest none));
  captured = λ s is honest. captures_by c.args.config.now s.history c.args.store.now.offset c.put_offset.new.store.offset (λ none. c.in_ok-offset.ensures.by_state.captures s is honest none);
  first = λ s x x1 x2. no_answer c.from_residual-in_err-put_offset.result _ _ c.from_residual-in_err-put_offset.ensures.1;
  standing = λ s is.
      let mid = c.in_ok-offset.ensures.by_state.stood s is in
      residual_of c.from_residual-in_err-put_offset.result _ (IsShortOr (g.S.Source.stands c.offset_of.new.src)) c.from_residual-in_err-put_offset.ensures.1 (inr (mid.standing, mid.is));
  within = λ s x x1. no_answer c.from_residual-in_err-put_offset.result _ _ c.from_residual-in_err-put_offset.ensures.1;
  still = c.offset_of.ensures.rests.still;
  taken = c.offset_of.ensures.rests.taken;
  long = λ s was honest none.
      residual_of c.from_residual-in_err-put_offset.result _ (IsLongBy c.args.config.now s.history) c.from_residual-in_err-put_offset.ensures.1
      (first_long c.args.config.now s.history c.in_ok-stored.stored _ (subst (IsFirstByCatalogue c.args.config.now s.history) (sym c.in_ok-stored.ensures) (c.in_ok-offset.ensures.by_state.first s was honest none).0) c.in_err-put_offset.ensures.halt);
}

-- ---- what the store holds

pub returns-clause-state : goal.returns-clause-state
returns-clause-state g c = record {
  loads = search rules;
  held = λ held other. held_stored g.D.Disk c.put_offset.new.store c.in_ok-stored.stored c.in_ok-put_offset.ensures.loads (c.in_ok-put_offset.ensures.stored c.args.store.now.offset held);
  offset = c.in_ok-offset.ensures.found.offset;
  of = c.in_ok-offset.ensures.found.of;
  keeps = tt;
}

-- ---- whose fault it is

pub returns-in_err-offset-clause-source : goal.returns-in_err-offset-clause-source
returns-in_err-offset-clause-source g c = record {
  live = no_ok c.from_residual.result _ _ c.from_residual.ensures.1;
  honest = c.offset_of.ensures.source.honest;
  comes = c.offset_of.ensures.source.comes;
  cause = record { later = c.offset_of.ensures.source.cause.later; cause = λ is. c.offset_of.ensures.source.cause.cause (residual_is c.from_residual.result c.offset_of.result _ _ c.in_err-offset.was c.from_residual.ensures.1 is) };
}

pub returns-in_err-offset-clause-store : goal.returns-in_err-offset-clause-store
returns-in_err-offset-clause-store g c = record {
  live = no_ok c.from_residual.result _ _ c.from_residual.ensures.1;
  comes = λ most known. known;
  cause = record { later = le_refl _; cause = λ is. absurd (c.offset_of.ensures.stops.others.1 (residual_is c.from_residual.result c.offset_of.result _ _ c.in_err-offset.was c.from_residual.ensures.1 is)) };
}

pub returns-in_err-stored-clause-source : goal.returns-in_err-stored-clause-source
returns-in_err-stored-clause-source g c = record {
  live = no_ok c.from_residual-in_err-stored.result _ _ c.from_residual-in_err-stored.ensures.1;
  honest = c.offset_of.ensures.source.honest;
  comes = c.offset_of.ensures.source.comes;
  cause = record { later = c.offset_of.ensures.source.cause.later; cause = λ is. absurd (err_at c.from_residual-in_err-stored.result _ OfNone (residual_of c.from_residual-in_err-stored.result halt.Memory OfNone c.from_residual-in_err-stored.ensures.1 tt) is) };
}

pub returns-in_err-stored-clause-store : goal.returns-in_err-stored-clause-store
returns-in_err-stored-clause-store g c = record {
  live = no_ok c.from_residual-in_err-stored.result _ _ c.from_residual-in_err-stored.ensures.1;
  comes = λ most known. known;
  cause = record { later = le_refl _; cause = λ is. absurd (err_at c.from_residual-in_err-stored.result _ OfNone (residual_of c.from_residual-in_err-stored.result halt.Memory OfNone c.from_residual-in_err-stored.ensures.1 tt) is) };
}

pub returns-in_err-put_offset-clause-source : goal.returns-in_err-put_offset-clause-source
returns-in_err-put_offset-clause-source g c = record {
  live = no_ok c.from_residual-in_err-put_offset.result _ _ c.from_residual-in_err-put_offset.ensures.1;
  honest = c.offset_of.ensures.source.honest;
  comes = c.offset_of.ensures.source.comes;
  cause = record { later = c.offset_of.ensures.source.cause.later; cause = λ is. absurd (err_at c.from_residual-in_err-put_offset.result _ OfStore (residual_of c.from_residual-in_err-put_offset.result _ OfStore c.from_residual-in_err-put_offset.ensures.1 (store_of _ _ c.in_err-put_offset.ensures.halt)) is) };
}

pub returns-in_err-put_offset-clause-store : goal.returns-in_err-put_offset-clause-store
returns-in_err-put_offset-clause-store g c = record {
  live = no_ok c.from_residual-in_err-put_offset.result _ _ c.from_residual-in_err-put_offset.ensures.1;
  comes = c.put_offset.ensures.store.comes;
  cause = record { later = c.put_offset.ensures.store.cause.later; cause = λ is. c.put_offset.ensures.store.cause.cause (residual_is c.from_residual-in_err-put_offset.result c.put_offset.result _ _ c.in_err-put_offset.was c.from_residual-in_err-put_offset.ensures.1 is) };
}

pub returns-clause-source : goal.returns-clause-source
returns-clause-source g c = record {
  live = c.in_ok-offset.ensures.source.live;
  honest = c.offset_of.ensures.source.honest;
  comes = c.offset_of.ensures.source.comes;
  cause = record { later = c.offset_of.ensures.source.cause.later; cause = λ is. absurd (not_both _ _ _ is refl) };
}

pub returns-clause-store : goal.returns-clause-store
returns-clause-store g c = record {
  live = c.in_ok-put_offset.ensures.store.live;
  comes = c.put_offset.ensures.store.comes;
  cause = record { later = c.put_offset.ensures.store.cause.later; cause = λ is. absurd (not_both _ _ _ is refl) };
}

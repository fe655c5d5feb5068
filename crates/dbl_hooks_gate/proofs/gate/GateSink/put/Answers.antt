use Rattle.std.proofs.Common.{◌≡◌, ◌∙◌, Err, List, Result, length, refl, sym, ap, subst, arith}
use Rattle.std.specs.Prelude.{take}
use Rattle.std.proofs.lemmas.List.{take_all}
use Rattle.std.proofs.lemmas.Result.{err_from_is_err_and}
use Rattle.dbl_record.specs.declared.record.Record.{Record}
use Rattle.dbl_topic.specs.declared.error.SinkError.{SinkError}
use Rattle.dbl_topic.specs.declared.error.SinkError.TheVariants.{Failed}
use Rattle.dbl_hooks_gate.proofs.Fronts.{all_allowed, found_at}
use Rattle.dbl_hooks_gate.proofs.GateLemmas.{appends_all, bound_by, fails_inner, first_at, on_any, passes_on, refuses_at, refuses_on}
use Rattle.dbl_hooks_gate.proofs.gate.GateSink.put.Goals as goal

pub put_before-requires-clause-within : goal.put_before-requires-clause-within
put_before-requires-clause-within g c = (found_at c.args.self.now.rule c.args.group.now.items c.in-Some.index (sym c.find_refused.ensures ∙ c.in-Some.is)).within

pub index-requires : goal.index-requires
index-requires g c =
    omega (
      arith,
      (found_at c.args.self.now.rule c.args.group.now.items c.in-Some.index (sym c.find_refused.ensures ∙ c.in-Some.is)).within,
      c.args.group.now.ok.0,
    )

-- ---- all are allowed

pub returns-in-None-clause-comes : goal.returns-in-None-clause-comes
returns-in-None-clause-comes g c =
    passes_on g.K.Sink c.args.self.now.sink c.put.new.self c.args.self.now.refused c.args.self.now.rule c.args.group.now.items c.put.result c.requires.live
    (all_allowed c.args.self.now.rule c.args.group.now.items (sym c.find_refused.ensures ∙ c.in-None.is))
    (appends_all g.K.Sink c.args.self.now.sink c.put.new.self c.args.group.now.items c.put.result c.requires.handful.some (record {
      added = c.put.ensures.added;
      kept = c.put.ensures.kept;
      left = c.put.ensures.left;
      whole = c.put.ensures.whole;
      some = c.put.ensures.some;
      comes = c.put.ensures.comes;
      live = c.put.ensures.live;
      dead = c.put.ensures.dead;
      cause = c.put.ensures.cause;
      fails = c.put.ensures.failed;
    }))

pub returns-in-None-clause-failed : goal.returns-in-None-clause-failed
returns-in-None-clause-failed g c =
    let group = c.args.group.now.items in
    λ is. fails_inner g.K.Sink c.args.self.now.sink c.put.new.self c.args.self.now.refused c.args.self.now.rule group (length group) c.requires.live
    (subst (λ (items : List Record). g.K.Sink.fails_at c.put.new.self items) (sym (take_all (length group) group (omega arith))) (c.put.ensures.failed is))

pub returns-in-None-clause-allowed : goal.returns-in-None-clause-allowed
returns-in-None-clause-allowed g c = on_any c.put.result (all_allowed c.args.self.now.rule c.args.group.now.items (sym c.find_refused.ensures ∙ c.in-None.is))

-- ---- one isn't

same_error : (e f : SinkError) → ◌≡◌ {A = Result (Unit {0}) SinkError} (Err e) (Err f) → e ≡ f
same_error e f is = cc

pub returns-in_err-put_before-in-Some-clause-comes : goal.returns-in_err-put_before-in-Some-clause-comes
returns-in_err-put_before-in-Some-clause-comes g c =
    let at = found_at c.args.self.now.rule c.args.group.now.items c.in-Some.index (sym c.find_refused.ensures ∙ c.in-Some.is) in
    passes_on g.K.Sink c.args.self.now.sink c.put_before.new.sink c.args.self.now.refused c.args.self.now.rule (take c.in-Some.index c.args.group.now.items) c.put_before.result c.requires.live
    at.allowed c.put_before.ensures.appends

pub returns-in_err-put_before-in-Some-clause-failed : goal.returns-in_err-put_before-in-Some-clause-failed
returns-in_err-put_before-in-Some-clause-failed g c =
    let p = err_from_is_err_and c.from_residual.result c.from_residual.ensures.1 in
    λ is. fails_inner g.K.Sink c.args.self.now.sink c.put_before.new.sink c.args.self.now.refused c.args.self.now.rule c.args.group.now.items c.in-Some.index c.requires.live
    (c.put_before.ensures.appends.fails (c.in_err-put_before-in-Some.was ∙ ap (λ (e : SinkError). Err e) (sym p.2 ∙ same_error p.0 Failed (sym p.1 ∙ is))))

-- the record at the index, at its place
pub returns-in_ok-put_before-in-Some-clause-comes : goal.returns-in_ok-put_before-in-Some-clause-comes
returns-in_ok-put_before-in-Some-clause-comes g c =
    let rule = c.args.self.now.rule in
    let group = c.args.group.now.items in
    let at = found_at rule group c.in-Some.index (sym c.find_refused.ensures ∙ c.in-Some.is) in
    refuses_on g.K.Sink c.args.self.now.sink c.put_before.new.sink c.args.self.now.refused rule (take c.in-Some.index group) c.put_before.result c.requires.live
    at.allowed c.put_before.ensures.appends c.place_of.result group
    (first_at rule group c.in-Some.index c.index.result.now at c.index.ensures c.place_of.ensures.storable c.place_of.result c.place_of.ensures.place)

pub returns-in_ok-put_before-in-Some-clause-refused : goal.returns-in_ok-put_before-in-Some-clause-refused
returns-in_ok-put_before-in-Some-clause-refused g c =
    let rule = c.args.self.now.rule in
    let group = c.args.group.now.items in
    let at = found_at rule group c.in-Some.index (sym c.find_refused.ensures ∙ c.in-Some.is) in
    λ place is. (
      refl,
      refuses_at g.K.Sink c.args.self.now.sink c.put_before.new.sink rule group c.in-Some.index c.put_before.result c.in_ok-put_before-in-Some.field-0
          c.index.result.now at c.index.ensures c.place_of.ensures.storable c.put_before.ensures.appends c.in_ok-put_before-in-Some.was c.place_of.result
          c.place_of.ensures.place place is,
    )

pub returns-in_ok-put_before-in-Some-clause-failed : goal.returns-in_ok-put_before-in-Some-clause-failed
returns-in_ok-put_before-in-Some-clause-failed g c =
    let rule = c.args.self.now.rule in
    let group = c.args.group.now.items in
    let at = found_at rule group c.in-Some.index (sym c.find_refused.ensures ∙ c.in-Some.is) in
    λ is. first_at rule group c.in-Some.index c.index.result.now at c.index.ensures c.place_of.ensures.storable c.place_of.result c.place_of.ensures.place

pub returns-in_ok-put_before-in-Some-clause-bound : goal.returns-in_ok-put_before-in-Some-clause-bound
returns-in_ok-put_before-in-Some-clause-bound g c =
    let rule = c.args.self.now.rule in
    let group = c.args.group.now.items in
    let at = found_at rule group c.in-Some.index (sym c.find_refused.ensures ∙ c.in-Some.is) in
    λ most place limit is.
    bound_by rule group c.place_of.result
    (first_at rule group c.in-Some.index c.index.result.now at c.index.ensures c.place_of.ensures.storable c.place_of.result c.place_of.ensures.place)
    most limit

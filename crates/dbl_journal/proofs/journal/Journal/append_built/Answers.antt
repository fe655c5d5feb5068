use Rattle.std.proofs.Common.{◌≡◌, ◌≤◌, ◌+◌, IsTrue, ℕ, ◌-◌, ◌∙◌, List, length, false, true, drop, refl, sym, ap, subst, arith, inl, Err}
use Rattle.std.proofs.lemmas.List.{length-drop, length_push}
use Rattle.dbl_disk.specs.Model.{DiskModel}
use Rattle.dbl_journal.specs.Form.{IsEntry}
use Rattle.dbl_journal.specs.Stored.{Lists, OnDisk}
use Rattle.dbl_journal.proofs.Appends.{places-add, size-push}
use Rattle.dbl_journal.specs.Calls.{WasCalled}
use Rattle.dbl_journal.proofs.Called.{called_on}
use Rattle.dbl_journal.proofs.Growth.{comes_by_append}
use Rattle.std.proofs.lemmas.Result.{err_from_is_err_and}
use Rattle.dbl_journal.specs.declared.error.JournalError.{JournalError}
use Rattle.dbl_journal.proofs.journal.Journal.append_built.Goals as goal

-- a journal with the same parts
lists_at : {D : Type 0} {model : DiskModel D} {parts whole : OnDisk D} {entries : List (List ℕ)} → parts ≡ whole → Lists model whole entries → Lists model parts entries
lists_at {model = model} {entries = entries} same lists = subst (λ (j : OnDisk _). Lists model j entries) (sym same) lists

pub returns-in_err-set_commit_byte-clause-left : goal.returns-in_err-set_commit_byte-clause-left
returns-in_err-set_commit_byte-clause-left g c entries lists =
    let held = lists_at c.self.view_is lists in
    let entry : List ℕ = drop 4 c.args.bytes.items in
    let short : IsEntry entry = omega (arith, length-drop 4 c.args.bytes.items) in
    let staged = c.in_ok-write_entry.ensures.staged held.bytes entries entry held.told held.only held.spelled held.gate (c.deref.ensures.value ∙ c.in_ok-frame_entry.ensures.bytes) in
    c.set_commit_byte.ensures.one_of entries entry staged held.gate short

pub returns-clause-left : goal.returns-clause-left
returns-clause-left g c entries lists =
    let held = lists_at c.self.view_is lists in
    let entry : List ℕ = drop 4 c.args.bytes.items in
    let short : IsEntry entry = omega (arith, length-drop 4 c.args.bytes.items) in
    let staged = c.in_ok-write_entry.ensures.staged held.bytes entries entry held.told held.only held.spelled held.gate (c.deref.ensures.value ∙ c.in_ok-frame_entry.ensures.bytes) in
    c.set_commit_byte.ensures.one_of entries entry staged held.gate short

pub invariant_of-self-2 : goal.invariant_of-self-2
invariant_of-self-2 g c = record {
  small = omega (arith, c.in_ok-write_entry.ensures.room, c.deref.ensures.len, c.len-2.ensures);
  few = λ live.
      let few = c.self.invariant.few (subst (λ (j : OnDisk _). IsTrue j.live) (sym c.self.view_is) c.requires.live) in
      let pushed : length c.push.new.self.items ≡ length c.self.inside.places.items + 1 = ap length c.in_ok-push.ensures.items ∙ length_push c.self.inside.places.items _ in
      let fewer : length c.push.new.self.items ≤ c.self.inside.gate + c.len-2.result = omega (arith, few, pushed, c.in_ok-frame_entry.ensures.long, c.deref.ensures.len, c.len-2.ensures, c.frame_entry.new.bytes.ok) in
      fewer;
  there = λ live new told.
      let old = c.in_ok-set_commit_byte.ensures.reaches new told in
      let reach = c.in_ok-write_entry.ensures.reaches old.0 old.1 in
      omega (arith, old.2, reach, c.deref.ensures.len, c.len-2.ensures);
}

pub returns-clause-added : goal.returns-clause-added
returns-clause-added g c entries lists =
    let held = lists_at c.self.view_is lists in
    let entry : List ℕ = drop 4 c.args.bytes.items in
    let len : c.len.result - 4 ≡ length entry = omega (arith, length-drop 4 c.args.bytes.items, c.args.bytes.ok, c.len.ensures) in
    let short : IsEntry entry = omega (arith, length-drop 4 c.args.bytes.items) in
    let staged = c.in_ok-write_entry.ensures.staged held.bytes entries entry held.told held.only held.spelled held.gate (c.deref.ensures.value ∙ c.in_ok-frame_entry.ensures.bytes) in
    let opened = c.in_ok-set_commit_byte.ensures.opened entries entry staged held.gate short in
    record {
      live = refl;
      bytes = opened.0;
      told = opened.1;
      only = opened.2;
      spelled = opened.3;
      gate = omega (arith, size-push entries entry _ _ held.gate c.in_ok-frame_entry.ensures.long, c.frame_entry.new.bytes.ok, c.len-2.ensures);
      places = c.in_ok-push.ensures.items ∙ places-add _ entries entry _ _ held.places held.gate len;
    }

pub returns-in_err-write_entry-clause-grows : goal.returns-in_err-write_entry-clause-grows
returns-in_err-write_entry-clause-grows g c entries old new lists was told =
    let held = lists_at c.self.view_is lists in
    let entry : List ℕ = drop 4 c.args.bytes.items in
    let began = ap (λ (j : OnDisk _). g.D.Disk.seen j.disk) c.self.view_is ∙ was in
    omega (arith, c.write_entry.ensures.longest old new began told, size-push entries entry _ _ held.gate c.in_ok-frame_entry.ensures.long, ap length c.deref.ensures.value)

pub returns-in_err-set_commit_byte-clause-grows : goal.returns-in_err-set_commit_byte-clause-grows
returns-in_err-set_commit_byte-clause-grows g c entries old new lists was told =
    let held = lists_at c.self.view_is lists in
    let entry : List ℕ = drop 4 c.args.bytes.items in
    let began = ap (λ (j : OnDisk _). g.D.Disk.seen j.disk) c.self.view_is ∙ was in
    let staged = c.in_ok-write_entry.ensures.staged held.bytes entries entry held.told held.only held.spelled held.gate (c.deref.ensures.value ∙ c.in_ok-frame_entry.ensures.bytes) in
    omega (arith, c.write_entry.ensures.longest old staged.bytes began staged.told, c.set_commit_byte.ensures.longest staged.bytes new staged.told told, size-push entries entry _ _ held.gate c.in_ok-frame_entry.ensures.long, ap length c.deref.ensures.value)

pub returns-clause-grows : goal.returns-clause-grows
returns-clause-grows g c entries old new lists was told =
    let held = lists_at c.self.view_is lists in
    let entry : List ℕ = drop 4 c.args.bytes.items in
    let began = ap (λ (j : OnDisk _). g.D.Disk.seen j.disk) c.self.view_is ∙ was in
    let staged = c.in_ok-write_entry.ensures.staged held.bytes entries entry held.told held.only held.spelled held.gate (c.deref.ensures.value ∙ c.in_ok-frame_entry.ensures.bytes) in
    omega (arith, c.write_entry.ensures.longest old staged.bytes began staged.told, c.set_commit_byte.ensures.longest staged.bytes new staged.told told, size-push entries entry _ _ held.gate c.in_ok-frame_entry.ensures.long, ap length c.deref.ensures.value)

pub returns-in_err-write_entry-clause-comes : goal.returns-in_err-write_entry-clause-comes
returns-in_err-write_entry-clause-comes g c =
    let entry : List ℕ = drop 4 c.args.bytes.items in
    let short : IsEntry entry = omega (arith, length-drop 4 c.args.bytes.items) in
    comes_by_append g.D.Disk g.met.D.Disk.seen_may_be_left c.args.self.now _ entry short c.requires.live
    (λ entries lists (now : false ≡ true). cc)
    (λ entries lists crashed may.
    let held = lists_at c.self.view_is lists in
    let kept = c.write_entry.ensures.kept held.bytes entries held.only held.spelled held.gate crashed may in
    (kept.0, kept.1, inl kept.2))
    (returns-in_err-write_entry-clause-grows g c)
    (λ before told. c.write_entry.ensures.told before (ap (λ (j : OnDisk _). g.D.Disk.seen j.disk) c.self.view_is ∙ told))

pub returns-in_err-set_commit_byte-clause-comes : goal.returns-in_err-set_commit_byte-clause-comes
returns-in_err-set_commit_byte-clause-comes g c =
    let entry : List ℕ = drop 4 c.args.bytes.items in
    let short : IsEntry entry = omega (arith, length-drop 4 c.args.bytes.items) in
    comes_by_append g.D.Disk g.met.D.Disk.seen_may_be_left c.args.self.now _ entry short c.requires.live
    (λ entries lists (now : false ≡ true). cc)
    (returns-in_err-set_commit_byte-clause-left g c)
    (returns-in_err-set_commit_byte-clause-grows g c)
    (λ before told. (let staged = c.write_entry.ensures.told before (ap (λ (j : OnDisk _). g.D.Disk.seen j.disk) c.self.view_is ∙ told) in c.set_commit_byte.ensures.told staged.0 staged.1))

pub returns-clause-comes : goal.returns-clause-comes
returns-clause-comes g c =
    let entry : List ℕ = drop 4 c.args.bytes.items in
    let short : IsEntry entry = omega (arith, length-drop 4 c.args.bytes.items) in
    comes_by_append g.D.Disk g.met.D.Disk.seen_may_be_left c.args.self.now _ entry short c.requires.live
    (λ entries lists now. returns-clause-added g c entries lists)
    (returns-clause-left g c)
    (returns-clause-grows g c)
    (λ before told. (let staged = c.write_entry.ensures.told before (ap (λ (j : OnDisk _). g.D.Disk.seen j.disk) c.self.view_is ∙ told) in c.set_commit_byte.ensures.told staged.0 staged.1))

pub returns-in_err-write_entry-clause-puts : goal.returns-in_err-write_entry-clause-puts
returns-in_err-write_entry-clause-puts g c = record {
  told = λ before told. c.write_entry.ensures.told before (ap (λ (j : OnDisk _). g.D.Disk.seen j.disk) c.self.view_is ∙ told);
  later = (let same = ap (λ (j : OnDisk _). g.D.Disk.faults j.disk) c.self.view_is in omega (arith, c.write_entry.ensures.cause.later, same));
  cause = λ is.
      let rose = c.in_err-write_entry.ensures.cause.cause refl in
      let same = ap (λ (j : OnDisk _). g.D.Disk.faults j.disk) c.self.view_is in
      omega (arith, rose, same);
  dead = λ is. refl;
  steady = λ no.
      let p = err_from_is_err_and c.from_residual-in_err-write_entry.result c.from_residual-in_err-write_entry.ensures.1 in
      absurd (no (p.1 ∙ ap (λ (e : JournalError). Err e) p.2));
}

pub returns-in_err-set_commit_byte-clause-puts : goal.returns-in_err-set_commit_byte-clause-puts
returns-in_err-set_commit_byte-clause-puts g c = record {
  told = λ before told.
      let staged = c.write_entry.ensures.told before (ap (λ (j : OnDisk _). g.D.Disk.seen j.disk) c.self.view_is ∙ told) in
      c.set_commit_byte.ensures.told staged.0 staged.1;
  later = (let same = ap (λ (j : OnDisk _). g.D.Disk.faults j.disk) c.self.view_is in omega (arith, c.write_entry.ensures.cause.later, c.set_commit_byte.ensures.cause.later, same));
  cause = λ is.
      let rose = c.in_err-set_commit_byte.ensures.cause.cause refl in
      let same = ap (λ (j : OnDisk _). g.D.Disk.faults j.disk) c.self.view_is in
      omega (arith, c.write_entry.ensures.cause.later, rose, same);
  dead = λ is. refl;
  steady = λ no.
      let p = err_from_is_err_and c.from_residual-in_err-set_commit_byte.result c.from_residual-in_err-set_commit_byte.ensures.1 in
      absurd (no (p.1 ∙ ap (λ (e : JournalError). Err e) p.2));
}

pub returns-clause-puts : goal.returns-clause-puts
returns-clause-puts g c = record {
  told = λ before told.
      let staged = c.write_entry.ensures.told before (ap (λ (j : OnDisk _). g.D.Disk.seen j.disk) c.self.view_is ∙ told) in
      c.set_commit_byte.ensures.told staged.0 staged.1;
  later = (let same = ap (λ (j : OnDisk _). g.D.Disk.faults j.disk) c.self.view_is in omega (arith, c.write_entry.ensures.cause.later, c.set_commit_byte.ensures.cause.later, same));
  cause = λ is. absurd (let i = is in cc);
  dead = λ is. absurd (let i = is in cc);
  steady = λ answered before told.
      let was = ap (λ (j : OnDisk _). g.D.Disk.seen j.disk) c.self.view_is ∙ told in
      let staged = c.write_entry.ensures.told before was in
      c.in_ok-set_commit_byte.ensures.steady staged.0 staged.1 ∙ c.in_ok-write_entry.ensures.steady before was ∙ ap (λ (j : OnDisk _). g.D.Disk.faults j.disk) c.self.view_is;
}

pub returns-clause-calls : goal.returns-clause-calls
returns-clause-calls g c =
    subst (λ (j : OnDisk _). WasCalled g.D.Disk 4 j.disk c.set_commit_byte.new.disk) c.self.view_is
    (called_on g.D.Disk _ c.write_entry.new.disk _ 2 2 c.in_ok-write_entry.ensures.calls c.in_ok-set_commit_byte.ensures.calls)

use Rattle.std.proofs.Common.{◌≡◌, ◌∙◌, ◌+◌, ◌++◌, ◌==◌, ◌<◌, ◌∷◌, drop, length, length-append, sym, ap, subst, arith}
use Rattle.std.specs.List.{slice_index_or}
use Rattle.std.proofs.lemmas.List.{drop_more}
use Rattle.dbl_model_table.specs.Rows.{changes_of}
use Rattle.dbl_envelope_json.specs.declared.stamp.Stamp.{Stamp}
use Rattle.dbl_envelope.specs.Suits.{Suits}
use Rattle.dbl_envelope.specs.Writers.{records_from, change_records}
use Rattle.dbl_envelope.proofs.CommitLemmas.{change_step, change_count, all_by}
use Rattle.dbl_envelope.proofs.left.some_records.Goals as goal

pub loop-change-preserved : goal.loop-change-preserved
loop-change-preserved c =
    let writer = c.args.writer.now in
    let commit = c.args.commit.now in
    let now = c.args.now_ms.now in
    let changes = changes_of commit in
    let i = c.loop-change.change in
    let x = c.index-changes-change.result in
    let made = c.loop-change.made.items in
    let inv = c.loop-change.invariant in
    let tie : c.changes-changes.result.now ≡ changes = c.changes-changes.ensures in
    let within : i < length changes = omega (arith, c.loop-change-test.true, c.requires.within) in
    let x_is : x ≡ slice_index_or changes i x = c.index-changes-change.is ∙ ap (λ l. slice_index_or l i x) tie in
    let here : drop i changes ≡ x ∷ drop (i + 1) changes = drop_more changes i x within ∙ ap (λ y. y ∷ drop (i + 1) changes) (sym x_is) in
    let stamp : Stamp = record { ordinal = c.args.ordinal + c.len.result; last = i + 1 == length c.changes-changes.result.now } in
    let told = change_records writer commit now stamp x in
    let suits : Suits writer.infos x = subst (Suits writer.infos) (sym x_is) (c.requires.suits i x within) in
    let count = change_count writer commit now stamp x suits in
    let pushed : c.add_change.new.out.items ≡ made ++ told = c.in_ok-add_change.ensures.told in
    let longer = length-append made told in
    let most = count.0 in
    let some = count.1 in
    let next : (c.args.ordinal + length made) + length told ≡ c.args.ordinal + length c.add_change.new.out.items = omega (arith, ap length pushed, longer) in
    let number : stamp.ordinal ≡ c.args.ordinal + length made = omega arith in
    let step = change_step writer commit now i (c.args.ordinal + length made) x stamp made c.add_change.new.out.items _ (all_by (Suits writer.infos) changes c.requires.suits) within here number (ap (λ l. i + 1 == length l) tie) inv.made pushed in
    record {
      made = subst (λ k. c.add_change.new.out.items ++ records_from writer commit now (i + 1) k ≡ records_from writer commit now c.args.from c.args.ordinal) next step;
      most = omega (arith, inv.most, most, ap length pushed, longer);
      some = omega (arith, inv.some, some, ap length pushed, longer);
      few = omega (arith, inv.few, most, ap length pushed, longer);
      long = c.in_ok-add_change.ensures.long;
      tails = c.in_ok-add_change.ensures.tails;
    }

pub add_change-requires-clause-suits : goal.add_change-requires-clause-suits
add_change-requires-clause-suits c =
    let writer = c.args.writer.now in
    let changes = changes_of c.args.commit.now in
    let i = c.loop-change.change in
    let x = c.index-changes-change.result in
    let tie : c.changes-changes.result.now ≡ changes = c.changes-changes.ensures in
    let within : i < length changes = omega (arith, c.loop-change-test.true, c.requires.within) in
    let x_is : x ≡ slice_index_or changes i x = c.index-changes-change.is ∙ ap (λ l. slice_index_or l i x) tie in
    subst (Suits writer.infos) (sym x_is) (c.requires.suits i x within)

use Rattle.std.proofs.Common.{◌≡◌, ◌∙◌, ◌≤◌, ◌++◌, [], ◌∷◌, ℕ, Option, List, length, map, take, get_or, sym, ap, subst}
use Rattle.std.proofs.lemmas.List.{take_all}
use Rattle.dbl_model_table.specs.Infos.{name_at}
use Rattle.dbl_source_log.specs.ModelHistory.History.{RawKey}
use Rattle.dbl_tables_rows.specs.Cells.{text_given}
use Rattle.dbl_tables_rows.proofs.KeyTexts.{key_texts_is}
use Rattle.dbl_tables_rows.proofs.PlaceLemmas.{name_there, never_out, key_more}
use Rattle.dbl_tables_rows.proofs.given.key_texts.Goals as goal
use Rattle.dbl_tables_rows.proofs.given.key_texts.Goals.{in-Some+in_ok-text-in-Some, in-None}

pub loop-place-preserved : goal.loop-place-preserved
loop-place-preserved c =
    let key : c.deref-place-items.result.now ≡ c.args.info.now.key = c.deref-place-items.ensures.value ∙ c.items.ensures in
    let columns : c.deref.result.now ≡ c.args.info.now.columns = c.deref.ensures.value ∙ c.items-in-loop-place.ensures in
    let at : ℕ → Option (List ℕ) = λ p. text_given c.args.cells.now (name_at c.args.info.now.columns p) in
    let one : c.match-get.text ≡ at (get_or c.args.info.now.key c.loop-place.place-index 0) = elim c.match-get.branch [
      | in-Some+in_ok-text-in-Some w ↦
          w.text-is
          ∙ (w.in_ok-text-in-Some.ensures
          ∙ ap (text_given c.args.cells.now) (name_there c.args.info.now c.deref.result.now c.deref-place-items.result.now columns key c.loop-place.place-index c.loop-place-test.true w.in-Some.column.now w.in-Some.ensures.lookup.1))
      | in-None w ↦ absurd (never_out c.args.info.now c.deref.result.now c.deref-place-items.result.now columns key c.loop-place.place-index c.loop-place-test.true w.in-None.ensures.lookup.0)
    ] in
    c.in_ok-push.ensures.items
    ∙ (ap (λ (l : RawKey). l ++ c.match-get.text ∷ []) c.loop-place.invariant
    ∙ (ap (λ (x : Option (List ℕ)). map at (take c.loop-place.place-index c.args.info.now.key) ++ x ∷ []) one
    ∙ sym (key_more c.args.info.now c.deref.result.now c.deref-place-items.result.now columns key c.loop-place.place-index c.loop-place-test.true at)))

pub returns : goal.returns
returns c =
    let key : c.deref-place-items.result.now ≡ c.args.info.now.key = c.deref-place-items.ensures.value ∙ c.items.ensures in
    let whole : take c.loop-place.place-index c.args.info.now.key ≡ c.args.info.now.key = take_all c.loop-place.place-index c.args.info.now.key (subst (λ (l : List ℕ). length l ≤ c.loop-place.place-index) key c.loop-place-test.false) in
    c.loop-place.invariant ∙ (ap (map (λ (p : ℕ). text_given c.args.cells.now (name_at c.args.info.now.columns p))) whole ∙ sym (key_texts_is c.args.info.now c.args.cells.now))

use Rattle.std.proofs.Common.{◌≡◌, ◌∙◌, ◌+◌, ◌≤◌, ◌++◌, [], ◌∷◌, Option, ℕ, List, length, map, drop, get_or, sym, ap, subst}
use Rattle.std.proofs.lemmas.List.{append-nil}
use Rattle.dbl_model_table.specs.Infos.{name_at}
use Rattle.dbl_source_log.specs.Texts.{Texts}
use Rattle.dbl_tables_rows.specs.Cells.{text_set, key_texts_set}
use Rattle.dbl_tables_rows.proofs.CellLemmas.{key_set_more}
use Rattle.dbl_tables_rows.proofs.RestLemmas.{cells_rest, cells_past}
use Rattle.dbl_tables_rows.proofs.PlaceLemmas.{name_there, never_out, names_rest, names_past, no_key_set}
use Rattle.dbl_tables_rows.proofs.given.key_texts_set.Goals as goal
use Rattle.dbl_tables_rows.proofs.given.key_texts_set.Goals.{in-Some-get+in_ok-set-in-Some-get, in-None, else-loop-i-test, then-loop-i-test+in_default}

pub loop-i-preserved : goal.loop-i-preserved
loop-i-preserved c =
    let key : c.deref-place-items.result.now ≡ c.args.info.now.key = c.deref-place-items.ensures.value ∙ c.items.ensures in
    let columns : c.deref.result.now ≡ c.args.info.now.columns = c.deref.ensures.value ∙ c.items-in-loop-i.ensures in
    let name : List ℕ = name_at c.args.info.now.columns (get_or c.args.info.now.key c.loop-i.i 0) in
    let more : List (List ℕ) = drop (c.loop-i.i + 1) (map (name_at c.args.info.now.columns) c.args.info.now.key) in
    let left : Texts = drop (c.loop-i.i + 1) c.args.before.now in
    let one : c.match-get-2.set ≡ text_set c.args.cells.now name c.in-Some.text.now = elim c.match-get-2.branch [
      | in-Some-get+in_ok-set-in-Some-get w ↦
          w.set-is
          ∙ (w.in_ok-set-in-Some-get.ensures
          ∙ ap (λ (n : List ℕ). text_set c.args.cells.now n c.in-Some.text.now) (name_there c.args.info.now c.deref.result.now c.deref-place-items.result.now columns key c.loop-i.i c.loop-i-test.true w.in-Some-get.column.now w.in-Some-get.ensures.lookup.1))
      | in-None w ↦ absurd (never_out c.args.info.now c.deref.result.now c.deref-place-items.result.now columns key c.loop-i.i c.loop-i-test.true w.in-None.ensures.lookup.0)
    ] in
    let rest = names_rest c.args.info.now c.deref.result.now c.deref-place-items.result.now columns key c.loop-i.i c.loop-i-test.true in
    let row = cells_rest c.args.before.now c.loop-i.i c.in-Some.text.now c.in-Some.ensures.lookup.0 c.in-Some.ensures.lookup.1 in
    ap (λ (l : Texts). l ++ key_texts_set c.args.cells.now more left) (c.in_ok-push.ensures.items ∙ ap (λ (v : Option (List ℕ)). c.loop-i.texts.items ++ v ∷ []) one)
    ∙ (sym (key_set_more c.args.cells.now more name left c.in-Some.text.now c.loop-i.texts.items)
    ∙ (sym (ap (λ (ns : List (List ℕ)). c.loop-i.texts.items ++ key_texts_set c.args.cells.now ns (drop c.loop-i.i c.args.before.now)) rest
    ∙ ap (λ (r : Texts). c.loop-i.texts.items ++ key_texts_set c.args.cells.now (name ∷ more) r) row)
    ∙ c.loop-i.invariant))

pub returns : goal.returns
returns c =
    let key : c.deref-place-items.result.now ≡ c.args.info.now.key = c.deref-place-items.ensures.value ∙ c.items.ensures in
    let names : List (List ℕ) = map (name_at c.args.info.now.columns) c.args.info.now.key in
    let none : key_texts_set c.args.cells.now (drop c.loop-i.i names) (drop c.loop-i.i c.args.before.now) ≡ [] = elim c.loop-i-test.branch [
      | else-loop-i-test w ↦ ap (λ (ns : List (List ℕ)). key_texts_set c.args.cells.now ns (drop c.loop-i.i c.args.before.now)) (names_past c.args.info.now.columns c.args.info.now.key c.loop-i.i (subst (λ (l : List ℕ). length l ≤ c.loop-i.i) key w.loop-i-test.false))
      | then-loop-i-test+in_default w ↦ ap (key_texts_set c.args.cells.now (drop c.loop-i.i names)) (cells_past c.args.before.now c.loop-i.i w.in_default.ensures.lookup.0) ∙ no_key_set c.args.cells.now (drop c.loop-i.i names)
    ] in
    sym (append-nil c.loop-i.texts.items) ∙ (ap (λ (l : Texts). c.loop-i.texts.items ++ l) (sym none) ∙ c.loop-i.invariant)

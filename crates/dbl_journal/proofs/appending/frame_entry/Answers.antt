use Rattle.std.proofs.Common.{◌≡◌, ℕ, ◌-◌, ◌++◌, ◌∷◌, [], List, ◌∙◌, length, drop, ap, arith}
use Rattle.std.specs.Int.{to_be_bytes, w32}
use Rattle.std.proofs.lemmas.List.{drop-append-le, length-drop, with_items_is}
use Rattle.dbl_journal.specs.Form.{body}
use Rattle.dbl_journal.proofs.appending.frame_entry.Goals as goal

pub returns-clause-bytes : goal.returns-clause-bytes
unfolding body
returns-clause-bytes c =
    let bytes : List ℕ = c.args.bytes.now.items in
    let len : c.len.result - 4 ≡ length (drop 4 bytes) = omega (arith, length-drop 4 bytes, c.args.bytes.now.ok) in
    with_items_is c.push.new.self c.write_length.new.bytes (c.write_length.auto.bytes ∙ c.deref_mut.ensures.len)
    ∙ c.write_length.ensures
    ∙ ap (λ (l : List ℕ). to_be_bytes w32 (c.len.result - 4) ++ drop 4 l) (c.deref_mut.ensures.value ∙ c.in_ok-push.ensures.items)
    ∙ ap (λ (l : List ℕ). to_be_bytes w32 (c.len.result - 4) ++ l) (drop-append-le 4 bytes (0 ∷ []) c.requires.room)
    ∙ ap (λ (n : ℕ). to_be_bytes w32 n ++ drop 4 bytes ++ 0 ∷ []) len

-- The three records of a row that moves.
use Rattle.std.proofs.Common.{◌≡◌, ◌∙◌, ◌+◌, ℕ, List, [], ◌∷◌, ◌++◌, map, Option, Some, false, ap, ap₂, append_assoc, arith}
use Rattle.dbl_record.specs.declared.record.Record.{Record}
use Rattle.dbl_model_table.specs.declared.row.Key.{Key}
use Rattle.dbl_model_table.specs.declared.row.Row.{Row}
use Rattle.dbl_model_table.specs.declared.change.Cell.{Cell}
use Rattle.dbl_model_table.specs.Keys.{new_key_of, given_or_null}
use Rattle.dbl_model_event.specs.Events.{Created, Deleted, Tombstone, notice}
use Rattle.dbl_envelope_json.specs.declared.frame.Frame.{Frame}
use Rattle.dbl_envelope_json.specs.declared.stamp.Stamp.{Stamp}
use Rattle.dbl_envelope_json.specs.Frames.{TellsMove, printed}

pub moved : (frame : Frame) (stamp : Stamp) (key : Key) (old : Option Row) (cells : List Cell) (before after : List Record) (r s t : Record)
    → r ≡ printed frame (record { ordinal = stamp.ordinal; last = false }) (record (notice 0 frame.info.now (Some key) (Deleted old)) { newkey = Some (new_key_of frame.info.now cells) })
    → s ≡ printed frame (record { ordinal = stamp.ordinal + 1; last = false }) (notice 0 frame.info.now (Some key) Tombstone)
    → t ≡ printed frame (record { ordinal = stamp.ordinal + 2; last = stamp.last }) (record (notice 0 frame.info.now (Some (new_key_of frame.info.now cells)) (Created (record { cells = map given_or_null cells }))) { oldkey = Some key })
    → after ≡ ((before ++ r ∷ []) ++ s ∷ []) ++ t ∷ []
    → TellsMove frame stamp key old cells before after
moved frame stamp key old cells before after r s t r_is s_is t_is pushed =
    let two : stamp.ordinal + 2 ≡ (stamp.ordinal + 1) + 1 = omega arith in
    let third = λ (k : ℕ). printed frame (record { ordinal = k; last = stamp.last }) (record (notice 0 frame.info.now (Some (new_key_of frame.info.now cells)) (Created (record { cells = map given_or_null cells }))) { oldkey = Some key }) in
    pushed
    ∙ append_assoc (before ++ r ∷ []) (s ∷ []) (t ∷ [])
    ∙ append_assoc before (r ∷ []) (s ∷ t ∷ [])
    ∙ ap₂ (λ (a : Record) (l : List Record). before ++ a ∷ l) r_is (ap₂ (λ (b d : Record). b ∷ d ∷ []) s_is (t_is ∙ ap third two))

-- What a message adds to the flattened stream is within the formats' ranges.
use Rattle.std.proofs.Common.{ℕ, Bool, true, false, cond, List, [], ◌∷◌, ◌++◌}
use Rattle.std.specs.Prelude.{Option, Some, None, IfSome}
use Rattle.std.specs.List.{AllByRecursion, list_any}
use Rattle.dbl_pgmsg.specs.declared.messages.Message.{Message}
use Rattle.dbl_pgmsg.specs.Grammar.{FitsFields}
use Rattle.dbl_stream2.specs.declared.messages.StreamMessage.{StreamMessage}
use Rattle.dbl_stream2.specs.declared.messages.StreamMessage.TheVariants.{Start, Stop, Commit, Abort, Plain, Carried}
use Rattle.dbl_stream2.specs.Flat.{block_of, is_inside, is_end_of, is_abort_of, is_block_of, message_for, unless_aborted, kept_messages, flat_part}
use Rattle.dbl_stream2.specs.Wire.{Encodes, AreEncoded}
use Rattle.dbl_stream2_pending.specs.Buffers.{Item}

abbrev pub AllFit : List Message → Type 0
AllFit ms = AllByRecursion FitsFields ms

all_joined : (a b : List Message) → AllFit a → AllFit b → AllFit (a ++ b)
all_joined [] b p q = q
all_joined (m ∷ a) b p q = (p.0, all_joined a b p.1 q)

unless_fits : (b : Bool) (ms : List Message) → AllFit ms → AllFit (cond b [] ms)
unless_fits true ms fits = tt
unless_fits false ms fits = fits

abbrev ItemFits : Option (Item Message) → Type 0
ItemFits o = IfSome o (λ item. FitsFields item.1)

item_fits : (b : Bool) (item : Item Message) → FitsFields item.1 → ItemFits (cond b (Some item) None)
item_fits true item fits = fits
item_fits false item fits = tt

message_fits : (x : ℕ) (block : Option ℕ) (inside : Bool) (bytes : List ℕ) (m : StreamMessage) → Encodes inside bytes m → ItemFits (message_for x block m)
message_fits x block inside bytes (Start xid first) e = tt
message_fits x block inside bytes Stop e = tt
message_fits x block inside bytes (Commit xid flags lsn end_lsn time) e = tt
message_fits x block inside bytes (Abort xid subxid) e = tt
message_fits x block inside bytes (Plain m) e = item_fits (is_block_of x block) (x, m) e.0.fits.fields
message_fits x block inside bytes (Carried y m) e = item_fits (is_block_of x block) (y, m) e.0.spells.fits.fields

added_fits : (x : ℕ) (later : List StreamMessage) (o : Option (Item Message)) → ItemFits o → AllFit (unless_aborted x later o)
added_fits x later None fits = tt
added_fits x later (Some item) fits = unless_fits (list_any (is_abort_of x item.0) later) (item.1 ∷ []) (fits, tt)

kept_fit : (x : ℕ) (later past : List StreamMessage) → AreEncoded past → AllFit (kept_messages x later past)
kept_fit x later [] e = tt
kept_fit x later (m ∷ past) e =
    unless_fits (is_end_of x m) (kept_messages x (m ∷ later) past ++ unless_aborted x later (message_for x (block_of past) m))
    (all_joined (kept_messages x (m ∷ later) past) (unless_aborted x later (message_for x (block_of past) m)) (kept_fit x (m ∷ later) past e.0)
    (added_fits x later (message_for x (block_of past) m) (message_fits x (block_of past) (is_inside past) e.1.0 m e.1.1)))

pub part_fits : (past : List StreamMessage) (m : StreamMessage) → AreEncoded (m ∷ past) → AllFit (flat_part past m)
part_fits past (Start xid first) e = tt
part_fits past Stop e = tt
part_fits past (Commit xid flags lsn end_lsn time) e = (
  (e.1.1.3, e.1.1.5, e.1.1.1),
  all_joined (kept_messages xid [] past) _ (kept_fit xid [] past e.0) ((e.1.1.2, e.1.1.3, e.1.1.4, e.1.1.5), tt),
)
part_fits past (Abort xid subxid) e = tt
part_fits past (Plain m) e = unless_fits (is_inside past) (m ∷ []) (e.1.1.0.fits.fields, tt)
part_fits past (Carried xid m) e = tt

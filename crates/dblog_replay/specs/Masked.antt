-- The pieces of a log whose messages are masked. Lists of messages have the newest first.
use Rattle.std.specs.Prelude.{◌≡◌, Option, Some, None, List, [], ◌∷◌}
use Rattle.dbl_pgmsg.specs.declared.messages.Message.{Message}
use Rattle.dbl_hooks_masks.specs.declared.mapper.Mapper.{Mapper}
use Rattle.dbl_hooks_masks.specs.declared.masker.BuiltinMasker.{BuiltinMasker}
use Rattle.dbl_hooks_masks.specs.declared.masking.Masking.{Masking}
use Rattle.dbl_hooks_masks.specs.Messages.{masked_message}
use Rattle.dbl_hooks_masks.specs.Places.{Knows}
use Rattle.dblog_replay.specs.Pieces.{Piece, Carries, Stops, AllFitFields}

-- A message after these, masked if a mask is requested.
abbrev pub masked_with : Option Masking → List Message → Message → Message
masked_with None past message = message
masked_with (Some plan) past message = masked_message plan past message

-- A list of messages, each masked.
abbrev pub all_masked : Option Masking → List Message → List Message
all_masked mask [] = []
all_masked mask (m ∷ past) = masked_with mask past m ∷ all_masked mask past

-- The pieces after these messages, each message masked; an error that ends the log stays.
abbrev pub masked_pieces : Option Masking → List Message → List Piece → List Piece
masked_pieces mask past [] = []
masked_pieces mask past (Stops fault ∷ pieces) = Stops fault ∷ masked_pieces mask past pieces
masked_pieces mask past (Carries number m ∷ pieces) = Carries number (masked_with mask past m) ∷ masked_pieces mask (m ∷ past) pieces

-- ---- theorems

-- Masked messages are within their formats' ranges if the messages are.
abbrev pub MaskedPiecesFit : Type 0
MaskedPiecesFit =
    (mask : Option Masking) (past : List Message) (pieces : List Piece) → AllFitFields pieces
    → AllFitFields (masked_pieces mask past pieces)

-- ---- for private clauses

-- The mapper masks as this plan requests, after these messages.
pub record IsMapperOf (plan : Masking) (past : List Message) (mapper : Mapper BuiltinMasker) : Type 0 where
  pub table : mapper.table ≡ plan.table
  pub column : mapper.column ≡ plan.column
  pub mask : mapper.masker.mask ≡ plan.mask
  pub knows : Knows plan.table plan.column past mapper.places

-- There is a mapper if a mask is requested, and it masks so after these messages.
abbrev pub AreMapped : Option Masking → List Message → Option (Mapper BuiltinMasker) → Type 0
AreMapped None past mapper = mapper ≡ None
AreMapped (Some plan) past mapper = (found : Mapper BuiltinMasker) × (mapper ≡ Some found) × IsMapperOf plan past found

-- Frames as bytes: CopyData of PostgreSQL's "Message Formats", and its contents of "Streaming Replication Protocol".
use Rattle.std.specs.Prelude.{ℕ, ℤ, ◌+◌, ◌^◌, ◌<◌, ◌≤◌, List, [], ◌∷◌, ◌++◌, length, FitsSigned}
use Rattle.std.specs.List.{AllByRecursion}
use Rattle.std.specs.Str.{byte}
use Rattle.std.specs.Int.{w32, w64, to_be_bytes, cast_unsigned}
use Rattle.dbl_frames_heads.specs.declared.frame.Frame.{Frame}
use Rattle.dbl_frames_heads.specs.declared.frame.Frame.TheVariants.{Data, Keepalive}

-- CopyData: the kind `d`, a length that counts its own four bytes and the content, and the content
abbrev pub copy_data : List ℕ → List ℕ
copy_data content = byte "d" ∷ to_be_bytes w32 (4 + length content) ++ content

-- Int64, big-endian
abbrev pub int64 : ℕ → List ℕ
int64 n = to_be_bytes w64 n

-- a signed Int64, in two's complement
abbrev pub signed64 : ℤ → List ℕ
signed64 z = to_be_bytes w64 (cast_unsigned w64 z)

-- XLogData `w` and Primary keepalive message `k`
abbrev pub frame_content : Frame → List ℕ
frame_content (Data start end time payload) = byte "w" ∷ (int64 start ++ (int64 end ++ (signed64 time ++ payload)))
frame_content (Keepalive end time reply) = byte "k" ∷ (int64 end ++ (signed64 time ++ reply ∷ []))

-- a frame: CopyData with its content
unfoldable pub frame_form : Frame → List ℕ
frame_form frame = copy_data (frame_content frame)

-- Standby status update `r`, in CopyData: the positions written, flushed and applied, the time, and whether a reply is requested
unfoldable pub status_form : ℕ → ℕ → ℕ → ℤ → ℕ → List ℕ
status_form written flushed applied time reply = copy_data
    (byte "r" ∷ (int64 written ++ (int64 flushed ++ (int64 applied ++ (signed64 time ++ reply ∷ [])))))

-- the numbers are bytes
abbrev pub AreBytes : List ℕ → Type 0
AreBytes bytes = AllByRecursion (λ b. b < 2 ^ 8) bytes

-- the most bytes of a payload: 16 MiB, the most of a message
abbrev pub payload_limit : ℕ
payload_limit = 16777216

-- the frame can be encoded: its fields are within their formats' ranges, and the payload is short enough
abbrev pub FitsFrame : Frame → Type 0
FitsFrame (Data start end time payload) = (start < 2 ^ 64) × (end < 2 ^ 64) × FitsSigned w64 time × AreBytes payload
    × (length payload ≤ payload_limit)
FitsFrame (Keepalive end time reply) = (end < 2 ^ 64) × FitsSigned w64 time × (reply < 2 ^ 8)

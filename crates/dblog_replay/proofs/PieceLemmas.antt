-- Byte strings are read as one list of pieces, and the messages of these.
use Rattle.std.proofs.Common.{◌≡◌, ◌⊎◌, inl, inr, ◌∙◌, ℕ, ◌+◌, List, [], ◌∷◌, ◌++◌, length, refl, sym, ap, ap₂, subst, arith}
use Rattle.std.specs.List.{AllByRecursion}
use Rattle.dbl_pgmsg.specs.declared.error.MsgError.{MsgError}
use Rattle.dbl_pgmsg.specs.declared.messages.Message.{Message}
use Rattle.dbl_pgmsg.specs.Grammar.{FitsFields, Spells}
use Rattle.dbl_pgmsg.specs.Faults.{IsFault}
use Rattle.dbl_pgmsg.proofs.FaultLaws.{either, not_both, one_fault}
use Rattle.dbl_pgmsg.proofs.MessageLaws.{one_message}
use Rattle.dbl_model_commit.specs.Blocks.{onto}
use Rattle.dblog_replay.specs.declared.log_fault.LogFault.{LogFault}
use Rattle.dblog_replay.specs.declared.log_fault.LogFault.TheVariants as log
use Rattle.dblog_replay.specs.Pieces.{Piece, Carries, Stops, IsPiece, AreRead, CarryMessages, AllFitFields, AreSpelled, AreSplit, PiecesAreOne, PiecesExist}
use Rattle.dblog_replay.specs.Pieces.{PiecesFit, MessagesAreSpelled}

-- ---- one piece

same_carries : (n k : ℕ) (m o : Message) → n ≡ k → m ≡ o → Carries n m ≡ Carries k o
same_carries n k m o number message = ap₂ (λ (i : ℕ) (x : Message). Carries i x) number message

pub piece_one : (number : ℕ) (b : List ℕ) (p q : Piece) → IsPiece number b p → IsPiece number b q → p ≡ q
piece_one number b (Carries n m) (Carries k o) one two = same_carries n k m o (one.0 ∙ sym two.0) (one_message b m o one.1 two.1)
piece_one number b (Carries n m) (Stops f) one two = absurd (not_both b m two.0 one.1 two.1)
piece_one number b (Stops f) (Carries k o) one two = absurd (not_both b o one.0 two.1 one.1)
piece_one number b (Stops f) (Stops g) one two =
    ap (λ (x : LogFault). Stops x) (one.2 ∙ ap (log.Message number) (one_fault b one.0 two.0 one.1 two.1) ∙ sym two.2)

-- the first piece is that of the first byte string
pub next_piece : (number : ℕ) (b : List ℕ) (bs : List (List ℕ)) (left : List Piece) (piece : Piece) → AreRead number (b ∷ bs) left → IsPiece number b piece
    → (more : List Piece) × (left ≡ piece ∷ more)
next_piece number b bs [] piece read is = absurd read
next_piece number b bs (Carries n m ∷ more) piece read is = (more, ap (λ (p : Piece). p ∷ more) (piece_one number b (Carries n m) piece read.0 is))
next_piece number b bs (Stops f ∷ more) piece read is = (more, ap (λ (p : Piece). p ∷ more) (piece_one number b (Stops f) piece read.0 is))

-- ---- all pieces

apart : (n : ℕ) (m : Message) (f : LogFault) → Carries n m ≡ Stops f → ⊥
apart n m f same = cc

pub pieces_one : PiecesAreOne
pieces_one number [] ps qs one two = one ∙ sym two
pieces_one number (b ∷ bs) [] qs one two = absurd one
pieces_one number (b ∷ bs) (Carries n m ∷ ps) [] one two = absurd two
pieces_one number (b ∷ bs) (Carries n m ∷ ps) (Carries k o ∷ qs) one two =
    ap₂ (λ (p : Piece) (more : List Piece). p ∷ more) (piece_one number b (Carries n m) (Carries k o) one.0 two.0)
    (pieces_one (number + 1) bs ps qs one.1 two.1)
pieces_one number (b ∷ bs) (Carries n m ∷ ps) (Stops g ∷ qs) one two = absurd (apart n m g (piece_one number b (Carries n m) (Stops g) one.0 two.0))
pieces_one number (b ∷ bs) (Stops f ∷ ps) [] one two = absurd two
pieces_one number (b ∷ bs) (Stops f ∷ ps) (Carries k o ∷ qs) one two = absurd (apart k o f (piece_one number b (Carries k o) (Stops f) two.0 one.0))
pieces_one number (b ∷ bs) (Stops f ∷ ps) (Stops g ∷ qs) one two =
    ap₂ (λ (p : Piece) (more : List Piece). p ∷ more) (piece_one number b (Stops f) (Stops g) one.0 two.0) (one.1 ∙ sym two.1)

abbrev Read : ℕ → List (List ℕ) → Type 0
Read number strings = (pieces : List Piece) × AreRead number strings pieces

read_first : (number : ℕ) (b : List ℕ) (bs : List (List ℕ)) → Read (number + 1) bs → ((m : Message) × Spells b m) ⊎ ((error : MsgError) × IsFault b error)
    → Read number (b ∷ bs)
read_first number b bs later (inl read) = (Carries number read.0 ∷ later.0, ((refl, read.1), later.1))
read_first number b bs later (inr faulty) = (Stops (log.Message number faulty.0) ∷ [], ((faulty.0, faulty.1, refl), refl))

pub pieces_exist : PiecesExist
pieces_exist number [] small = ([], refl)
pieces_exist number (b ∷ bs) small = read_first number b bs (pieces_exist (number + 1) bs small.1) (either b small.0)

pub pieces_fit : PiecesFit
pieces_fit number [] pieces read = subst AllFitFields (sym read) tt
pieces_fit number (b ∷ bs) [] read = absurd read
pieces_fit number (b ∷ bs) (Carries n m ∷ pieces) read = (read.0.1.fits.fields, pieces_fit (number + 1) bs pieces read.1)
pieces_fit number (b ∷ bs) (Stops f ∷ pieces) read = subst AllFitFields (sym read.1) tt

-- ---- messages with their numbers, from this one on

abbrev pub pieces_from : ℕ → List Message → List Piece
pieces_from n [] = []
pieces_from n (m ∷ ms) = Carries n m ∷ pieces_from (n + 1) ms

pub spelled_read : (n : ℕ) (strings : List (List ℕ)) (ms : List Message) → AreSpelled strings ms → AreRead n strings (pieces_from n ms)
spelled_read n [] [] spells = refl
spelled_read n [] (m ∷ ms) spells = absurd spells
spelled_read n (b ∷ strings) [] spells = absurd spells
spelled_read n (b ∷ strings) (m ∷ ms) spells = ((refl, spells.0), spelled_read (n + 1) strings ms spells.1)

pub pieces_carry : (n : ℕ) (ms : List Message) → CarryMessages (pieces_from n ms) ms
pieces_carry n [] = tt
pieces_carry n (m ∷ ms) = ((n, refl), pieces_carry (n + 1) ms)

-- ---- the messages of the first pieces

carries_none : (k : ℕ) (m : Message) (more : List Piece) → Carries k m ∷ more ≡ [] → ⊥
carries_none k m more same = cc

split_more : (number k : ℕ) (m : Message) (strings : List (List ℕ)) (messages : List Message) (more rest : List Piece)
    → AreRead number strings (Carries k m ∷ more)
    → ((bs : List (List ℕ)) → AreRead (number + 1) bs more → AreSplit (number + 1) bs messages rest) → AreSplit number strings (m ∷ messages) rest
split_more number k m [] messages more rest read later = absurd (carries_none k m more read)
split_more number k m (b ∷ bs) messages more rest read later =
    let next = later bs read.1 in
    let count : number + 1 + length messages ≡ number + length (m ∷ messages) = omega arith in
    record {
      first = b ∷ next.first;
      others = next.others;
      parts = ap (λ (l : List (List ℕ)). b ∷ l) next.parts;
      spelled = (read.0.1, next.spelled);
      read = subst (λ (n : ℕ). AreRead n next.others rest) count next.read;
    }

pub messages_spelled : MessagesAreSpelled
messages_spelled number strings pieces [] rest [] read parts carried =
    let count : number ≡ number + length {A = Message} [] = omega arith in
    record {
      first = [];
      others = strings;
      parts = refl;
      spelled = tt;
      read = subst (λ (n : ℕ). AreRead n strings rest) count (subst (AreRead number strings) parts read);
    }
messages_spelled number strings pieces [] rest (m ∷ messages) read parts carried = absurd carried
messages_spelled number strings pieces (p ∷ front) rest [] read parts carried = absurd carried
messages_spelled number strings pieces (p ∷ front) rest (m ∷ messages) read parts carried =
    split_more number carried.0.0 m strings messages (front ++ rest) rest
    (subst (AreRead number strings) (parts ∙ ap (λ (x : Piece). x ∷ (front ++ rest)) carried.0.1) read)
    (λ bs later. messages_spelled (number + 1) bs (front ++ rest) front rest messages later refl carried.1)

pub fit_front : (front rest : List Piece) → AllFitFields (front ++ rest) → AllFitFields front
fit_front [] rest fit = tt
fit_front (Carries n m ∷ front) rest fit = (fit.0, fit_front front rest fit.1)
fit_front (Stops f ∷ front) rest fit = fit_front front rest fit

-- the message that a piece carries is within its formats' ranges
pub carried_fits : (p : Piece) (n : ℕ) (m : Message) (front : List Piece) → p ≡ Carries n m → AllFitFields (p ∷ front) → FitsFields m × AllFitFields front
carried_fits p n m front is fit = subst (λ (x : Piece). AllFitFields (x ∷ front)) is fit

pub carried_fields : (front : List Piece) (ms messages : List Message) → CarryMessages front messages → AllFitFields front → AllByRecursion FitsFields ms
    → AllByRecursion FitsFields (onto ms messages)
carried_fields [] ms [] carried fit fields = fields
carried_fields [] ms (m ∷ messages) carried fit fields = absurd carried
carried_fields (p ∷ front) ms [] carried fit fields = absurd carried
carried_fields (p ∷ front) ms (m ∷ messages) carried fit fields =
    let here = carried_fits p carried.0.0 m front carried.0.1 fit in
    carried_fields front (m ∷ ms) messages carried.1 here.1 (here.0, fields)

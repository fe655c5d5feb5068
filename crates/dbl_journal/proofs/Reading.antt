-- Bytes are read in one way.
use Rattle.std.proofs.Common.{◌≡◌, inl, inr, ◌∙◌, ℕ, ◌+◌, ◌<◌, ◌≤◌, List, [], ◌∷◌, ◌++◌, length, take, drop, refl, sym, ap, subst, arith, append_assoc}
use Rattle.std.proofs.lemmas.List.{take_at, drop_at, take-append-le, take-take}
use Rattle.std.proofs.lemmas.List.Elements.{All-head, All-tail}
use Rattle.std.proofs.lemmas.Nat.{from_be_bytes-to_be_bytes_4}
use Rattle.std.proofs.lemmas.Bool.{cases_lt}
use Rattle.std.specs.Int.{to_be_bytes, from_be_bytes, w32}
use Rattle.std.specs.List.{All, flat_map}
use Rattle.dbl_journal.specs.Form.{IsJournal, IsClosed, IsBroken, IsEntry, IsFaultAt, HasBadMagic, body, frame, up_to_gate, magic}

same_parts : (a b x y : List ℕ) → length a ≡ length b → a ++ x ≡ b ++ y → (a ≡ b) × (x ≡ y)
same_parts a b x y long is = (
  sym (take_at a x (length a) refl) ∙ ap (take (length a)) is ∙ take_at b y (length a) (sym long),
  sym (drop_at a x (length a) refl) ∙ ap (drop (length a)) is ∙ drop_at b y (length a) (sym long),
)

pub same_body : (a b x y : List ℕ) → IsEntry a → IsEntry b → body a ++ x ≡ body b ++ y → (a ≡ b) × (x ≡ y)
unfolding body
same_body a b x y short_a short_b is =
    let whole : to_be_bytes w32 (length a) ++ (a ++ x) ≡ to_be_bytes w32 (length b) ++ (b ++ y) =
    sym (append_assoc (to_be_bytes w32 (length a)) a x) ∙ is ∙ append_assoc (to_be_bytes w32 (length b)) b y in
    let lengths = same_parts (to_be_bytes w32 (length a)) (to_be_bytes w32 (length b)) (a ++ x) (b ++ y) refl whole in
    let long : length a ≡ length b = sym (from_be_bytes-to_be_bytes_4 (length a) (omega arith)) ∙ ap (from_be_bytes w32) lengths.0 ∙ from_be_bytes-to_be_bytes_4 (length b) (omega arith) in
    same_parts a b x y long lengths.1

-- no open gate with a whole entry stands at the beginning of the bytes
pub HasNoFrame : List ℕ → Type 0
HasNoFrame bytes = (entry rest : List ℕ) → IsEntry entry → bytes ≡ frame entry ++ rest → ⊥

none_if_closed : (bytes : List ℕ) → IsClosed bytes → HasNoFrame bytes
unfolding HasNoFrame
none_if_closed [] closed = absurd closed
none_if_closed (gate ∷ bytes) closed = λ entry rest short is. closed (cc)

none_if_broken : (bytes : List ℕ) → IsBroken bytes → HasNoFrame bytes
unfolding HasNoFrame
none_if_broken [] broken = λ entry rest short is. cc
none_if_broken (gate ∷ bytes) broken = λ entry rest short is.
    let subsequent : bytes ≡ body entry ++ rest = cc in
    broken.1 entry rest short subsequent

not_both : (bytes : List ℕ) → IsClosed bytes → IsBroken bytes → ⊥
not_both [] closed broken = closed
not_both (gate ∷ bytes) closed broken = closed broken.0

-- two ways to go over entries are the same
one_walk : (xs ys : List (List ℕ)) (r s : List ℕ) → All IsEntry xs → All IsEntry ys → flat_map frame xs ++ r ≡ flat_map frame ys ++ s → HasNoFrame r → HasNoFrame s → (xs ≡ ys) × (r ≡ s)
unfolding HasNoFrame
one_walk [] [] r s ax ay is cr cs = (refl, is)
one_walk [] (y ∷ ys) r s ax ay is cr cs = absurd (cr y (flat_map frame ys ++ s) (All-head IsEntry y ys ay) (is ∙ append_assoc (frame y) (flat_map frame ys) s))
one_walk (x ∷ xs) [] r s ax ay is cr cs = absurd (cs x (flat_map frame xs ++ r) (All-head IsEntry x xs ax) (sym is ∙ append_assoc (frame x) (flat_map frame xs) r))
one_walk (x ∷ xs) (y ∷ ys) r s ax ay is cr cs =
    let subsequent : (body x ++ flat_map frame xs) ++ r ≡ (body y ++ flat_map frame ys) ++ s = cc in
    let parts = same_body x y (flat_map frame xs ++ r) (flat_map frame ys ++ s) (All-head IsEntry x xs ax) (All-head IsEntry y ys ay) (sym (append_assoc (body x) (flat_map frame xs) r) ∙ subsequent ∙ append_assoc (body y) (flat_map frame ys) s) in
    let rest = one_walk xs ys r s (All-tail IsEntry x xs ax) (All-tail IsEntry y ys ay) parts.1 cr cs in
    (ap (λ (e : List ℕ). e ∷ xs) parts.0 ∙ ap (λ (l : List (List ℕ)). y ∷ l) rest.0, rest.1)

one_front : (bytes : List ℕ) (xs ys : List (List ℕ)) (r s : List ℕ) → bytes ≡ up_to_gate xs ++ r → bytes ≡ up_to_gate ys ++ s → All IsEntry xs → All IsEntry ys → HasNoFrame r → HasNoFrame s → (xs ≡ ys) × (r ≡ s)
unfolding up_to_gate
one_front bytes xs ys r s x_is y_is ax ay cr cs =
    one_walk xs ys r s ax ay
    (same_parts magic magic (flat_map frame xs ++ r) (flat_map frame ys ++ s) refl
    (sym (append_assoc magic (flat_map frame xs) r) ∙ (sym x_is ∙ y_is) ∙ append_assoc magic (flat_map frame ys) s)).1
    cr cs

pub one_journal : (bytes : List ℕ) (xs ys : List (List ℕ)) → IsJournal bytes xs → IsJournal bytes ys → xs ≡ ys
one_journal bytes xs ys a b = (one_front bytes xs ys a.rest b.rest a.spelled b.spelled a.each b.each (none_if_closed a.rest a.closed) (none_if_closed b.rest b.closed)).0

-- what begins with a front begins with the magic
has_magic : (bytes : List ℕ) (entries : List (List ℕ)) (rest : List ℕ) (n : ℕ) → n ≤ 8 → bytes ≡ up_to_gate entries ++ rest → take n bytes ≡ take n magic
unfolding up_to_gate magic
has_magic bytes entries rest n short is =
    ap (λ (l : List ℕ). take n l) (is ∙ append_assoc magic (flat_map frame entries) rest) ∙ take-append-le n magic (flat_map frame entries ++ rest) (omega arith)

pub journal_or_fault : (bytes : List ℕ) (entries : List (List ℕ)) (at : ℕ) → IsJournal bytes entries → IsFaultAt bytes at → ⊥
journal_or_fault bytes entries at journal (inl bad) = bad.differs (has_magic bytes entries journal.rest (at + 1) (omega (arith, bad.within)) journal.spelled)
journal_or_fault bytes entries at journal (inr bad) =
    let same = one_front bytes entries bad.entries journal.rest bad.rest journal.spelled bad.spelled journal.each bad.each (none_if_closed journal.rest journal.closed) (none_if_broken bad.rest bad.broken) in
    not_both journal.rest journal.closed (subst IsBroken (sym same.1) bad.broken)

first_wrong : (bytes : List ℕ) (m n : ℕ) → HasBadMagic bytes m → HasBadMagic bytes n → m < n → ⊥
first_wrong bytes m n a b below =
    a.differs (sym (take-take (m + 1) n bytes (omega arith)) ∙ ap (λ (l : List ℕ). take (m + 1) l) b.same ∙ take-take (m + 1) n magic (omega arith))

pub one_fault : (bytes : List ℕ) (m n : ℕ) → IsFaultAt bytes m → IsFaultAt bytes n → m ≡ n
one_fault bytes m n (inl a) (inl b) = elim (cases_lt m n) [
  | inl below ↦ absurd (first_wrong bytes m n a b below)
  | inr above ↦ elim (cases_lt n m) [
    | inl below ↦ absurd (first_wrong bytes n m b a below)
    | inr same ↦ omega arith
  ]
]
one_fault bytes m n (inl a) (inr b) = absurd (a.differs (has_magic bytes b.entries b.rest (m + 1) (omega (arith, a.within)) b.spelled))
one_fault bytes m n (inr a) (inl b) = absurd (b.differs (has_magic bytes a.entries a.rest (n + 1) (omega (arith, b.within)) a.spelled))
one_fault bytes m n (inr a) (inr b) =
    let same = one_front bytes a.entries b.entries a.rest b.rest a.spelled b.spelled a.each b.each (none_if_broken a.rest a.broken) (none_if_broken b.rest b.broken) in
    a.place ∙ ap (λ (l : List (List ℕ)). length (up_to_gate l)) same.0 ∙ sym b.place

-- The records of a transaction as it goes on.
use Rattle.std.proofs.Common.{◌≡◌, ◌≢◌, ◌∙◌, ◌+◌, ℕ, ℤ, List, [], ◌∷◌, ◌++◌, length, map, flat_map, refl, sym, ap, ap₂, arith}
use Rattle.std.proofs.lemmas.List.Concat.{flat_map-append}
use Rattle.std.specs.Prelude.{Option, Some, None}
use Rattle.std.specs.Option.{option_or}
use Rattle.dbl_record.specs.declared.record.Record.{Record}
use Rattle.dbl_model_table.specs.declared.identity.Identity.{Identity}
use Rattle.dbl_model_table.specs.declared.table.TableInfo.{TableInfo}
use Rattle.dbl_model_table.specs.declared.change.Change.{Change}
use Rattle.dbl_model_table.specs.declared.change.Commit.{Commit}
use Rattle.dbl_model_table.specs.declared.change.Head.{Head}
use Rattle.dbl_model_table.specs.declared.change.Body.{Body}
use Rattle.dbl_model_table.specs.declared.change.Body.TheVariants.{Changes, Mark}
use Rattle.dbl_model_table.specs.declared.change.Ended.{Ended}
use Rattle.dbl_model_table.specs.Heads.{body_of, commit_by, ended_at, commit_so_far}
use Rattle.dbl_model_table.specs.Rows.{changes_of}
use Rattle.dbl_model_event.specs.Events.{Notice, Event, notices, numbered, is_nil}
use Rattle.dbl_model_event.specs.EventJson.{print, source_data, envelopes}
use Rattle.dbl_model_event.specs.Clashes.{Clash, first_found, notice_clash, clash_of}
use Rattle.dbl_model_event.specs.OpenEvents.{unmarked, RecordsGoOn, RecordsShowNoEnd, FirstClashesStay}

-- ---- lists

no_last : {A : Type 0} (front : List A) (x : A) → [] ≡ front ++ x ∷ [] → ⊥
no_last [] x is = cc
no_last (y ∷ front) x is = cc

-- ---- numbered events, printed

module _ (identity : Identity) (commit : Commit) (now : ℤ) where
  pub printed_on : (p o : ℕ) (ns ms : List Notice) (released : List Record) (held : Record) → ms ≢ []
      → map (print identity commit now) (numbered p o ns) ≡ released ++ held ∷ []
      → map (print identity commit now) (numbered p o (ns ++ ms)) ≡ (released ++ unmarked held ∷ []) ++ map (print identity commit now)
      (numbered p (o + length ns) ms)
  printed_on p o [] ms released held some is = absurd (no_last released held is)
  printed_on p o (n ∷ []) [] released held some is = absurd (some refl)
  printed_on p o (n ∷ []) (m ∷ ms) [] held some is =
      let same : print identity commit now (record { notice = n; position = p; ordinal = o; last = is_nil {A = Notice} [] }) ≡ held = cc in
      ap (λ (r : Record). unmarked r ∷ map (print identity commit now) (numbered p (o + 1) (m ∷ ms))) same
  printed_on p o (n ∷ []) (m ∷ ms) (r ∷ released) held some is = let none : [] ≡ released ++ held ∷ [] = cc in absurd (no_last released held none)
  printed_on p o (n ∷ k ∷ ns) ms [] held some is = cc
  printed_on p o (n ∷ k ∷ ns) ms (r ∷ released) held some is =
      let first : print identity commit now (record { notice = n; position = p; ordinal = o; last = is_nil (k ∷ ns) }) ≡ r = cc in
      let rest : map (print identity commit now) (numbered p (o + 1) (k ∷ ns)) ≡ released ++ held ∷ [] = cc in
      let next : (o + 1) + length (k ∷ ns) ≡ o + length (n ∷ k ∷ ns) = omega arith in
      ap₂ (λ (x : Record) (l : List Record). x ∷ l) first
      (printed_on p (o + 1) (k ∷ ns) ms released held some rest
      ∙ ap (λ (i : ℕ). (released ++ unmarked held ∷ []) ++ map (print identity commit now) (numbered p i ms)) next)

-- ---- the records of a transaction

map_same : {A B : Type 0} (f g : A → B) → ((x : A) → f x ≡ g x) → (xs : List A) → map f xs ≡ map g xs
map_same f g same [] = refl
map_same {B = B} f g same (x ∷ xs) = ap₂ (λ (y : B) (l : List B). y ∷ l) (same x) (map_same f g same xs)

-- each shows its commit's head alone
print_head : (identity : Identity) (ended : Ended) (changes : List Change) (now : ℤ) (event : Event)
    → print identity (commit_by ended changes) now event ≡ print identity (commit_so_far ended.head []) now event
unfolding source_data
print_head identity ended changes now event = refl

pub records_by_head : (identity : Identity) (infos : List TableInfo) (head : Head) (changes : List Change) (now : ℤ)
    → envelopes identity infos (commit_so_far head changes) now ≡ map (print identity (commit_so_far head []) now)
    (numbered head.lsn.0 0 (flat_map (notices infos) changes))
records_by_head identity infos head changes now =
    map_same (print identity (commit_so_far head changes) now) (print identity (commit_so_far head []) now)
    (print_head identity (ended_at head head.lsn) changes now)
    (numbered head.lsn.0 0 (flat_map (notices infos) changes))

-- the records so far, and those of further changes
pub records_on : (identity : Identity) (infos : List TableInfo) (head : Head) (changes more : List Change) (now : ℤ) (released : List Record) (held : Record)
    → envelopes identity infos (commit_so_far head changes) now ≡ released ++ held ∷ [] → flat_map (notices infos) more ≢ []
    → envelopes identity infos (commit_so_far head (changes ++ more)) now
    ≡ (released ++ unmarked held ∷ []) ++ map (print identity (commit_so_far head []) now)
    (numbered head.lsn.0 (length (flat_map (notices infos) changes)) (flat_map (notices infos) more))
records_on identity infos head changes more now released held is some =
    let ns = flat_map (notices infos) changes in
    let ms = flat_map (notices infos) more in
    let P = print identity (commit_so_far head []) now in
    let from : 0 + length ns ≡ length ns = omega arith in
    records_by_head identity infos head (changes ++ more) now
    ∙ ap (λ (l : List Notice). map P (numbered head.lsn.0 0 l)) (flat_map-append (notices infos) changes more)
    ∙ printed_on identity (commit_so_far head []) now head.lsn.0 0 ns ms released held some (sym (records_by_head identity infos head changes now) ∙ is)
    ∙ ap (λ (i : ℕ). (released ++ unmarked held ∷ []) ++ map P (numbered head.lsn.0 i ms)) from

pub records_go_on : RecordsGoOn
records_go_on identity infos head changes more now released held is some =
    (_, records_on identity infos head changes more now released held is some)

bodies : (mark : Option (List ℕ)) (changes : List Change) → mark ≡ None → body_of mark changes ≡ Changes changes
bodies None changes none = refl
bodies (Some value) changes none = cc

pub records_show_no_end : RecordsShowNoEnd
records_show_no_end identity infos ended changes now none =
    let P = print identity (commit_so_far ended.head []) now in
    map_same (print identity (commit_by ended changes) now) P (print_head identity ended changes now)
    (numbered ended.head.lsn.0 0 (flat_map (notices infos) (changes_of (commit_by ended changes))))
    ∙ ap (λ (b : Body). map P (numbered ended.head.lsn.0 0 (flat_map (notices infos) (elim b [ Changes cs ↦ cs | Mark v ↦ [] ]))))
    (bodies ended.mark changes none)
    ∙ sym (records_by_head identity infos ended.head changes now)

-- ---- values equal to the placeholder

or_assoc : {B : Type 0} (o p q : Option B) → option_or o (option_or p q) ≡ option_or (option_or o p) q
or_assoc None p q = refl
or_assoc (Some b) p q = refl

pub found_append : {A B : Type 0} (f : A → Option B) (xs ys : List A) → first_found f (xs ++ ys) ≡ option_or (first_found f xs) (first_found f ys)
found_append f [] ys = refl
found_append f (x ∷ xs) ys = ap (option_or (f x)) (found_append f xs ys) ∙ or_assoc (f x) (first_found f xs) (first_found f ys)

pub clashes_on : (identity : Identity) (infos : List TableInfo) (head : Head) (changes more : List Change)
    → clash_of identity infos (commit_so_far head (changes ++ more))
    ≡ option_or (clash_of identity infos (commit_so_far head changes)) (first_found (notice_clash identity.placeholder) (flat_map (notices infos) more))
clashes_on identity infos head changes more =
    ap (first_found (notice_clash identity.placeholder)) (flat_map-append (notices infos) changes more)
    ∙ found_append (notice_clash identity.placeholder) (flat_map (notices infos) changes) (flat_map (notices infos) more)

pub first_clashes_stay : FirstClashesStay
first_clashes_stay identity infos head changes more clash found =
    clashes_on identity infos head changes more
    ∙ ap (λ (o : Option Clash). option_or o (first_found (notice_clash identity.placeholder) (flat_map (notices infos) more))) found

-- The records of a commit, and of a window that it closes, as what the log is told.
use Rattle.std.proofs.Common.{◌≡◌, ◌∙◌, inl, inr, ◌+◌, ◌≤◌, ◌<◌, ℕ, zero, suc, ℤ, Option, Some, None, List, [], ◌∷◌, ◌++◌, length, map, take, refl, sym, ap, subst, arith, le_refl}
use Rattle.std.specs.Prelude.{flat_map, option_map, unwrap_or}
use Rattle.std.specs.Option.{option_or}
use Rattle.std.specs.List.{AllByRecursion, AllZip}
use Rattle.std.proofs.lemmas.List.Concat.{flat_map-append}
use Rattle.dbl_record.specs.declared.record.Record.{Record}
use Rattle.dbl_record.specs.Cuts.{cut, joined, ArePartedAt}
use Rattle.dbl_record.specs.Places.{place_of, IsBefore}
use Rattle.dbl_record.proofs.CutLaws.{cuts_join}
use Rattle.dbl_model_table.specs.declared.identity.Identity.{Identity}
use Rattle.dbl_model_table.specs.declared.table.TableInfo.{TableInfo}
use Rattle.dbl_model_table.specs.declared.change.Commit.{Commit}
use Rattle.dbl_model_table.specs.Rows.{changes_of}
use Rattle.dbl_faithful.specs.ModelHistory.Ranges.{IsMomentInRange}
use Rattle.dbl_faithful.specs.ModelEvent.Events.{Notice, notices, numbered, events_of}
use Rattle.dbl_faithful.specs.ModelEvent.EventJson.{print, envelopes}
use Rattle.dbl_faithful.specs.ModelEvent.Clashes.{Clash, notice_clash, first_found, clash_of}
use Rattle.dbl_faithful.specs.ModelEvent.Snapshots.{chunk_records}
use Rattle.dbl_faithful.specs.ModelEvent.SnapshotLists.{IsSnapshot}
use Rattle.dbl_faithful.specs.ModelEvent.declared.closed.Closed.{Closed}
use Rattle.dbl_faithful.proofs.ConsumeLawsNotices.{all_append}
use Rattle.dbl_faithful.specs.ToldEvents.{tell, IsClearPrint}
use Rattle.dbl_faithful.proofs.Agree.{IsRun, chunk_run}
use Rattle.dbl_faithful.proofs.Items.{taken_at, all_by_place, all_weaker}
use Rattle.dbl_faithful.specs.Onward.{PlacesRise}

-- ---- lists

pub take_whole : {X : Type 0} (xs : List X) → take (length xs) xs ≡ xs
take_whole [] = refl
take_whole (x ∷ xs) = ap (λ (l : List _). x ∷ l) (take_whole xs)

abbrev tail_of : {X : Type 0} → List X → List X
tail_of [] = []
tail_of (x ∷ xs) = xs

pub cancel : {X : Type 0} (xs ys zs : List X) → xs ++ ys ≡ xs ++ zs → ys ≡ zs
cancel [] ys zs e = e
cancel (x ∷ xs) ys zs e = cancel xs ys zs (ap tail_of e)

-- ---- clear prints

pub no_first : (a b : Option Clash) → option_or a b ≡ None → a ≡ None
no_first None b is = refl
no_first (Some x) b is = cc

pub no_other : (a b : Option Clash) → option_or a b ≡ None → b ≡ None
no_other None b is = is
no_other (Some x) b is = cc

clear_from : (identity : Identity) (commit : Commit) (now : ℤ) → IsMomentInRange now → (position ordinal n : ℕ) (ns : List Notice) → first_found (notice_clash identity.placeholder) ns ≡ None
    → AllZip (IsClearPrint identity) (take n (map (tell commit) (numbered position ordinal ns))) (take n (map (print identity commit now) (numbered position ordinal ns)))
clear_from identity commit now in_range position ordinal zero ns clear = tt
clear_from identity commit now in_range position ordinal (suc n) [] clear = tt
clear_from identity commit now in_range position ordinal (suc n) (x ∷ ns) clear =
    let first : notice_clash identity.placeholder x ≡ None = no_first (notice_clash identity.placeholder x) (first_found (notice_clash identity.placeholder) ns) clear in
    let rest : first_found (notice_clash identity.placeholder) ns ≡ None = no_other (notice_clash identity.placeholder x) (first_found (notice_clash identity.placeholder) ns) clear in (
      record { is = record { now = now; in_range = in_range; printed = refl }; clear = first },
      clear_from identity commit now in_range position (ordinal + 1) n ns rest,
    )

-- some first records of a commit are clear prints of its first events
pub clear_prints : (identity : Identity) (infos : List TableInfo) (commit : Commit) (now : ℤ) (n : ℕ) → IsMomentInRange now → clash_of identity infos commit ≡ None
    → AllZip (IsClearPrint identity) (take n (map (tell commit) (events_of infos commit))) (take n (envelopes identity infos commit now))
clear_prints identity infos commit now n in_range clear = clear_from identity commit now in_range commit.lsn.0 0 n (flat_map (notices infos) (changes_of commit)) clear

-- ---- where they stand

-- the records of a snapshot stand at its watermark
pub snapshot_run : (identity : Identity) (infos : List TableInfo) (closed : Closed) (mark : Commit) (now : ℤ) (records : List Record) → IsSnapshot identity infos closed mark now records → IsRun mark.lsn.0 records
snapshot_run identity infos closed mark now records listed =
    subst (IsRun mark.lsn.0) (sym (listed.records_are ∙ ap (λ (o : Option TableInfo). unwrap_or (option_map (λ i. chunk_records identity i closed.rows closed.through closed.done mark now) o) []) listed.captured))
    (chunk_run identity listed.info mark now (length closed.rows) closed.rows closed.through closed.done)

pub run_at : (position : ℕ) (records : List Record) (n : ℕ) → IsRun position records → AllByRecursion (λ item. item.position ≡ position) (take n records)
run_at position records n run = all_by_place (λ (item : Record). item.position ≡ position) (take n records) (λ j item at. (run j item (taken_at n records j item at).1).0)

-- ---- groups

joined-append : (xs ys : List (List Record)) → joined (xs ++ ys) ≡ joined xs ++ joined ys
joined-append xs ys = flat_map-append (λ (group : List Record). group) xs ys

pub joined_cut : (groups : List (List Record)) (records : List Record) → joined (groups ++ cut records) ≡ joined groups ++ records
joined_cut groups records = joined-append groups (cut records) ∙ ap (λ (l : List Record). joined groups ++ l) (cuts_join records)

apart : (a b c d : ℕ) → a ≤ b → b < c → d ≡ c → a ≡ d → ⊥
apart a b c d le lt is same = omega (arith, le, lt, is, same)

-- records up to a position, and others at a later one
pub parted_at : (low high : ℕ) (first others : List Record) → low < high → AllByRecursion (λ item. item.position ≤ low) first → AllByRecursion (λ item. item.position ≡ high) others → ArePartedAt first others
parted_at low high first others lt under at =
    all_weaker (λ (a : Record). a.position ≤ low) (λ (a : Record). AllByRecursion (λ b. a.position ≡ b.position → ⊥) others) first
    (λ a le. all_weaker (λ (b : Record). b.position ≡ high) (λ (b : Record). a.position ≡ b.position → ⊥) others (λ b is. apart a.position low high b.position le lt is) at) under

before_it : (a b c d : ℕ) → a ≤ b → b < c → d ≡ c → a < d
before_it a b c d le lt is = omega (arith, le, lt, is)

pub all_before : (low high : ℕ) (first others : List Record) → low < high → AllByRecursion (λ item. item.position ≤ low) first → AllByRecursion (λ item. item.position ≡ high) others
    → AllByRecursion (λ item. AllByRecursion (λ later. IsBefore (place_of item) (place_of later)) others) first
all_before low high first others lt under at =
    all_weaker (λ (a : Record). a.position ≤ low) (λ (a : Record). AllByRecursion (λ b. IsBefore (place_of a) (place_of b)) others) first
    (λ a le. all_weaker (λ (b : Record). b.position ≡ high) (λ (b : Record). IsBefore (place_of a) (place_of b)) others (λ b is. inl (before_it a.position low high b.position le lt is)) at) under

pub rise_append : (xs ys : List Record) → PlacesRise xs → PlacesRise ys → AllByRecursion (λ item. AllByRecursion (λ later. IsBefore (place_of item) (place_of later)) ys) xs → PlacesRise (xs ++ ys)
rise_append [] ys one two all = two
rise_append (x ∷ xs) ys one two all = (all_append (λ (later : Record). IsBefore (place_of x) (place_of later)) xs ys one.0 all.0, rise_append xs ys one.1 two all.1)

-- ---- a commit's records rise

module _ (identity : Identity) (commit : Commit) (now : ℤ) where
  numbered_from : (position ordinal n : ℕ) (ns : List Notice)
      → AllByRecursion (λ item. (item.position ≡ position) × (ordinal ≤ item.ordinal)) (take n (map (print identity commit now) (numbered position ordinal ns)))
  numbered_from position ordinal zero ns = tt
  numbered_from position ordinal (suc n) [] = tt
  numbered_from position ordinal (suc n) (x ∷ ns) = (
    (refl, le_refl ordinal),
    all_weaker (λ (item : Record). (item.position ≡ position) × (ordinal + 1 ≤ item.ordinal)) (λ (item : Record). (item.position ≡ position) × (ordinal ≤ item.ordinal))
        (take n (map (print identity commit now) (numbered position (ordinal + 1) ns))) (λ item is. (is.0, lower ordinal item.ordinal is.1)) (numbered_from position (ordinal + 1) n ns),
  )
    where
      lower : (a b : ℕ) → a + 1 ≤ b → a ≤ b
      lower a b le = omega (arith, le)

  rise_from : (position ordinal n : ℕ) (ns : List Notice) → PlacesRise (take n (map (print identity commit now) (numbered position ordinal ns)))
  rise_from position ordinal zero ns = tt
  rise_from position ordinal (suc n) [] = tt
  rise_from position ordinal (suc n) (x ∷ ns) = (
    all_weaker (λ (item : Record). (item.position ≡ position) × (ordinal + 1 ≤ item.ordinal)) (λ (item : Record). IsBefore (position, ordinal) (place_of item))
        (take n (map (print identity commit now) (numbered position (ordinal + 1) ns))) (λ item is. inr (sym is.0, subsequent ordinal item.ordinal is.1)) (numbered_from position (ordinal + 1) n ns),
    rise_from position (ordinal + 1) n ns,
  )
    where
      subsequent : (a b : ℕ) → a + 1 ≤ b → a < b
      subsequent a b le = omega (arith, le)

pub envelopes_rise : (identity : Identity) (infos : List TableInfo) (commit : Commit) (now : ℤ) (n : ℕ) → PlacesRise (take n (envelopes identity infos commit now))
envelopes_rise identity infos commit now n = rise_from identity commit now commit.lsn.0 0 n (flat_map (notices infos) (changes_of commit))

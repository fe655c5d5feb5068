-- The log of the example, its bytes, and what its select shows.
use Rattle.std.proofs.Common.{◌≡◌, ◌∙◌, ℕ, ◌≤◌, Bool, true, false, None, Some, List, [], ◌∷◌, ◌++◌, length, map, refl, sym, ap, subst, arith}
use Rattle.std.specs.Prelude.{if◌then◌else◌, codes}
use Rattle.std.specs.List.{All}
use Rattle.std.proofs.lemmas.List.{append-nil}
use Rattle.std.proofs.lemmas.List.Elements.{All-cons, All-nil}
use Rattle.dbl_base.specs.Lines.{lines_text}
use Rattle.dbl_pgmsg.specs.declared.messages.Message.{Message}
use Rattle.dbl_script.specs.ModelTable.declared.row.Key.{Key}
use Rattle.dbl_script.specs.ModelTable.declared.table.RawRow.{RawRow}
use Rattle.dbl_script.specs.ModelTable.Keys.{same_key}
use Rattle.dbl_tables_laws.proofs.ModelTableKeyLemmas.{same_key-is}
use Rattle.dbl_script.specs.Value.declared.value.Val.TheVariants as val
use Rattle.dbl_script.specs.Value.Types.{type_of}
use Rattle.dbl_journal.specs.Form.{IsEntry, up_to_gate}
use Rattle.dbl_script.specs.Scripts.{first_bad, script_of}
use Rattle.dbl_tables_laws.specs.SourceLog.declared.logged.Logged.TheVariants.{Changes}
use Rattle.dbl_tables_laws.specs.SourceLog.Fair.{AreFairEntries}
use Rattle.dbl_demo_wal.specs.declared.entry.Entry.{Entry}
use Rattle.dbl_demo_wal.specs.declared.entry.Entry.TheVariants.{Commits}
use Rattle.dbl_demo_wal.specs.Entries.{FitsWalEntry, HoldsChange, entry_form, workload_form}
use Rattle.dbl_tables_laws.specs.TablesRows.Acts.{Accepted, log_in}
use Rattle.dbl_tables_laws.specs.TablesRows.Selects.{AreShown}
use Rattle.dbl_tables_laws.specs.TablesRows.Sending.{log_tables}
use Rattle.dbl_tables_laws.specs.TablesRows.Seen.{committed_rows}
use Rattle.dbl_tables_laws.proofs.SendableLemmas.{runs_fair}
use Rattle.dbl_demo_wal.specs.CrashState.{added_by, with_entries}
use Rattle.dbl_demo_wal.specs.Sound.{IsSilent, IsSound}
use Rattle.dbl_demo_wal.specs.Wals.{IsWal, IsWalOf, Wal, forms_of}
use Rattle.dbl_demo_wal.specs.Workloads.{IsWorkload, acts_at, workload_rows, session_steps_at}
use Rattle.dbl_demo_wal.proofs.RangeLaws.{workload_in_range}
use Rattle.dbl_demo_wal.proofs.ReleaseLaws.{logs_release}
use Rattle.dbl_demo_wal.proofs.SizeLemmas.{commit_size}
use Rattle.dbl_demo_wal.specs.Example.{ASelectStands, example_workload_lines, example_wal_name, example_both_rows, example_answer, example_name_row}
use Rattle.dbl_demo_wal.specs.Shown.{AreRowsShown}
use Rattle.dbl_demo_wal.proofs.ExampleLines.{good, lines_are, script_is}
use Rattle.dbl_demo_wal.proofs.ExampleActs.{accepted, acts_between, acts_first, acts_last, between_is, demo, first_is, gained, info, last_is, put, released_is, removed, workload}
use Rattle.dbl_demo_wal.proofs.SelectLemmas.{selects_answered}

abbrev begun : List Entry
begun = Commits 0 (put (codes "a") ∷ []) ∷ []

-- the log that the select finds, and the one that it leaves
abbrev wal : Wal
wal = record { script = lines_text example_workload_lines; workload = workload; entries = begun }

abbrev left : Wal
left = record { script = lines_text example_workload_lines; workload = workload; entries = begun ++ gained }

is_workload : IsWorkload (lines_text example_workload_lines) workload
is_workload = record {
  few = omega (arith, ap (λ (l : List (List ℕ)). length l) lines_are);
  good = ap first_bad lines_are ∙ good;
  script = script_is ∙ ap script_of (sym lines_are);
  tables = (record { info = refl; full = refl; toast = refl }, tt);
  rows = accepted;
}

-- ---- it is sound

sound : IsSound workload begun
sound = record {
  each = (record { later = omega arith; there = omega arith; none_between = refl; is = ap log_in first_is }, tt);
  begun = omega (arith, ap (λ (past : List Accepted). length (log_in past)) first_is);
}

silent : IsSilent workload begun 0
silent = record { later = omega arith; there = omega arith; none_between = ap log_in first_is }

left_sound : IsSound workload (begun ++ gained)
left_sound = subst (λ (more : List Entry). IsSound workload (begun ++ more)) released_is (logs_release workload begun 0 7 sound silent (omega arith) (omega arith)).0

left_is : with_entries wal (added_by wal 0 7 []) ≡ left
left_is = ap (λ (more : List Entry). with_entries wal more) (append-nil _ ∙ released_is)

-- ---- its entries fit

abbrev log : List (List Message)
log = (put (codes "a") ∷ []) ∷ (put (codes "b") ∷ []) ∷ (removed (codes "a") ∷ []) ∷ []

fair : AreFairEntries (log_tables (demo ∷ [])) (map Changes log)
fair =
    let ranged = workload_in_range (lines_text example_workload_lines) workload is_workload 7 in
    subst (λ (l : List (List Message)). AreFairEntries (log_tables (demo ∷ [])) (map Changes l))
    (ap log_in last_is) (runs_fair (demo ∷ []) (workload_rows workload) (session_steps_at workload 7) ranged.described ranged.rows ranged.steps).entries

holds_a : HoldsChange (put (codes "a"))
holds_a = let of = fair.0.0.0 in (of.fits, of.change)

holds_b : HoldsChange (put (codes "b"))
holds_b = let of = fair.1.0.0.0 in (of.fits, of.change)

holds_removed : HoldsChange (removed (codes "a"))
holds_removed = let of = fair.1.1.0.0.0 in (of.fits, of.change)

fits_one : (steps : ℕ) (m : Message) → steps ≤ 7 → HoldsChange m → FitsWalEntry (Commits steps (m ∷ []))
fits_one steps m le holds = record { steps_fit = omega (arith, le); few = omega arith; each = (holds, tt) }

short_one : (steps : ℕ) (m : Message) → HoldsChange m → IsEntry (entry_form (Commits steps (m ∷ [])))
short_one steps m holds = let short = holds.0.short in omega (arith, commit_size steps (m ∷ []), short)

short_workload : IsEntry (workload_form (lines_text example_workload_lines))
unfolding workload_form
short_workload = omega arith

four : (a b c d : List ℕ) → IsEntry a → IsEntry b → IsEntry c → IsEntry d → All IsEntry (a ∷ b ∷ c ∷ d ∷ [])
four a b c d p q r s = All-cons IsEntry a (b ∷ c ∷ d ∷ []) p (All-cons IsEntry b (c ∷ d ∷ []) q (All-cons IsEntry c (d ∷ []) r (All-cons IsEntry d [] s (All-nil IsEntry))))

abbrev bytes : List ℕ
bytes = up_to_gate (forms_of left) ++ 0 ∷ []

is_left : IsWalOf (forms_of left) left
is_left = record {
  are = refl;
  workload = is_workload;
  fits = (fits_one 0 (put (codes "a")) (omega arith) holds_a, (fits_one 3 (put (codes "b")) (omega arith) holds_b, (fits_one 7 (removed (codes "a")) (omega arith) holds_removed, tt)));
  sound = left_sound;
}

is_wal : IsWal bytes left
is_wal = record {
  forms = forms_of left;
  journal = record {
    rest = 0 ∷ [];
    spelled = refl;
    closed = λ e. cc;
    each =
        four (workload_form (lines_text example_workload_lines)) (entry_form (Commits 0 (put (codes "a") ∷ []))) (entry_form (Commits 3 (put (codes "b") ∷ []))) (entry_form (Commits 7 (removed (codes "a") ∷ [])))
        short_workload (short_one 0 (put (codes "a")) holds_a) (short_one 3 (put (codes "b")) holds_b) (short_one 7 (removed (codes "a")) holds_removed);
  };
  are = is_left;
  few = omega arith;
}

-- ---- its rows between the groups

abbrev key_of : List ℕ → Key
key_of name = record { cells = val.Text name ∷ [] }

apart : (key : Key) → key_of (codes "a") ≡ key → key_of (codes "b") ≡ key → ⊥
apart key a b =
    let cells : val.Text (codes "a") ∷ [] ≡ val.Text (codes "b") ∷ [] = ap (λ (k : Key). k.cells) (a ∙ sym b) in
    let texts : val.Text (codes "a") ≡ val.Text (codes "b") = cc in
    let names : codes "a" ≡ codes "b" = cc in
    let bytes : ◌≡◌ {A = ℕ} 97 98 = cc in
    omega (arith, bytes)

either : (key : Key) (a b : Bool) → same_key (key_of (codes "a")) key ≡ a → same_key (key_of (codes "b")) key ≡ b
    → (if a then Some (Some (codes "a") ∷ []) else (if b then Some (Some (codes "b") ∷ []) else None)) ≡ (if b then Some (Some (codes "b") ∷ []) else (if a then Some (Some (codes "a") ∷ []) else None))
either key true true a b = absurd (apart key (same_key-is (key_of (codes "a")) key a) (same_key-is (key_of (codes "b")) key b))
either key true false a b = refl
either key false true a b = refl
either key false false a b = refl

shown_between : AreShown info (committed_rows (log_tables (demo ∷ [])) acts_between example_wal_name) None 10 example_both_rows
unfolding type_of
shown_between = record {
  none_above = λ never. absurd (never tt);
  first = λ above. record {
    ordered = (tt, (refl, tt));
    few = omega arith;
    right = λ key above_it range. either key (same_key (key_of (codes "a")) key) (same_key (key_of (codes "b")) key) refl refl;
  };
}

shown_first : AreShown info (committed_rows (log_tables (demo ∷ [])) acts_first example_wal_name) None 10 (example_name_row (codes "a") ∷ [])
unfolding type_of
shown_first = record {
  none_above = λ never. absurd (never tt);
  first = λ above. record { ordered = (tt, tt); few = omega arith; right = λ key above_it range. refl };
}

second : (key : Key) (a b : Bool) → same_key (key_of (codes "a")) key ≡ a → same_key (key_of (codes "b")) key ≡ b
    → (if b then Some (Some (codes "b") ∷ []) else None) ≡ (if a then None else (if b then Some (Some (codes "b") ∷ []) else (if a then Some (Some (codes "a") ∷ []) else None)))
second key true true a b = absurd (apart key (same_key-is (key_of (codes "a")) key a) (same_key-is (key_of (codes "b")) key b))
second key true false a b = refl
second key false true a b = refl
second key false false a b = refl

shown_last : AreShown info (committed_rows (log_tables (demo ∷ [])) acts_last example_wal_name) None 10 (example_name_row (codes "b") ∷ [])
unfolding type_of
shown_last = record {
  none_above = λ never. absurd (never tt);
  first = λ above. record {
    ordered = (tt, tt);
    few = omega arith;
    right = λ key above_it range. second key (same_key (key_of (codes "a")) key) (same_key (key_of (codes "b")) key) refl refl;
  };
}

abbrev Shown : List RawRow → List Accepted → Type 0
Shown rows past = AreRowsShown (demo ∷ []) past example_wal_name None 10 rows

shown : Shown example_both_rows (acts_at workload 4)
shown = subst (Shown example_both_rows) (sym between_is) shown_between

pub a_select : ASelectStands
a_select =
    let is : IsWal bytes (with_entries wal (added_by wal 0 7 [])) = subst (IsWal bytes) (sym left_is) is_wal in (
      bytes,
      wal,
      record {
        script = refl;
        silent = silent;
        first = refl;
        second = refl;
        is = is;
        shown = shown;
        at_call = subst (Shown (example_name_row (codes "a") ∷ [])) (sym first_is) shown_first;
        at_return = subst (Shown (example_name_row (codes "b") ∷ [])) (sym last_is) shown_last;
        answered = selects_answered bytes wal 0 4 7 example_wal_name None 10 example_answer refl silent (omega arith) (omega arith) (omega arith) is shown;
      },
    )

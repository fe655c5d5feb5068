-- What a call of a played source commits: alterations, each with its rows, and changes. None of it is a watermark.
use Rattle.std.proofs.Common.{◌≡◌, ◌∙◌, ◌+◌, ◌<◌, ℕ, zero, suc, Bool, true, false, cond, List, [], ◌∷◌, ◌++◌, length, map, take, drop, get_or, refl, sym, ap, subst, arith, append_assoc, length-append}
use Rattle.std.specs.Prelude.{◌==◌, if◌then◌else◌, filter, Result, Ok, Err, OnOk, OnErr}
use Rattle.std.specs.List.{AllByRecursion}
use Rattle.std.proofs.lemmas.List.{append-nil, map-append, length-map, take_all, take-append-drop, take-append-le, take_more}
use Rattle.std.proofs.lemmas.Bool.Decides.{Decides-eqb}
use Rattle.std.proofs.lemmas.List.Elements.{filter-append}
use Rattle.dbl_pgmsg.specs.declared.messages.Message.{Message}
use Rattle.dbl_model_table.specs.declared.table.RawTable.{RawTable}
use Rattle.dbl_source_model.proofs.ModelHistoryRowLemmas.{take-length-append}
use Rattle.dbl_source_log.specs.declared.logged.LogTable.{LogTable}
use Rattle.dbl_source_log.specs.declared.logged.Logged.{Logged}
use Rattle.dbl_source_log.specs.declared.logged.Logged.TheVariants.{Changes, Mark, Alter}
use Rattle.dbl_source_log.specs.Alterations.{IsOthers}
use Rattle.dbl_source_scripted.specs.declared.moves.PlannedAlteration.{PlannedAlteration}
use Rattle.dbl_source_scripted.specs.AlteredRows.{bare_alteration, filled_entry, filled}
use Rattle.dbl_source_scripted.specs.Played.{Played, altered_at, bare_commits, inside_of, before_of, commits_before}
use Rattle.dbl_source_scripted.specs.Steps.{HasPlayed}

-- ---- commits with their rows

module _ (tables : List LogTable) where
  pub length-filled : (log entries : List Logged) → length (filled tables log entries) ≡ length entries
  length-filled log [] = refl
  length-filled log (entry ∷ entries) = ap suc (length-filled (log ++ filled_entry tables log entry ∷ []) entries)

  pub filled-append : (log a b : List Logged) → filled tables log (a ++ b) ≡ filled tables log a ++ filled tables (log ++ filled tables log a) b
  filled-append log [] b = ap (λ (l : List Logged). filled tables l b) (sym (append-nil log))
  filled-append log (entry ∷ a) b =
      let here : Logged = filled_entry tables log entry in
      let next : List Logged = log ++ here ∷ [] in
      ap (λ (l : List Logged). here ∷ l) (filled-append next a b)
      ∙ ap (λ (l : List Logged). here ∷ (filled tables next a ++ filled tables l b)) (append_assoc log (here ∷ []) (filled tables next a))

  pub filled-take : (count : ℕ) (log entries : List Logged) → take count (filled tables log entries) ≡ filled tables log (take count entries)
  filled-take zero log entries = refl
  filled-take (suc count) log [] = refl
  filled-take (suc count) log (entry ∷ entries) = ap (λ (l : List Logged). filled_entry tables log entry ∷ l) (filled-take count (log ++ filled_entry tables log entry ∷ []) entries)

  -- changes are as they are
  pub filled_changes : (log : List Logged) (commits : List (List Message)) → filled tables log (map Changes commits) ≡ map Changes commits
  filled_changes log [] = refl
  filled_changes log (ms ∷ commits) = ap (λ (l : List Logged). Changes ms ∷ l) (filled_changes (log ++ Changes ms ∷ []) commits)

  -- a whole log that grew
  pub filled_more : (log more new : List Logged) → new ≡ log ++ more → filled tables [] new ≡ filled tables [] log ++ filled tables (filled tables [] log) more
  filled_more log more new is = ap (filled tables []) is ∙ filled-append [] log more

  pub filled_played : (commits log new : List Logged) → HasPlayed commits log new → HasPlayed (filled tables (filled tables [] log) commits) (filled tables [] log) (filled tables [] new)
  filled_played commits log new p = record {
    count = p.count;
    few = omega (arith, p.few, length-filled (filled tables [] log) commits);
    is = filled_more log (take p.count commits) new p.is ∙ ap (λ (l : List Logged). filled tables [] log ++ l) (sym (filled-take p.count (filled tables [] log) commits));
  }

-- ---- no watermark

abbrev pub AreOtherEntries : List Logged → Type 0
AreOtherEntries entries = AllByRecursion IsOthers entries

pub changes_are_others : (commits : List (List Message)) → AreOtherEntries (map Changes commits)
changes_are_others [] = tt
changes_are_others (ms ∷ commits) = (tt, changes_are_others commits)

others_append : (a b : List Logged) → AreOtherEntries a → AreOtherEntries b → AreOtherEntries (a ++ b)
others_append [] b first rest = rest
others_append (entry ∷ a) b first rest = (first.0, others_append a b first.1 rest)

pub others_taken : (count : ℕ) (entries : List Logged) → AreOtherEntries entries → AreOtherEntries (take count entries)
others_taken zero entries all = tt
others_taken (suc count) [] all = tt
others_taken (suc count) (entry ∷ entries) all = (all.0, others_taken count entries all.1)

bare_are_others : (raws : List RawTable) → AreOtherEntries (map bare_alteration raws)
bare_are_others [] = tt
bare_are_others (raw ∷ raws) = (tt, bare_are_others raws)

filled_others : (tables : List LogTable) (log entries : List Logged) → AreOtherEntries entries → AreOtherEntries (filled tables log entries)
filled_others tables log [] all = tt
filled_others tables log (Changes ms ∷ entries) all = (tt, filled_others tables (log ++ filled_entry tables log (Changes ms) ∷ []) entries all.1)
filled_others tables log (Mark value ∷ entries) all = absurd all.0
filled_others tables log (Alter name columns rows ∷ entries) all = (tt, filled_others tables (log ++ filled_entry tables log (Alter name columns rows) ∷ []) entries all.1)

pub before_others : (old : Played) → AreOtherEntries (commits_before old)
before_others old = filled_others old.tables old.log _ (others_append _ (map Changes (before_of old)) (bare_are_others _) (changes_are_others (before_of old)))

pub around_others : (old : Played) → AreOtherEntries (commits_before old ++ map Changes (inside_of old))
around_others old = others_append (commits_before old) (map Changes (inside_of old)) (before_others old) (changes_are_others (inside_of old))

-- ---- some first ones of them

pub played_front : (a b old new : List Logged) → HasPlayed a old new → HasPlayed (a ++ b) old new
played_front a b old new p = record {
  count = p.count;
  few = omega (arith, p.few, length-append a b);
  is = p.is ∙ ap (λ (l : List Logged). old ++ l) (sym (take-append-le p.count a b p.few));
}

pub played_rest : (a b old mid new : List Logged) → mid ≡ old ++ a → HasPlayed b mid new → HasPlayed (a ++ b) old new
played_rest a b old mid new is p = record {
  count = length a + p.count;
  few = omega (arith, p.few, length-append a b);
  is =
      p.is
      ∙ ap (λ (l : List Logged). l ++ take p.count b) is
      ∙ append_assoc old a (take p.count b)
      ∙ ap (λ (l : List Logged). old ++ l) (sym (take-length-append a b p.count));
}

pub none_altered : (raws : List RawTable) (before : List (List Message)) → bare_commits raws before ≡ [] → raws ≡ []
none_altered [] before none = refl
none_altered (raw ∷ raws) before none = let never : bare_alteration raw ∷ bare_commits raws before ≡ [] = none in cc

pub none_before : (raws : List RawTable) (before : List (List Message)) → bare_commits raws before ≡ [] → before ≡ []
none_before [] [] none = refl
none_before [] (ms ∷ before) none = let never : Changes ms ∷ map Changes before ≡ [] = none in cc
none_before (raw ∷ raws) before none = let never : bare_alteration raw ∷ bare_commits raws before ≡ [] = none in cc

-- what is committed is nothing where it is nothing without the rows
pub none_filled : (tables : List LogTable) (log entries : List Logged) → filled tables log entries ≡ [] → entries ≡ []
none_filled tables log [] none = refl
none_filled tables log (entry ∷ entries) none =
    let never : filled_entry tables log entry ∷ filled tables (log ++ filled_entry tables log entry ∷ []) entries ≡ [] = none in
    cc

pub length-commits : (raws : List RawTable) (before : List (List Message)) → length (bare_commits raws before) ≡ length raws + length before
length-commits raws before = omega (arith, length-append (map bare_alteration raws) (map Changes before), length-map raws bare_alteration, length-map before Changes)

-- ---- those planned for a call

module _ (call : ℕ) where
  altered-append : (front more : List PlannedAlteration) → altered_at call (front ++ more) ≡ altered_at call front ++ altered_at call more
  altered-append front more =
      ap (map (λ (a : PlannedAlteration). a.raw)) (filter-append (λ (a : PlannedAlteration). a.call == call) front more)
      ∙ map-append (λ (a : PlannedAlteration). a.raw) (filter (λ (a : PlannedAlteration). a.call == call) front) (filter (λ (a : PlannedAlteration). a.call == call) more)

  altered_one : (alter : PlannedAlteration) (b : Bool) → (alter.call == call) ≡ b → altered_at call (alter ∷ []) ≡ (if b then alter.raw ∷ [] else [])
  altered_one alter b is = ap (λ (t : Bool). map (λ (a : PlannedAlteration). a.raw) (cond t (alter ∷ []) [])) is ∙ by b
    where
      by : (t : Bool) → map (λ (a : PlannedAlteration). a.raw) (cond t (alter ∷ []) []) ≡ (if t then alter.raw ∷ [] else [])
      by true = refl
      by false = refl

  -- one of the list more, at an index
  module _ (alters : List PlannedAlteration) (i : ℕ) (alter : PlannedAlteration) (within : i < length alters) (here : alter ≡ get_or alters i alter) where
    altered_turn : altered_at call (take (i + 1) alters) ≡ altered_at call (take i alters) ++ altered_at call (alter ∷ [])
    altered_turn =
        ap (altered_at call) (take_more alters i alter within ∙ ap (λ (a : PlannedAlteration). take i alters ++ a ∷ []) (sym here))
        ∙ altered-append (take i alters) (alter ∷ [])

    -- it is of this call
    pub altered_here : alter.call ≡ call → map bare_alteration (altered_at call (take (i + 1) alters)) ≡ map bare_alteration (altered_at call (take i alters)) ++ bare_alteration alter.raw ∷ []
    altered_here is =
        ap (map bare_alteration) (altered_turn ∙ ap (λ (l : List RawTable). altered_at call (take i alters) ++ l) (altered_one alter true ((Decides-eqb alter.call call).1 is)))
        ∙ map-append bare_alteration (altered_at call (take i alters)) (alter.raw ∷ [])

    -- it isn't
    pub altered_else : (alter.call == call) ≡ false → altered_at call (take (i + 1) alters) ≡ altered_at call (take i alters)
    altered_else is =
        altered_turn ∙ ap (λ (l : List RawTable). altered_at call (take i alters) ++ l) (altered_one alter false is) ∙ append-nil (altered_at call (take i alters))

    -- how many there are then
    pub counted_here : alter.call ≡ call → length (altered_at call (take (i + 1) alters)) ≡ length (altered_at call (take i alters)) + 1
    counted_here is =
        ap length (altered_turn ∙ ap (λ (l : List RawTable). altered_at call (take i alters) ++ l) (altered_one alter true ((Decides-eqb alter.call call).1 is)))
        ∙ length-append (altered_at call (take i alters)) (alter.raw ∷ [])

  -- some first ones were appended
  pub altered_front : (alters : List PlannedAlteration) (i : ℕ) (log now : List Logged) → now ≡ log ++ map bare_alteration (altered_at call (take i alters)) → HasPlayed (map bare_alteration (altered_at call alters)) log now
  altered_front alters i log now is =
      let a : List RawTable = altered_at call (take i alters) in
      let b : List RawTable = altered_at call (drop i alters) in
      let whole : map bare_alteration (altered_at call alters) ≡ map bare_alteration a ++ map bare_alteration b =
      ap (λ (l : List PlannedAlteration). map bare_alteration (altered_at call l)) (sym (take-append-drop i alters)) ∙ ap (map bare_alteration) (altered-append (take i alters) (drop i alters)) ∙ map-append bare_alteration a b in
      let done : HasPlayed (map bare_alteration a) log now = record {
        count = length (map bare_alteration a);
        few = omega arith;
        is = is ∙ ap (λ (l : List Logged). log ++ l) (sym (take_all (length (map bare_alteration a)) (map bare_alteration a) (omega arith)));
      } in
      subst (λ (l : List Logged). HasPlayed l log now) (sym whole) (played_front (map bare_alteration a) (map bare_alteration b) log now done)

  -- where one is of the call there are some
  pub altered_some : (alters : List PlannedAlteration) (i : ℕ) (alter : PlannedAlteration) → i < length alters → alter ≡ get_or alters i alter → alter.call ≡ call → altered_at call alters ≡ [] → ⊥
  altered_some alters i alter within here is none =
      let front : altered_at call (take (i + 1) alters) ≡ altered_at call (take i alters) ++ alter.raw ∷ [] =
      altered_turn alters i alter within here ∙ ap (λ (l : List RawTable). altered_at call (take i alters) ++ l) (altered_one alter true ((Decides-eqb alter.call call).1 is)) in
      let whole : altered_at call alters ≡ altered_at call (take (i + 1) alters) ++ altered_at call (drop (i + 1) alters) =
      ap (altered_at call) (sym (take-append-drop (i + 1) alters)) ∙ altered-append (take (i + 1) alters) (drop (i + 1) alters) in
      omega (
        arith,
        ap length none,
        ap length whole,
        length-append (altered_at call (take (i + 1) alters)) (altered_at call (drop (i + 1) alters)),
        ap length front,
        length-append (altered_at call (take i alters)) (alter.raw ∷ []),
      )

-- ---- what holds of an answer, and after an error

pub ok_more : {T E P Q : Type 0} (r : Result T E) → (P → Q) → OnOk r P → OnOk r Q
ok_more (Ok x) gives holds = gives holds
ok_more (Err e) gives holds = tt

pub err_more : {T E P Q : Type 0} (r : Result T E) → (P → Q) → OnErr r P → OnErr r Q
err_more (Ok x) gives holds = tt
err_more (Err e) gives holds = gives holds

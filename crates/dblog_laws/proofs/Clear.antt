-- No commit that the messages of a log without a fault state has a value equal to the placeholder, for every list of tables captured later.
use Rattle.std.proofs.Common.{◌≡◌, ◌∙◌, ◌+◌, ℕ, zero, suc, Option, Some, None, IsSome, IsSomeAnd, List, [], ◌∷◌, ◌++◌, map, flat_map, slice_get, refl, sym, ap}
use Rattle.std.proofs.Common.{ap₂, subst}
use Rattle.std.specs.Prelude.{option_map, unwrap_or}
use Rattle.std.specs.Option.{option_and_then}
use Rattle.std.specs.List.{AllByRecursion}
use Rattle.std.proofs.lemmas.List.{append-nil}
use Rattle.dbl_pgmsg.specs.declared.messages.Message.{Message}
use Rattle.dbl_pgmsg.specs.Grammar.{FitsFields}
use Rattle.dbl_model_table.specs.declared.identity.Identity.{Identity}
use Rattle.dbl_model_table.specs.declared.table.RawTable.{RawTable}
use Rattle.dbl_model_table.specs.declared.table.TableInfo.{TableInfo}
use Rattle.dbl_model_table.specs.declared.change.Change.{Change}
use Rattle.dbl_model_table.specs.declared.change.Change.TheVariants.{Insert, Update, Delete, Clear}
use Rattle.dbl_model_table.specs.declared.change.Commit.{Commit}
use Rattle.dbl_model_table.specs.Infos.{catalogue_of}
use Rattle.dbl_model_table.specs.Rows.{table_of, changes_of}
use Rattle.dbl_model_history.specs.FitsInfos.{FitsInsert, FitsUpdate, FitsDelete, FitsInfos}
use Rattle.dbl_model_event.specs.Clashes.{Clash, notice_clash, first_found, clash_of}
use Rattle.dbl_model_event.specs.Events.{Notice, notices, change_notices}
use Rattle.dbl_model_commit.specs.StatedFits.{FitCommits}
use Rattle.dbl_model_commit.specs.Past.{HasNoRelation}
use Rattle.dbl_model_commit.specs.Stated.{list_of, ended_commit, commits_of}
use Rattle.dbl_model_commit.proofs.ChangeFits.{commits_fit}
use Rattle.dbl_model_commit.proofs.Learning.{commits_learnt}
use Rattle.dbl_consume_laws.proofs.Notices.{all_append}
use Rattle.dblog_run.specs.Replay.declared.options.LogOptions.{LogOptions}
use Rattle.dblog_run.specs.Replay.Captures.{altered_by, table_told, tables_in, AreCaptured}
use Rattle.dblog_run.specs.Replay.Log.{placeholder_fault, commit_fault}
use Rattle.dblog_run.specs.Replay.Replay.{HaveNoFault, KeepColumns}
use Rattle.dblog_run.proofs.ReplayCaptureLemmas.{infos_one, told_has_none}

abbrev pub IsClear : Identity → List TableInfo → Commit → Type 0
IsClear identity infos commit = clash_of identity infos commit ≡ None

-- ---- what a change tells stays the same where a table is captured later

get_front : (xs : List TableInfo) (y x : TableInfo) (t : ℕ) → slice_get xs t ≡ Some x → slice_get (xs ++ y ∷ []) t ≡ Some x
get_front [] y x t is = cc
get_front (a ∷ as') y x zero is = is
get_front (a ∷ as') y x (suc t) is = get_front as' y x t is

some_get : (o : Option TableInfo) (P : TableInfo → Type 0) → IsSomeAnd o P → (x : TableInfo) × (o ≡ Some x)
some_get None P is = absurd is
some_get (Some x) P is = (x, refl)

some_there : (o : Option TableInfo) → IsSome o → (x : TableInfo) × (o ≡ Some x)
some_there None is = absurd (cc)
some_there (Some x) is = (x, refl)

notices_at : (infos : List TableInfo) (info : TableInfo) (change : Change) → (x : TableInfo) × (slice_get infos (table_of change) ≡ Some x) → notices (infos ++ info ∷ []) change ≡ notices infos change
notices_at infos info change there =
    ap (λ (o : Option TableInfo). unwrap_or (option_map (λ i. change_notices (table_of change) i change) o) []) (get_front infos info there.0 (table_of change) there.1 ∙ sym there.1)

notices_same : (infos : List TableInfo) (info : TableInfo) (change : Change) → FitsInfos infos change → notices (infos ++ info ∷ []) change ≡ notices infos change
notices_same infos info (Insert table row) fits = notices_at infos info (Insert table row) (some_get (slice_get infos table) (λ i. FitsInsert i row) fits)
notices_same infos info (Update table key old cells) fits = notices_at infos info (Update table key old cells) (some_get (slice_get infos table) (λ i. FitsUpdate i key old cells) fits)
notices_same infos info (Delete table key old) fits = notices_at infos info (Delete table key old) (some_get (slice_get infos table) (λ i. FitsDelete i key old) fits)
notices_same infos info (Clear table) fits = notices_at infos info (Clear table) (some_there (slice_get infos table) fits)

all_notices : (infos : List TableInfo) (info : TableInfo) (changes : List Change) → AllByRecursion (FitsInfos infos) changes → flat_map (notices (infos ++ info ∷ [])) changes ≡ flat_map (notices infos) changes
all_notices infos info [] fit = refl
all_notices infos info (change ∷ changes) fit = ap₂ (λ (a b : List Notice). a ++ b) (notices_same infos info change fit.0) (all_notices infos info changes fit.1)

clear_more : (identity : Identity) (infos : List TableInfo) (info : TableInfo) (commits : List Commit) → FitCommits infos commits → AllByRecursion (IsClear identity infos) commits → AllByRecursion (IsClear identity (infos ++ info ∷ [])) commits
clear_more identity infos info [] fit clear = tt
clear_more identity infos info (commit ∷ commits) fit clear = (
  ap (λ (ns : List Notice). first_found (notice_clash identity.placeholder) ns) (all_notices infos info (changes_of commit) fit.0) ∙ clear.0,
  clear_more identity infos info commits fit.1 clear.1,
)

-- infos of tables and one more
record IsOneMore (xs all : List TableInfo) (raw : RawTable) : Type 0 where
  pub info : TableInfo
  pub all_is : all ≡ xs ++ info ∷ []
  pub is : catalogue_of info ≡ raw

head_is : (a b : RawTable) (as' bs : List RawTable) → a ∷ as' ≡ b ∷ bs → a ≡ b
head_is a b as' bs same = cc

tail_is : (a b : RawTable) (as' bs : List RawTable) → a ∷ as' ≡ b ∷ bs → as' ≡ bs
tail_is a b as' bs same = cc

one_more_is : (xs all : List TableInfo) (raw : RawTable) → map catalogue_of all ≡ map catalogue_of xs ++ raw ∷ [] → IsOneMore xs all raw
one_more_is [] [] raw is = cc
one_more_is [] (y ∷ []) raw is = record { info = y; all_is = refl; is = head_is _ _ _ _ is }
one_more_is [] (y ∷ z ∷ zs) raw is = let no = tail_is _ _ _ _ is in cc
one_more_is (x ∷ xs) [] raw is = cc
one_more_is (x ∷ xs) (y ∷ ys) raw is =
    let rest = one_more_is xs ys raw (tail_is _ _ _ _ is) in
    let first = infos_one (y ∷ []) (x ∷ []) (ap (λ (r : RawTable). r ∷ []) (head_is _ _ _ _ is)) in
    record { info = rest.info; all_is = ap₂ (λ (a b : List TableInfo). a ++ b) first rest.all_is; is = rest.is }

-- what is captured of some messages, and of them and one more that gives no table other columns
clear_then : (options : LogOptions) (ms : List Message) (m : Message) (xs infos : List TableInfo) (told : Option RawTable)
    → altered_by m (tables_in options.keys ms) ≡ tables_in options.keys ms → table_told options.keys (tables_in options.keys ms) m ≡ told → AreCaptured options.keys ms xs
    → AreCaptured options.keys (m ∷ ms) infos → AllByRecursion FitsFields ms → AllByRecursion (IsClear options.identity xs) (commits_of xs ms) → AllByRecursion (IsClear options.identity infos) (commits_of infos ms)
clear_then options ms m xs infos None kept is before captured fields clear =
    let told = captured ∙ ap₂ (λ (ts : List RawTable) (o : Option RawTable). ts ++ list_of o) kept is in
    let same = infos_one xs infos (before ∙ sym (told ∙ append-nil (tables_in options.keys ms))) in
    subst (λ (i : List TableInfo). AllByRecursion (IsClear options.identity i) (commits_of i ms)) same clear
clear_then options ms m xs infos (Some raw) kept is before captured fields clear =
    let told = captured ∙ ap₂ (λ (ts : List RawTable) (o : Option RawTable). ts ++ list_of o) kept is in
    let one = one_more_is xs infos raw (told ∙ ap (λ (t : List RawTable). t ++ raw ∷ []) (sym before)) in
    let none : HasNoRelation one.info.name ms = subst (λ (r : RawTable). HasNoRelation r.name ms) (sym one.is) (told_has_none options.keys ms m raw is) in
    let more = clear_more options.identity xs one.info (commits_of xs ms) (commits_fit xs ms fields) clear in
    subst (λ (i : List TableInfo). AllByRecursion (IsClear options.identity i) (commits_of i ms)) (sym one.all_is)
    (subst (λ (cs : List Commit). AllByRecursion (IsClear options.identity (xs ++ one.info ∷ [])) cs) (sym (commits_learnt xs one.info ms none)) more)

-- ---- the commit that a message ends

no_clash : (o : Option Clash) → option_map placeholder_fault o ≡ None → o ≡ None
no_clash None is = refl
no_clash (Some clash) is = cc

ended_clear : (identity : Identity) (infos : List TableInfo) (o : Option Commit) → option_and_then (commit_fault identity infos) o ≡ None → AllByRecursion (IsClear identity infos) (list_of o)
ended_clear identity infos None is = tt
ended_clear identity infos (Some commit) is = (no_clash (clash_of identity infos commit) is, tt)

-- ---- all messages

captured_before : (options : LogOptions) (ms : List Message) → HaveNoFault options ms → (infos : List TableInfo) × AreCaptured options.keys ms infos
captured_before options [] clean = ([], refl)
captured_before options (m ∷ ms) clean = (clean.0.0, clean.0.1.tables.captured)

pub clear : (options : LogOptions) (ms : List Message) (infos : List TableInfo) → KeepColumns options ms → HaveNoFault options ms
    → AreCaptured options.keys ms infos → AllByRecursion FitsFields ms → AllByRecursion (IsClear options.identity infos) (commits_of infos ms)
clear options [] infos kept clean captured fields = tt
clear options (m ∷ ms) infos kept clean captured fields =
    let here = clean.0 in
    let before = captured_before options ms clean.1 in
    let earlier = clear options ms before.0 kept.1 clean.1 before.1 fields.1 in
    let same = infos_one here.0 infos (here.1.tables.captured ∙ sym captured) in
    let last = subst (λ (i : List TableInfo). AllByRecursion (IsClear options.identity i) (list_of (ended_commit i m ms))) same
    (ended_clear options.identity here.0 (ended_commit here.0 m ms) here.1.made) in
    all_append (IsClear options.identity infos) (commits_of infos ms) (list_of (ended_commit infos m ms))
    (clear_then options ms m before.0 infos (table_told options.keys (tables_in options.keys ms) m) kept.0 refl before.1 captured fields.1 earlier) last

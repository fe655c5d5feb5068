-- What one more session, or others' commits, add to what any number of sessions came to.
use Rattle.std.proofs.Common.{◌≡◌, ◌∙◌, ◌⊎◌, inl, inr, ◌+◌, ◌<◌, ◌≤◌, ℕ, suc, max, Option, Some, None, List, [], ◌∷◌, ◌++◌, length, map, refl, sym, ap, ap₂, subst, arith, append_assoc, le_refl}
use Rattle.std.specs.Prelude.{zip}
use Rattle.std.specs.List.{AllByRecursion, AllZip}
use Rattle.dbl_base.specs.declared.lsn.Lsn.{Lsn}
use Rattle.dbl_record.specs.declared.record.Record.{Record}
use Rattle.dbl_model_table.specs.declared.config.Config.{Config}
use Rattle.dbl_model_table.specs.declared.table.TableInfo.{TableInfo}
use Rattle.dbl_model_table.specs.declared.table.TableName.{TableName}
use Rattle.dbl_model_history.specs.History.{RawBody, RawCommit, History, IsRising}
use Rattle.dbl_model_history.specs.History.RawBody.{Changes, Mark, Alter}
use Rattle.dbl_model_history.specs.declared.cursor.Cursor.{Cursor}
use Rattle.dbl_model_history.specs.Fit.{IsFitHistory}
use Rattle.dbl_model_history.specs.InForce.{IsAlike}
use Rattle.dbl_capture_laws.proofs.ConsumeLawsConsumers.{all_left}
use Rattle.dbl_capture_laws.proofs.ConsumeLawsNotices.{all_append}
use Rattle.dbl_source.specs.SourceModel.Growth.{HasChanges, AreOthers, Grows}
use Rattle.dbl_capture_laws.specs.Offset.declared.offset.Offset.{Offset}
use Rattle.dbl_capture_laws.proofs.FaithfulItems.{all_weaker}
use Rattle.dbl_capture_laws.specs.Faithful.Stores.{IsPositionOf, lag}
use Rattle.dbl_capture_laws.specs.Faithful.Faithful.{IsFaithful}
use Rattle.dbl_capture_laws.specs.Faithful.Kept.{HasGrown, IsNewBody}
use Rattle.dbl_capture_laws.specs.Faithful.Onward.{ExtendsList, IsLaterCursor, IsLaterProgress, OffsetGoesOn, Adds}
use Rattle.dbl_capture_laws.proofs.FaithfulFaithful.{faithful_records_stand}
use Rattle.dbl_capture_laws.proofs.FaithfulLists.{is_longer, after_top, still_position}
use Rattle.dbl_capture_laws.proofs.FaithfulOnward.{cursors_stay, infos_stay, versions_stay}
use Rattle.dbl_capture_laws.specs.CaptureModel.Entries.{appends_after}
use Rattle.dbl_capture_laws.proofs.CaptureModelEnding.{lag_far}
use Rattle.dblog_promise.specs.Outcomes.{OffsetWentOn, AppendsAfter}

-- ---- numbers

pub le_on : (a b c : ℕ) → a ≤ b → b ≤ c → a ≤ c
le_on a b c one two = omega (arith, one, two)

le_lt : (a b c : ℕ) → a ≤ b → b < c → a < c
le_lt a b c one two = omega (arith, one, two)

same_le : (a b : ℕ) → a ≡ b → a ≤ b
same_le a b is = omega (arith, is)

plus_none : (n : ℕ) → n ≤ n + 0
plus_none n = omega arith

first_of_some : (n m : ℕ) → n ≡ 1 → n ≤ suc m
first_of_some n m is = omega (arith, is)

from_one : (n : ℕ) → n ≡ 1 → 1 ≤ n
from_one n is = omega (arith, is)

one_more : (a b n : ℕ) → a ≤ n → (b ≡ a) ⊎ (b ≡ a + 1) → b ≤ suc n
one_more a b n le (inl same) = omega (arith, le, same)
one_more a b n le (inr next) = omega (arith, le, next)

not_fewer : (a b n : ℕ) → n ≤ a → (b ≡ a) ⊎ (b ≡ a + 1) → n ≤ b
not_fewer a b n le (inl same) = omega (arith, le, same)
not_fewer a b n le (inr next) = omega (arith, le, next)

one_farther : (a b c n : ℕ) → b ≤ a + n → (c ≡ b) ⊎ (c ≡ b + 1) → c ≤ a + suc n
one_farther a b c n le (inl same) = omega (arith, le, same)
one_farther a b c n le (inr next) = omega (arith, le, next)

pub under_none : (a b : ℕ) → a ≤ max 0 b → a ≤ b
under_none a b le = omega (arith, le)

pub over_none : (a : ℕ) → a ≤ max 0 a
over_none a = omega arith

pub under_both : (a b c every most : ℕ) → a ≤ max every b → b ≤ max most c → a ≤ max (max every most) c
under_both a b c every most one two = omega (arith, one, two)

-- ---- lists

pub extends_on : {A : Type 0} (a b c : List A) → ExtendsList a b → ExtendsList b c → ExtendsList a c
extends_on a b c one two = record { more = one.more ++ two.more; is = two.is ∙ (ap (λ (l : List _). l ++ two.more) one.is ∙ append_assoc a one.more two.more) }

none_since : {A : Type 0} (xs ys : List A) → xs ++ ys ≡ [] → ys ≡ []
none_since [] ys is = is
none_since (x ∷ xs) ys is = cc

-- ---- the captured tables

infos_go_on : (a b c : List TableInfo) → AllZip IsAlike a b → AllZip IsAlike b c → AllZip IsAlike a c
infos_go_on [] [] c one two = two
infos_go_on [] (y ∷ b) c one two = absurd one
infos_go_on (x ∷ a) [] c one two = absurd one
infos_go_on (x ∷ a) (y ∷ b) [] one two = absurd two
infos_go_on (x ∷ a) (y ∷ b) (z ∷ c) one two =
    (record { name = one.0.name ∙ two.0.name; keys = one.0.keys ∙ two.0.keys; types = one.0.types ∙ two.0.types }, infos_go_on a b c one.1 two.1)

-- their names
names_alike : (a b : List TableInfo) → AllZip IsAlike a b → map (λ (info : TableInfo). info.name) a ≡ map (λ (info : TableInfo). info.name) b
names_alike [] [] alike = refl
names_alike [] (y ∷ b) alike = absurd alike
names_alike (x ∷ a) [] alike = absurd alike
names_alike (x ∷ a) (y ∷ b) alike = ap₂ (λ (n : TableName) (l : List TableName). n ∷ l) alike.0.name (names_alike a b alike.1)

-- ---- versions and progress

versions_go_on : (a b c : List ℕ) → AllZip (λ before after. before ≤ after) a b → AllZip (λ before after. before ≤ after) b c → AllZip (λ before after. before ≤ after) a c
versions_go_on [] [] c one two = two
versions_go_on [] (y ∷ b) c one two = absurd one
versions_go_on (x ∷ a) [] c one two = absurd one
versions_go_on (x ∷ a) (y ∷ b) [] one two = absurd two
versions_go_on (x ∷ a) (y ∷ b) (z ∷ c) one two = (le_on x y z one.0 two.0, versions_go_on a b c one.1 two.1)

-- a version that is the same in the end was the same all along
first_same : (a b c : ℕ) → a ≤ b → b ≤ c → a ≡ c → a ≡ b
first_same a b c one two same = omega (arith, one, two, same)

last_same : (a b c : ℕ) → a ≤ b → b ≤ c → a ≡ c → b ≡ c
last_same a b c one two same = omega (arith, one, two, same)

cursor_goes_on : (a b c : Cursor) → IsLaterCursor a b → IsLaterCursor b c → IsLaterCursor a c
cursor_goes_on a b c one two = record { last = λ key up. two.last key (one.last key up); done = λ is. two.done (one.done is) }

progress_goes_on : (u v w : List ℕ) (a b c : List Cursor) → AllZip (λ before after. before ≤ after) u v → AllZip (λ before after. before ≤ after) v w
    → AllZip IsLaterProgress (zip u a) (zip v b) → AllZip IsLaterProgress (zip v b) (zip w c) → AllZip IsLaterProgress (zip u a) (zip w c)
progress_goes_on [] [] w a b c under over one two = two
progress_goes_on [] (y ∷ v) w a b c under over one two = absurd under
progress_goes_on (x ∷ u) [] w a b c under over one two = absurd under
progress_goes_on (x ∷ u) (y ∷ v) [] a b c under over one two = absurd over
progress_goes_on (x ∷ u) (y ∷ v) (z ∷ w) [] [] c under over one two = two
progress_goes_on (x ∷ u) (y ∷ v) (z ∷ w) [] (e ∷ b) c under over one two = absurd one
progress_goes_on (x ∷ u) (y ∷ v) (z ∷ w) (d ∷ a) [] c under over one two = absurd one
progress_goes_on (x ∷ u) (y ∷ v) (z ∷ w) (d ∷ a) (e ∷ b) [] under over one two = absurd two
progress_goes_on (x ∷ u) (y ∷ v) (z ∷ w) (d ∷ a) (e ∷ b) (f ∷ c) under over one two = (
  λ same. cursor_goes_on d e f (one.0 (first_same x y z under.0 over.0 same)) (two.0 (last_same x y z under.0 over.0 same)),
  progress_goes_on u v w a b c under.1 over.1 one.1 two.1,
)

-- ---- the offset

pub stays_put : (history : History) (offset : Option Offset) → OffsetWentOn [] history history offset offset
stays_put history None = tt
stays_put history (Some offset) = record {
  identity = refl;
  infos = infos_stay offset.infos;
  versions = versions_stay offset.versions;
  start = refl;
  lsn = le_refl offset.lsn.0;
  cursors = cursors_stay (zip offset.versions offset.cursors);
  not_less = le_refl offset.incarnation;
  not_more = plus_none offset.incarnation;
}

still_there : (old new : History) (more : List RawCommit) (position : ℕ) → HasGrown old new more → IsPositionOf old position → IsPositionOf new position
still_there old new more position grown is = subst (λ (h : History). IsPositionOf h position) (sym (is_longer old new more grown)) (still_position old more position is)

pub offset_grown : (sessions : List Config) (first last history : History) (more : List RawCommit) (a b : Option Offset) → HasGrown last history more → OffsetWentOn sessions first last a b → OffsetWentOn sessions first history a b
offset_grown sessions first last history more None None grown went = tt
offset_grown sessions first last history more None (Some b) grown went = record {
  place = went.place;
  config = went.config;
  asked = went.asked;
  identity = went.identity;
  tables = went.tables;
  start = still_there last history more b.start.0 grown went.start;
  not_before = went.not_before;
  counted = went.counted;
  not_more = went.not_more;
}
offset_grown sessions first last history more (Some a) None grown went = went
offset_grown sessions first last history more (Some a) (Some b) grown went = went

pub offset_next : (sessions : List Config) (config : Config) (first last history : History) (more : List RawCommit) (a b c : Option Offset) → ExtendsList first.commits last.commits → HasGrown last history more
    → OffsetWentOn sessions first last a b → OffsetGoesOn config last history b c → OffsetWentOn (config ∷ sessions) first history a c
offset_next sessions config first last history more None None None front grown went goes = tt
offset_next sessions config first last history more None None (Some c) front grown went goes = record {
  place = 0;
  config = config;
  asked = refl;
  identity = goes.identity;
  tables = goes.tables;
  start = goes.start;
  not_before = all_left (λ (x : RawCommit). x.lsn.0 ≤ c.start.0) first.commits front.more (subst (AllByRecursion (λ (x : RawCommit). x.lsn.0 ≤ c.start.0)) front.is goes.not_before);
  counted = from_one c.incarnation goes.incarnation;
  not_more = first_of_some c.incarnation (length sessions) goes.incarnation;
}
offset_next sessions config first last history more None (Some b) None front grown went goes = absurd goes
offset_next sessions config first last history more None (Some b) (Some c) front grown went goes = record {
  place = suc went.place;
  config = went.config;
  asked = went.asked;
  identity = goes.identity ∙ went.identity;
  tables = sym (names_alike b.infos c.infos goes.infos) ∙ went.tables;
  start = subst (λ (s : Lsn). IsPositionOf history s.0) (sym goes.start) (still_there last history more b.start.0 grown went.start);
  not_before = subst (λ (s : Lsn). AllByRecursion (λ (x : RawCommit). x.lsn.0 ≤ s.0) first.commits) (sym goes.start) went.not_before;
  counted = not_fewer b.incarnation c.incarnation 1 went.counted goes.incarnation;
  not_more = one_more b.incarnation c.incarnation (length sessions) went.not_more goes.incarnation;
}
offset_next sessions config first last history more (Some a) None c front grown went goes = absurd went
offset_next sessions config first last history more (Some a) (Some b) None front grown went goes = absurd goes
offset_next sessions config first last history more (Some a) (Some b) (Some c) front grown went goes = record {
  identity = goes.identity ∙ went.identity;
  infos = infos_go_on a.infos b.infos c.infos went.infos goes.infos;
  versions = versions_go_on a.versions b.versions c.versions went.versions goes.versions;
  start = goes.start ∙ went.start;
  lsn = le_on a.lsn.0 b.lsn.0 c.lsn.0 went.lsn goes.lsn;
  cursors = progress_goes_on a.versions b.versions c.versions a.cursors b.cursors c.cursors went.versions goes.versions went.cursors goes.cursors;
  not_less = not_fewer b.incarnation c.incarnation a.incarnation went.not_less goes.incarnation;
  not_more = one_farther a.incarnation b.incarnation c.incarnation (length sessions) went.not_more goes.incarnation;
}

-- ---- what was appended

both_append : (from : ℕ) (old middle new more last : List Record) → middle ≡ old ++ more → new ≡ middle ++ last → AllByRecursion (λ item. from < item.position) more → AllByRecursion (λ item. from < item.position) last → AppendsAfter from old new
both_append from old middle new more last one two a b = record {
  more = more ++ last;
  is = two ∙ (ap (λ (l : List Record). l ++ last) one ∙ append_assoc old more last);
  above = all_append (λ (item : Record). from < item.position) more last a b;
}

above_less : (low most : ℕ) (records : List Record) → low ≤ most → AllByRecursion (λ item. most < item.position) records → AllByRecursion (λ item. low < item.position) records
above_less low most records le all = all_weaker (λ (r : Record). most < r.position) (λ (r : Record). low < r.position) records (λ r lt. le_lt low most r.position le lt) all

pub appends_next : (sessions : List Config) (config : Config) (first last history : History) (confirmed : Lsn) (a b c : Option Offset) (old middle new : List Record)
    → IsFaithful last confirmed middle b → OffsetWentOn sessions first last a b → OffsetGoesOn config last history b c
    → AppendsAfter (appends_after a b) old middle → Adds (appends_after b c) middle new → AppendsAfter (appends_after a c) old new
appends_next sessions config first last history confirmed None None c old middle new faithful went goes one two =
    let none : one.more ≡ [] = none_since old one.more (sym one.is ∙ faithful.empty) in
    both_append (appends_after None c) old middle new one.more two.more one.is two.is
    (subst (AllByRecursion (λ (r : Record). appends_after None c < r.position)) (sym none) tt) two.above
appends_next sessions config first last history confirmed None (Some b) None old middle new faithful went goes one two = absurd goes
appends_next sessions config first last history confirmed None (Some b) (Some c) old middle new faithful went goes one two =
    let start : c.start.0 ≤ b.start.0 = same_le c.start.0 b.start.0 (ap (λ (l : Lsn). l.0) goes.start) in
    both_append c.start.0 old middle new one.more two.more one.is two.is (above_less c.start.0 b.start.0 one.more start one.above)
    (above_less c.start.0 b.lsn.0 two.more (le_on c.start.0 b.start.0 b.lsn.0 start faithful.lags.offset_is.order) two.above)
appends_next sessions config first last history confirmed (Some a) None c old middle new faithful went goes one two = absurd went
appends_next sessions config first last history confirmed (Some a) (Some b) c old middle new faithful went goes one two =
    both_append a.lsn.0 old middle new one.more two.more one.is two.is one.above (above_less a.lsn.0 b.lsn.0 two.more went.lsn two.above)

-- ---- others' commits

-- they are new to each offset
pub others_new : (offset : Option Offset) (commits : List RawCommit) → AreOthers commits → AllByRecursion (λ commit. IsNewBody offset commit.body) commits
others_new offset commits others = all_weaker (λ (c : RawCommit). HasChanges c.body) (λ (c : RawCommit). IsNewBody offset c.body) commits (λ c has. by offset c.body has) others
  where
    by : (offset : Option Offset) (body : RawBody) → HasChanges body → IsNewBody offset body
    by None (Changes changes) has = tt
    by (Some o) (Changes changes) has = tt
    by None (Mark value) has = absurd has
    by (Some o) (Mark value) has = absurd has
    by None (Alter name columns rows) has = tt
    by (Some o) (Alter name columns rows) has = tt

pub lag_grown : (last history : History) (confirmed : Lsn) (records : List Record) (offset : Option Offset) → IsFitHistory last → IsFitHistory history → (grows : Grows last history) → IsFaithful last confirmed records offset
    → lag history records offset ≤ lag last records offset
lag_grown last history confirmed records None fit fits grows is = le_refl 0
lag_grown last history confirmed records (Some offset) fit fits grows is =
    under_none (lag history records (Some offset)) (lag last records (Some offset))
    (lag_far last history grows.others records records offset offset 0 fit.rising grows.commits
    (after_top last grows.others (subst IsRising (is_longer last history grows.others (record { tables = grows.tables; commits = grows.commits })) fits.rising) records
    (λ place item at. faithful_records_stand last confirmed records offset place item is at)) refl (le_refl offset.lsn.0))

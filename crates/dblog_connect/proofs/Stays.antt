-- What a command amounts to that began no session: each disk tells what it told, and a crash leaves nothing of it that it couldn't leave before.
use Rattle.std.proofs.Common.{◌≡◌, ◌∙◌, ◌⊎◌, inl, inr, ℕ, ℤ, Option, Some, None, List, [], Err, refl, sym, subst}
use Rattle.std.specs.Prelude.{IsSome}
use Rattle.dbl_disk.specs.Model.{DiskModel}
use Rattle.dbl_model_table.specs.declared.config.Config.{Config}
use Rattle.dbl_offset_content.specs.declared.offset.Offset.{Offset}
use Rattle.dbl_offset.proofs.StoreLaws as store_laws
use Rattle.dbl_demo.proofs.DemoWalWalLaws as wal_laws
use Rattle.dbl_topic.proofs.LogLaws as log_laws
use Rattle.dblog_promise.specs.Contents.{Contents, ReadAs}
use Rattle.dblog_promise.specs.Goes.{Advances}
use Rattle.dblog_promise.specs.Headline.{Guarantees}
use Rattle.dblog_promise.specs.Kept.{IsKept}
use Rattle.dblog_promise.proofs.KeptLaws.{kept_runs_are_promised, what_stays_goes_on}
use Rattle.dblog_init.specs.declared.disks.Disks.{Disks}
use Rattle.dblog_init.specs.declared.error.Store.{Store}
use Rattle.dblog_connect.specs.declared.asked.Asked.{Asked}
use Rattle.dblog_connect.specs.declared.asked.Asked.TheVariants.{First, Again}
use Rattle.dblog_connect_ends.specs.declared.error.ConnectError.{ConnectError}
use Rattle.dblog_connect_ends.specs.declared.error.ConnectError.TheVariants.{AlreadyStarted, BadEntry, Failed, Halted, Memory, NotAStore, NotStarted, Refused}
use Rattle.dblog_connect.specs.Asked.{Refuses, asks_in}
use Rattle.dblog_connect.specs.Disks.{AreKeptDisks}
use Rattle.dblog_connect.specs.Ends.{ConnectEnd, EndsBefore, IsKeptError, IsRefused}
use Rattle.dblog_connect.specs.Ends.IsRefused.{no_source, no_log, no_offset, not_asked}
use Rattle.dblog_connect_ends.specs.Errors.{IsExternalConnectError}
use Rattle.dblog_connect.specs.Refusals.{IsRefusedNext}
use Rattle.dblog_connect.specs.Steps.{AnswersConnect, disks_of}

-- it isn't a session's halt, and no record was refused
abbrev pub IsUnhalted : ConnectError → Type 0
IsUnhalted (Halted h) = ⊥
IsUnhalted (Refused position ordinal) = ⊥
IsUnhalted e = Unit {0}

-- some words, of which what stays has gone on
some_config : Config
some_config = record { identity = record { prefix = []; db = []; placeholder = [] }; tables = []; chunk = 1; every = 1; messages = 1 }

stays_so : (asks : Option Config) (held : Contents) → Advances asks held held
stays_so None held = refl
stays_so (Some config) held = what_stays_goes_on config held

same_promised : (held : Contents) → IsKept held → Guarantees ⊥ held held
same_promised held kept = kept_runs_are_promised some_config held held kept (what_stays_goes_on some_config held)

-- where the disks are read, none of them holds a wrong store
unrefused : (asked : Asked) (w t f : List ℕ) (held : Contents) → ReadAs w t f held → (e : ConnectError)
    → IsExternalConnectError e ⊎ IsRefused asked w t f e → ((store : Store) (at : ℕ) → e ≡ NotAStore store at → ⊥) × ((store : Store) (index : ℕ) → e ≡ BadEntry store index → ⊥)
unrefused asked w t f held read e (inl outside) =
    (λ store at is. absurd (subst IsExternalConnectError is outside), λ store index is. absurd (subst IsExternalConnectError is outside))
unrefused asked w t f held read e (inr (no_source (inl fault))) = absurd (wal_laws.no_fault w held.wal fault.0 read.source fault.2)
unrefused asked w t f held read e (inr (no_source (inr bad))) = absurd (wal_laws.not_bad w held.wal bad.0 read.source bad.2)
unrefused asked w t f held read e (inr (no_log wal is (inl fault))) = absurd (log_laws.not_faulty t held.groups fault.0 read.log fault.2)
unrefused asked w t f held read e (inr (no_log wal is (inr bad))) = absurd (log_laws.not_bad t held.groups bad.0 read.log bad.2)
unrefused asked w t f held read e (inr (no_offset wal groups is log (inl fault))) = absurd (store_laws.no_fault f held.offset fault.0 read.store fault.2)
unrefused asked w t f held read e (inr (no_offset wal groups is log (inr bad))) = absurd (store_laws.no_bad_offset f held.offset bad.0 read.store bad.2)
unrefused asked w t f held read e (inr (not_asked other found refuses)) = unasked asked other.offset e refuses
  where
    unasked : (words : Asked) (stored : Option Offset) (error : ConnectError) → Refuses words stored error
        → ((store : Store) (at : ℕ) → error ≡ NotAStore store at → ⊥) × ((store : Store) (index : ℕ) → error ≡ BadEntry store index → ⊥)
    unasked (First options) None error refuses = absurd refuses
    unasked (First options) (Some offset) error refuses =
        (λ store at is. (let wrong : AlreadyStarted ≡ NotAStore store at = sym refuses ∙ is in cc), λ store index is. (let wrong : AlreadyStarted ≡ BadEntry store index = sym refuses ∙ is in cc))
    unasked (Again options) None error refuses =
        (λ store at is. (let wrong : NotStarted ≡ NotAStore store at = sym refuses ∙ is in cc), λ store index is. (let wrong : NotStarted ≡ BadEntry store index = sym refuses ∙ is in cc))
    unasked (Again options) (Some offset) error refuses = absurd refuses

never_so : (asked : Asked) (now : ℤ) (wals logs stores : List ℕ → Type 0) (w t f : List ℕ) (held : Contents) → ReadAs w t f held → (e : ConnectError)
    → IsUnhalted e → IsExternalConnectError e ⊎ IsRefused asked w t f e → IsKeptError asked now wals logs stores w t f e
never_so asked now wals logs stores w t f held read (Failed store) own ends = tt
never_so asked now wals logs stores w t f held read (NotAStore store at) own ends = (unrefused asked w t f held read (NotAStore store at) ends).0 store at refl
never_so asked now wals logs stores w t f held read (BadEntry store index) own ends = (unrefused asked w t f held read (BadEntry store index) ends).1 store index refl
never_so asked now wals logs stores w t f held read AlreadyStarted own ends = tt
never_so asked now wals logs stores w t f held read NotStarted own ends = tt
never_so asked now wals logs stores w t f held read (Halted h) own ends = absurd own
never_so asked now wals logs stores w t f held read (Refused position ordinal) own ends = absurd own
never_so asked now wals logs stores w t f held read Memory own ends = tt

no_next : (asked : Asked) (now : ℤ) (wals : List ℕ → Type 0) (w t f : List ℕ) (e : ConnectError) → IsUnhalted e → IsRefusedNext asked now wals w t f e
no_next asked now wals w t f (Failed store) own = tt
no_next asked now wals w t f (NotAStore store at) own = tt
no_next asked now wals w t f (BadEntry store index) own = tt
no_next asked now wals w t f AlreadyStarted own = tt
no_next asked now wals w t f NotStarted own = tt
no_next asked now wals w t f (Halted h) own = tt
no_next asked now wals w t f (Refused position ordinal) own = absurd own
no_next asked now wals w t f Memory own = tt

told_so : (asked : Asked) (now : ℤ) (wals logs stores : List ℕ → Type 0) (w t f : List ℕ) (e : ConnectError) → IsExternalConnectError e ⊎ IsRefused asked w t f e → EndsBefore asked now wals logs stores w t f e
told_so asked now wals logs stores w t f e (inl outside) = inl outside
told_so asked now wals logs stores w t f e (inr refused) = inr (inl refused)

module _ {W T F : Type 0} (wal_model : DiskModel W) (topics_model : DiskModel T) (offsets_model : DiskModel F)
    (is_w : (disk : W) (bytes : List ℕ) → wal_model.seen disk ≡ Some bytes → wal_model.may_leave disk bytes)
    (is_t : (disk : T) (bytes : List ℕ) → topics_model.seen disk ≡ Some bytes → topics_model.may_leave disk bytes)
    (is_f : (disk : F) (bytes : List ℕ) → offsets_model.seen disk ≡ Some bytes → offsets_model.may_leave disk bytes)
    (disks0 disks1 : Disks W T F)
    (same_w : wal_model.seen disks1.wal ≡ wal_model.seen disks0.wal) (same_t : topics_model.seen disks1.topics ≡ topics_model.seen disks0.topics) (same_f : offsets_model.seen disks1.offsets ≡ offsets_model.seen disks0.offsets)
    (crash_w : (crashed : List ℕ) → wal_model.may_leave disks1.wal crashed → wal_model.may_leave disks0.wal crashed)
    (crash_t : (crashed : List ℕ) → topics_model.may_leave disks1.topics crashed → topics_model.may_leave disks0.topics crashed)
    (crash_f : (crashed : List ℕ) → offsets_model.may_leave disks1.offsets crashed → offsets_model.may_leave disks0.offsets crashed) where
  pub answers_stay : (asked : Asked) (now : ℤ) (e : ConnectError) → IsUnhalted e
      → ((w t f : List ℕ) → wal_model.seen disks0.wal ≡ Some w → topics_model.seen disks0.topics ≡ Some t → offsets_model.seen disks0.offsets ≡ Some f → IsExternalConnectError e ⊎ IsRefused asked w t f e)
      → AnswersConnect wal_model topics_model offsets_model asked now disks0 disks1 (Err e)
  answers_stay asked now e own ends = record {
    headline = λ kept w t f mw mt mf. (
        let here = kept.each w t f (crash_w w mw) (crash_t t mt) (crash_f f mf) in
        let all = same_promised here.0 here.2 in
        record {
          left = record {
            held = here.0;
            read = here.1;
            kept = here.2;
            predecessor = record {
              wal = w;
              topics = t;
              offsets = f;
              may_wal = crash_w w mw;
              may_topics = crash_t t mt;
              may_offsets = crash_f f mf;
              old = here.0;
              read = here.1;
              advances = stays_so (asks_in asked here.0) here.0;
            };
          };
          guarantees = all;
        });
    kept = λ kept. record {
      wal = subst IsSome (sym same_w) kept.wal;
      topics = subst IsSome (sym same_t) kept.topics;
      offsets = subst IsSome (sym same_f) kept.offsets;
      each = λ w t f mw mt mf. kept.each w t f (crash_w w mw) (crash_t t mt) (crash_f f mf);
    };
    report = λ kept w t f told_w told_t told_f. tt;
    never = λ kept w t f told_w told_t told_f. (
        let here = kept.each w t f (is_w disks0.wal w told_w) (is_t disks0.topics t told_t) (is_f disks0.offsets f told_f) in
        never_so asked now (wal_model.may_leave disks1.wal) (topics_model.may_leave disks1.topics) (offsets_model.may_leave disks1.offsets) w t f here.0 here.1 e own (ends w t f told_w told_t told_f));
    told = λ w t f told_w told_t told_f. told_so asked now (wal_model.may_leave disks1.wal) (topics_model.may_leave disks1.topics) (offsets_model.may_leave disks1.offsets) w t f e (ends w t f told_w told_t told_f);
    refuses = λ w t f told_w told_t told_f. no_next asked now (wal_model.may_leave disks1.wal) w t f e own;
    gains = λ w t f told_w told_t told_f begun. record {
      stored = begun.held.offset;
      last = inl refl;
      gains = λ bytes groups leaves is. inl (crash_t bytes leaves);
      allowed = λ bytes groups leaves is. inl (crash_t bytes leaves);
    };
    marks = λ w t f told_w told_t told_f begun tables bytes left leaves is. inl (crash_w bytes leaves);
  }

  -- so it is after an opening: what is said of what it left is said of what was there before
  before_kept : AreKeptDisks wal_model topics_model offsets_model disks0
      → AreKeptDisks wal_model topics_model offsets_model disks1
  before_kept kept = record {
    wal = subst IsSome (sym same_w) kept.wal;
    topics = subst IsSome (sym same_t) kept.topics;
    offsets = subst IsSome (sym same_f) kept.offsets;
    each = λ w t f mw mt mf. kept.each w t f (crash_w w mw) (crash_t t mt) (crash_f f mf);
  }

  pub answers_before : (asked : Asked) (now : ℤ) (disks2 : Disks W T F) (end : ConnectEnd)
      → AnswersConnect wal_model topics_model offsets_model asked now disks1 disks2 end
      → AnswersConnect wal_model topics_model offsets_model asked now disks0 disks2 end
  answers_before asked now disks2 end by = record {
    headline = λ kept w t f mw mt mf. (
        let here = by.headline (before_kept kept) w t f mw mt mf in
        record {
          left = record {
            held = here.left.held;
            read = here.left.read;
            kept = here.left.kept;
            predecessor = record {
              wal = here.left.predecessor.wal;
              topics = here.left.predecessor.topics;
              offsets = here.left.predecessor.offsets;
              may_wal = crash_w here.left.predecessor.wal here.left.predecessor.may_wal;
              may_topics = crash_t here.left.predecessor.topics here.left.predecessor.may_topics;
              may_offsets = crash_f here.left.predecessor.offsets here.left.predecessor.may_offsets;
              old = here.left.predecessor.old;
              read = here.left.predecessor.read;
              advances = here.left.predecessor.advances;
            };
          };
          guarantees = here.guarantees;
        });
    kept = λ kept. by.kept (before_kept kept);
    report = λ kept w t f told_w told_t told_f. by.report (before_kept kept) w t f (same_w ∙ told_w) (same_t ∙ told_t) (same_f ∙ told_f);
    never = λ kept w t f told_w told_t told_f. by.never (before_kept kept) w t f (same_w ∙ told_w) (same_t ∙ told_t) (same_f ∙ told_f);
    told = λ w t f told_w told_t told_f. by.told w t f (same_w ∙ told_w) (same_t ∙ told_t) (same_f ∙ told_f);
    refuses = λ w t f told_w told_t told_f. by.refuses w t f (same_w ∙ told_w) (same_t ∙ told_t) (same_f ∙ told_f);
    gains = λ w t f told_w told_t told_f begun. (
        let here = by.gains w t f (same_w ∙ told_w) (same_t ∙ told_t) (same_f ∙ told_f) begun in
        record {
          stored = here.stored;
          last = here.last;
          gains = λ bytes groups leaves is. either (crash_t bytes) (here.gains bytes groups leaves is);
          allowed = λ bytes groups leaves is. either (crash_t bytes) (here.allowed bytes groups leaves is);
        });
    marks = λ w t f told_w told_t told_f begun tables bytes left leaves is.
        either (crash_w bytes) (by.marks w t f (same_w ∙ told_w) (same_t ∙ told_t) (same_f ∙ told_f) begun tables bytes left leaves is);
  }
    where
      either : {A B C : Type 0} → (A → B) → A ⊎ C → B ⊎ C
      either f (inl a) = inl (f a)
      either f (inr c) = inr c

-- of the disks as they are taken out of their stores
pub answers_moved : {W T F : Type 0} (wal_model : DiskModel W) (topics_model : DiskModel T) (offsets_model : DiskModel F) (asked : Asked) (now : ℤ) (old : Disks W T F)
    (wal1 wal2 : W) (topics1 topics2 : T) (offsets1 offsets2 : F) (end : ConnectEnd) → wal2 ≡ wal1 → topics2 ≡ topics1 → offsets2 ≡ offsets1
    → AnswersConnect wal_model topics_model offsets_model asked now old (disks_of wal1 topics1 offsets1) end
    → AnswersConnect wal_model topics_model offsets_model asked now old (disks_of wal2 topics2 offsets2) end
answers_moved {W} {T} {F} wal_model topics_model offsets_model asked now old wal1 wal2 topics1 topics2 offsets1 offsets2 end w t f by =
    subst (λ (x : W). AnswersConnect wal_model topics_model offsets_model asked now old (disks_of x topics2 offsets2) end) (sym w)
    (subst (λ (x : T). AnswersConnect wal_model topics_model offsets_model asked now old (disks_of wal1 x offsets2) end) (sym t)
    (subst (λ (x : F). AnswersConnect wal_model topics_model offsets_model asked now old (disks_of wal1 topics1 x) end) (sym f) by))

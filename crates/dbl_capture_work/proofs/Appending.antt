-- Where gathering and appending records ends: what the sink and the report have then.
use Rattle.std.proofs.Common.{◌≡◌, ◌∙◌, ◌⊎◌, inl, inr, ◌+◌, ◌-◌, ◌^◌, ◌≤◌, ◌<◌, ℕ, Bool, true, false, List, [], ◌∷◌, ◌++◌, length, refl, sym, ap, subst, arith, append_assoc, append-nil, length-append, le_refl}
use Rattle.std.specs.Prelude.{Some, None, Result, Ok, Err, IfErr, IsErr, slice_get}
use Rattle.std.specs.List.{AllByRecursion}
use Rattle.dbl_record.specs.declared.record.Record.{Record}
use Rattle.dbl_record.specs.Cuts.{IsHandful, cut, joined}
use Rattle.dbl_record.specs.Groups.{group_form}
use Rattle.dbl_record.proofs.CutLaws.{cuts_are_handfuls, cuts_join}
use Rattle.dbl_topic.specs.Model.{SinkModel}
use Rattle.dbl_window.proofs.ConsumeLawsConsumers.{all_left, all_right}
use Rattle.dbl_capture_model.proofs.FaithfulItems.{at_all, at_cases}
use Rattle.dbl_capture_model.proofs.Events.{take_whole}
use Rattle.dbl_capture_work.specs.declared.groups.Gathered.{Gathered}
use Rattle.dbl_capture_work.specs.declared.halt.Halt.{Halt}
use Rattle.dbl_capture_work.specs.declared.halt.Halt.TheVariants as halt
use Rattle.dbl_capture_work.specs.declared.report.Report.{Report}
use Rattle.dbl_capture_work.specs.Causes.{HaltsAppending, IsLongRecord, PutsAll}
use Rattle.dbl_capture_work.specs.Groups.{AppendsMore, AreShort, CountsGroup, HasLastsAtItsEnd, IsBatched, IsGathered, LeavesRecords, PutsGroup, WerePut, chunks_of, counted, lasts, report_with}
use Rattle.dbl_capture_work.proofs.Puts.{IsNextGroup, front_cut, group_lasts, left_cut, next_handful, none_last, report_none, report_twice, within}
use Rattle.dbl_capture_work.proofs.Putting.{IsGroupHalt, IsPut, IsShortGroup, first_at, holds_put, last_group, le_both, left_still, long_at, long_group, long_put, member_size, none_holds, none_left_over, none_long, none_put, put_kept, shorts_alone, too_long, torn_put, were_put}

-- ---- errors

same_halt : {T : Type 0} (e f : Halt) → ◌≡◌ {A = Result T Halt} (Err e) (Err f) → e ≡ f
same_halt e f is = cc

never_sink : {T : Type 0} (e : Halt) → e ≡ halt.Memory → ◌≡◌ {A = Result T Halt} (Err e) (Err halt.Sink) → ⊥
never_sink {T = T} e memory failed = let wrong : halt.Memory ≡ halt.Sink = sym memory ∙ same_halt {T = T} e halt.Sink failed in cc

never_long : {T : Type 0} (e : Halt) (len : ℕ) → e ≡ halt.Memory → ◌≡◌ {A = Result T Halt} (Err e) (Err (halt.RecordTooLong len)) → ⊥
never_long {T = T} e len memory long = let wrong : halt.Memory ≡ halt.RecordTooLong len = sym memory ∙ same_halt {T = T} e (halt.RecordTooLong len) long in cc

other_sink : {T U : Type 0} (e : Halt) → (◌≡◌ {A = Result T Halt} (Err e) (Err halt.Sink) → ⊥) → ◌≡◌ {A = Result U Halt} (Err e) (Err halt.Sink) → ⊥
other_sink {T = T} {U = U} e other failed = other (ap (λ (h : Halt). (let r : Result T Halt = Err h in r)) (same_halt {T = U} e halt.Sink failed))

-- ---- short records

abbrev IsShortRecord : Record → Type 0
IsShortRecord item = length (group_form (item ∷ [])) ≤ 2 ^ 28

short_so : (n : ℕ) → (2 ^ 28 < n → false ≡ true) → n ≤ 2 ^ 28
short_so n never = no_more (2 ^ 28) n (λ more. (let wrong : false ≡ true = never more in cc))
  where
    no_more : (a b : ℕ) → (a < b → ⊥) → b ≤ a
    no_more a b lt = omega (arith, lt)

short_all : (more items : List Record) → AreShort more → length (group_form items) ≤ 2 ^ 28 → (place : ℕ) (item : Record)
    → slice_get (more ++ items) place ≡ Some item → 2 ^ 28 < length (group_form (item ∷ [])) → ⊥
short_all more items short size place item at long = elim (at_cases more items place item at) [
  | inl here ↦ too_long (length (group_form (item ∷ []))) (2 ^ 28) (at_all IsShortRecord more place item short here) long
  | inr there ↦ too_long (length (group_form (item ∷ []))) (2 ^ 28)
      (le_both (length (group_form (item ∷ []))) (length (group_form items)) (2 ^ 28) (member_size items there.0 item there.1) size) long
]

-- ---- counts

none_of : (snapshot : Bool) (records : List Record) → lasts records ≡ 0 → chunks_of snapshot records ≡ 0
none_of true records none = none
none_of false records none = refl

-- A crash leaves of a sink with these batches only them, and may leave them.
abbrev pub LeavesOnly : {K : Type 0} → SinkModel K → K → Type 0
LeavesOnly model sink = (groups left : List (List Record)) → model.holds sink groups → model.may_leave sink left → left ≡ groups

abbrev pub MayLeave : {K : Type 0} → SinkModel K → K → Type 0
MayLeave model sink = (groups : List (List Record)) → model.holds sink groups → model.may_leave sink groups

module _ {K : Type 0} (model : SinkModel K) (snapshot : Bool) (records : List Record) (sink : K) (report : Report) where
  -- ---- before anything is appended

  module _ (only : LeavesOnly model sink) (may : MayLeave model sink) (some : report.records ≤ 2 ^ 64 - 1) (many : report.chunks ≤ 2 ^ 64 - 1)
      (rows : report.snapshot_rows ≤ 2 ^ 64 - 1) where
    pub unread_leaves : {T : Type 0} (e : Halt) → e ≡ halt.Memory → LeavesRecords {T = T} model records snapshot sink sink report report (Err e)
    unread_leaves {T = T} e memory = record {
      left = λ groups left held leaves. none_left_over groups left records (only groups left held leaves);
      some = λ groups held. (groups, may groups held);
      noted = λ lasts. none_put model.holds snapshot records report some many rows;
      chunks = λ lasts. refl;
      kept = λ groups held lasts other. none_holds model.holds snapshot groups records sink report some many rows held;
      torn = λ groups held lasts failed. absurd (never_sink {T = T} e memory failed);
    }

    pub none_appends : [] ≡ records → AppendsMore model records None snapshot sink sink report report
    none_appends none = record {
      gathered = tt;
      more = [];
      parted = sym none;
      batched = refl;
      short = tt;
      held = λ groups h. subst (model.holds sink) (sym (append-nil groups)) h;
      counted = λ lasts. sym (report_none snapshot report some many rows);
    }

    pub none_leaves : {T : Type 0} (t : T) → LeavesRecords {T = T} model records snapshot sink sink report report (Ok t)
    none_leaves {T = T} t = record {
      left = λ groups left held leaves. none_left_over groups left records (only groups left held leaves);
      some = λ groups held. (groups, may groups held);
      noted = λ lasts. none_put model.holds snapshot records report some many rows;
      chunks = λ lasts. tt;
      kept = λ groups held lasts. tt;
      torn = λ groups held lasts failed. cc;
    }

    pub none_halts : {T : Type 0} (t : T) → [] ≡ records → HaltsAppending {T = T} model records snapshot sink sink report report (Ok t)
    none_halts {T = T} t none = record {
      causes = tt;
      long = λ place item at before_last long. absurd (let size : 0 ≡ length records = ap length none in omega (arith, size, before_last));
      before = λ groups held lasts len failed. cc;
    }

  pub memory_halts : {T : Type 0} (new : K) (next : Report) (e : Halt) → e ≡ halt.Memory → HaltsAppending {T = T} model records snapshot sink new report next (Err e)
  memory_halts {T = T} new next e memory = record {
    causes = inl memory;
    long = λ place item at before_last long. refl;
    before = λ groups held lasts len failed. absurd (never_long {T = T} e len memory failed);
  }

  -- ---- out of memory, while a batch is gathered

  pub still_leaves : {T : Type 0} (new : K) (next : Report) (gathered rest : List Record) (p : IsPut model.holds snapshot records gathered rest sink new report next)
      → LeavesOnly model new → MayLeave model new
      → (HasLastsAtItsEnd records → next.chunks ≡ report.chunks) → (e : Halt) → e ≡ halt.Memory
      → LeavesRecords {T = T} model records snapshot sink new report next (Err e)
  still_leaves {T = T} new next gathered rest p only may counts e memory = record {
    left = λ groups left held leaves. left_still model.holds snapshot groups left records gathered rest sink new report next p
        (only (groups ++ p.put) left (p.held groups held) leaves);
    some = λ groups held. (groups ++ p.put, may (groups ++ p.put) (p.held groups held));
    noted = λ lasts. were_put model.holds snapshot records gathered rest sink new report next p lasts;
    chunks = counts;
    kept = λ groups held lasts other. holds_put model.holds snapshot groups records gathered rest sink new report next p held lasts;
    torn = λ groups held lasts failed. absurd (never_sink {T = T} e memory failed);
  }

  -- ---- the append of a batch failed

  module _ {U : Type 0} (mid new : K) (after next : Report) (gathered rest : List Record) (p : IsPut model.holds snapshot records gathered rest sink mid report after)
      (n : IsNextGroup records p.put gathered) (e : Halt) (puts : PutsGroup {T = U} model mid new gathered (Err e)) (same : next ≡ after) where
    pub failed_leaves : {T : Type 0} → (HasLastsAtItsEnd records → after.chunks ≡ report.chunks) → LeavesRecords {T = T} model records snapshot sink new report next (Err e)
    failed_leaves {T = T} counts = record {
      left = λ groups left held leaves. left_cut groups records p.put gathered left n (puts.left (groups ++ p.put) left (p.held groups held) leaves);
      some = λ groups held. puts.some (groups ++ p.put) (p.held groups held);
      noted = λ lasts. subst (λ (r : Report). WerePut snapshot records report r) (sym same)
          (were_put model.holds snapshot records gathered rest sink mid report after p lasts);
      chunks = λ lasts. (ap (λ (r : Report). r.chunks) same ∙ counts lasts);
      kept = λ groups held lasts other. holds_put model.holds snapshot groups records gathered rest sink new report next
          (put_kept model.holds snapshot records gathered rest sink mid new report after next p
          (λ found h. puts.kept found h (other_sink {T = T} {U = U} e other)) same) held lasts;
      torn = λ groups held lasts failed. torn_put model.holds snapshot model groups records gathered rest gathered sink mid new report after next
          p n lasts same (λ found leaves. puts.left (groups ++ p.put) found (p.held groups held) leaves) (puts.some (groups ++ p.put) (p.held groups held))
          (puts.fails (ap (λ (h : Halt). Err h) (same_halt {T = T} e halt.Sink failed)));
    }

    known : 1 ≤ length rest → (long : IsLongRecord records e) × (long.place ≡ length (joined p.put))
        → (long : IsLongRecord records e) × (long.place + 1 < length records)
    known some at =
        let handful = next_handful records p.put gathered n in
        let size : length records ≡ length (joined p.put) + (length gathered + length rest) =
        ap length p.whole
        ∙ (length-append (joined p.put) (gathered ++ rest)
        ∙ ap (λ (m : ℕ). length (joined p.put) + m) (length-append gathered rest)) in
        (at.0, omega (arith, at.1, size, handful.some, some))

    pub failed_halts : {T : Type 0} → IsGroupHalt gathered e → 1 ≤ length rest → HaltsAppending {T = T} model records snapshot sink new report next (Err e)
    failed_halts {T = T} group_halt some = record {
      causes = elim group_halt [
        | inl memory ↦ inl memory
        | inr (inl failed) ↦ inr (inl failed)
        | inr (inr long) ↦ inr (inr (known some (long_at records p.put gathered e n p.short long.0 long.1)))
      ];
      long = λ place item at before_last long. refl;
      before = λ groups held lasts len failed. (
          let is : e ≡ halt.RecordTooLong len = same_halt {T = T} e (halt.RecordTooLong len) failed in
          long_put model.holds snapshot groups records gathered rest gathered sink mid new report after next len p n lasts same
          (puts.kept (groups ++ p.put) (p.held groups held)
          (λ sink_failed. (let wrong : halt.RecordTooLong len ≡ halt.Sink = sym is ∙ same_halt {T = U} e halt.Sink sink_failed in cc)))
          (subst (IsGroupHalt gathered) is group_halt));
    }

  -- ---- all records are gathered

  module _ (new : K) (next : Report) (gathered : Gathered) (p : IsPut model.holds snapshot records gathered.items.items [] sink new report next) where
    group : IsNextGroup records p.put gathered.items.items
    group = last_group model.holds snapshot records gathered.items.items sink new report next p

    parted : records ≡ joined p.put ++ gathered.items.items
    parted = p.whole ∙ ap (λ (l : List Record). joined p.put ++ l) (append-nil gathered.items.items)

    front : cut (joined p.put) ≡ p.put
    front = front_cut records p.put gathered.items.items group

    batched_so : (put items : List Record) → cut items ≡ items ∷ [] → cut (put ++ items) ≡ cut put ++ items ∷ [] → IsBatched put items
    batched_so put [] own is = cc
    batched_so put (item ∷ items) own is = is

    pub all_appends : IsGathered gathered → AppendsMore model records (Some gathered) snapshot sink new report next
    all_appends is_gathered = record {
      gathered = is_gathered;
      more = joined p.put;
      parted = parted;
      batched = batched_so (joined p.put) gathered.items.items is_gathered.own
          (ap cut (sym parted) ∙ (p.parted ∙ ap (λ (l : List (List Record)). l ++ gathered.items.items ∷ []) (sym front)));
      short = shorts_alone p.put p.short;
      held = λ groups h. subst (λ (l : List (List Record)). model.holds new (groups ++ l)) (sym front) (p.held groups h);
      counted = p.counted;
    }

    pub all_leaves : {T : Type 0} (t : T) → LeavesOnly model new → MayLeave model new → LeavesRecords {T = T} model records snapshot sink new report next (Ok t)
    all_leaves {T = T} t only may = record {
      left = λ groups left held leaves. left_still model.holds snapshot groups left records gathered.items.items [] sink new report next p
          (only (groups ++ p.put) left (p.held groups held) leaves);
      some = λ groups held. (groups ++ p.put, may (groups ++ p.put) (p.held groups held));
      noted = λ lasts. were_put model.holds snapshot records gathered.items.items [] sink new report next p lasts;
      chunks = λ lasts. tt;
      kept = λ groups held lasts. tt;
      torn = λ groups held lasts failed. cc;
    }

    pub all_halts : {T : Type 0} (t : T) → HaltsAppending {T = T} model records snapshot sink new report next (Ok t)
    all_halts {T = T} t = record {
      causes = tt;
      long = λ place item at before_last long. absurd (none_long model.holds snapshot records gathered.items.items sink new report next p place item at
          before_last long);
      before = λ groups held lasts len failed. cc;
    }

  -- ---- and the gathered batch is appended

  -- with the batch, these are all batches
  batches_of : (more items : List Record) → IsBatched more items → cut items ≡ items ∷ [] → cut (more ++ items) ≡ cut more ++ items ∷ []
  batches_of more [] batched own = cc
  batches_of more (item ∷ items) batched own = batched

  short_batches : (batches : List (List Record)) → AllByRecursion IsHandful batches → AreShort (joined batches) → AllByRecursion IsShortGroup batches
  short_batches [] handfuls short = tt
  short_batches (batch ∷ batches) handfuls short = (
    record { short = by handfuls.0.small },
    short_batches batches handfuls.1 (all_right IsShortRecord batch (joined batches) short),
  )
    where
      by : (length (group_form batch) ≤ 16777216) ⊎ (length batch ≡ 1) → length (group_form batch) ≤ 2 ^ 28
      by (inl small) = le_both (length (group_form batch)) 16777216 (2 ^ 28) small (omega arith)
      by (inr one) =
          let alone = first_at batch one in
          subst (λ (l : List Record). length (group_form l) ≤ 2 ^ 28) (sym alone.1)
          (subst AreShort alone.1 (all_left IsShortRecord batch (joined batches) short)).0

  module _ (mid : K) (after : Report) (gathered : Gathered) (m : AppendsMore model records (Some gathered) snapshot sink mid report after) where
    last_cut : cut records ≡ cut m.more ++ gathered.items.items ∷ []
    last_cut = ap cut m.parted ∙ batches_of m.more gathered.items.items m.batched m.gathered.own

    last_put : IsPut model.holds snapshot records gathered.items.items [] sink mid report after
    last_put = record {
      put = cut m.more;
      parted = last_cut;
      whole = m.parted
          ∙ ap (λ (l : List Record). l ++ gathered.items.items) (sym (cuts_join m.more))
          ∙ ap (λ (l : List Record). joined (cut m.more) ++ l) (sym (append-nil gathered.items.items));
      held = m.held;
      counted = λ lasts. (m.counted lasts ∙ ap (λ (l : List Record). report_with snapshot l report) (sym (cuts_join m.more)));
      short = short_batches (cut m.more) (cuts_are_handfuls m.more) (subst AreShort (sym (cuts_join m.more)) m.short);
    }

    last_next : IsNextGroup records (cut m.more) gathered.items.items
    unfolding last_put
    last_next = last_group model.holds snapshot records gathered.items.items sink mid report after last_put

    -- no window is counted before the last batch is
    last_counts : report.chunks ≤ 2 ^ 64 - 1 → HasLastsAtItsEnd records → after.chunks ≡ report.chunks
    last_counts many lasts = by gathered.items.items m.parted m.gathered.own
      where
        by : (items : List Record) → records ≡ m.more ++ items → cut items ≡ items ∷ [] → after.chunks ≡ report.chunks
        by [] is own = cc
        by (item ∷ items) is own =
            ap (λ (r : Report). r.chunks) (m.counted lasts)
            ∙ ap (counted report.chunks) (none_of snapshot m.more (none_last m.more item items (subst HasLastsAtItsEnd is lasts)))
            ∙ within report.chunks (2 ^ 64 - 1) many

    pub last_puts : {T : Type 0} (new : K) (next : Report) (result : Result T Halt) → report.chunks ≤ 2 ^ 64 - 1
        → PutsGroup model mid new gathered.items.items result → CountsGroup snapshot gathered.items.items after next result
        → IfErr result (IsGroupHalt gathered.items.items) → (2 ^ 28 < length (group_form gathered.items.items) → IsErr result)
        → PutsAll model records snapshot sink new report next result
    unfolding last_put
    last_puts new next (Ok t) many puts counts halts long =
        let items = gathered.items.items in
        let whole : HasLastsAtItsEnd records → next ≡ report_with snapshot records report = λ lasts. (
        counts.noted (group_lasts records (cut m.more) items last_next lasts)
        ∙ ap (report_with snapshot items) (m.counted lasts)
        ∙ report_twice snapshot m.more items report
        ∙ ap (λ (l : List Record). report_with snapshot l report) (sym m.parted)) in
        record {
          put = λ groups held. subst (λ (l : List (List Record)). model.holds new (groups ++ l)) (sym last_cut)
              (subst (model.holds new) (append_assoc groups (cut m.more) (items ∷ [])) (puts.put (groups ++ cut m.more) (m.held groups held)));
          whole = whole;
          leaves = record {
            left = λ groups left held leaves. left_cut groups records (cut m.more) items left last_next (puts.left (groups ++ cut m.more) left (m.held groups held) leaves);
            some = λ groups held. puts.some (groups ++ cut m.more) (m.held groups held);
            noted = λ lasts. record {
              count = length records;
              within = le_refl (length records);
              report = whole lasts ∙ ap (λ (l : List Record). report_with snapshot l report) (sym (take_whole records));
            };
            chunks = λ lasts. tt;
            kept = λ groups held lasts. tt;
            torn = λ groups held lasts failed. cc;
          };
          long = λ place item at too_much. absurd (short_all m.more items m.short (short_so (length (group_form items)) long) place item
              (subst (λ (l : List Record). slice_get l place ≡ Some item) m.parted at) too_much);
          before = λ groups held lasts len failed. cc;
          causes = tt;
        }
    last_puts {T = T} new next (Err e) many puts counts halts long =
        let items = gathered.items.items in
        let leaves = failed_leaves {U = T} mid new after next items [] last_put last_next e puts counts.unnoted {T = T} (last_counts many) in
        record {
          put = λ groups held. tt;
          whole = tt;
          leaves = leaves;
          long = λ place item at too_much. refl;
          before = λ groups held lasts len failed. (
              let is : e ≡ halt.RecordTooLong len = same_halt {T = T} e (halt.RecordTooLong len) failed in
              long_put model.holds snapshot groups records items [] items sink mid new report after next len last_put last_next lasts counts.unnoted
              (puts.kept (groups ++ cut m.more) (m.held groups held)
              (λ sink_failed. (let wrong : halt.RecordTooLong len ≡ halt.Sink = sym is ∙ same_halt {T = T} e halt.Sink sink_failed in cc)))
              (subst (IsGroupHalt items) is halts));
          causes = elim halts [
            | inl memory ↦ inl memory
            | inr (inl failed) ↦ inr (inl failed)
            | inr (inr far) ↦ inr (inr (long_group records (cut m.more) items e last_next last_put.short far.0 far.1))
          ];
        }

  -- no batch is gathered
  pub none_puts : {T : Type 0} (t u : T) (new : K) (next : Report) → AppendsMore model records None snapshot sink new report next
      → LeavesRecords {T = T} model records snapshot sink new report next (Ok u) → PutsAll {T = T} model records snapshot sink new report next (Ok t)
  none_puts t u new next m leaves =
      let all : records ≡ m.more = m.parted ∙ append-nil m.more in
      record {
        put = λ groups held. subst (λ (l : List Record). model.holds new (groups ++ cut l)) (sym all) (m.held groups held);
        whole = λ lasts. (m.counted lasts ∙ ap (λ (l : List Record). report_with snapshot l report) (sym all));
        leaves = record {
          left = leaves.left;
          some = leaves.some;
          noted = leaves.noted;
          chunks = λ lasts. tt;
          kept = λ groups held lasts. tt;
          torn = λ groups held lasts failed. cc;
        };
        long = λ place item at too_much. absurd (too_long (length (group_form (item ∷ []))) (2 ^ 28)
            (at_all IsShortRecord m.more place item m.short (subst (λ (l : List Record). slice_get l place ≡ Some item) all at)) too_much);
        before = λ groups held lasts len failed. cc;
        causes = tt;
      }

  -- appending stopped with an error
  pub stopped_puts : {T : Type 0} (new : K) (next : Report) (e : Halt) → LeavesRecords {T = T} model records snapshot sink new report next (Err e)
      → HaltsAppending {T = T} model records snapshot sink new report next (Err e) → PutsAll {T = T} model records snapshot sink new report next (Err e)
  stopped_puts new next e leaves halts = record {
    put = λ groups held. tt;
    whole = tt;
    leaves = leaves;
    long = λ place item at too_much. refl;
    before = halts.before;
    causes = elim halts.causes [
      | inl memory ↦ inl memory
      | inr (inl failed) ↦ inr (inl failed)
      | inr (inr long) ↦ inr (inr long.0)
    ];
  }

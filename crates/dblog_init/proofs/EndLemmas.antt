-- How `init` ends: before the input, at the input, or after it.
use Rattle.std.proofs.Common.{◌≡◌, ◌∙◌, ◌⊎◌, ℕ, ◌≤◌, ◌<◌, Some, Ok, Err, List, [], length, refl, sym, ap, subst, arith, inl, inr}
use Rattle.std.specs.Prelude.{IfErr, OnOk}
use Rattle.dbl_base.specs.Streams.{input_limit}
use Rattle.dbl_base.specs.declared.input.InputError.{InputError}
use Rattle.dbl_base.specs.declared.input.InputError.TheVariants as input
use Rattle.dbl_model_table.specs.declared.error.ModelError.{ModelError}
use Rattle.dbl_script.specs.declared.error.ScriptError.{ScriptError}
use Rattle.dbl_script.specs.declared.error.ScriptError.TheVariants as broken
use Rattle.dbl_demo.specs.DemoWal.Workloads.{IsWorkload, Workload}
use Rattle.dbl_demo.specs.DemoWorkload.declared.error.DemoError.{DemoError}
use Rattle.dbl_demo.specs.DemoWorkload.Refusals.{IsRefused}
use Rattle.dbl_demo.specs.DemoWorkload.Refusals.IsRefused.{lines, table, row}
use Rattle.dblog_init.specs.declared.error.InitError.{InitError}
use Rattle.dblog_init.specs.declared.error.InitError.TheVariants.{Failed, NotEmpty, InputFailed, InputTooLong, Script, Model, Memory}
use Rattle.dblog_init.specs.declared.error.Store.{Store}
use Rattle.dblog_init.specs.declared.error.Store.TheVariants.{Wal, Topics}
use Rattle.dblog_init.specs.Answers.{Answers, AnswersInput, AreEmpty, InitEnd, InitInput, IsBeforeInput, IsInitFault, IsExternalInitEnd, ReportsInput}
use Rattle.dblog_init.specs.Answers.Answers.{all_empty}
use Rattle.dblog_init.specs.Answers.AnswersInput.{too_long, refused, made}
use Rattle.dblog_init.specs.Disks.{HasStoredBytes, HoldsBytes, IsAtMostMeasured, EndsBeforeWriting, LeavesDisk}
use Rattle.dblog_init.specs.Errors.{demo_error, input_error}
use Rattle.dblog_init.specs.Turns.{AsksOne, IsTurnOf, MakesOne}
use Rattle.dblog_init.proofs.DiskLemmas.{asked_as, asked_leaves, leaves_after}
use Rattle.dblog_init.proofs.KindLemmas.{refused_kind}
use Rattle.dbl_disk.specs.Model.{DiskModel}

-- ---- a disk failed, or isn't empty

abbrev pub IsTurn : InitError → Type 0
IsTurn e = (store : Store) × IsTurnOf store e

by_turn : (P : InitError → Type 0) → ((store : Store) → P (NotEmpty store)) → ((store : Store) → P (Failed store)) → (e : InitError) → IsTurn e → P e
by_turn P holding failing e turn = by turn.1
  where
    by : IsTurnOf turn.0 e → P e
    by (inl is) = subst P (sym is) (failing turn.0)
    by (inr is) = subst P (sym is) (holding turn.0)

module _ (e : InitError) (turn : IsTurn e) where
  pub turn_told : (bytes : List ℕ) → AnswersInput bytes (Err e) ⊎ (IsBeforeInput (Err e) ⊎ IsExternalInitEnd (Err e))
  turn_told bytes = inr (by_turn (λ (x : InitError). IsBeforeInput (Err x) ⊎ IsExternalInitEnd (Err x)) (λ store. inl tt) (λ store. inr tt) e turn)

  pub turn_kind : IsInitFault e
  turn_kind = by_turn IsInitFault (λ store. tt) (λ store. tt) e turn

  pub turn_tells : ReportsInput (Err e) → ⊥
  turn_tells = by_turn (λ (x : InitError). ReportsInput (Err x) → ⊥) (λ store no. no) (λ store no. no) e turn

  pub turn_input : e ≡ InputFailed → ⊥
  turn_input = by_turn (λ (x : InitError). x ≡ InputFailed → ⊥) (λ store is. (let t = is in cc)) (λ store is. (let t = is in cc)) e turn

-- ---- the input couldn't be read

module _ (e : InputError) (f : InitError) (told : f ≡ input_error e) where
  by_input : (P : InitError → Type 0) → P InputFailed → P InputTooLong → P Memory → P f
  by_input P failed long memory = subst P (sym told) (by e)
    where
      by : (x : InputError) → P (input_error x)
      by input.Failed = failed
      by input.TooLong = long
      by input.Memory = memory

  pub input_kind : IsInitFault f
  input_kind = by_input IsInitFault tt tt tt

  pub input_tells : ReportsInput (Err f) → ⊥
  input_tells = by_input (λ (x : InitError). ReportsInput (Err x) → ⊥) (λ no. no) (λ no. no) (λ no. no)

  pub input_before : IsBeforeInput (Err f) → ⊥
  input_before = by_input (λ (x : InitError). IsBeforeInput (Err x) → ⊥) (λ no. no) (λ no. no) (λ no. no)

  pub input_disk : (store : Store) → f ≡ Failed store → ⊥
  input_disk store = by_input (λ (x : InitError). x ≡ Failed store → ⊥) (λ is. (let t = is in cc)) (λ is. (let t = is in cc)) (λ is. (let t = is in cc))

  pub input_holds : (store : Store) → f ≡ NotEmpty store → ⊥
  input_holds store = by_input (λ (x : InitError). x ≡ NotEmpty store → ⊥) (λ is. (let t = is in cc)) (λ is. (let t = is in cc)) (λ is. (let t = is in cc))

  pub input_failed : f ≡ InputFailed → e ≡ input.Failed
  input_failed is = by e (sym told ∙ is)
    where
      by : (x : InputError) → input_error x ≡ InputFailed → x ≡ input.Failed
      by input.Failed is = refl
      by input.TooLong is = cc
      by input.Memory is = cc

  pub input_answers : (bytes : List ℕ) → (e ≡ input.TooLong → input_limit < length bytes) → AnswersInput bytes (Err f) ⊎ IsExternalInitEnd (Err f)
  input_answers bytes long = by e told long
    where
      by : (x : InputError) → f ≡ input_error x → (x ≡ input.TooLong → input_limit < length bytes) → AnswersInput bytes (Err f) ⊎ IsExternalInitEnd (Err f)
      by input.Failed is long = inr (subst (λ (y : InitError). IsExternalInitEnd (Err y)) (sym is) tt)
      by input.TooLong is long = inl (too_long (long refl) (ap (λ (y : InitError). Err y) is))
      by input.Memory is long = inr (subst (λ (y : InitError). IsExternalInitEnd (Err y)) (sym is) tt)

-- ---- the stores were made, or couldn't be

abbrev pub IsMakeEnd : List ℕ → InitError → Type 0
IsMakeEnd bytes e = (e ≡ Memory) ⊎ (((store : Store) × (e ≡ Failed store)) ⊎ ((d : DemoError) × IsRefused bytes d × (e ≡ demo_error d)))

module _ (bytes : List ℕ) where
  by_refused : (P : InitError → Type 0) → ((s : ScriptError) → P (Script s)) → ((m : ModelError) → P (Model m)) → (d : DemoError) → IsRefused bytes d → P (demo_error d)
  by_refused P script model d (lines fault bad is) = subst (λ (x : DemoError). P (demo_error x)) (sym is) (script fault)
  by_refused P script model d (table fault bad is) = subst (λ (x : DemoError). P (demo_error x)) (sym is) (model fault)
  by_refused P script model d (row number bad is) = subst (λ (x : DemoError). P (demo_error x)) (sym is) (script (broken.BadLine number))

  by_make : (P : InitError → Type 0) → P Memory → ((store : Store) → P (Failed store)) → ((s : ScriptError) → P (Script s)) → ((m : ModelError) → P (Model m)) → (e : InitError) → IsMakeEnd bytes e → P e
  by_make P memory failing script model e (inl is) = subst P (sym is) memory
  by_make P memory failing script model e (inr (inl failed)) = subst P (sym failed.1) (failing failed.0)
  by_make P memory failing script model e (inr (inr other)) = subst P (sym other.2) (by_refused P script model other.0 other.1)

  -- it ends with none of these
  pub make_before : (end : InitEnd) → IfErr end (IsMakeEnd bytes) → IsBeforeInput end → ⊥
  make_before (Ok done) kinds before = before
  make_before (Err e) kinds before = by_make (λ (x : InitError). IsBeforeInput (Err x) → ⊥) (λ is. is) (λ store is. is) (λ s is. is) (λ m is. is) e kinds before

  pub make_holds : (end : InitEnd) (store : Store) → IfErr end (IsMakeEnd bytes) → end ≡ Err (NotEmpty store) → ⊥
  make_holds end store kinds is = make_before end kinds (subst IsBeforeInput (sym is) tt)

  pub make_input : (end : InitEnd) → IfErr end (IsMakeEnd bytes) → end ≡ Err InputFailed → ⊥
  make_input (Ok done) kinds is = let t = is in cc
  make_input (Err e) kinds is = by_make (λ (x : InitError). x ≡ InputFailed → ⊥) (λ is. (let t = is in cc)) (λ store is. (let t = is in cc)) (λ s is. (let t = is in cc)) (λ m is. (let t = is in cc)) e kinds (let t = is in cc)

  pub make_kind : (end : InitEnd) → IfErr end (IsMakeEnd bytes) → IfErr end IsInitFault
  make_kind (Ok done) kinds = tt
  make_kind (Err e) (inl is) = subst IsInitFault (sym is) tt
  make_kind (Err e) (inr (inl failed)) = subst IsInitFault (sym failed.1) tt
  make_kind (Err e) (inr (inr other)) = subst IsInitFault (sym other.2) (refused_kind bytes other.0 other.1)

  pub make_answers : (end : InitEnd) → length bytes ≤ input_limit → IfErr end (IsMakeEnd bytes) → OnOk end ((w : Workload) × IsWorkload bytes w) → AnswersInput bytes end ⊎ IsExternalInitEnd end
  make_answers (Ok done) short kinds w = inl (made short w.0 w.1 refl)
  make_answers (Err e) short (inl is) w = inr (subst (λ (x : InitError). IsExternalInitEnd (Err x)) (sym is) tt)
  make_answers (Err e) short (inr (inl failed)) w = inr (subst (λ (x : InitError). IsExternalInitEnd (Err x)) (sym failed.1) tt)
  make_answers (Err e) short (inr (inr other)) w = inl (refused short other.0 other.1 (ap (λ (x : InitError). Err x) other.2))

-- ---- in short

-- a disk isn't empty
pub held : (e : InitError) → (◌≡◌ {A = InitEnd} (Err e) (Err (NotEmpty Wal))) ⊎ (◌≡◌ {A = InitEnd} (Err e) (Err (NotEmpty Topics))) → IsBeforeInput (Err e)
held e (inl is) = subst IsBeforeInput (sym is) tt
held e (inr is) = subst IsBeforeInput (sym is) tt

pub held_end : (end : InitEnd) → (end ≡ Err (NotEmpty Wal)) ⊎ (end ≡ Err (NotEmpty Topics)) → IsBeforeInput end
held_end end (inl is) = subst IsBeforeInput (sym is) tt
held_end end (inr is) = subst IsBeforeInput (sym is) tt

pub some_held : {A B C : Type 0} → (A → ⊥) → (B → ⊥) → (C → ⊥) → A ⊎ (B ⊎ C) → ⊥
some_held a b c (inl x) = a x
some_held a b c (inr (inl x)) = b x
some_held a b c (inr (inr x)) = c x

pub short_read : (passed read : List ℕ) → passed ≡ read → length read ≤ input_limit → length passed ≤ input_limit
short_read passed read same short = omega (arith, short, ap (λ (l : List ℕ). length l) same)

-- ---- what is told in all

pub told_in : (given : InitInput) (end : InitEnd) → AreEmpty given → AnswersInput given.input end ⊎ IsExternalInitEnd end → Answers given end ⊎ IsExternalInitEnd end
told_in given end empty (inl answers) = inl (all_empty empty answers)
told_in given end empty (inr outside) = inr outside

pub told_of : (bytes : List ℕ) (end : InitEnd) → AnswersInput bytes end ⊎ IsExternalInitEnd end → AnswersInput bytes end ⊎ (IsBeforeInput end ⊎ IsExternalInitEnd end)
told_of bytes end (inl answers) = inl answers
told_of bytes end (inr outside) = inr (inr outside)

-- ---- the disks

module _ {D : Type 0} (model : DiskModel D) (store : Store) (old mid : D) where
  -- no disk holds a byte after the asking
  pub none_held : AsksOne model store (Ok tt) old mid → HoldsBytes model old → ⊥
  none_held asks holds = holds.2 (asks.empty holds.0 holds.1)

  pub empty_after : AsksOne model store (Ok tt) old mid → (bytes : List ℕ) → model.seen mid ≡ Some bytes → bytes ≡ []
  empty_after asks bytes told = asks.empty bytes (sym asks.asked.keeps.same ∙ told)

  -- it ended at the input
  pub asked_at : (f : InitError) → (f ≡ Failed store → ⊥) → AsksOne model store (Ok tt) old mid → IsAtMostMeasured model store (Err f) old mid
  asked_at f spared asks = asked_as model store (Ok tt) (Err f) old mid (λ is. (let t = is in cc)) (λ is. spared (let t = is in cc)) asks.asked

  pub leaves_at : (f : InitError) → (f ≡ Failed store → ⊥) → AsksOne model store (Ok tt) old mid → LeavesDisk model store (Err f) old mid
  leaves_at f spared asks = asked_leaves model store (Err f) old mid (asked_at f spared asks)

  -- and after it
  module _ (Is : List ℕ → Type 0) (end : InitEnd) (new : D) (asks : AsksOne model store (Ok tt) old mid) (makes : MakesOne model store Is end mid new) where
    pub empty_end : (bytes : List ℕ) → model.seen old ≡ Some bytes → OnOk end (bytes ≡ [])
    empty_end bytes told = by end
      where
        by : (x : InitEnd) → OnOk x (bytes ≡ [])
        by (Ok done) = asks.empty bytes told
        by (Err e) = tt

    pub made_end : (before : List ℕ) → model.seen old ≡ Some before → OnOk end (HasStoredBytes model Is new)
    made_end before told = makes.made (asks.asked.keeps.same ∙ told ∙ ap Some (asks.empty before told))

    pub asked_end : (EndsBeforeWriting store end → end ≡ Err (Failed store) → ⊥) → EndsBeforeWriting store end → IsAtMostMeasured model store end old new
    asked_end spared unwritten =
        subst (λ (d : D). IsAtMostMeasured model store end old d) (sym (makes.untouched unwritten)) (asked_as model store (Ok tt) end old mid (λ is. (let t = is in cc)) (spared unwritten) asks.asked)

    pub leaves_end : LeavesDisk model store end old new
    leaves_end = leaves_after model store (Ok tt) end old mid new (λ is. (let t = is in cc)) asks.asked makes.leaves

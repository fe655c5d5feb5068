-- Messages without a fault are blocks, messages between them, and an unfinished block.
use Rattle.std.proofs.Common.{◌≡◌, ℕ, ℤ, List, [], ◌∷◌, ◌++◌, refl, sym, ◌∙◌, ap, subst, append_assoc}
use Rattle.std.proofs.lemmas.List.{append-nil}
use Rattle.std.specs.Prelude.{flat_map, Option, Some, None, is_some, Bool, true, false, not, ◌==◌, if◌then◌else◌}
use Rattle.std.specs.List.{AllByRecursion}
use Rattle.std.proofs.lemmas.Bool.{eqb-true}
use Rattle.dbl_base.specs.declared.lsn.Lsn.{Lsn}
use Rattle.dbl_pgmsg.specs.declared.messages.Message.{Message}
use Rattle.dbl_pgmsg.specs.declared.messages.Message.TheVariants as says
use Rattle.dbl_model_table.specs.declared.change.Commit.{Commit}
use Rattle.dbl_model_table.specs.declared.table.TableInfo.{TableInfo}
use Rattle.dbl_model_commit.specs.declared.txn_error.TxnError.{TxnError}
use Rattle.dbl_model_commit.specs.declared.txn_error.TxnError.TheVariants as errors
use Rattle.dbl_model_commit.specs.Past.{Head, begin_of}
use Rattle.dbl_model_commit.specs.Stated.{is_empty, mismatch, first_of, place_fault, own_fault, transaction_fault, commits_of}
use Rattle.dbl_model_commit.specs.Blocks.{onto, Block, Part, Between, Whole, messages_of, IsFurther, IsPart, IsRest, commits_in, States, AreWithoutFault, first_transaction_fault}
use Rattle.dbl_model_commit.proofs.BlockLemmas.{onto-append, parts_closed, inside_rest, one_reading, begin_onto}

all-append : {A : Type 0} (P : A → Type 0) (xs : List A) (y : A) → AllByRecursion P xs → P y → AllByRecursion P (xs ++ y ∷ [])
all-append P [] y all py = (py, tt)
all-append P (x ∷ xs) y all py = (all.0, all-append P xs y all.1 py)

messages-append : (parts : List Part) (p : Part) → flat_map messages_of (parts ++ p ∷ []) ≡ flat_map messages_of parts ++ messages_of p
messages-append [] p = append-nil (messages_of p)
messages-append (q ∷ parts) p = ap (λ (l : List Message). messages_of q ++ l) (messages-append parts p) ∙ sym (append_assoc (messages_of q) (flat_map messages_of parts) (messages_of p))

-- the messages as blocks and a rest
pub record Splits (ms : List Message) : Type 0 where
  pub parts : List Part
  pub rest : List Message
  pub are_parts : AllByRecursion IsPart parts
  pub is_rest : IsRest rest
  pub spelled : ms ≡ onto [] (flat_map messages_of parts ++ rest)

-- one more message
with_message : (m : Message) (ms : List Message) (parts : List Part) (rest : List Message) (more : List Part) (left : List Message) → ms ≡ onto [] (flat_map messages_of parts ++ rest)
    → AllByRecursion IsPart more → IsRest left → (flat_map messages_of parts ++ rest) ++ m ∷ [] ≡ flat_map messages_of more ++ left → Splits (m ∷ ms)
with_message m ms parts rest more left spelled all is e = record {
  parts = more;
  rest = left;
  are_parts = all;
  is_rest = is;
  spelled = ap (λ (l : List Message). m ∷ l) spelled ∙ sym (onto-append [] (flat_map messages_of parts ++ rest) (m ∷ [])) ∙ ap (onto []) e;
}

onto-twice : (after before xs : List Message) → onto after (onto before xs) ≡ onto (xs ++ after) before
onto-twice after before [] = refl
onto-twice after before (x ∷ xs) = onto-twice after (x ∷ before) xs

-- put one by one before nothing twice, messages stand as they were
onto-back : (xs : List Message) → onto [] (onto [] xs) ≡ xs
onto-back xs = onto-twice [] [] xs ∙ append-nil xs

first_none : (a b : Option TxnError) → first_of a b ≡ None → (a ≡ None) × (b ≡ None)
first_none None b h = (refl, h)
first_none (Some e) b h = cc

same_number : (m n : ℕ) (e : TxnError) → (if m == n then None else Some e) ≡ None → m ≡ n
same_number m n e h = by (m == n) refl h
  where
    by : (b : Bool) → (m == n) ≡ b → (if b then None else Some e) ≡ None → m ≡ n
    by true is h = eqb-true m n is
    by false is h = cc

same_lsn : (a b : Lsn) → a.0 ≡ b.0 → a ≡ b
same_lsn a b is = ap (λ (n : ℕ). record { 0 = n }) is

module _ (infos : List TableInfo) (after : Lsn) where
  further : (m : Message) (ms : List Message) (parts : List Part) (rest : List Message) → IsFurther m → AllByRecursion IsPart parts → IsRest rest → ms ≡ onto [] (flat_map messages_of parts ++ rest) → Splits (m ∷ ms)
  further m ms parts [] f all is spelled =
      with_message m ms parts [] (parts ++ Between m ∷ []) [] spelled (all-append IsPart parts (Between m) all f) tt
      (ap (λ (l : List Message). l ++ m ∷ []) (append-nil (flat_map messages_of parts)) ∙ sym (messages-append parts (Between m)) ∙ sym (append-nil (flat_map messages_of (parts ++ Between m ∷ []))))
  further m ms parts (says.Begin l t x ∷ r) f all is spelled =
      with_message m ms parts (says.Begin l t x ∷ r) parts (says.Begin l t x ∷ r ++ m ∷ []) spelled all (all-append IsFurther r m is f) (append_assoc (flat_map messages_of parts) (says.Begin l t x ∷ r) (m ∷ []))
  further m ms parts (says.Commit a b c d ∷ r) f all is spelled = absurd is
  further m ms parts (says.Origin a b ∷ r) f all is spelled = absurd is
  further m ms parts (says.TypeName a b c ∷ r) f all is spelled = absurd is
  further m ms parts (says.Relation a b c d i ∷ r) f all is spelled = absurd is
  further m ms parts (says.Insert a b ∷ r) f all is spelled = absurd is
  further m ms parts (says.Update a b c ∷ r) f all is spelled = absurd is
  further m ms parts (says.Delete a b ∷ r) f all is spelled = absurd is
  further m ms parts (says.Truncate a b ∷ r) f all is spelled = absurd is
  further m ms parts (says.Logical a b c d ∷ r) f all is spelled = absurd is

  beginning : (lsn : Lsn) (time : ℤ) (xid : ℕ) (ms : List Message) (parts : List Part) (rest : List Message) → is_empty rest ≡ true → AllByRecursion IsPart parts → ms ≡ onto [] (flat_map messages_of parts ++ rest) → Splits (says.Begin lsn time xid ∷ ms)
  beginning lsn time xid ms parts [] e all spelled =
      with_message (says.Begin lsn time xid) ms parts [] parts (says.Begin lsn time xid ∷ []) spelled all tt (ap (λ (l : List Message). l ++ says.Begin lsn time xid ∷ []) (append-nil (flat_map messages_of parts)))
  beginning lsn time xid ms parts (m ∷ r) e all spelled = cc

  ending : (flags : ℕ) (lsn end_lsn : Lsn) (end_time : ℤ) (ms : List Message) (parts : List Part) (rest : List Message) → is_empty rest ≡ false → AllByRecursion IsPart parts → IsRest rest → ms ≡ onto [] (flat_map messages_of parts ++ rest)
      → mismatch (begin_of ms) lsn ≡ None → Splits (says.Commit flags lsn end_lsn end_time ∷ ms)
  ending flags lsn end_lsn end_time ms parts [] e all is spelled match = cc
  ending flags lsn end_lsn end_time ms parts (says.Begin from time xid ∷ r) e all is spelled match =
      let b : Block = record { lsn = from; time = time; xid = xid; inner = r; flags = flags; end_lsn = end_lsn; end_time = end_time } in
      let begins : begin_of ms ≡ Some (record { lsn = from; time = time; xid = xid }) =
      ap begin_of (spelled ∙ onto-append [] (flat_map messages_of parts) (says.Begin from time xid ∷ r)) ∙ begin_onto infos (says.Begin from time xid ∷ onto [] (flat_map messages_of parts)) r is in
      let same : from ≡ lsn = same_lsn from lsn (same_number from.0 lsn.0 (errors.CommitMismatch from lsn) (sym (ap (λ (o : Option Head). mismatch o lsn) begins) ∙ match)) in
      with_message (says.Commit flags lsn end_lsn end_time) ms parts (says.Begin from time xid ∷ r) (parts ++ Whole b ∷ []) [] spelled (all-append IsPart parts (Whole b) all is) tt
      (append_assoc (flat_map messages_of parts) (says.Begin from time xid ∷ r) (says.Commit flags lsn end_lsn end_time ∷ [])
      ∙ ap (λ (n : Lsn). flat_map messages_of parts ++ (says.Begin from time xid ∷ r ++ says.Commit flags n end_lsn end_time ∷ [])) (sym same)
      ∙ sym (messages-append parts (Whole b)) ∙ sym (append-nil (flat_map messages_of (parts ++ Whole b ∷ []))))
  ending flags lsn end_lsn end_time ms parts (says.Commit a b c d ∷ r) e all is spelled match = absurd is
  ending flags lsn end_lsn end_time ms parts (says.Origin a b ∷ r) e all is spelled match = absurd is
  ending flags lsn end_lsn end_time ms parts (says.TypeName a b c ∷ r) e all is spelled match = absurd is
  ending flags lsn end_lsn end_time ms parts (says.Relation a b c d i ∷ r) e all is spelled match = absurd is
  ending flags lsn end_lsn end_time ms parts (says.Insert a b ∷ r) e all is spelled match = absurd is
  ending flags lsn end_lsn end_time ms parts (says.Update a b c ∷ r) e all is spelled match = absurd is
  ending flags lsn end_lsn end_time ms parts (says.Delete a b ∷ r) e all is spelled match = absurd is
  ending flags lsn end_lsn end_time ms parts (says.Truncate a b ∷ r) e all is spelled match = absurd is
  ending flags lsn end_lsn end_time ms parts (says.Logical a b c d ∷ r) e all is spelled match = absurd is

  -- whether a transaction is open
  is_open : (ms : List Message) (s : Splits ms) → is_some (begin_of ms) ≡ not (is_empty s.rest)
  is_open ms s =
      ap (λ (l : List Message). is_some (begin_of l)) (s.spelled ∙ onto-append [] (flat_map messages_of s.parts) s.rest)
      ∙ inside_rest infos (onto [] (flat_map messages_of s.parts)) s.rest s.is_rest (parts_closed infos [] s.parts s.are_parts refl)

  was_closed : (a b : Bool) (e : TxnError) → a ≡ not b → (if a then Some e else None) ≡ None → b ≡ true
  was_closed true b e is none = cc
  was_closed false true e is none = refl
  was_closed false false e is none = cc

  was_open : (a b : Bool) (e : TxnError) → a ≡ not b → (if a then None else Some e) ≡ None → b ≡ false
  was_open false b e is none = cc
  was_open true false e is none = refl
  was_open true true e is none = cc

  one_more : (m : Message) (ms : List Message) → transaction_fault infos after m ms ≡ None → Splits ms → Splits (m ∷ ms)
  one_more (says.Begin lsn time xid) ms clean s =
      let place = (first_none (place_fault (says.Begin lsn time xid) (is_some (begin_of ms))) (own_fault infos after (says.Begin lsn time xid) ms) clean).0 in
      beginning lsn time xid ms s.parts s.rest (was_closed (is_some (begin_of ms)) (is_empty s.rest) errors.NestedBegin (is_open ms s) place) s.are_parts s.spelled
  one_more (says.Commit flags lsn end_lsn time) ms clean s =
      let both = first_none (place_fault (says.Commit flags lsn end_lsn time) (is_some (begin_of ms))) (own_fault infos after (says.Commit flags lsn end_lsn time) ms) clean in
      ending flags lsn end_lsn time ms s.parts s.rest (was_open (is_some (begin_of ms)) (is_empty s.rest) errors.OutsideTransaction (is_open ms s) both.0) s.are_parts s.is_rest s.spelled both.1
  one_more (says.Origin a b) ms clean s = further (says.Origin a b) ms s.parts s.rest tt s.are_parts s.is_rest s.spelled
  one_more (says.TypeName a b c) ms clean s = further (says.TypeName a b c) ms s.parts s.rest tt s.are_parts s.is_rest s.spelled
  one_more (says.Relation a b c d i) ms clean s = further (says.Relation a b c d i) ms s.parts s.rest tt s.are_parts s.is_rest s.spelled
  one_more (says.Insert a b) ms clean s = further (says.Insert a b) ms s.parts s.rest tt s.are_parts s.is_rest s.spelled
  one_more (says.Update a b c) ms clean s = further (says.Update a b c) ms s.parts s.rest tt s.are_parts s.is_rest s.spelled
  one_more (says.Delete a b) ms clean s = further (says.Delete a b) ms s.parts s.rest tt s.are_parts s.is_rest s.spelled
  one_more (says.Truncate a b) ms clean s = further (says.Truncate a b) ms s.parts s.rest tt s.are_parts s.is_rest s.spelled
  one_more (says.Logical a b c d) ms clean s = further (says.Logical a b c d) ms s.parts s.rest tt s.are_parts s.is_rest s.spelled

  splits : (ms : List Message) → AreWithoutFault infos after ms → Splits ms
  splits [] accepted = record { parts = []; rest = []; are_parts = tt; is_rest = tt; spelled = refl }
  splits (m ∷ ms) accepted = one_more m ms accepted.0 (splits ms accepted.1)

  -- Messages without a fault state the commits that looking back gives.
  pub states : (ms : List Message) → AreWithoutFault infos after ms → (list : List Message) × (rest : List Message) × States infos list (commits_of infos ms) rest × (onto [] list ≡ ms)
  states ms accepted =
      let s = splits ms accepted in
      let list = flat_map messages_of s.parts ++ s.rest in
      let given : States infos list (commits_in infos [] s.parts) s.rest = record { parts = s.parts; are_parts = s.are_parts; is_rest = s.is_rest; spelled = refl; stated = refl } in
      let same : commits_in infos [] s.parts ≡ commits_of infos ms = one_reading infos list (commits_in infos [] s.parts) s.rest given ∙ ap (commits_of infos) (sym s.spelled) in
      (list, s.rest, subst (λ (cs : List Commit). States infos list cs s.rest) same given, sym s.spelled)

  accepted_onto : (before list : List Message) → AreWithoutFault infos after before → first_transaction_fault infos after before list ≡ None → AreWithoutFault infos after (onto before list)
  accepted_onto before [] was none = was
  accepted_onto before (m ∷ ms) was none =
      let both = first_none (transaction_fault infos after m before) (first_transaction_fault infos after (m ∷ before) ms) none in
      accepted_onto (m ∷ before) ms (both.0, was) both.1

  -- The same of messages in order.
  pub faultless_states : (list : List Message) → first_transaction_fault infos after [] list ≡ None → (rest : List Message) × States infos list (commits_of infos (onto [] list)) rest
  faultless_states list none =
      let s = splits (onto [] list) (accepted_onto [] list tt none) in
      let spelled : list ≡ flat_map messages_of s.parts ++ s.rest = sym (onto-back list) ∙ ap (onto []) s.spelled ∙ onto-back (flat_map messages_of s.parts ++ s.rest) in
      let given : States infos list (commits_in infos [] s.parts) s.rest = record { parts = s.parts; are_parts = s.are_parts; is_rest = s.is_rest; spelled = spelled; stated = refl } in
      (s.rest, subst (λ (cs : List Commit). States infos list cs s.rest) (one_reading infos list (commits_in infos [] s.parts) s.rest given) given)

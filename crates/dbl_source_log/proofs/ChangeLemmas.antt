-- One change message of a fair log, after the Relations of its tables: it may stand, and it states its changes.
use Rattle.std.proofs.Common.{◌≡◌, ◌∙◌, inl, ℕ, true, false, Option, Some, None, List, [], ◌∷◌, ◌++◌, refl, sym, ap, subst}
use Rattle.std.specs.Prelude.{is_some, filter_map, Result, Ok, Err}
use Rattle.dbl_base.specs.declared.lsn.Lsn.{Lsn}
use Rattle.dbl_pgmsg.specs.declared.messages.Message.{Message}
use Rattle.dbl_pgmsg.specs.declared.messages.Message.TheVariants as says
use Rattle.dbl_model_table.specs.declared.table.TableInfo.{TableInfo}
use Rattle.dbl_model_table.specs.declared.change.Change.{Change}
use Rattle.dbl_source_model.specs.ModelHistory.Typed.{typed_change}
use Rattle.dbl_source_model.specs.ModelHistory.Fit.{AreInfosOf}
use Rattle.dbl_source_model.specs.ModelCommit.declared.txn_error.TxnError.{TxnError}
use Rattle.dbl_source_model.specs.ModelCommit.Past.{Head, begin_of, open_mark}
use Rattle.dbl_source_model.specs.ModelCommit.Stated.{has_some, stated, stated_in, err_of, ok_or_none, open_changes, commits_of, place_fault, own_fault, first_of, transaction_fault}
use Rattle.dbl_source_model.specs.Stated.{MayStand}
use Rattle.dbl_source_log.specs.declared.logged.LogTable.{LogTable}
use Rattle.dbl_source_log.specs.Sent.{oids_of, onto_relations}
use Rattle.dbl_source_log.specs.TextRows.{TextRows}
use Rattle.dbl_source_log.specs.RawChanges.{raw_changes}
use Rattle.dbl_source_log.specs.Histories.{history_of}
use Rattle.dbl_source_log.specs.Fair.{AreNamed, IsChange, IsChangeOf, HasFewFaults}
use Rattle.dbl_source_log.specs.Laws.{AreDescribed}
use Rattle.dbl_source_log.proofs.ThemselvesLemmas.{themselves}
use Rattle.dbl_source_log.proofs.RelationLemmas.{AreTold, described_onto, stated_same}

-- A result without an error is its value.
was_ok : {A : Type 0} (r : Result (List A) TxnError) → err_of r ≡ None → r ≡ Ok (ok_or_none r)
was_ok (Ok cs) none = refl
was_ok (Err e) none = cc

-- If the first of two faults is none, both are none.
first_none : (a b : Option TxnError) → first_of a b ≡ None → (a ≡ None) × (b ≡ None)
first_none (Some e) b none = cc
first_none None b none = (refl, none)

-- what a change leaves as it is
pub record ChangeFacts (tables : List LogTable) (infos : List TableInfo) (after : Lsn) (m : Message) (past : List Message) : Type 0 where
  pub begins : begin_of (m ∷ past) ≡ begin_of past
  pub commits : commits_of infos (m ∷ past) ≡ commits_of infos past ++ []
  pub placed : place_fault m true ≡ None
  pub own : own_fault infos after m past ≡ err_of (stated infos m past)
  pub opens : open_changes infos (m ∷ past) ≡ open_changes infos past ++ ok_or_none (stated infos m past)
  pub told : AreTold tables past → AreTold tables (m ∷ past)

module _ (tables : List LogTable) (infos : List TableInfo) (after : Lsn) where
  pub change_facts : (m : Message) (past : List Message) → IsChange m → ChangeFacts tables infos after m past
  change_facts (says.Insert oid new) past change = record { begins = refl; commits = refl; placed = refl; own = refl; opens = refl; told = λ told. told }
  change_facts (says.Update oid before new) past change = record { begins = refl; commits = refl; placed = refl; own = refl; opens = refl; told = λ told. told }
  change_facts (says.Delete oid before) past change = record { begins = refl; commits = refl; placed = refl; own = refl; opens = refl; told = λ told. told }
  change_facts (says.Truncate options oids) past change = record { begins = refl; commits = refl; placed = refl; own = refl; opens = refl; told = λ told. told }
  change_facts (says.Begin l t x) past change = absurd change
  change_facts (says.Commit f l e t) past change = absurd change
  change_facts (says.Origin l n) past change = absurd change
  change_facts (says.TypeName o n m) past change = absurd change
  change_facts (says.Relation o n m i c) past change = absurd change
  change_facts (says.Logical f l p c) past change = absurd change

  -- it stands in an open transaction
  in_place : (m : Message) (past : List Message) (o : Option Head) (begun : Head) → begin_of past ≡ o → o ≡ Some begun → ChangeFacts tables infos after m past → transaction_fault infos after m past ≡ err_of (stated infos m past)
  in_place m past o begun is some f =
      ap (λ (b : Option Head). first_of (place_fault m (is_some b)) (own_fault infos after m past)) (is ∙ some)
      ∙ ap (λ (e : Option TxnError). first_of e (own_fault infos after m past)) f.placed
      ∙ f.own

  pub change_may_stand : (m : Message) (past : List Message) (begun : Head) → AreNamed tables → AreInfosOf (history_of tables []) infos → IsChangeOf tables m → HasFewFaults tables m → AreDescribed tables (oids_of m) past → begin_of past ≡ Some begun → open_mark past ≡ None
      → MayStand (transaction_fault infos after m past)
  change_may_stand m past begun named captured is few described opened unmarked =
      let f = change_facts m past is.change in
      let alone : List Message = onto_relations tables (oids_of m) [] in
      let same : stated infos m past ≡ stated_in infos m alone None false =
      ap (λ (v : Option (List ℕ)). stated_in infos m past v (has_some (open_changes infos past))) unmarked
      ∙ stated_same tables infos named m past alone (has_some (open_changes infos past)) false is.change is.known described (described_onto tables (oids_of m) [] (λ oid. inl refl) is.known) in
      subst MayStand (sym (in_place m past (begin_of past) begun refl opened f ∙ ap err_of same)) (few infos captured)

  pub change_states : (m : Message) (past : List Message) (rows : TextRows) → AreNamed tables → AreInfosOf (history_of tables []) infos → IsChangeOf tables m → AreDescribed tables (oids_of m) past → open_mark past ≡ None → transaction_fault infos after m past ≡ None
      → open_changes infos (m ∷ past) ≡ open_changes infos past ++ filter_map (typed_change infos) (raw_changes tables rows m)
  change_states m past rows named captured is described unmarked fine =
      let f = change_facts m past is.change in
      let none : err_of (stated infos m past) ≡ None = sym f.own ∙ (first_none (place_fault m (is_some (begin_of past))) (own_fault infos after m past) fine).1 in
      let ok : stated infos m past ≡ Ok (ok_or_none (stated infos m past)) = was_ok (stated infos m past) none in
      let here : stated_in infos m past None (has_some (open_changes infos past)) ≡ Ok (ok_or_none (stated infos m past)) =
      sym (ap (λ (v : Option (List ℕ)). stated_in infos m past v (has_some (open_changes infos past))) unmarked) ∙ ok in
      f.opens ∙ ap (λ (cs : List Change). open_changes infos past ++ cs) (themselves tables infos rows past m (has_some (open_changes infos past)) (ok_or_none (stated infos m past)) named captured is described here)

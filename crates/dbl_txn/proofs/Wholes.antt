-- A list of messages, one after another.
use Rattle.std.proofs.Common.{◌≡◌, ◌⊎◌, inl, inr, List, [], ◌∷◌, ◌++◌, sym, ◌∙◌, ap, append_assoc}
use Rattle.std.specs.Prelude.{Option, Some, None}
use Rattle.dbl_base.specs.declared.lsn.Lsn.{Lsn}
use Rattle.dbl_pgmsg.specs.declared.messages.Message.{Message}
use Rattle.dbl_model_table.specs.declared.change.Commit.{Commit}
use Rattle.dbl_model_table.specs.declared.table.TableInfo.{TableInfo}
use Rattle.dbl_model_commit.specs.declared.txn_error.TxnError.{TxnError}
use Rattle.dbl_model_commit.specs.declared.txn_error.TxnError.TheVariants as errors
use Rattle.dbl_model_commit.specs.Stated.{list_of, ended_commit, commits_of, first_of, transaction_fault}
use Rattle.dbl_model_commit.specs.Blocks.{onto, first_transaction_fault}
use Rattle.dbl_txn.specs.declared.assembler.Assembler.{Assembler}
use Rattle.dbl_txn.specs.Stands.{StandsWhole, Taken}

-- some of a list's messages were taken, after ms, and these are left
pub record TakenSoFar (infos : List TableInfo) (after : Lsn) (ms list left : List Message) (a : Assembler) (cs : List Commit) : Type 0 where
  pub now : List Message
  pub stands : StandsWhole infos after now a
  pub commits : commits_of infos now ≡ commits_of infos ms ++ cs
  pub whole : onto now left ≡ onto ms list
  pub clean : first_transaction_fault infos after ms list ≡ first_transaction_fault infos after now left

module _ (infos : List TableInfo) (after : Lsn) (ms list : List Message) where
  pub one_more : (m : Message) (left left2 : List Message) (a a2 : Assembler) (cs : List Commit) (o : Option Commit) (s : TakenSoFar infos after ms list left a cs) → left ≡ m ∷ left2
      → Taken infos after m s.now a2 o → TakenSoFar infos after ms list left2 a2 (cs ++ list_of o)
  one_more m left left2 a a2 cs o s is taken = record {
    now = m ∷ s.now;
    stands = taken.stands;
    commits = ap (λ (c : List Commit). c ++ list_of (ended_commit infos m s.now)) s.commits ∙ ap (λ (p : Option Commit). (commits_of infos ms ++ cs) ++ list_of p) (sym taken.commit) ∙ append_assoc (commits_of infos ms) cs (list_of o);
    whole = ap (onto s.now) (sym is) ∙ s.whole;
    clean = s.clean ∙ ap (first_transaction_fault infos after s.now) is ∙ ap (λ f. first_of f (first_transaction_fault infos after (m ∷ s.now) left2)) taken.clean;
  }

  pub stopped : (m : Message) (left left2 : List Message) (a : Assembler) (cs : List Commit) (e : TxnError) (s : TakenSoFar infos after ms list left a cs) → left ≡ m ∷ left2
      → (e ≡ errors.Memory) ⊎ (transaction_fault infos after m s.now ≡ Some e) → (e ≡ errors.Memory) ⊎ (first_transaction_fault infos after ms list ≡ Some e)
  stopped m left left2 a cs e s is (inl memory) = inl memory
  stopped m left left2 a cs e s is (inr fault) = inr (s.clean ∙ ap (first_transaction_fault infos after s.now) is ∙ ap (λ f. first_of f (first_transaction_fault infos after (m ∷ s.now) left2)) fault)

  pub at_end : (left : List Message) (a : Assembler) (cs : List Commit) (s : TakenSoFar infos after ms list left a cs) → left ≡ [] → s.now ≡ onto ms list
  at_end left a cs s is = ap (onto s.now) (sym is) ∙ s.whole

  pub end_clean : (left : List Message) (a : Assembler) (cs : List Commit) (s : TakenSoFar infos after ms list left a cs) → left ≡ [] → first_transaction_fault infos after ms list ≡ None
  end_clean left a cs s is = s.clean ∙ ap (first_transaction_fault infos after s.now) is

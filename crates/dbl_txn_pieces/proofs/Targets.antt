-- The tables of a Truncate, one after another.
use Rattle.std.proofs.Common.{◌≡◌, ◌∙◌, ◌+◌, ◌<◌, ℕ, List, [], ◌∷◌, ◌++◌, Option, Some, None, length, get_or, drop, refl, sym, ap}
use Rattle.std.proofs.lemmas.List.{drop_more}
use Rattle.std.specs.Prelude.{Result, Ok, Err, option_map}
use Rattle.dbl_pgmsg.specs.declared.messages.Message.{Message}
use Rattle.dbl_model_table.specs.declared.table.TableInfo.{TableInfo}
use Rattle.dbl_model_commit.specs.declared.message_parts.Relation.{Relation}
use Rattle.dbl_model_commit.specs.declared.message_parts.Target.{Target}
use Rattle.dbl_model_commit.specs.declared.txn_error.TxnError.{TxnError}
use Rattle.dbl_model_commit.specs.declared.txn_error.TxnError.TheVariants as errors
use Rattle.dbl_model_commit.specs.Past.{relation_of}
use Rattle.dbl_model_commit.specs.Tuples.{◌>>=◌, some_or}
use Rattle.dbl_model_commit.specs.Stated.{target, targets_at}
use Rattle.dbl_txn_changes.specs.declared.known.Known.{Known}
use Rattle.dbl_txn_changes.specs.KnownTables.{known_in}
use Rattle.dbl_txn_changes.proofs.Loops.{with_front, push_front}

module _ (infos : List TableInfo) (ms : List Message) where
  known_target : (o : Option Relation) (e : TxnError) (known : Known) (r : Result (List Target) TxnError) → Some known ≡ option_map (known_in infos) o
      → (some_or o e >>= λ relation. r >>= λ targets. Ok (target infos relation.name ∷ targets)) ≡ (r >>= λ targets. Ok (known.target ∷ targets))
  known_target None e known r is = absurd (cc)
  known_target (Some relation) e known r is =
      let same : known_in infos relation ≡ known = cc in
      ap (λ (k : Known). r >>= λ targets. Ok (k.target ∷ targets)) same

  unknown : (o : Option Relation) (e : TxnError) (f : Relation → Result (List Target) TxnError) → None ≡ option_map (known_in infos) o → (some_or o e >>= f) ≡ Err e
  unknown None e f is = refl
  unknown (Some relation) e f is = absurd (cc)

  -- one more table
  pub target_more : (oids : List ℕ) (place : ℕ) (front : List Target) (known : Known) (whole : Result (List Target) TxnError) → with_front front (targets_at infos (drop place oids) ms) ≡ whole
      → place < length oids → Some known ≡ option_map (known_in infos) (relation_of (get_or oids place 0) ms)
      → with_front (front ++ known.target ∷ []) (targets_at infos (drop (place + 1) oids) ms) ≡ whole
  target_more oids place front known whole so_far lt found =
      let oid = get_or oids place 0 in
      let more : Result (List Target) TxnError = targets_at infos (drop (place + 1) oids) ms in
      sym (push_front front known.target more)
      ∙ (sym (ap (with_front front) (known_target (relation_of oid ms) (errors.UnknownRelation oid) known more found))
      ∙ (sym (ap (λ (l : List ℕ). with_front front (targets_at infos l ms)) (drop_more oids place 0 lt)) ∙ so_far))

  -- a table of which there was no Relation
  pub target_unknown : (oids : List ℕ) (place : ℕ) (front : List Target) (whole : Result (List Target) TxnError) → with_front front (targets_at infos (drop place oids) ms) ≡ whole
      → place < length oids → None ≡ option_map (known_in infos) (relation_of (get_or oids place 0) ms) → whole ≡ Err (errors.UnknownRelation (get_or oids place 0))
  target_unknown oids place front whole so_far lt none =
      let oid = get_or oids place 0 in
      sym so_far ∙ (ap (λ (l : List ℕ). with_front front (targets_at infos l ms)) (drop_more oids place 0 lt)
      ∙ ap (with_front front)
      (unknown (relation_of oid ms) (errors.UnknownRelation oid) (λ relation. targets_at infos (drop (place + 1) oids) ms >>= λ targets. Ok (target infos relation.name ∷ targets)) none))
